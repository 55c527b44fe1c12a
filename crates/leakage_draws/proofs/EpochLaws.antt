-- The epoch of a number: where it begins, and what is so of the epochs of one number of two histories of equal leakage.
use Rattle.std.proofs.Common.{◌≡◌, ℕ, zero, suc, ◌+◌, ◌<◌, ◌≤◌, List, [], ◌∷◌, ◌++◌, length, map, Some, refl, sym, ap, subst, ◌∙◌, arith, length-append, ⊎_elim, inl, inr}
use Rattle.std.specs.Prelude.{◌⊎◌, option_map, slice_get}
use Rattle.std.proofs.lemmas.List.{map-append}
use Rattle.std.proofs.lemmas.Option.{slice_get-map, slice_get_within}
use Rattle.client_registry.proofs.OverLaws.{length-over}
use Rattle.client_registry.specs.Epochs.{AreEpochs, begins, first_begins, next_begins}
use Rattle.client_registry.specs.Histories.{IsWhole}
use Rattle.client_registry.specs.Run.{Run, Offsets, Epochs, From, Renewed}
use Rattle.client_registry.specs.Sized.{IsHistory}
use Rattle.leakage_history.specs.HashedEpochs.{runs_of}
use Rattle.leakage_history.proofs.EpochLists.{IsHistory-epoch, begins_at, listed-at}
use Rattle.leakage_values.specs.SheetOf.{listed_epochs}
use Rattle.def_leakage.specs.CommandLeaks.{leak, leak_by}
use Rattle.def_leakage.specs.Histories.{leak_in}
use Rattle.def_leakage.specs.Relabelled.{relabelled}
use Rattle.def_relabelling.proofs.AlikeEpochs.{LeakAlike, next-same}
use Rattle.def_relabelling.proofs.RelabelledEpochs.{relabelled-before, relabelled-now}
use Rattle.def_relabelling.specs.Histories.{relabelled_epochs}
use Rattle.sse_model.specs.Names.{Name, Table}
use Rattle.leakage_draws.proofs.SheetsAt.{epoch_is}
use Rattle.leakage_draws.specs.EpochAt.{IsEpoch}

-- Items of a list.

pub some_same : {A : Type 0} (x y : A) → Some x ≡ Some y → x ≡ y
some_same x y e = cc

-- an item is one of those before, or the last
pub at-cases : {A : Type 0} (xs : List A) (y x : A) (k : ℕ) → slice_get (xs ++ y ∷ []) k ≡ Some x → (slice_get xs k ≡ Some x) ⊎ ((k ≡ length xs) × (y ≡ x))
at-cases [] y x zero at = inr (refl, some_same y x at)
at-cases [] y x (suc k) at = absurd (cc)
at-cases (z ∷ xs) y x zero at = inl at
at-cases (z ∷ xs) y x (suc k) at =
    ⊎_elim (λ (here : slice_get xs k ≡ Some x). inl here) (λ (last : (k ≡ length xs) × (y ≡ x)). inr (ap (λ n. suc n) last.0, last.1)) (at-cases xs y x k at)

pub item_there : {A : Type 0} (xs : List A) (k : ℕ) → k < length xs → (x : A) × (slice_get xs k ≡ Some x)
item_there [] k within = absurd (omega (arith, within))
item_there (x ∷ xs) zero within = (x, refl)
item_there (x ∷ xs) (suc k) within = item_there xs k (omega (arith, within))

-- The epochs of one history.

-- there is one of each number below their count
pub epoch_there : (es : Epochs) (k : ℕ) → k < length (listed_epochs es) → (o : Offsets) × (run : Run) × IsEpoch es k o run
epoch_there es k within = let e = item_there (listed_epochs es) k within in (e.0.0, e.0.1, e.1)

runs-listed : (es : Epochs) → runs_of es ≡ map (λ (e : Offsets × Run). e.1) (listed_epochs es)
runs-listed (From o run) = refl
runs-listed (Renewed before key run) =
    ap (λ runs. runs ++ run ∷ []) (runs-listed before) ∙ sym (map-append (λ (e : Offsets × Run). e.1) (listed_epochs before) ((next_begins before, run) ∷ []))

module _ (es : Epochs) (k : ℕ) (o : Offsets) (run : Run) (at : IsEpoch es k o run) where
  pub run-at : slice_get (runs_of es) k ≡ Some run
  run-at = ap (λ runs. slice_get runs k) (runs-listed es) ∙ slice_get-map (λ (e : Offsets × Run). e.1) (listed_epochs es) k ∙ ap (option_map (λ (e : Offsets × Run). e.1)) at

  pub same_run-at : (other : Run) → slice_get (runs_of es) k ≡ Some other → run ≡ other
  same_run-at other there = some_same run other (sym run-at ∙ there)

  pub begins-at : o ≡ begins_at es k
  begins-at = ap (λ (e : Offsets × Run). e.0) (some_same (o, run) (begins_at es k, run) (sym at ∙ listed-at es k run run-at))

  pub epoch-at : IsWhole (Some es) → o.epoch ≡ k
  epoch-at whole = ap (λ (p : Offsets). p.epoch) begins-at ∙ epoch_is es whole k run run-at

  pub history-at : AreEpochs es → IsHistory run
  history-at are = IsHistory-epoch es k run are run-at

next_epoch : (es : Epochs) → (next_begins es).epoch ≡ (first_begins es).epoch + length (listed_epochs es)
next_epoch (From o run) = omega arith
next_epoch (Renewed before key run) = omega (arith, next_epoch before, length-append (listed_epochs before) ((next_begins before, run) ∷ []))

-- none is behind the last
epoch-within : (es : Epochs) (k : ℕ) (o : Offsets) (run : Run) → IsEpoch es k o run → IsWhole (Some es) → o.epoch ≤ (begins es).epoch
epoch-within es k o run at whole =
    let start = ap (λ (p : Offsets). p.epoch) whole in
    omega (arith, epoch-at es k o run at whole, slice_get_within (listed_epochs es) k (o, run) at, next_epoch es, start)

-- a history has an item of leakage for each command
pub length-leaks : (es : Epochs) → length (leak_in (Some es)) + (first_begins es).command ≡ (next_begins es).command
length-leaks (From o run) = omega (arith, length-over (leak_by o run.setup) [] run.later)
length-leaks (Renewed before key run) =
    let o = next_begins before in
    omega (arith, length-leaks before, length-append (leak_in (Some before)) (leak o run), length-over (leak_by o run.setup) [] run.later)

-- Two histories of equal leakage.

pub alike-many : (es other : Epochs) → LeakAlike es other → length (listed_epochs es) ≡ length (listed_epochs other)
alike-many (From o run) (From o2 run2) alike = refl
alike-many (From o run) (Renewed before2 key2 run2) alike = absurd alike
alike-many (Renewed before key run) (From o2 run2) alike = absurd alike
alike-many (Renewed before key run) (Renewed before2 key2 run2) alike =
    length-append (listed_epochs before) ((next_begins before, run) ∷ [])
    ∙ ap (λ n. n + 1) (alike-many before before2 alike.0)
    ∙ sym (length-append (listed_epochs before2) ((next_begins before2, run2) ∷ []))

-- what is so of the epochs of one number is so by cases: of those before, and of the last ones
alike-cases : (P : Offsets → Run → Offsets → Run → Type 0) (before before2 : Epochs) (last last2 : Offsets × Run) (k : ℕ) (o o2 : Offsets) (run run2 : Run) → LeakAlike before before2
    → slice_get (listed_epochs before ++ last ∷ []) k ≡ Some (o, run) → slice_get (listed_epochs before2 ++ last2 ∷ []) k ≡ Some (o2, run2)
    → (IsEpoch before k o run → IsEpoch before2 k o2 run2 → P o run o2 run2) → P last.0 last.1 last2.0 last2.1 → P o run o2 run2
alike-cases P before before2 last last2 k o o2 run run2 alike at at2 earlier here =
    let many = alike-many before before2 alike in
    ⊎_elim
    (λ (front : IsEpoch before k o run).
    ⊎_elim (λ (front2 : IsEpoch before2 k o2 run2). earlier front front2)
    (λ (end : (k ≡ length (listed_epochs before2)) × (last2 ≡ (o2, run2))). absurd (omega (arith, many, end.0, slice_get_within (listed_epochs before) k (o, run) front)))
    (at-cases (listed_epochs before2) last2 (o2, run2) k at2))
    (λ (end : (k ≡ length (listed_epochs before)) × (last ≡ (o, run))).
    ⊎_elim (λ (front2 : IsEpoch before2 k o2 run2). absurd (omega (arith, many, end.0, slice_get_within (listed_epochs before2) k (o2, run2) front2)))
    (λ (end2 : (k ≡ length (listed_epochs before2)) × (last2 ≡ (o2, run2))).
    subst (λ (e : Offsets × Run). P o run e.0 e.1) end2.1 (subst (λ (e : Offsets × Run). P e.0 e.1 last2.0 last2.1) end.1 here))
    (at-cases (listed_epochs before2) last2 (o2, run2) k at2))
    (at-cases (listed_epochs before) last (o, run) k at)

-- there is no epoch before the first
alike-first : (P : Offsets → Run → Offsets → Run → Type 0) (first first2 : Offsets × Run) (k : ℕ) (o o2 : Offsets) (run run2 : Run)
    → slice_get (first ∷ []) k ≡ Some (o, run) → slice_get (first2 ∷ []) k ≡ Some (o2, run2) → P first.0 first.1 first2.0 first2.1 → P o run o2 run2
alike-first P first first2 zero o o2 run run2 at at2 here =
    subst (λ (e : Offsets × Run). P o run e.0 e.1) (some_same first2 (o2, run2) at2) (subst (λ (e : Offsets × Run). P e.0 e.1 first2.0 first2.1) (some_same first (o, run) at) here)
alike-first P first first2 (suc k) o o2 run run2 at at2 here = absurd (cc)

-- they begin at the same offsets and leak the same
abbrev BeginAlike : Offsets → Run → Offsets → Run → Type 0
BeginAlike o run o2 run2 = (o ≡ o2) × (leak o run ≡ leak o2 run2)

pub alike-at : (es other : Epochs) (k : ℕ) (o o2 : Offsets) (run run2 : Run) → LeakAlike es other → IsEpoch es k o run → IsEpoch other k o2 run2 → (o ≡ o2) × (leak o run ≡ leak o2 run2)
alike-at (From p r) (From p2 r2) k o o2 run run2 alike at at2 = alike-first BeginAlike (p, r) (p2, r2) k o o2 run run2 at at2 alike
alike-at (From p r) (Renewed before2 key2 r2) k o o2 run run2 alike at at2 = absurd alike
alike-at (Renewed before key r) (From p2 r2) k o o2 run run2 alike at at2 = absurd alike
alike-at (Renewed before key r) (Renewed before2 key2 r2) k o o2 run run2 alike at at2 =
    alike-cases BeginAlike before before2 (next_begins before, r) (next_begins before2, r2) k o o2 run run2 alike.0 at at2
    (λ front front2. alike-at before before2 k o o2 run run2 alike.0 front front2) (next-same before before2 alike.0, alike.1)

-- the relabelled table has at the names of an epoch the values of the table that is relabelled for this epoch
pub relabelled-at : (es other : Epochs) (k : ℕ) (o o2 : Offsets) (run run2 : Run) → IsWhole (Some es) → LeakAlike es other → IsEpoch es k o run → IsEpoch other k o2 run2
    → (t : Table) (n : Name) → n.epoch ≡ o.epoch → relabelled_epochs es other t n ≡ relabelled o run run2 t n
relabelled-at (From p r) (From p2 r2) k o o2 run run2 whole alike at at2 t n e =
    alike-first (λ o run o2 run2. relabelled_epochs (From p r) (From p2 r2) t n ≡ relabelled o run run2 t n) (p, r) (p2, r2) k o o2 run run2 at at2 refl
relabelled-at (From p r) (Renewed before2 key2 r2) k o o2 run run2 whole alike at at2 t n e = absurd alike
relabelled-at (Renewed before key r) (From p2 r2) k o o2 run run2 whole alike at at2 t n e = absurd alike
relabelled-at (Renewed before key r) (Renewed before2 key2 r2) k o o2 run run2 whole alike at at2 t n e =
    alike-cases (λ o run o2 run2. n.epoch ≡ o.epoch → relabelled_epochs (Renewed before key r) (Renewed before2 key2 r2) t n ≡ relabelled o run run2 t n)
    before before2 (next_begins before, r) (next_begins before2, r2) k o o2 run run2 alike.0 at at2
    (λ front front2 own.
    relabelled-before before before2 key key2 r r2 t n (omega (arith, own, epoch-within before k o run front whole))
    ∙ relabelled-at before before2 k o o2 run run2 whole alike.0 front front2 t n own)
    (λ own. relabelled-now before before2 key key2 r r2 t n own)
    e
