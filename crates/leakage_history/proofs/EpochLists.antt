-- The epochs of a history one after another: where each begins, and its run.
use Rattle.std.proofs.Common.{◌≡◌, ℕ, zero, suc, ◌+◌, ◌≤◌, List, [], ◌∷◌, ◌++◌, length, take, Some, refl, sym, ap, subst, ◌∙◌, arith}
use Rattle.std.specs.Prelude.{flat_map, fold, slice_get, sum_by}
use Rattle.std.proofs.lemmas.List.{append-nil}
use Rattle.std.proofs.lemmas.List.Concat.{flat_map-append}
use Rattle.std.proofs.lemmas.List.Sums.{fold_push, sum_by-cons, sum_by-take-le}
use Rattle.client_live_docs.proofs.Pushing.{take-one_more}
use Rattle.client_registry.specs.Epochs.{AreEpochs, behind, first_begins, joined, next_begins}
use Rattle.client_registry.specs.Run.{Run, Offsets, Epochs, From, Renewed}
use Rattle.client_registry.specs.Sized.{IsHistory}
use Rattle.leakage_history.specs.HashedEpochs.{runs_of}

-- each epoch: where it begins, and its run
abbrev pub listed : Epochs → List (Offsets × Run)
listed es = joined (λ key o run. (o, run) ∷ []) [] es

-- where the epoch of this number begins
abbrev pub begins_at : Epochs → ℕ → Offsets
begins_at es i = fold behind (first_begins es) (take i (runs_of es))

-- how many commands a run has, its setup among them
abbrev pub commands_of : Run → ℕ
commands_of run = length run.later + 1

-- What is made of each epoch, joined, is made of the list.
pub joined-listed : {A : Type 0} (g : Offsets → Run → List A) (es : Epochs) → joined (λ key o run. g o run) [] es ≡ flat_map (λ (e : Offsets × Run). g e.0 e.1) (listed es)
joined-listed g (From o run) = sym (append-nil (g o run))
joined-listed {A} g (Renewed before key run) =
    let made : Offsets × Run → List A = λ e. g e.0 e.1 in
    (λ i. joined-listed g before i ++ sym (append-nil (g (next_begins before) run)) i)
    ∙ sym (flat_map-append made (listed before) ((next_begins before, run) ∷ []))

-- Runs one after another, the first of which begins here.
abbrev pub placed : Offsets → List Run → List (Offsets × Run)
placed o [] = []
placed o (run ∷ runs) = (o, run) ∷ placed (behind o run) runs

placed-push : (o : Offsets) (runs : List Run) (run : Run) → placed o (runs ++ run ∷ []) ≡ placed o runs ++ (fold behind o runs, run) ∷ []
placed-push o [] run = refl
placed-push o (r ∷ runs) run = ap (λ rest. (o, r) ∷ rest) (placed-push (behind o r) runs run)

take-placed : (o : Offsets) (runs : List Run) (i : ℕ) → take i (placed o runs) ≡ placed o (take i runs)
take-placed o [] zero = refl
take-placed o [] (suc i) = refl
take-placed o (r ∷ runs) zero = refl
take-placed o (r ∷ runs) (suc i) = ap (λ rest. (o, r) ∷ rest) (take-placed (behind o r) runs i)

same_there : {A : Type 0} (x y : A) → Some x ≡ Some y → x ≡ y
same_there x y e = cc

placed-at : (o : Offsets) (runs : List Run) (i : ℕ) (run : Run) → slice_get runs i ≡ Some run → slice_get (placed o runs) i ≡ Some (fold behind o (take i runs), run)
placed-at o [] i run at = absurd (cc)
placed-at o (r ∷ runs) zero run at = ap (λ (x : Run). Some (o, x)) (same_there r run at)
placed-at o (r ∷ runs) (suc i) run at = placed-at (behind o r) runs i run at

length-placed : (o : Offsets) (runs : List Run) → length (placed o runs) ≡ length runs
length-placed o [] = refl
length-placed o (r ∷ runs) = ap suc (length-placed (behind o r) runs)

pub next_begins-runs : (es : Epochs) → next_begins es ≡ fold behind (first_begins es) (runs_of es)
next_begins-runs (From o run) = refl
next_begins-runs (Renewed before key run) = ap (λ o. behind o run) (next_begins-runs before) ∙ sym (fold_push behind (first_begins before) (runs_of before) run)

pub listed-placed : (es : Epochs) → listed es ≡ placed (first_begins es) (runs_of es)
listed-placed (From o run) = refl
listed-placed (Renewed before key run) =
    (λ i. listed-placed before i ++ (next_begins-runs before i, run) ∷ []) ∙ sym (placed-push (first_begins before) (runs_of before) run)

pub length-listed : (es : Epochs) → length (listed es) ≡ length (runs_of es)
length-listed es = ap length (listed-placed es) ∙ length-placed (first_begins es) (runs_of es)

-- The epoch of a number, behind those before it.
module _ (es : Epochs) (i : ℕ) (run : Run) (at : slice_get (runs_of es) i ≡ Some run) where
  pub listed-more : take (i + 1) (listed es) ≡ take i (listed es) ++ (begins_at es i, run) ∷ []
  listed-more =
      let o = first_begins es in
      let runs = runs_of es in
      ap (take (i + 1)) (listed-placed es)
      ∙ take-placed o runs (i + 1)
      ∙ ap (placed o) (take-one_more runs i run at)
      ∙ placed-push o (take i runs) run
      ∙ ap (λ front. front ++ (begins_at es i, run) ∷ []) (sym (take-placed o runs i) ∙ ap (take i) (sym (listed-placed es)))

  pub begins_at-more : begins_at es (i + 1) ≡ behind (begins_at es i) run
  begins_at-more = ap (fold behind (first_begins es)) (take-one_more (runs_of es) i run at) ∙ fold_push behind (first_begins es) (take i (runs_of es)) run

  pub listed-at : slice_get (listed es) i ≡ Some (begins_at es i, run)
  listed-at = ap (λ xs. slice_get xs i) (listed-placed es) ∙ placed-at (first_begins es) (runs_of es) i run at

-- How its epochs and commands are numbered.
epoch-behind : (o : Offsets) (runs : List Run) → (fold behind o runs).epoch ≡ o.epoch + length runs
epoch-behind o [] = omega arith
epoch-behind o (r ∷ runs) = omega (arith, epoch-behind (behind o r) runs)

command-behind : (o : Offsets) (runs : List Run) → (fold behind o runs).command ≡ o.command + sum_by commands_of runs
command-behind o [] = omega arith
command-behind o (r ∷ runs) = omega (arith, command-behind (behind o r) runs, sum_by-cons commands_of r runs)

pub begins_at-epoch : (es : Epochs) (i : ℕ) → (begins_at es i).epoch ≡ (first_begins es).epoch + length (take i (runs_of es))
begins_at-epoch es i = epoch-behind (first_begins es) (take i (runs_of es))

-- an epoch ends where the next one begins or before
pub commands_within : (es : Epochs) (i : ℕ) (run : Run) → slice_get (runs_of es) i ≡ Some run → (begins_at es i).command + commands_of run ≤ (next_begins es).command
commands_within es i run at =
    let o = first_begins es in
    let runs = runs_of es in
    omega (
      arith,
      ap (λ (x : Offsets). x.command) (next_begins-runs es),
      ap (λ (x : Offsets). x.command) (begins_at-more es i run at),
      command-behind o runs,
      command-behind o (take (i + 1) runs),
      sum_by-take-le commands_of runs (i + 1),
    )

-- there are no more epochs than commands
pub epochs_within : (es : Epochs) → (first_begins es).command + length (runs_of es) ≤ (next_begins es).command
epochs_within es = omega (arith, ap (λ (x : Offsets). x.command) (next_begins-runs es), command-behind (first_begins es) (runs_of es), few (runs_of es))
  where
    few : (runs : List Run) → length runs ≤ sum_by commands_of runs
    few [] = omega arith
    few (r ∷ runs) = omega (arith, few runs, sum_by-cons commands_of r runs)

-- Each of them keeps the rules of a history.
abbrev AreHistories : List Run → Type 0
AreHistories [] = Unit {0}
AreHistories (run ∷ runs) = IsHistory run × AreHistories runs

AreHistories-push : (runs : List Run) (run : Run) → AreHistories runs → IsHistory run → AreHistories (runs ++ run ∷ [])
AreHistories-push [] run are is = (is, tt)
AreHistories-push (r ∷ runs) run are is = (are.0, AreHistories-push runs run are.1 is)

history_at : (runs : List Run) (i : ℕ) (run : Run) → AreHistories runs → slice_get runs i ≡ Some run → IsHistory run
history_at [] i run are at = absurd (cc)
history_at (r ∷ runs) zero run are at = subst IsHistory (same_there r run at) are.0
history_at (r ∷ runs) (suc i) run are at = history_at runs i run are.1 at

all_histories : (es : Epochs) → AreEpochs es → AreHistories (runs_of es)
all_histories (From o run) is = (is, tt)
all_histories (Renewed before key run) are = AreHistories-push (runs_of before) run (all_histories before are.0) are.2

pub IsHistory-epoch : (es : Epochs) (i : ℕ) (run : Run) → AreEpochs es → slice_get (runs_of es) i ≡ Some run → IsHistory run
IsHistory-epoch es i run are at = history_at (runs_of es) i run (all_histories es are) at
