-- Sheets of all epochs from the sheets of each.
use Rattle.std.proofs.Common.{◌≡◌, ℕ, suc, List, [], ◌∷◌, ◌++◌, length, map, Some, refl, sym, ap, subst, ◌∙◌, arith, ⊎_elim}
use Rattle.std.specs.Prelude.{Contains, slice_get}
use Rattle.std.specs.List.{AllZip}
use Rattle.std.proofs.lemmas.Option.{slice_get_within}
use Rattle.client_registry.specs.Histories.{IsWhole}
use Rattle.client_registry.specs.Run.{Run, Offsets, Epochs}
use Rattle.client_registry.specs.Sized.{run_words}
use Rattle.leakage_names.specs.Sheets.{Values}
use Rattle.leakage_values.specs.NamesOnce.{Marks}
use Rattle.leakage_values.specs.Numbered.{numbered}
use Rattle.leakage_values.specs.SheetOf.{AreSheetsIn, IsSheetOf, MarkNamesIn, listed_epochs}
use Rattle.def_comparison.proofs.UsedNames.{Contains-of_first_names}
use Rattle.def_comparison.specs.UsedNames.{all_names, names}
use Rattle.def_leakage.specs.Relabelled.{relabelled}
use Rattle.def_relabelling.proofs.AlikeEpochs.{LeakAlike}
use Rattle.def_relabelling.proofs.OwnEpoch.{own_names}
use Rattle.def_relabelling.specs.Histories.{relabelled_epochs}
use Rattle.sse_model.specs.Names.{Table}
use Rattle.leakage_draws.proofs.EpochLaws.{alike-at, alike-many, at-cases, begins-at, epoch_there, item_there, relabelled-at, run-at, some_same}
use Rattle.leakage_draws.proofs.SheetsAt.{all_zip_at, own_values}
use Rattle.leakage_draws.specs.EpochAt.{IsEpoch}
use Rattle.leakage_draws.specs.Moved.{IsMoved}
use Rattle.leakage_draws.specs.SheetsTable.{sheets_table}

-- what holds of the items at each place holds of two lists place by place
pub all_zip_from : {A B : Type 0} (R : A → B → Type 0) (xs : List A) (ys : List B) → length xs ≡ length ys
    → ((k : ℕ) (x : A) (y : B) → slice_get xs k ≡ Some x → slice_get ys k ≡ Some y → R x y) → AllZip R xs ys
all_zip_from R [] [] many each = tt
all_zip_from R [] (y ∷ ys) many each = absurd (omega (arith, many))
all_zip_from R (x ∷ xs) [] many each = absurd (omega (arith, many))
all_zip_from R (x ∷ xs) (y ∷ ys) many each = (each 0 x y refl refl, all_zip_from R xs ys (omega (arith, many)) (λ k v w at at2. each (suc k) v w at at2))

-- Sheets that were moved one by one.

-- each of these is what the sheet of its number is moved to
abbrev pub AreMoved : List Values → (es other : Epochs) → (moved : List Values) → Type 0
AreMoved sheets es other moved = (k : ℕ) (v m : Values) (o o2 : Offsets) (run run2 : Run) → slice_get sheets k ≡ Some v → slice_get moved k ≡ Some m → IsEpoch es k o run → IsEpoch other k o2 run2
    → IsMoved v o run run2 m

module _ (sheets : List Values) (es other : Epochs) where
  pub moved-none : (moved : List Values) → moved ≡ [] → AreMoved sheets es other moved
  moved-none moved none k v m o o2 run run2 at at2 epoch epoch2 = absurd (omega (arith, slice_get_within moved k m at2, ap length none))

  pub moved-more : (moved now : List Values) (i : ℕ) (v m : Values) → length moved ≡ i → slice_get sheets i ≡ Some v → now ≡ moved ++ m ∷ []
      → ((o o2 : Offsets) (run run2 : Run) → IsEpoch es i o run → IsEpoch other i o2 run2 → IsMoved v o run run2 m)
      → AreMoved sheets es other moved → AreMoved sheets es other now
  moved-more moved now i v m many here more one had k w m2 o o2 run run2 at at2 epoch epoch2 =
      ⊎_elim (λ (front : slice_get moved k ≡ Some m2). had k w m2 o o2 run run2 at front epoch epoch2)
      (λ (end : (k ≡ length moved) × (m ≡ m2)).
      let same : k ≡ i = end.0 ∙ many in
      let value : v ≡ w = some_same v w (sym here ∙ ap (slice_get sheets) (sym same) ∙ at) in
      subst (λ x. IsMoved x o run run2 m2) value
      (subst (λ x. IsMoved v o run run2 x) end.1
      (one o o2 run run2 (subst (λ j. IsEpoch es j o run) same epoch) (subst (λ j. IsEpoch other j o2 run2) same epoch2))))
      (at-cases moved m m2 k (ap (λ xs. slice_get xs k) (sym more) ∙ at2))

  module _ (moved : List Values) (whole : IsWhole (Some es)) (alike : LeakAlike es other)
      (many : length sheets ≡ length (listed_epochs es)) (many2 : length moved ≡ length sheets) (are : AreMoved sheets es other moved) where
    -- the sheet and the epoch of a number that one of the moved ones has
    back : (k : ℕ) (m : Values) → slice_get moved k ≡ Some m → (v : Values) × (o : Offsets) × (run : Run) × (slice_get sheets k ≡ Some v) × IsEpoch es k o run
    back k m at =
        let within = slice_get_within moved k m at in
        let sheet = item_there sheets k (omega (arith, within, many2)) in
        let epoch = epoch_there es k (omega (arith, within, many2, many)) in
        (sheet.0, epoch.0, epoch.1, sheet.1, epoch.2)

    pub moved_in : (t : Table) → AreSheetsIn sheets es t → AreSheetsIn moved other (relabelled_epochs es other t)
    moved_in t have =
        all_zip_from (λ v (e : Offsets × Run). IsSheetOf v (run_words e.1) (names e.0 e.1) (relabelled_epochs es other t)) moved (listed_epochs other) (many2 ∙ many ∙ alike-many es other alike)
        (λ k m e2 at epoch2 n within.
        let b = back k m at in
        let same = (alike-at es other k b.1 e2.0 b.2 e2.1 alike b.4 epoch2).0 in
        let its : IsSheetOf m (run_words e2.1) (names b.1 e2.1) (relabelled b.1 b.2 e2.1 t) =
        (are k b.0 m b.1 e2.0 b.2 e2.1 b.3 at b.4 epoch2).values t (all_zip_at (λ v (e : Offsets × Run). IsSheetOf v (run_words e.1) (names e.0 e.1) t) sheets (listed_epochs es) k b.0 (b.1, b.2) have b.3 b.4) in
        let own : n.epoch ≡ e2.0.epoch = own_names e2.0 e2.1 n (Contains-of_first_names (all_names e2.0 e2.1) n within) in
        its n (subst (λ (p : Offsets). Contains (names p e2.1) n) (sym same) within)
        ∙ ap (λ x. Some x) (sym (relabelled-at es other k b.1 e2.0 b.2 e2.1 whole alike b.4 epoch2 t n (own ∙ ap (λ (p : Offsets). p.epoch) (sym same)))))

    pub names_in : MarkNamesIn moved other
    names_in =
        all_zip_from (λ v (e : Offsets × Run). Marks v (map (numbered (run_words e.1)) (names e.0 e.1))) moved (listed_epochs other) (many2 ∙ many ∙ alike-many es other alike)
        (λ k m e2 at epoch2.
        let b = back k m at in
        let same = (alike-at es other k b.1 e2.0 b.2 e2.1 alike b.4 epoch2).0 in
        subst (λ (p : Offsets). Marks m (map (numbered (run_words e2.1)) (names p e2.1))) same (are k b.0 m b.1 e2.0 b.2 e2.1 b.3 at b.4 epoch2).names)

    pub sheets_whole : AreSheetsIn sheets es (sheets_table sheets (listed_epochs es))
    sheets_whole =
        all_zip_from (λ v (e : Offsets × Run). IsSheetOf v (run_words e.1) (names e.0 e.1) (sheets_table sheets (listed_epochs es))) sheets (listed_epochs es) many
        (λ k v e at epoch n within.
        let inside = slice_get_within sheets k v at in
        let other_epoch = epoch_there other k (omega (arith, inside, many, alike-many es other alike)) in
        let m = item_there moved k (omega (arith, inside, many2)) in
        let own : n.epoch ≡ e.0.epoch = own_names e.0 e.1 n (Contains-of_first_names (all_names e.0 e.1) n within) in
        (are k v m.0 e.0 other_epoch.0 e.1 other_epoch.1 at m.1 epoch other_epoch.2).whole n within
        ∙ ap (λ x. Some x) (own_values es whole k e.1 (run-at es k e.0 e.1 epoch) sheets v at n (own ∙ ap (λ (p : Offsets). p.epoch) (begins-at es k e.0 e.1 epoch))))
