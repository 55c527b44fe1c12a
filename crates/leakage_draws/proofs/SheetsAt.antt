-- The sheet of an epoch among those of all, and what is made of the epochs one after another.
use Rattle.std.proofs.Common.{◌≡◌, ℕ, zero, suc, ◌+◌, ◌≤◌, Bool, true, false, List, [], ◌∷◌, ◌++◌, length, take, Some, refl, sym, ap, subst, ◌∙◌, arith, eqb-true}
use Rattle.std.specs.List.{AllZip}
use Rattle.std.specs.Prelude.{◌==◌, flat_map, if◌then◌else◌, slice_get}
use Rattle.std.proofs.lemmas.Cmp.{nat_eq_equiv}
use Rattle.std.proofs.lemmas.List.{append-nil, length-take-le, take_all}
use Rattle.std.proofs.lemmas.List.Concat.{flat_map-append}
use Rattle.std.proofs.lemmas.Option.{slice_get_within}
use Rattle.client_registry.specs.Epochs.{behind, first_begins, joined}
use Rattle.client_registry.specs.Histories.{IsWhole}
use Rattle.client_registry.specs.Run.{Run, Offsets, Epochs}
use Rattle.client_registry.specs.Sized.{run_words}
use Rattle.leakage_history.specs.HashedEpochs.{runs_of}
use Rattle.leakage_history.proofs.EpochLists.{begins_at, begins_at-epoch, joined-listed, length-listed, listed, listed-at, listed-more, listed-placed, placed}
use Rattle.leakage_names.specs.Sheets.{Values}
use Rattle.leakage_values.specs.SheetOf.{AreSheetsIn, IsSheetOf}
use Rattle.def_comparison.specs.UsedNames.{names}
use Rattle.def_leakage.specs.DrawnValues.{draws}
use Rattle.def_relabelling.proofs.EpochDraws.{AgreeAt, draws-own_epoch}
use Rattle.sse_model.specs.Names.{Name, Table}
use Rattle.leakage_draws.specs.Given.{sheet_table}
use Rattle.leakage_draws.specs.SheetsTable.{sheets_table}

same_there : {A : Type 0} (x y : A) → Some x ≡ Some y → x ≡ y
same_there x y e = cc

-- what holds of two lists place by place holds of the items at one place
pub all_zip_at : {A B : Type 0} (R : A → B → Type 0) (xs : List A) (ys : List B) (i : ℕ) (x : A) (y : B) → AllZip R xs ys → slice_get xs i ≡ Some x → slice_get ys i ≡ Some y → R x y
all_zip_at R [] ys i x y all at at2 = absurd (cc)
all_zip_at R (a ∷ xs) [] i x y all at at2 = absurd (cc)
all_zip_at R (a ∷ xs) (b ∷ ys) zero x y all at at2 = subst (λ c. R c y) (same_there a x at) (subst (R a) (same_there b y at2) all.0)
all_zip_at R (a ∷ xs) (b ∷ ys) (suc i) x y all at at2 = all_zip_at R xs ys i x y all.1 at at2

-- the table of sheets gives the names of an epoch the values of its sheet
table_at_number : (o : Offsets) (runs : List Run) (values : List Values) (i : ℕ) (run : Run) (sheet : Values) → slice_get runs i ≡ Some run → slice_get values i ≡ Some sheet
    → (n : Name) → n.epoch ≡ o.epoch + i → sheets_table values (placed o runs) n ≡ sheet_table sheet (run_words run) n
table_at_number o [] values i run sheet at given n is = absurd (cc)
table_at_number o (r ∷ runs) [] i run sheet at given n is = absurd (cc)
table_at_number o (r ∷ runs) (v ∷ values) zero run sheet at given n is =
    let here : n.epoch ≡ o.epoch = omega (arith, is) in
    ap (λ b. if b then sheet_table v (run_words r) n else sheets_table values (placed (behind o r) runs) n) (ap (λ e. e == o.epoch) here ∙ nat_eq_equiv.refl o.epoch)
    ∙ (λ j. sheet_table (same_there v sheet given j) (run_words (same_there r run at j)) n)
table_at_number o (r ∷ runs) (v ∷ values) (suc i) run sheet at given n is =
    by (n.epoch == o.epoch) refl (table_at_number (behind o r) runs values i run sheet at given n (omega (arith, is)))
  where
    by : (b : Bool) → (n.epoch == o.epoch) ≡ b → sheets_table values (placed (behind o r) runs) n ≡ sheet_table sheet (run_words run) n
        → (if b then sheet_table v (run_words r) n else sheets_table values (placed (behind o r) runs) n) ≡ sheet_table sheet (run_words run) n
    by true e rest = let here : n.epoch ≡ o.epoch = eqb-true n.epoch o.epoch e in absurd (omega (arith, here, is))
    by false e rest = rest

module _ (es : Epochs) (whole : IsWhole (Some es)) (i : ℕ) (run : Run) (at : slice_get (runs_of es) i ≡ Some run) where
  -- its number is its place
  pub epoch_is : (begins_at es i).epoch ≡ i
  epoch_is =
      omega (
        arith,
        begins_at-epoch es i,
        ap (λ (o : Offsets). o.epoch) whole,
        length-take-le i (runs_of es) (let within = slice_get_within (runs_of es) i run at in omega (arith, within)),
      )

  module _ (values : List Values) (sheet : Values) (given : slice_get values i ≡ Some sheet) where
    pub own_values : AgreeAt (begins_at es i).epoch (sheet_table sheet (run_words run)) (sheets_table values (listed es))
    own_values n is =
        sym (table_at_number (first_begins es) (runs_of es) values i run sheet at given n (omega (arith, is, epoch_is, ap (λ (o : Offsets). o.epoch) whole)))
        ∙ ap (λ list. sheets_table values list n) (sym (listed-placed es))

    -- so the epoch draws under the table of sheets what it draws under that of its sheet
    pub draws-own_sheet : draws (sheet_table sheet (run_words run)) (begins_at es i) run ≡ draws (sheets_table values (listed es)) (begins_at es i) run
    draws-own_sheet = draws-own_epoch (sheet_table sheet (run_words run)) (sheets_table values (listed es)) (begins_at es i) run own_values

    -- and its sheet has the values of each table whose values all sheets have
    pub sheet_is : (t : Table) → AreSheetsIn values es t → IsSheetOf sheet (run_words run) (names (begins_at es i) run) t
    sheet_is t are = all_zip_at (λ v (e : Offsets × Run). IsSheetOf v (run_words e.1) (names e.0 e.1) t) values (listed es) i sheet (begins_at es i, run) are given (listed-at es i run at)

-- What is made of the epochs up to a number, and of all.
module _ {A : Type 0} (g : Offsets → Run → List A) (es : Epochs) where
  abbrev pub made_of : Offsets × Run → List A
  made_of e = g e.0 e.1

  pub made-more : (i : ℕ) (run : Run) → slice_get (runs_of es) i ≡ Some run → flat_map made_of (take (i + 1) (listed es)) ≡ flat_map made_of (take i (listed es)) ++ g (begins_at es i) run
  made-more i run at =
      ap (flat_map made_of) (listed-more es i run at)
      ∙ flat_map-append made_of (take i (listed es)) ((begins_at es i, run) ∷ [])
      ∙ ap (λ rest. flat_map made_of (take i (listed es)) ++ rest) (append-nil (g (begins_at es i) run))

  pub made-all : (n : ℕ) → length (runs_of es) ≤ n → flat_map made_of (take n (listed es)) ≡ joined (λ key o run. g o run) [] es
  made-all n all = ap (flat_map made_of) (take_all n (listed es) (omega (arith, all, length-listed es))) ∙ sym (joined-listed g es)
