-- The sheet of an epoch of a history by its number, and one sheet more.
use Rattle.std.proofs.Common.{◌≡◌, ℕ, ◌+◌, ◌<◌, List, [], ◌∷◌, ◌++◌, length, map, take, get_or, Some, sym, ap, subst, ◌∙◌, arith}
use Rattle.std.specs.Prelude.{slice_get}
use Rattle.std.specs.List.{AllZip}
use Rattle.std.proofs.lemmas.List.{take_more}
use Rattle.std.proofs.lemmas.Option.{slice_get-get_or}
use Rattle.client_registry.specs.Histories.{IsWhole}
use Rattle.client_registry.specs.Run.{Run, Offsets, Epochs}
use Rattle.client_registry.specs.Sized.{run_words}
use Rattle.indexmap.proofs.SetLemmas.{AllZip-push}
use Rattle.keyed_fn.specs.KeyedFn.{KeyedFn}
use Rattle.leakage_history.specs.HashedEpochs.{runs_of}
use Rattle.leakage_names.specs.Sheets.{Values}
use Rattle.leakage_values.specs.NamesOnce.{Marks}
use Rattle.leakage_values.specs.Numbered.{numbered}
use Rattle.leakage_values.specs.SheetOf.{IsSheetOf, listed_epochs}
use Rattle.def_comparison.proofs.UsedNames.{Contains-of_first_names}
use Rattle.def_comparison.specs.UsedNames.{all_names, names}
use Rattle.def_relabelling.proofs.OwnEpoch.{own_names}
use Rattle.def_relabelling.specs.Histories.{table_in}
use Rattle.sse_model.specs.Histories.{table_at}
use Rattle.sse_model.specs.Names.{Table}
use Rattle.leakage_sheets.proofs.EpochTables.{epoch_there, key_at}

-- a sheet has the values of a table for the names of an epoch
abbrev pub Gives : Table → Values → Offsets × Run → Type 0
Gives t v e = IsSheetOf v (run_words e.1) (names e.0 e.1) t

-- and for no other name
abbrev pub MarksNames : Values → Offsets × Run → Type 0
MarksNames v e = Marks v (map (numbered (run_words e.1)) (names e.0 e.1))

module _ (f : KeyedFn) (key : List ℕ) (es : Epochs) (i : ℕ) (sheet : Values) (run : Run) (whole : IsWhole (Some es)) (at : slice_get (runs_of es) i ≡ Some run) where
  -- the epoch of this number is of the run, and has its number
  here : (e : Offsets × Run) → slice_get (listed_epochs es) i ≡ Some e → (run ≡ e.1) × (e.0.epoch ≡ i)
  here e listed =
      let there = epoch_there f key es i e listed in
      (same run e.1 (sym at ∙ there.1), omega (arith, there.0, ap (λ (o : Offsets). o.epoch) whole))
    where
      same : (x y : Run) → Some x ≡ Some y → x ≡ y
      same x y is = cc

  pub gives_there : (own : List ℕ) → key_at key es i ≡ own → ((o : Offsets) → o.epoch ≡ i → IsSheetOf sheet (run_words run) (names o run) (table_at f own run))
      → (e : Offsets × Run) → slice_get (listed_epochs es) i ≡ Some e → Gives (table_in f key es) sheet e
  gives_there own its values e listed n within =
      let is = here e listed in
      let there = epoch_there f key es i e listed in
      subst (λ r. IsSheetOf sheet (run_words r) (names e.0 r) (table_at f own r)) is.0 (values e.0 is.1) n within
      ∙ ap (λ v. Some v) (ap (λ k. table_at f k e.1 n) (sym its) ∙ sym (there.2 n (own_names e.0 e.1 n (Contains-of_first_names (all_names e.0 e.1) n within))))

  pub marks_there : ((o : Offsets) → o.epoch ≡ i → Marks sheet (map (numbered (run_words run)) (names o run)))
      → (e : Offsets × Run) → slice_get (listed_epochs es) i ≡ Some e → MarksNames sheet e
  marks_there marks e listed =
      let is = here e listed in
      subst (λ r. Marks sheet (map (numbered (run_words r)) (names e.0 r))) is.0 (marks e.0 is.1)

-- lists that go together, with one more item each
pub one_more : {A B : Type 0} (R : A → B → Type 0) (xs more : List A) (x : A) (ys : List B) (i : ℕ) (d : B) → more ≡ xs ++ x ∷ [] → i < length ys
    → AllZip R xs (take i ys) → ((y : B) → slice_get ys i ≡ Some y → R x y) → AllZip R more (take (i + 1) ys)
one_more R xs more x ys i d is within had each =
    subst (λ zs. AllZip R zs (take (i + 1) ys)) (sym is)
    (subst (AllZip R (xs ++ x ∷ [])) (sym (take_more ys i d within))
    (AllZip-push R xs (take i ys) x (get_or ys i d) had (each (get_or ys i d) (slice_get-get_or ys i d within))))
