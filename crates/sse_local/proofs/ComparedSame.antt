-- Two histories that leak the same, compared under the keys of the first.
use Rattle.std.proofs.Common.{◌≡◌, ℕ, List, Some, refl, sym, subst}
use Rattle.std.specs.Prelude.{IfOk, Result, Ok, Err}
use Rattle.client_registry.specs.Run.{Epochs}
use Rattle.keyed_fn.specs.KeyedFn.{KeyedFn}
use Rattle.leakage_names.specs.Sheets.{Values}
use Rattle.leakage_values.specs.SheetOf.{AreSheetsIn}
use Rattle.def_leakage.specs.Histories.{leak_in}
use Rattle.def_relabelling.specs.Comparison.{IsComparisonIn, LeakTheSame, sums_in}
use Rattle.def_relabelling.specs.Histories.{relabelled_from}
use Rattle.sse_model.specs.Names.{Table}
use Rattle.sse_local.specs.ComparisonViews.{compared_view}
use Rattle.sse_local.specs.declared.comparison.Compared.{Compared}

module _ (f : KeyedFn) (key : List ℕ) (es other : Epochs) where
  -- the table that is moved
  abbrev relabelled : Table
  relabelled = relabelled_from f key (Some es) (Some other)

  pub compared-same : {E : Type 0} (moved : List Values) (r : Result Compared E) → leak_in (Some es) ≡ leak_in (Some other) → AreSheetsIn moved other relabelled
      → IfOk r (λ c. (u : Table) → AreSheetsIn moved other u → compared_view c ≡ LeakTheSame (sums_in u other))
      → IfOk r (λ c. IsComparisonIn f key es other (compared_view c))
  compared-same moved (Ok c) same values counts = subst (IsComparisonIn f key es other) (sym (counts relabelled values)) (same, refl)
  compared-same moved (Err e) same values counts = tt
