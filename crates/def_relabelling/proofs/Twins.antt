-- Two runs of equal leakage have twin tables: each table of the one is the twin of one table for the other.
use Rattle.std.proofs.Common.{◌≡◌, refl, sym, ◌∙◌}
use Rattle.client_registry.specs.Run.{Run, Offsets}
use Rattle.client_registry.specs.Sized.{IsHistory}
use Rattle.def_leakage.specs.CommandLeaks.{leak}
use Rattle.def_leakage.specs.Relabelled.{relabelled}
use Rattle.sse_model.specs.Names.{Table}
use Rattle.def_relabelling.proofs.CollisionFree.{collision_free_there, collision_free_back}
use Rattle.def_relabelling.proofs.KeptValues.{relabelled_back}
use Rattle.def_relabelling.proofs.SameDraws.{draws_relabelled, wire_relabelled, transcript_relabelled}
use Rattle.def_relabelling.proofs.SizedValues.{sized_there}
use Rattle.def_relabelling.specs.Tables.{IsTableFor, AgreeOn}
use Rattle.def_relabelling.specs.Twins.{AreTwins}

module _ (o : Offsets) (run other : Run) (history : IsHistory run) (history2 : IsHistory other) (leaks : leak o run ≡ leak o other) where
  -- Promise P152 (inside): The tables of two histories of equal leakage pair one to one, as far as names are drawn or looked up.
  --   assumes: equal leakage, kept limits, sized table
  -- a table for the first and the one relabelled from it
  pub twins : (t : Table) → IsTableFor t o run → AreTwins o run other t (relabelled o run other t)
  twins t values = record {
    sized = values;
    sized_too = sized_there o run other t history history2 leaks values;
    draws_same = draws_relabelled o run other t history2 leaks history values;
    wire_same = wire_relabelled o run other t history2 leaks history values;
    transcript_same = transcript_relabelled o run other t history2 leaks history values;
    free = (collision_free_there o run other t history history2 leaks, collision_free_back o run other t history history2 leaks values);
    there = λ n within. refl;
    back = relabelled_back o run other t history history2 leaks values;
  }

-- Promise P152, also here
-- any two twins of one table are one at the names of the run
pub one_twin : (o : Offsets) (run other : Run) (t m m2 : Table) → AreTwins o run other t m → AreTwins o run other t m2 → AgreeOn o other m m2
one_twin o run other t m m2 are are2 = λ n within. sym (are.there n within) ∙ are2.there n within

-- twins of the one are twins of the other
pub twins_swapped : (o : Offsets) (run other : Run) (t m : Table) → AreTwins o run other t m → AreTwins o other run m t
twins_swapped o run other t m are = record {
  sized = are.sized_too;
  sized_too = are.sized;
  draws_same = sym are.draws_same;
  wire_same = sym are.wire_same;
  transcript_same = sym are.transcript_same;
  free = (are.free.1, are.free.0);
  there = are.back;
  back = are.there;
}

-- Promise P152, also here
-- so each table for the second has a twin for the first
pub twins_back : (o : Offsets) (run other : Run) → IsHistory run → IsHistory other → leak o run ≡ leak o other → (m : Table) → IsTableFor m o other → AreTwins o run other (relabelled o other run m) m
twins_back o run other history history2 leaks m values = twins_swapped o other run m (relabelled o other run m) (twins o other run history2 history (sym leaks) m values)
