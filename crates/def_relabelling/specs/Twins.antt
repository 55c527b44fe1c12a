-- Tables under which two runs can't be told apart.
use Rattle.std.specs.Prelude.{◌≡◌, ◌↔◌}
use Rattle.client_registry.specs.Run.{Run, Offsets}
use Rattle.def_leakage.specs.DrawnValues.{draws}
use Rattle.def_leakage.specs.Relabelled.{relabelled}
use Rattle.sse_model.specs.Drawn.{IsCollisionFree}
use Rattle.sse_model.specs.Names.{Table}
use Rattle.sse_model.specs.Transcript.{transcript}
use Rattle.sse_model.specs.Wire.{wire}
use Rattle.def_relabelling.specs.Tables.{IsTableFor, AgreeOn}

-- under the one table the first run shows what the second shows under the other, and each table is had from the other
pub record AreTwins (o : Offsets) (run other : Run) (t m : Table) : Type 0 where
  -- each gives the names that its run draws values of their sizes
  pub sized : IsTableFor t o run
  pub sized_too : IsTableFor m o other
  -- the same is drawn and sent, and all that passes is the same
  pub draws_same : draws m o other ≡ draws t o run
  pub wire_same : wire m o other ≡ wire t o run
  pub transcript_same : transcript m o other ≡ transcript t o run
  -- values that have to differ do in both or in neither
  pub free : IsCollisionFree t o run ↔ IsCollisionFree m o other
  -- relabelled, each is the other at the names of its run
  pub there : AgreeOn o other (relabelled o run other t) m
  pub back : AgreeOn o run (relabelled o other run m) t
