use Rattle.std.proofs.Common.{map}
use Rattle.leakage_frames.specs.MadeFrames.{kept_view, HasRun}
use Rattle.leakage_frames.specs.Views.{draw_view, leak_view}
use Rattle.leakage_frames.proofs.sim.pass_all.Given as goal

abbrev pub invariant-loop-k : goal.invariant-loop-k
invariant-loop-k l =
    HasRun l.k (map leak_view l.leaks) (map (map draw_view) l.draws) l.passing.texts (record { kept = map kept_view l.kept; next = l.passing.next })
