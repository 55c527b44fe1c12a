use Rattle.std.proofs.Common.{map}
use Rattle.leakage_frames.specs.MadeFrames.{CanRun}
use Rattle.leakage_frames.specs.Views.{draw_view, leak_view}
use Rattle.leakage_frames.proofs.sim.first_fault.Given as goal

abbrev pub invariant-loop-k : goal.invariant-loop-k
invariant-loop-k l = CanRun l.k (map leak_view l.leaks) (map (map draw_view) l.draws)
