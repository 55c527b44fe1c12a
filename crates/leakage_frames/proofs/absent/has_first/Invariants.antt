use Rattle.std.proofs.Common.{◌≡◌, ◌-◌, map, drop}
use Rattle.std.specs.Prelude.{is_some}
use Rattle.sse_simulator.specs.Simulator.{first_of}
use Rattle.leakage_frames.specs.MadeFrames.{kind_of}
use Rattle.leakage_frames.specs.Views.{draw_view}
use Rattle.leakage_frames.proofs.absent.has_first.Given as goal

abbrev pub invariant-loop-i : goal.invariant-loop-i
invariant-loop-i l =
    is_some (first_of (kind_of l.section) (l.count - l.i) (drop l.i (map draw_view l.draws))) ≡ is_some (first_of (kind_of l.section) l.count (map draw_view l.draws))
