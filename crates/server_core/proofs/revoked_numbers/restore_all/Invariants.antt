use Rattle.std.proofs.Common.{◌≡◌, not, length, None}
use Rattle.std.specs.FinSet as set
use Rattle.std.specs.List.{position_from}
use Rattle.sse_frames.specs.Frames.{Rises}
use Rattle.sse_frames.specs.FrameViews.{items_in}
use Rattle.server_core.specs.Step.{without_numbers}
use Rattle.server_core.proofs.revoked_numbers.restore_all.Given as goal

abbrev pub invariant-loop-number : goal.invariant-loop-number
invariant-loop-number g l =
    let old = g.T.Tables.contents l.initial.tables in
    let now = g.T.Tables.contents l.tables in
    record {
      same : record now { revoked = without_numbers now.revoked (items_in 16 l.rest) } ≡ record old { revoked = without_numbers old.revoked (items_in 16 l.numbers) };
      unknown : position_from (λ n. not (set.contains now.revoked n)) 0 (items_in 16 l.rest) ≡ None;
      rises : Rises (items_in 16 l.rest);
    }

abbrev pub decreases-loop-number : goal.decreases-loop-number
decreases-loop-number g l = length l.rest
