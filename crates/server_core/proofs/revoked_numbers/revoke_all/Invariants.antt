use Rattle.std.proofs.Common.{◌≡◌, length, None}
use Rattle.std.specs.FinSet as set
use Rattle.std.specs.List.{position_from}
use Rattle.sse_frames.specs.Frames.{Rises}
use Rattle.sse_frames.specs.FrameViews.{items_in}
use Rattle.server_tables.specs.Room.{no_room, pieces, HasRoom}
use Rattle.server_core.specs.Step.{with_numbers}
use Rattle.server_core.proofs.revoked_numbers.revoke_all.Given as goal

abbrev pub invariant-loop-number : goal.invariant-loop-number
invariant-loop-number g l =
    let old = g.T.Tables.contents l.initial.tables in
    let now = g.T.Tables.contents l.tables in
    record {
      same : record now { revoked = with_numbers now.revoked (items_in 16 l.rest) } ≡ record old { revoked = with_numbers old.revoked (items_in 16 l.numbers) };
      unknown : position_from (λ n. set.contains now.revoked n) 0 (items_in 16 l.rest) ≡ None;
      rises : Rises (items_in 16 l.rest);
      room : HasRoom (g.T.Tables.room l.tables) (record no_room { revoked = pieces (length (items_in 16 l.rest)) 16 });
    }

abbrev pub decreases-loop-number : goal.decreases-loop-number
decreases-loop-number g l = length l.rest
