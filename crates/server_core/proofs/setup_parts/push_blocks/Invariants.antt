use Rattle.std.proofs.Common.{◌≡◌, ◌++◌, length}
use Rattle.std.specs.Prelude.{All}
use Rattle.sse_frames.specs.FrameViews.{items_in}
use Rattle.server_tables.specs.Room.{no_room, pieces, HasRoom}
use Rattle.server_core.specs.Holds.{IsBlock}
use Rattle.server_core.proofs.setup_parts.push_blocks.Given as goal

abbrev pub invariant-loop-block : goal.invariant-loop-block
invariant-loop-block g l =
    let old = g.T.Tables.contents l.initial.tables in
    let now = g.T.Tables.contents l.tables in
    record {
      same : record now { array = now.array ++ items_in l.width l.rest } ≡ record old { array = old.array ++ items_in l.width l.blocks };
      room : HasRoom (g.T.Tables.room l.tables) (record no_room { blocks = pieces (length (items_in l.width l.rest)) l.width });
      blocks : All IsBlock old.array → All IsBlock now.array;
    }

abbrev pub decreases-loop-block : goal.decreases-loop-block
decreases-loop-block g l = length l.rest
