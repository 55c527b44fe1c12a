use Rattle.std.proofs.Common.{◌≡◌, length, None}
use Rattle.sse_frames.specs.Frames.{Rises, labels_of}
use Rattle.sse_frames.specs.FrameViews.{entries_in}
use Rattle.server_tables.specs.Room.{no_room, pieces, HasRoom}
use Rattle.server_core.specs.Holds.{HasCells}
use Rattle.server_core.specs.Refusal.{first_known}
use Rattle.server_core.specs.Step.{with_entries}
use Rattle.server_core.proofs.setup_parts.put_all.Given as goal

abbrev pub invariant-loop-label : goal.invariant-loop-label
invariant-loop-label g l =
    let old = g.T.Tables.contents l.initial.tables in
    let now = g.T.Tables.contents l.tables in
    record {
      same : record now { dictionary = with_entries now.dictionary (entries_in l.width l.rest) } ≡ record old { dictionary = with_entries old.dictionary (entries_in l.width l.entries) };
      unknown : first_known now.dictionary (entries_in l.width l.rest) ≡ None;
      rises : Rises (labels_of (entries_in l.width l.rest));
      room : HasRoom (g.T.Tables.room l.tables) (record no_room { entries = pieces (length (entries_in l.width l.rest)) l.width });
      cells : HasCells old.dictionary → HasCells now.dictionary;
    }

abbrev pub decreases-loop-label : goal.decreases-loop-label
decreases-loop-label g l = length l.rest
