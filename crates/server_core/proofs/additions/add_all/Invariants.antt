use Rattle.std.proofs.Common.{◌≡◌, length, None}
use Rattle.sse_frames.specs.Frames.{Rises, labels_of}
use Rattle.sse_frames.specs.FrameViews.{entries_in}
use Rattle.server_tables.specs.Room.{no_room, pieces, HasRoom}
use Rattle.server_core.specs.Refusal.{first_known}
use Rattle.server_core.specs.Step.{with_entries}
use Rattle.server_core.proofs.additions.add_all.Given as goal

abbrev pub invariant-loop-label : goal.invariant-loop-label
invariant-loop-label g l =
    let old = g.T.Tables.contents l.initial.tables in
    let now = g.T.Tables.contents l.tables in
    record {
      same : record now { additions = with_entries now.additions (entries_in 8 l.rest) } ≡ record old { additions = with_entries old.additions (entries_in 8 l.entries) };
      unknown : first_known now.additions (entries_in 8 l.rest) ≡ None;
      rises : Rises (labels_of (entries_in 8 l.rest));
      room : HasRoom (g.T.Tables.room l.tables) (record no_room { additions = pieces (length (entries_in 8 l.rest)) 8 });
    }

abbrev pub decreases-loop-label : goal.decreases-loop-label
decreases-loop-label g l = length l.rest
