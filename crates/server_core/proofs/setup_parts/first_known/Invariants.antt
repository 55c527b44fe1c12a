use Rattle.std.proofs.Common.{◌≡◌, ◌+◌, length}
use Rattle.std.specs.FinMap as map
use Rattle.std.specs.List.{position_from}
use Rattle.sse_frames.specs.FrameViews.{entries_in}
use Rattle.server_core.specs.Refusal.{first_known}
use Rattle.server_core.proofs.setup_parts.first_known.Given as goal

abbrev pub invariant-loop-label : goal.invariant-loop-label
invariant-loop-label g l = record {
  same : first_known (g.T.Tables.contents l.tables).dictionary (entries_in l.width l.entries) ≡ position_from (λ e. map.contains_key (g.T.Tables.contents l.tables).dictionary e.label) l.place (entries_in l.width l.rest);
  counted : l.place + length (entries_in l.width l.rest) ≡ length (entries_in l.width l.entries);
}

abbrev pub decreases-loop-label : goal.decreases-loop-label
decreases-loop-label g l = length l.rest
