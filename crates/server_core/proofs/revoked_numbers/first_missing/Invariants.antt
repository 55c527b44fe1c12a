use Rattle.std.proofs.Common.{◌≡◌, ◌+◌, not, length}
use Rattle.std.specs.FinSet as set
use Rattle.std.specs.List.{position_from}
use Rattle.sse_frames.specs.FrameViews.{items_in}
use Rattle.server_core.proofs.revoked_numbers.first_missing.Given as goal

abbrev pub invariant-loop-number : goal.invariant-loop-number
invariant-loop-number g l = record {
  same : position_from (λ n. not (set.contains (g.T.Tables.contents l.tables).revoked n)) 0 (items_in 16 l.numbers) ≡ position_from (λ n. not (set.contains (g.T.Tables.contents l.tables).revoked n)) l.place (items_in 16 l.rest);
  counted : l.place + length (items_in 16 l.rest) ≡ length (items_in 16 l.numbers);
}

abbrev pub decreases-loop-number : goal.decreases-loop-number
decreases-loop-number g l = length l.rest
