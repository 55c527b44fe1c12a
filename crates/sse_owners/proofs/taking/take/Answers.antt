use Rattle.std.proofs.Common.{refl}
use Rattle.sse_owners.proofs.taking.take.Goals as goal

-- it was answered that the frame was taken
pub returns-in-Ok-clause-kept : goal.returns-in-Ok-clause-kept
returns-in-Ok-clause-kept g c not_taken = absurd (not_taken c.next-q.result refl)

pub returns-in-Ok-clause-stays : goal.returns-in-Ok-clause-stays
returns-in-Ok-clause-stays g c payloads whole not_taken is = absurd (not_taken c.next-q.result refl)
