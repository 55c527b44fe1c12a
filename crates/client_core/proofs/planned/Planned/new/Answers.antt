use Rattle.std.proofs.Common.{subst, arith}
use Rattle.sse_frames.proofs.Cut.{AreBytes}
use Rattle.client_core.proofs.IndexCounts.{frames_within}
use Rattle.client_core.proofs.IndexGrammar.{frames_are}
use Rattle.client_core.proofs.planned.Planned.new.Goals as goal

pub invariant_of-result : goal.invariant_of-result
invariant_of-result c = record { sendable = c.requires.sendable; alone = c.requires.alone; fits = c.requires.fits }

pub returns-clause-grammar : goal.returns-clause-grammar
returns-clause-grammar c =
    frames_are c.args.index c.entries.ensures.limits (subst AreBytes c.entries.ensures.bytes c.are_bytes.ensures.entries) (subst AreBytes c.array.ensures.bytes c.are_bytes.ensures.array) c.requires.sendable.rises 0
    (omega (arith, frames_within c.args.index c.entries.ensures.limits))
