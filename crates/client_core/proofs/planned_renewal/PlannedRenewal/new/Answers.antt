use Rattle.std.proofs.Common.{subst}
use Rattle.sse_frames.proofs.Cut.{AreBytes}
use Rattle.client_core.proofs.IndexGrammar.{frames_are}
use Rattle.client_core.proofs.planned_renewal.PlannedRenewal.new.Goals as goal

pub returns-clause-grammar : goal.returns-clause-grammar
returns-clause-grammar c =
    frames_are c.args.index c.entries.ensures.limits (subst AreBytes c.entries.ensures.bytes c.are_bytes.ensures.entries) (subst AreBytes c.array.ensures.bytes c.are_bytes.ensures.array) c.requires.sendable.rises c.args.number
    c.requires.numbers
