use Rattle.std.proofs.Common.{sym, ◌∙◌}
use Rattle.sse_outside.proofs.Told.{kept-told, consumed-told}
use Rattle.sse_outside.proofs.std_source.read_retrying.Goals as goal

pub returns-in-Ok-clause-bytes : goal.returns-in-Ok-clause-bytes
returns-in-Ok-clause-bytes g c = sym c.loop.invariant ∙ consumed-told _ _ _ (c.requires _ _) c.in-Ok.ensures.bytes.0

pub loop-preserved : goal.loop-preserved
loop-preserved g c = kept-told _ _ (c.requires _ _) c.in-Err.ensures.bytes ∙ c.loop.invariant

pub returns-in-Err-2-clause-bytes_err : goal.returns-in-Err-2-clause-bytes_err
returns-in-Err-2-clause-bytes_err g c = kept-told _ _ (c.requires _ _) c.in-Err-2.ensures.bytes ∙ c.loop.invariant
