use Rattle.std.proofs.Common.{take, ap, ◌∙◌, arith}
use Rattle.std.specs.Io.KnownBytes.{append_known}
use Rattle.sse_outside.proofs.Told.{kept-told, appended-told, nothing_appended-told}
use Rattle.sse_outside.proofs.std_sink.write_retrying.Goals as goal

pub returns-in-Ok-clause-bytes : goal.returns-in-Ok-clause-bytes
returns-in-Ok-clause-bytes g c =
    appended-told _ _ _ (c.requires _ _) c.in-Ok.ensures.bytes
    ∙ ap (λ old. append_known old (take c.in-Ok.count c.args.bytes.now)) c.loop.invariant

pub returns-in-Ok-2-clause-bytes_err : goal.returns-in-Ok-2-clause-bytes_err
returns-in-Ok-2-clause-bytes_err g c =
    nothing_appended-told _ _ _ _ (c.requires _ _) (omega (arith, c.if-count-gt0.false)) c.in-Ok.ensures.bytes
    ∙ c.loop.invariant

pub loop-preserved : goal.loop-preserved
loop-preserved g c = kept-told _ _ (c.requires _ _) c.in-Err.ensures.bytes ∙ c.loop.invariant

pub returns-in-Err-2-clause-bytes_err : goal.returns-in-Err-2-clause-bytes_err
returns-in-Err-2-clause-bytes_err g c = kept-told _ _ (c.requires _ _) c.in-Err-2.ensures.bytes ∙ c.loop.invariant
