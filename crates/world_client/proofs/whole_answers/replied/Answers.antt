use Rattle.std.proofs.Common.{ap, ◌∙◌, subst}
use Rattle.keyed_fn.specs.KeyedFn.{keyed_fn}
use Rattle.sse_frames.specs.FrameViews.{reply_view}
use Rattle.world_client.proofs.Hearing.{front_of}
use Rattle.world_client.specs.Answering.{GoesOn}
use Rattle.world_client.specs.Hearing.{report_of}
use Rattle.world_client.proofs.whole_answers.replied.Goals as goal

pub returns-in-Ok-clause-replied : goal.returns-in-Ok-clause-replied
returns-in-Ok-clause-replied g c = λ first h phase of is.
    let f = keyed_fn g.K.Keyed.prf g.K.Keyed.pad in
    let text = reply_view c.args.reply.now in
    let w = c.write_reply-len in
    let reads = front_of text w.result w.new.out c.args.buffer.now c.requires.grammar w.ensures.len w.ensures.bytes in
    (subst (GoesOn f first h phase text) c.in-Ok.is (c.answered.ensures.goes_on first h phase text of is reads), c.report_on-report.ensures ∙ ap (λ b. report_of b c.in-Ok.client) c.sends-sending.ensures)

pub returns-in-Err-clause-replied : goal.returns-in-Err-clause-replied
returns-in-Err-clause-replied g c = λ first h phase of is.
    let f = keyed_fn g.K.Keyed.prf g.K.Keyed.pad in
    let text = reply_view c.args.reply.now in
    let w = c.write_reply-len in
    let reads = front_of text w.result w.new.out c.args.buffer.now c.requires.grammar w.ensures.len w.ensures.bytes in
    subst (GoesOn f first h phase text) c.in-Err.is (c.answered.ensures.goes_on first h phase text of is reads)
