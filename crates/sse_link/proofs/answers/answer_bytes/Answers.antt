use Rattle.std.proofs.Common.{ap, ◌∙◌}
use Rattle.keyed_fn.specs.KeyedFn.{keyed_fn}
use Rattle.server_core.specs.Refusal.{is_nil}
use Rattle.sse_frames.specs.FrameViews.{frame_view}
use Rattle.sse_link.specs.Marks.{mark_of}
use Rattle.sse_link.proofs.Pages.{is_nil-answer_replies}
use Rattle.sse_link.proofs.Handled.{Answers-handled}
use Rattle.sse_link.proofs.answers.answer_bytes.Goals as goal

-- the frame that was read is the only one with these bytes
pub returns-in-Ok-clause-frame : goal.returns-in-Ok-clause-frame
returns-in-Ok-clause-frame g c sent =
    let f = keyed_fn g.K.Keyed.prf g.K.Keyed.pad in
    Answers-handled f _ _ c.handle.new.page (frame_view c.in-Ok.frame) sent.frame c.handle.result (mark_of c.due_of.result) _
    (c.in-Ok.ensures.only sent) c.handle.ensures.state c.handle.ensures.replies c.handle.ensures.no_memory (c.due_of.ensures.replies f c.handle.new.self.state c.handle.new.page)
    c.due_of.ensures.stepped c.due_of.ensures.lacked

-- each answer has a reply
pub returns-in-Ok-clause-some : goal.returns-in-Ok-clause-some
returns-in-Ok-clause-some g c =
    let f = keyed_fn g.K.Keyed.prf g.K.Keyed.pad in
    ap is_nil (c.due_of.ensures.replies f c.handle.new.self.state c.handle.new.page) ∙ is_nil-answer_replies f c.handle.new.self.state c.handle.result c.handle.new.page

-- no frame has these bytes
pub returns-in-Err-clause-frame : goal.returns-in-Err-clause-frame
returns-in-Err-clause-frame g c sent = absurd (c.in-Err.ensures.only sent)
