use Rattle.std.proofs.Common.{[], sym, ◌∙◌}
use Rattle.std.proofs.lemmas.List.{append-nil}
use Rattle.sse_frames.specs.Frames.{frame_bytes}
use Rattle.world_server.proofs.whole_frame.whole_frame.Goals as goal

-- the frame in front, with nothing after it
pub returns-in-Ok-Some-clause-frame : goal.returns-in-Ok-Some-clause-frame
returns-in-Ok-Some-clause-frame c sent =
    let only = rw c.in-Ok-Some.field-0-is at c.in-Ok-Some.ensures.only in
    (only sent.frame [] sent.grammar (sent.spelled ∙ sym (append-nil (frame_bytes sent.frame)))).0

-- a whole frame would have been read
pub returns-in-Ok-None-clause-frame : goal.returns-in-Ok-None-clause-frame
returns-in-Ok-None-clause-frame c sent =
    let only = rw c.in-Ok-None.field-0-is at c.in-Ok-None.ensures.only in
    only sent.frame [] sent.grammar (sent.spelled ∙ sym (append-nil (frame_bytes sent.frame)))

pub returns-in-Err-clause-frame : goal.returns-in-Err-clause-frame
returns-in-Err-clause-frame c sent = c.in-Err.ensures.only sent.frame [] sent.grammar (sent.spelled ∙ sym (append-nil (frame_bytes sent.frame)))
