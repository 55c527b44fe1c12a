use Rattle.std.proofs.Common.{[], sym, ap, ◌∙◌, length}
use Rattle.std.proofs.lemmas.List.{append-nil}
use Rattle.sse_frames.specs.Frames.{frame_bytes}
use Rattle.sse_link.proofs.whole.whole_frame.Goals as goal

-- the frame in front, with nothing after it
pub returns-then-n-bytes-clause-only : goal.returns-then-n-bytes-clause-only
returns-then-n-bytes-clause-only c sent =
    let only = rw c.in-Ok-Some.field-0-is at c.in-Ok-Some.ensures.only in
    (only sent.frame [] sent.grammar (sent.spelled ∙ sym (append-nil (frame_bytes sent.frame)))).0

-- it would be as long as the bytes
pub returns-else-n-bytes-clause-only : goal.returns-else-n-bytes-clause-only
returns-else-n-bytes-clause-only c sent =
    let only = rw c.in-Ok-Some.field-0-is at c.in-Ok-Some.ensures.only in
    absurd (c.if-n-bytes.false ((only sent.frame [] sent.grammar (sent.spelled ∙ sym (append-nil (frame_bytes sent.frame)))).1 ∙ ap length (sym sent.spelled)))

-- a whole frame would have been read
pub returns-in-Ok-None-clause-only : goal.returns-in-Ok-None-clause-only
returns-in-Ok-None-clause-only c sent =
    let only = rw c.in-Ok-None.field-0-is at c.in-Ok-None.ensures.only in
    only sent.frame [] sent.grammar (sent.spelled ∙ sym (append-nil (frame_bytes sent.frame)))

pub returns-in-Err-BadLength-clause-only : goal.returns-in-Err-BadLength-clause-only
returns-in-Err-BadLength-clause-only c sent =
    c.in-Err-BadLength.ensures.only sent.frame [] sent.grammar (sent.spelled ∙ sym (append-nil (frame_bytes sent.frame)))

pub returns-in-Err-BadKind-clause-only : goal.returns-in-Err-BadKind-clause-only
returns-in-Err-BadKind-clause-only c sent =
    c.in-Err-BadKind.ensures.only sent.frame [] sent.grammar (sent.spelled ∙ sym (append-nil (frame_bytes sent.frame)))

pub returns-in-Err-BadBody-clause-only : goal.returns-in-Err-BadBody-clause-only
returns-in-Err-BadBody-clause-only c sent =
    c.in-Err-BadBody.ensures.only sent.frame [] sent.grammar (sent.spelled ∙ sym (append-nil (frame_bytes sent.frame)))
