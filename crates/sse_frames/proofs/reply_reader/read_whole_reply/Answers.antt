use Rattle.std.proofs.Common.{◌≡◌, ℕ, [], length, sym, ap, ◌∙◌}
use Rattle.std.proofs.lemmas.List.{append-nil}
use Rattle.sse_frames.specs.declared.reply.Reply.{Reply}
use Rattle.sse_frames.specs.Replies.{reply_bytes}
use Rattle.sse_frames.specs.FrameViews.{reply_view}
use Rattle.sse_frames.proofs.Only.{read_some, read_none}
use Rattle.sse_frames.proofs.reply_reader.read_whole_reply.Goals as goal

pub returns-then-size-bytes-clause-only : goal.returns-then-size-bytes-clause-only
returns-then-size-bytes-clause-only c text is =
    let whole = c.in-Ok.ensures.only text [] is.grammar (is.spelled ∙ sym (append-nil (reply_bytes text))) in
    (read_some c.in-Ok.found c.in-Some.reply c.in-Some.size (λ (reply : Reply) (n : ℕ). (reply_view reply ≡ text) × (n ≡ length (reply_bytes text))) c.in-Some.is whole).0

pub returns-else-size-bytes-clause-only : goal.returns-else-size-bytes-clause-only
returns-else-size-bytes-clause-only c text is =
    let whole = c.in-Ok.ensures.only text [] is.grammar (is.spelled ∙ sym (append-nil (reply_bytes text))) in
    let read = read_some c.in-Ok.found c.in-Some.reply c.in-Some.size (λ (reply : Reply) (n : ℕ). (reply_view reply ≡ text) × (n ≡ length (reply_bytes text))) c.in-Some.is whole in
    absurd (c.if-size-bytes.false (read.1 ∙ ap length (sym is.spelled)))

pub returns-in-None-clause-only : goal.returns-in-None-clause-only
returns-in-None-clause-only c text is =
    let whole = c.in-Ok.ensures.only text [] is.grammar (is.spelled ∙ sym (append-nil (reply_bytes text))) in
    read_none c.in-Ok.found (λ (reply : Reply) (n : ℕ). (reply_view reply ≡ text) × (n ≡ length (reply_bytes text))) c.in-None.is whole

pub returns-in-Err-clause-only : goal.returns-in-Err-clause-only
returns-in-Err-clause-only c text is =
    c.in-Err.ensures.only text [] is.grammar (is.spelled ∙ sym (append-nil (reply_bytes text)))
