use Rattle.std.proofs.Common.{◌≡◌, ℕ, [], length, take, Option, Ok, subst, sym, ap, ◌∙◌}
use Rattle.std.specs.Prelude.{IfSome}
use Rattle.std.proofs.Math.Seq.{take-length}
use Rattle.std.proofs.lemmas.List.{append-nil}
use Rattle.sse_frames.specs.declared.reply.Reply.{Reply}
use Rattle.sse_frames.specs.ReadOutcomes.{IfRead, IsRead, IsReplyFront}
use Rattle.sse_frames.specs.Replies.{Next, reply_bytes}
use Rattle.sse_frames.specs.FrameViews.{reply_view}
use Rattle.sse_client.specs.Progress.{next_number}
use Rattle.sse_client.proofs.NextNumber.{next_spelled}
use Rattle.sse_client.proofs.exchange.next_in.Goals as goal

pub returns-then-size-bytes-clause-found : goal.returns-then-size-bytes-clause-found
returns-then-size-bytes-clause-found c =
    let bytes = c.args.bytes.now in
    let front : IsReplyFront c.in-Some.reply c.in-Some.size bytes = subst (λ (x : Option (Reply × ℕ)). IfRead (Ok x) (λ reply n. IsReplyFront reply n bytes)) c.in-Some.is c.in-Ok.ensures.found in
    let whole : bytes ≡ reply_bytes (reply_view c.in-Some.reply) = sym (take-length bytes) ∙ ap (λ n. take n bytes) (sym c.if-size-bytes.true) ∙ front.spelled in
    subst (λ (x : Option ℕ). IfSome x (λ q. bytes ≡ reply_bytes (Next q))) (sym c.number_of.ensures) (next_spelled (reply_view c.in-Some.reply) bytes whole)

pub returns-then-size-bytes-clause-only : goal.returns-then-size-bytes-clause-only
returns-then-size-bytes-clause-only c q below is =
    let whole = c.in-Ok.ensures.only (Next q) [] below (is ∙ sym (append-nil (reply_bytes (Next q)))) in
    let read = subst (λ (x : Option (Reply × ℕ)). IsRead (Ok x) (λ (reply : Reply) (n : ℕ). (reply_view reply ≡ Next q) × (n ≡ length (reply_bytes (Next q))))) c.in-Some.is whole in
    c.number_of.ensures ∙ ap next_number read.0

pub returns-else-size-bytes-clause-only : goal.returns-else-size-bytes-clause-only
returns-else-size-bytes-clause-only c q below is =
    let whole = c.in-Ok.ensures.only (Next q) [] below (is ∙ sym (append-nil (reply_bytes (Next q)))) in
    let read = subst (λ (x : Option (Reply × ℕ)). IsRead (Ok x) (λ (reply : Reply) (n : ℕ). (reply_view reply ≡ Next q) × (n ≡ length (reply_bytes (Next q))))) c.in-Some.is whole in
    absurd (c.if-size-bytes.false (read.1 ∙ ap length (sym is)))

pub returns-in-None-clause-only : goal.returns-in-None-clause-only
returns-in-None-clause-only c q below is =
    let whole = c.in-Ok.ensures.only (Next q) [] below (is ∙ sym (append-nil (reply_bytes (Next q)))) in
    absurd (subst (λ (x : Option (Reply × ℕ)). IsRead (Ok x) (λ (reply : Reply) (n : ℕ). (reply_view reply ≡ Next q) × (n ≡ length (reply_bytes (Next q))))) c.in-None.is whole)

pub returns-in-Err-clause-only : goal.returns-in-Err-clause-only
returns-in-Err-clause-only c q below is = absurd (c.in-Err.ensures.only (Next q) [] below (is ∙ sym (append-nil (reply_bytes (Next q)))))
