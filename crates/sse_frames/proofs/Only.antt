-- What is spelled so is read, and as nothing else.
use Rattle.std.proofs.Common.{◌≡◌, ℕ, false, List, ◌++◌, length, drop, Option, Some, None, Result, Ok, Err, sym, ap, subst, ◌∙◌, arith}
use Rattle.std.specs.Prelude.{IfOk, IsOkAnd}
use Rattle.std.specs.Result.{result_err}
use Rattle.std.proofs.lemmas.Bool.{or_from, le-ltb, ne_eqb}
use Rattle.std.proofs.lemmas.List.{take-append-drop, length-take-le}
use Rattle.sse_frames.specs.declared.fault.FrameFault.{FrameFault}
use Rattle.sse_frames.specs.declared.frame.Frame.{Frame}
use Rattle.sse_frames.specs.declared.reply.Reply.{Reply}
use Rattle.sse_frames.specs.Frames.{FrameText, InGrammar, body_of, frame_bytes}
use Rattle.sse_frames.specs.Replies.{ReplyText, InReplies, reply_bytes}
use Rattle.sse_frames.specs.FrameViews.{frame_view, reply_view}
use Rattle.sse_frames.specs.Tables.{frame_fields}
use Rattle.sse_frames.specs.ReadOutcomes.{body_fault, is_bad_length, frame_outcome, reply_outcome, answered, IfRead, IsRead, IsFrameOf, IsFront, IsReplyFront}
use Rattle.sse_frames.proofs.FrameBytesLaws.{one_body, one_frame, length-body_of}
use Rattle.sse_frames.proofs.ReplyBytesLaws.{one_reply}
use Rattle.sse_frames.proofs.NoFault.{fault_in-body_of, frame_outcome-frame_bytes}
use Rattle.sse_frames.proofs.ReplyNoFault.{reply_outcome-reply_bytes}

-- a frame that stands in front is the one that is read there
pub frame_is_read : (r : Result (Option (Frame × ℕ)) FrameFault) (bytes : List ℕ) → answered r ≡ frame_outcome bytes → IfRead r (λ frame n. IsFront frame n bytes)
    → (text : FrameText) (rest : List ℕ) → InGrammar text → bytes ≡ frame_bytes text ++ rest
    → IsRead r (λ frame n. (frame_view frame ≡ text) × (n ≡ length (frame_bytes text)))
frame_is_read (Err fault) bytes outcome found text rest is e =
    let whole = outcome ∙ ap frame_outcome e ∙ frame_outcome-frame_bytes text rest is in absurd cc
frame_is_read (Ok None) bytes outcome found text rest is e =
    let whole = outcome ∙ ap frame_outcome e ∙ frame_outcome-frame_bytes text rest is in absurd cc
frame_is_read (Ok (Some (frame, n))) bytes outcome found text rest is e =
    let split : frame_bytes (frame_view frame) ++ drop n bytes ≡ frame_bytes text ++ rest = ap (λ (front : List ℕ). front ++ drop n bytes) (sym found.spelled) ∙ take-append-drop n bytes ∙ e in
    let same = one_frame (frame_view frame) text (drop n bytes) rest found.grammar is split in
    (same.0, sym (length-take-le n bytes found.inside) ∙ ap length found.spelled ∙ ap (λ (f : FrameText). length (frame_bytes f)) same.0)

-- a reply that stands in front is the one that is read there
pub reply_is_read : (r : Result (Option (Reply × ℕ)) FrameFault) (bytes : List ℕ) → answered r ≡ reply_outcome bytes → IfRead r (λ reply n. IsReplyFront reply n bytes)
    → (text : ReplyText) (rest : List ℕ) → InReplies text → bytes ≡ reply_bytes text ++ rest
    → IsRead r (λ reply n. (reply_view reply ≡ text) × (n ≡ length (reply_bytes text)))
reply_is_read (Err fault) bytes outcome found text rest is e =
    let whole = outcome ∙ ap reply_outcome e ∙ reply_outcome-reply_bytes text rest is in absurd cc
reply_is_read (Ok None) bytes outcome found text rest is e =
    let whole = outcome ∙ ap reply_outcome e ∙ reply_outcome-reply_bytes text rest is in absurd cc
reply_is_read (Ok (Some (reply, n))) bytes outcome found text rest is e =
    let split : reply_bytes (reply_view reply) ++ drop n bytes ≡ reply_bytes text ++ rest = ap (λ (front : List ℕ). front ++ drop n bytes) (sym found.spelled) ∙ take-append-drop n bytes ∙ e in
    let same = one_reply (reply_view reply) text (drop n bytes) rest found.grammar is split in
    (same.0, sym (length-take-le n bytes found.inside) ∙ ap length found.spelled ∙ ap (λ (f : ReplyText). length (reply_bytes f)) same.0)

body_no_fault : (text : FrameText) → InGrammar text → body_fault 0x100000 frame_fields (body_of text) ≡ None
body_no_fault text is =
    let len = length-body_of text is in
    let good : is_bad_length 0x100000 (length (body_of text)) ≡ false = or_from _ _ (ne_eqb (length (body_of text)) 0 (λ e. absurd (omega (arith, e, len.some)))) (le-ltb _ _ (omega (arith, len.most))) in
    rw good (fault_in-body_of text is)

-- a frame that has this body is the one that is read from it
pub body_is_read : (r : Result Frame FrameFault) (body : List ℕ) → result_err r ≡ body_fault 0x100000 frame_fields body → IfOk r (λ frame. IsFrameOf frame body)
    → (text : FrameText) → InGrammar text → body ≡ body_of text → IsOkAnd r (λ frame. frame_view frame ≡ text)
body_is_read (Err e) body fault found text is same =
    let none = fault ∙ ap (body_fault 0x100000 frame_fields) same ∙ body_no_fault text is in absurd cc
body_is_read (Ok frame) body fault found text is same = one_body (frame_view frame) text found.grammar is (sym found.spelled ∙ same)

-- what was read where something was
pub read_some : (o : Option (Reply × ℕ)) (reply : Reply) (n : ℕ) (P : Reply → ℕ → Type 0) → o ≡ Some (reply, n) → IsRead (Ok o) P → P reply n
read_some o reply n P e read = subst (λ (x : Option (Reply × ℕ)). IsRead (Ok x) P) e read

-- nothing was read where something had to be
pub read_none : (o : Option (Reply × ℕ)) (P : Reply → ℕ → Type 0) → o ≡ None → IsRead (Ok o) P → ⊥
read_none o P e read = subst (λ (x : Option (Reply × ℕ)). IsRead (Ok x) P) e read
