use Rattle.std.proofs.Common.{◌≡◌, ℕ, Option, subst, sym, ap, ◌∙◌}
use Rattle.std.specs.Prelude.{IfSome, IsSomeAnd}
use Rattle.sse_frames.specs.FrameViews.{reply_view}
use Rattle.sse_frames.specs.declared.reply.Reply.{Reply}
use Rattle.sse_frames.specs.Replies.{Next, reply_bytes}
use Rattle.world_client.specs.Answering.{next_told}
use Rattle.world_client.proofs.GoingOn.{next_spelled}
use Rattle.world_client.proofs.answers.next_in.Goals as goal

pub returns-in-Some-clause-found : goal.returns-in-Some-clause-found
returns-in-Some-clause-found c =
    subst (λ (x : Option ℕ). IfSome x (λ q. c.args.reply.now ≡ reply_bytes (Next q))) (sym c.number_of.ensures) (next_spelled (reply_view c.in-Some.read) c.args.reply.now c.in-Some.ensures.found.spelled)

pub returns-in-Some-clause-only : goal.returns-in-Some-clause-only
returns-in-Some-clause-only c = λ q below is.
    let read = subst (λ (x : Option Reply). IsSomeAnd x (λ reply. reply_view reply ≡ Next q)) c.in-Some.is (c.read_whole_reply.ensures.only (Next q) (record { grammar = below; spelled = is })) in
    c.number_of.ensures ∙ ap next_told read

pub returns-in-None-clause-only : goal.returns-in-None-clause-only
returns-in-None-clause-only c = λ q below is.
    absurd (subst (λ (x : Option Reply). IsSomeAnd x (λ reply. reply_view reply ≡ Next q)) c.in-None.is (c.read_whole_reply.ensures.only (Next q) (record { grammar = below; spelled = is })))

pub returns-in-Some-clause-told : goal.returns-in-Some-clause-told
returns-in-Some-clause-told c = λ text is.
    let read = subst (λ (x : Option Reply). IsSomeAnd x (λ reply. reply_view reply ≡ text)) c.in-Some.is (c.read_whole_reply.ensures.only text is) in
    c.number_of.ensures ∙ ap next_told read

pub returns-in-None-clause-told : goal.returns-in-None-clause-told
returns-in-None-clause-told c = λ text is. absurd (subst (λ (x : Option Reply). IsSomeAnd x (λ reply. reply_view reply ≡ text)) c.in-None.is (c.read_whole_reply.ensures.only text is))
