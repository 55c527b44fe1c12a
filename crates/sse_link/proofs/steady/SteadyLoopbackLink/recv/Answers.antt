use Rattle.std.proofs.lemmas.Grind.{common_steps}
use Rattle.std.proofs.Common.{◌≡◌, true, not, [], ◌∷◌, ◌++◌, map, take, subst, sym, ◌∙◌, arith}
use Rattle.std.specs.Prelude.{IsTrue, ◌↔◌, None}
use Rattle.keyed_fn.specs.KeyedFn.{keyed_fn}
use Rattle.sse_frames.specs.Replies.{reply_bytes}
use Rattle.server_core.specs.Refusal.{is_nil}
use Rattle.sse_link.specs.Due.{waiting, IsOpenPage}
use Rattle.def_link_events.specs.Events.{Received}
use Rattle.def_link_events.specs.declared.mark.Mark.TheVariants.{Stepped, StoreFailed}
use Rattle.sse_link.specs.Recorded.{recorded}
use Rattle.sse_link.specs.Steady.{IsTelling}
use Rattle.sse_link.specs.LinkStates.{LinkState, IsReceived}
use Rattle.sse_link.proofs.Kept.{steady_received}
use Rattle.sse_link.proofs.Pages.{CanWrite-waiting, waiting-first, is_more-waiting}
use Rattle.sse_link.proofs.steady.SteadyLoopbackLink.recv.Goals as goal

-- the reply was the first of those that wait
pub invariant_of-self-2 : goal.invariant_of-self-2
invariant_of-self-2 g c =
    let f = keyed_fn g.K.Keyed.prf g.K.Keyed.pad in
    let inside = c.self.inside in
    let state = inside.server.state in
    let next = c.behind_first-self-inside in
    let kept : recorded c.received.new.self ≡ recorded inside.passed ++ Received (take c.write_first-n.result c.write_first-n.new.out) ∷ [] =
    c.received.ensures ∙ (λ i. c.make_room.ensures.same i ++ Received (c.in_ok-reply.ensures.copy i) ∷ []) in
    let some : not (is_nil (map reply_bytes (waiting f state inside.due inside.page))) ≡ true = subst (λ (v : LinkState). not (is_nil v.due) ≡ true) (sym c.self.view_is) c.requires.due in
    let can = CanWrite-waiting f state inside.due inside.page c.self.invariant.telling.writable some in
    record {
      telling = subst (λ events. IsTelling f events inside.began.value.state state next.result next.new.page) (sym kept)
          (steady_received f (recorded inside.passed) inside.began.value.state state inside.due next.result inside.page next.new.page _ c.self.invariant.telling next.ensures.due
          (waiting-first f state inside.due next.result inside.page next.new.page _ (search) c.self.invariant.telling.writable can c.write_first-n.ensures.reply next.ensures.waits));
      no_fault = λ fault. (let other : Stepped ≡ StoreFailed = sym next.ensures.stepped ∙ fault in cc);
    }

pub returns-clause-received : goal.returns-clause-received
returns-clause-received g c =
    let f = keyed_fn g.K.Keyed.prf g.K.Keyed.pad in
    let inside = c.self.inside in
    let state = inside.server.state in
    let next = c.behind_first-self-inside in
    let reply = take c.write_first-n.result c.write_first-n.new.out in
    let due = map reply_bytes (waiting f state next.result next.new.page) in
    let kept : recorded c.received.new.self ≡ recorded inside.passed ++ Received reply ∷ [] =
    c.received.ensures ∙ (λ i. c.make_room.ensures.same i ++ Received (c.in_ok-reply.ensures.copy i) ∷ []) in
    let some : not (is_nil (map reply_bytes (waiting f state inside.due inside.page))) ≡ true = subst (λ (v : LinkState). not (is_nil v.due) ≡ true) (sym c.self.view_is) c.requires.due in
    let can = CanWrite-waiting f state inside.due inside.page c.self.invariant.telling.writable some in
    let now : LinkState = record { events = recorded c.received.new.self; began = inside.began.value.state; began_file = None; state = state; file = None; due = due } in
    subst (λ (v : LinkState). IsReceived v now reply) c.self.view_is (record {
      first = waiting-first f state inside.due next.result inside.page next.new.page reply (search) c.self.invariant.telling.writable can c.write_first-n.ensures.reply next.ensures.waits;
      others = λ i. record { events = kept i; began = inside.began.value.state; began_file = None; state = state; file = None; due = due };
    })

-- and its bytes say whether others wait
pub returns-clause-due_after : goal.returns-clause-due_after
returns-clause-due_after g c =
    let f = keyed_fn g.K.Keyed.prf g.K.Keyed.pad in
    let inside = c.self.inside in
    let next = c.behind_first-self-inside in
    let reply = take c.write_first-n.result c.write_first-n.new.out in
    subst (λ b. IsTrue b ↔ IsOpenPage reply) (sym (is_more-waiting f inside.server.state inside.due next.result next.new.page next.ensures.waits)) c.write_first-n.ensures.open

pub returns-in_err-reply-clause-one_reply : goal.returns-in_err-reply-clause-one_reply
returns-in_err-reply-clause-one_reply g c = grind (arith, common_steps)

pub returns-in_err-reply-clause-err : goal.returns-in_err-reply-clause-err
returns-in_err-reply-clause-err g c = grind (arith, common_steps)
