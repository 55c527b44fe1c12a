use Rattle.std.proofs.Common.{◌≡◌, Some, true, Bool, sym, ap, subst, ◌∙◌}
use Rattle.keyed_fn.specs.KeyedFn.{keyed_fn}
use Rattle.sse_link.specs.FailingLoopback.{failure_at, FailingState}
use Rattle.sse_link.specs.LinkStates.{IsSent}
use Rattle.sse_link.proofs.Kept.{sent_behind, lost_as_listed}
use Rattle.sse_link.proofs.loopback.LoopbackLink.send.Goals as goal

-- the frame reached the server
pub returns-in_ok-send-in-Some-true-clause-listed : goal.returns-in_ok-send-in-Some-true-clause-listed
returns-in_ok-send-in-Some-true-clause-listed g c is =
    let f = keyed_fn g.K.Keyed.prf g.K.Keyed.pad in
    let old : FailingState = c.args.self.now in
    let listed : failure_at old.fails old.calls ≡ Some true =
    ap (λ (v : FailingState). failure_at v.fails v.calls) (sym c.self.view_is) ∙ ap (λ fails. failure_at fails c.self.inside.calls) (sym c.deref.ensures.value)
    ∙ sym c.fail_at.ensures ∙ c.in-Some-true.is ∙ ap (λ (delivered : Bool). Some delivered) c.in-Some-true.field-0-test in
    lost_as_listed f old.fails old.calls old.told _ c.args.frame.now listed
    (record {
      between = c.send-in-Some-true.new.self;
      sent = subst (λ (v : FailingState). IsSent f v.told c.send-in-Some-true.new.self c.args.frame.now) c.self.view_is (sent_behind f c.self.inside.far c.send-in-Some-true.new.self _ c.args.frame.now c.in_ok-send-in-Some-true.ensures.sent);
      dropped_is = ap (λ (t : FailingState). t.told) c.fail.ensures.failed;
    })

-- and its replies wait
pub returns-in_ok-send-in-None-clause-sent : goal.returns-in_ok-send-in-None-clause-sent
returns-in_ok-send-in-None-clause-sent g c =
    let f = keyed_fn g.K.Keyed.prf g.K.Keyed.pad in
    subst (λ (v : FailingState). IsSent f v.told c.send.new.self c.args.frame.now) c.self.view_is
    (sent_behind f c.self.inside.far c.send.new.self _ c.args.frame.now c.in_ok-send-in-None.ensures.sent)
