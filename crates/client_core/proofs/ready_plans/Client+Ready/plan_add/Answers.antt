use Rattle.std.proofs.Common.{◌∷◌, [], None, sym, ap, ◌∙◌, refl, map, arith}
use Rattle.std.specs.Result.{result_err}
use Rattle.client_registry.specs.Facts.{has_counters}
use Rattle.client_registry.specs.Registered.{facts}
use Rattle.keyed_fn.specs.KeyedFn.{keyed_fn}
use Rattle.sse_frames.specs.Frames.{frame_bytes}
use Rattle.client_core.proofs.PlanLaws.{not_wanting, ok_not_wanting, residual_is}
use Rattle.client_core.proofs.StandsForLaws.{IsFree-accepted, fault_is, fault_refused, frames_are, is_refused, keeps, not_refused, only_add, refusal_is}
use Rattle.client_core.proofs.ready_plans.Client+Ready.plan_add.Goals as goal

pub returns-in-Some-clause-refused : goal.returns-in-Some-clause-refused
returns-in-Some-clause-refused g c =
    rw (← c.self.view_is) (
    λ keys o run under s.
    is_refused _ _ c.in-Some.fault
    (sym (refusal_is o run c.self.inside.state s.registry s.number c.args.doc) ∙ sym c.add_refusal.ensures ∙ c.in-Some.is) refl
    )

pub returns-in-Some-clause-fault : goal.returns-in-Some-clause-fault
returns-in-Some-clause-fault g c =
    rw (← c.self.view_is) (
    λ keys o run under s some.
    fault_refused (keyed_fn g.K.Keyed.prf g.K.Keyed.pad) keys o run c.args.master.now under c.self.inside.state s c.args.doc c.in-Some.fault (sym c.add_refusal.ensures ∙ c.in-Some.is)
    )

pub addition-requires-clause-counters : goal.addition-requires-clause-counters
addition-requires-clause-counters g c =
    (IsFree-accepted (facts c.self.inside.state.registry) c.self.inside.state.frames c.args.doc (sym c.add_refusal.ensures ∙ c.in_default.is)).counters

pub returns-in_err-frame-clause-refused : goal.returns-in_err-frame-clause-refused
returns-in_err-frame-clause-refused g c =
    rw (← c.self.view_is) (
    λ keys o run under s.
    not_refused _ _
    (sym (refusal_is o run c.self.inside.state s.registry s.number c.args.doc) ∙ sym c.add_refusal.ensures ∙ c.in_default.is)
    )

pub returns-in_err-frame-clause-fault : goal.returns-in_err-frame-clause-fault
returns-in_err-frame-clause-fault g c =
    rw (← c.self.view_is) (
    λ keys o run under s some.
    let x = c.in_err-frame.field-0.0 in
    let is = residual_is c.from_residual.result x c.from_residual.ensures.1 in
    fault_is (keyed_fn g.K.Keyed.prf g.K.Keyed.pad) keys o run c.args.master.now under c.self.inside.state s c.args.doc (result_err c.from_residual.result)
    (sym c.add_refusal.ensures ∙ c.in_default.is)
    (ap result_err is ∙ c.in_err-frame.ensures.fault (keeps (keyed_fn g.K.Keyed.prf g.K.Keyed.pad) keys o run c.args.master.now under c.self.inside.state s) (not_wanting _ c.from_residual.result x refl is some))
    )

pub returns-clause-refused : goal.returns-clause-refused
returns-clause-refused g c =
    rw (← c.self.view_is) (
    λ keys o run under s.
    not_refused _ _
    (sym (refusal_is o run c.self.inside.state s.registry s.number c.args.doc) ∙ sym c.add_refusal.ensures ∙ c.in_default.is)
    )

pub returns-clause-fault : goal.returns-clause-fault
returns-clause-fault g c =
    rw (← c.self.view_is) (
    λ keys o run under s some.
    fault_is (keyed_fn g.K.Keyed.prf g.K.Keyed.pad) keys o run c.args.master.now under c.self.inside.state s c.args.doc None (sym c.add_refusal.ensures ∙ c.in_default.is)
    (c.in_ok-frame.ensures.fault (keeps (keyed_fn g.K.Keyed.prf g.K.Keyed.pad) keys o run c.args.master.now under c.self.inside.state s) (ok_not_wanting _ _ refl))
    )

pub returns-clause-frame : goal.returns-clause-frame
returns-clause-frame g c =
    rw (← c.self.view_is) (
    λ keys o run under s.
    ap (λ bytes. bytes ∷ []) (c.in_ok-frame.ensures.bytes (keeps (keyed_fn g.K.Keyed.prf g.K.Keyed.pad) keys o run c.args.master.now under c.self.inside.state s))
    ∙ ap (map frame_bytes) (frames_are (keyed_fn g.K.Keyed.prf g.K.Keyed.pad) keys o run c.args.master.now under c.self.inside.state s c.args.doc)
    )

pub returns-clause-commits : goal.returns-clause-commits
returns-clause-commits g c =
    let old = c.self.inside.state in
    let d = c.args.doc in
    let free = IsFree-accepted (facts old.registry) old.frames d (sym c.add_refusal.ensures ∙ c.in_default.is) in
    record {
      next = c.number.ensures;
      number = omega (arith, free.number, c.addition.ensures.frames);
      sized = c.in_ok-frame.ensures.document;
      fits = (ap (λ x. x.live d.id) c.addition.ensures.facts ∙ free.new, ap (λ x. has_counters x d) c.addition.ensures.facts ∙ free.counters, c.in_ok-frame.ensures.room, c.in_ok-frame.ensures.numbers);
    }

pub returns-in-Some-clause-only : goal.returns-in-Some-clause-only
returns-in-Some-clause-only g c =
    λ keys o run under s. only_add (keyed_fn g.K.Keyed.prf g.K.Keyed.pad) keys o run c.args.doc _ (returns-in-Some-clause-fault g c keys o run under s)

pub returns-in_err-frame-clause-only : goal.returns-in_err-frame-clause-only
returns-in_err-frame-clause-only g c =
    λ keys o run under s. only_add (keyed_fn g.K.Keyed.prf g.K.Keyed.pad) keys o run c.args.doc c.from_residual.result (returns-in_err-frame-clause-fault g c keys o run under s)
