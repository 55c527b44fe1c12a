use Rattle.std.proofs.Common.{◌∷◌, [], None, sym, ap, ◌∙◌, refl, map}
use Rattle.std.specs.Prelude.{unwrap_or}
use Rattle.std.specs.Result.{result_err}
use Rattle.client_registry.specs.IdNumber.{id_number}
use Rattle.client_registry.specs.Registered.{facts}
use Rattle.keyed_fn.specs.KeyedFn.{keyed_fn}
use Rattle.sse_frames.specs.Frames.{frame_bytes}
use Rattle.client_core.proofs.PlanLaws.{not_wanting, ok_not_wanting, residual_is}
use Rattle.client_core.proofs.StandsForLaws.{fault_is-delete, fault_refused-delete, frames_are-delete, is_refused, keeps, not_refused, only_delete, refusal_is-delete}
use Rattle.client_core.proofs.ready_plans.Client+Ready.plan_delete.Goals as goal

pub returns-in-Some-clause-refused : goal.returns-in-Some-clause-refused
returns-in-Some-clause-refused g c =
    rw (← c.self.view_is) (
    λ keys o run under s.
    is_refused _ _ c.in-Some.fault
    (sym (refusal_is-delete o run c.self.inside.state s.registry s.number (id_number c.args.id)) ∙ sym c.delete_refusal.ensures ∙ c.in-Some.is) refl
    )

pub returns-in-Some-clause-fault : goal.returns-in-Some-clause-fault
returns-in-Some-clause-fault g c =
    rw (← c.self.view_is) (
    λ keys o run under s some.
    fault_refused-delete (keyed_fn g.K.Keyed.prf g.K.Keyed.pad) keys o run c.args.master.now under c.self.inside.state s (id_number c.args.id) c.in-Some.fault
    (sym c.delete_refusal.ensures ∙ c.in-Some.is)
    )

pub returns-in_err-frame-clause-refused : goal.returns-in_err-frame-clause-refused
returns-in_err-frame-clause-refused g c =
    rw (← c.self.view_is) (
    λ keys o run under s.
    not_refused _ _
    (sym (refusal_is-delete o run c.self.inside.state s.registry s.number (id_number c.args.id)) ∙ sym c.delete_refusal.ensures ∙ c.in_default.is)
    )

pub returns-in_err-frame-clause-fault : goal.returns-in_err-frame-clause-fault
returns-in_err-frame-clause-fault g c =
    rw (← c.self.view_is) (
    λ keys o run under s some.
    let f = keyed_fn g.K.Keyed.prf g.K.Keyed.pad in
    let state = c.self.inside.state in
    let id = id_number c.args.id in
    let words = unwrap_or ((facts state.registry).live id) [] in
    let x = c.in_err-frame.field-0.0 in
    let is = residual_is c.from_residual.result x c.from_residual.ensures.1 in
    fault_is-delete f keys o run c.args.master.now under state s id (result_err c.from_residual.result) (sym c.delete_refusal.ensures ∙ c.in_default.is)
    (
    ap result_err is
    ∙ c.in_err-frame.ensures.fault (keeps f keys o run c.args.master.now under state s) (not_wanting _ c.from_residual.result x refl is some)
    )
    )

pub returns-clause-refused : goal.returns-clause-refused
returns-clause-refused g c =
    rw (← c.self.view_is) (
    λ keys o run under s.
    not_refused _ _
    (sym (refusal_is-delete o run c.self.inside.state s.registry s.number (id_number c.args.id)) ∙ sym c.delete_refusal.ensures ∙ c.in_default.is)
    )

pub returns-clause-fault : goal.returns-clause-fault
returns-clause-fault g c =
    rw (← c.self.view_is) (
    λ keys o run under s some.
    let f = keyed_fn g.K.Keyed.prf g.K.Keyed.pad in
    let state = c.self.inside.state in
    let id = id_number c.args.id in
    let words = unwrap_or ((facts state.registry).live id) [] in
    fault_is-delete f keys o run c.args.master.now under state s id None (sym c.delete_refusal.ensures ∙ c.in_default.is)
    (c.in_ok-frame.ensures.fault (keeps f keys o run c.args.master.now under state s) (ok_not_wanting _ _ refl))
    )

pub returns-clause-frame : goal.returns-clause-frame
returns-clause-frame g c =
    rw (← c.self.view_is) (
    λ keys o run under s.
    let f = keyed_fn g.K.Keyed.prf g.K.Keyed.pad in
    let state = c.self.inside.state in
    let id = id_number c.args.id in
    let words = unwrap_or ((facts state.registry).live id) [] in
    ap (λ bytes. bytes ∷ []) (c.in_ok-frame.ensures.bytes (keeps f keys o run c.args.master.now under state s))
    ∙ ap (map frame_bytes) (frames_are-delete f keys o run c.args.master.now under state s id)
    )

pub returns-in-Some-clause-only : goal.returns-in-Some-clause-only
returns-in-Some-clause-only g c =
    λ keys o run under s. only_delete (keyed_fn g.K.Keyed.prf g.K.Keyed.pad) keys o run (id_number c.args.id) _ (returns-in-Some-clause-fault g c keys o run under s)

pub returns-in_err-frame-clause-only : goal.returns-in_err-frame-clause-only
returns-in_err-frame-clause-only g c =
    λ keys o run under s. only_delete (keyed_fn g.K.Keyed.prf g.K.Keyed.pad) keys o run (id_number c.args.id) c.from_residual.result (returns-in_err-frame-clause-fault g c keys o run under s)
