use Rattle.std.proofs.Common.{◌≡◌, ◌≤◌, ◌<◌, ◌+◌, Some, ap, sym, subst, arith}
use Rattle.client_registry.specs.Histories.{IsKept}
use Rattle.client_registry.specs.Run.{From, Run}
use Rattle.client_rebuild.specs.Recalls.{Recalls, frames_of_last}
use Rattle.client_rebuild.specs.Updates.{command_of}
use Rattle.keyed_fn.specs.KeyedFn.{keyed_fn}
use Rattle.client_core.proofs.StandsForLaws.{same_past}
use Rattle.client_core.specs.StandsFor.{with_command}
use Rattle.client_core.specs.Resumes.{Replans, first_recorded}
use Rattle.client_core.specs.States.{RecordedState}
use Rattle.client_core.proofs.recorded_plans.replan.Goals as goal

pub returns-in-Setup-clause-replans : goal.returns-in-Setup-clause-replans
returns-in-Setup-clause-replans g c =
    λ o run knows.
    let is = subst (Recalls o run) c.in-Setup.is (subst (λ (s : RecordedState). Recalls o run s.last) (sym c.state.view_is) knows.recalls) in
    subst (λ r. Replans (keyed_fn g.K.Keyed.prf g.K.Keyed.pad) c.args.key o r c.args.next c.replan_setup.result) (sym is.0) (c.replan_setup.ensures.replans o is.1)

pub returns-in-Update-clause-replans : goal.returns-in-Update-clause-replans
returns-in-Update-clause-replans g c =
    λ o run knows.
    let f = keyed_fn g.K.Keyed.prf g.K.Keyed.pad in
    let u = c.in-Update.update in
    let is = subst (Recalls o run) c.in-Update.is (subst (λ (s : RecordedState). Recalls o run s.last) (sym c.state.view_is) knows.recalls) in
    let of = same_past c.args.state.past c.state.inside.past run is.0 (ap (λ (s : RecordedState). s.past) c.state.view_is) (ap (λ (r : Run). r.setup) (sym is.1)) knows.past in
    let kept = subst (λ r. IsKept (Some (From o r))) is.1 knows.kept in
    let low : u.frames ≤ c.args.next = subst (λ l. first_recorded l ≤ c.args.next) c.in-Update.is (subst (λ (s : RecordedState). first_recorded s.last ≤ c.args.next) (sym c.state.view_is) c.requires.low) in
    let high : c.args.next < u.frames + 1 = subst (λ l. c.args.next < frames_of_last l) c.in-Update.is (subst (λ (s : RecordedState). c.args.next < frames_of_last s.last) (sym c.state.view_is) c.requires.high) in
    let at : u.frames ≡ c.args.next = omega (arith, low, high) in
    subst (λ r. Replans f c.args.key o r c.args.next c.replan_update.result) (sym is.1)
    (subst (λ n. Replans f c.args.key o (with_command is.0 (command_of u.update)) n c.replan_update.result) at (c.replan_update.ensures.replans o is.0 of kept is.2 is.3))
