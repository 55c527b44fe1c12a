use Rattle.std.proofs.Common.{ap, refl, sym, subst, ◌∙◌}
use Rattle.client_registry.specs.Registered.{facts}
use Rattle.client_rebuild.specs.Updates.{command_of}
use Rattle.client_rebuild.specs.declared.update.Update.TheVariants as recorded
use Rattle.keyed_fn.specs.KeyedFn.{keyed_fn}
use Rattle.client_core.proofs.ResumeLaws.{counted, dead, live, stands_before}
use Rattle.client_core.proofs.StandsForLaws.{same_past}
use Rattle.client_core.specs.Resumes.{Replans}
use Rattle.client_core.specs.StandsFor.{with_command}
use Rattle.client_core.proofs.recorded_plans.replan_update.Goals as goal

pub replan_addition-requires-clause-dead : goal.replan_addition-requires-clause-dead
replan_addition-requires-clause-dead g c = dead c.args.recorded _ c.of_registry-ready.ensures.registry c.in-Add.doc (ap command_of c.in-Add.is)

pub replan_addition-requires-clause-counters : goal.replan_addition-requires-clause-counters
replan_addition-requires-clause-counters g c = counted c.args.recorded _ c.of_registry-ready.ensures.registry c.in-Add.doc

pub replan_deletion-requires-clause-live : goal.replan_deletion-requires-clause-live
replan_deletion-requires-clause-live g c = live c.args.recorded _ c.of_registry-ready.ensures.registry _ (ap command_of c.in-Delete.is)

pub returns-in-Add-clause-replans : goal.returns-in-Add-clause-replans
returns-in-Add-clause-replans g c =
    λ o before of kept represents frames.
    let f = keyed_fn g.K.Keyed.prf g.K.Keyed.pad in
    let u = c.args.recorded in
    let ready = c.of_registry-ready.result in
    let stands = stands_before f c.args.key o before (command_of u.update) ready kept (ap facts c.of_registry-ready.ensures.registry ∙ represents) (c.of_registry-ready.ensures.frames ∙ frames) (c.of_registry-ready.ensures.keeps f c.args.key) (same_past c.args.past ready.past before before c.of_registry-ready.ensures.past refl of) in
    subst (λ v. Replans f c.args.key o (with_command before (command_of v)) u.frames c.replan_addition.result) (sym c.in-Add.is)
    (subst (λ n. Replans f c.args.key o (with_command before (command_of (recorded.Add c.in-Add.doc))) n c.replan_addition.result) c.of_registry-ready.ensures.frames (c.replan_addition.ensures.replans o before stands))

pub returns-in-Delete-clause-replans : goal.returns-in-Delete-clause-replans
returns-in-Delete-clause-replans g c =
    λ o before of kept represents frames.
    let f = keyed_fn g.K.Keyed.prf g.K.Keyed.pad in
    let u = c.args.recorded in
    let ready = c.of_registry-ready.result in
    let stands = stands_before f c.args.key o before (command_of u.update) ready kept (ap facts c.of_registry-ready.ensures.registry ∙ represents) (c.of_registry-ready.ensures.frames ∙ frames) (c.of_registry-ready.ensures.keeps f c.args.key) (same_past c.args.past ready.past before before c.of_registry-ready.ensures.past refl of) in
    subst (λ v. Replans f c.args.key o (with_command before (command_of v)) u.frames c.replan_deletion.result) (sym c.in-Delete.is)
    (subst (λ n. Replans f c.args.key o (with_command before (command_of (recorded.Delete c.in-Delete.id))) n c.replan_deletion.result) c.of_registry-ready.ensures.frames (c.replan_deletion.ensures.replans o before stands))
