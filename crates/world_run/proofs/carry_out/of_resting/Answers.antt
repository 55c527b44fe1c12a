use Rattle.std.proofs.Common.{[], ◌∷◌, Some, refl, sym, subst}
use Rattle.client_core.specs.Renewals.{renewal_fault}
use Rattle.client_core.specs.StandsFor.{add_fault, delete_fault}
use Rattle.client_records.specs.Records.{renewal_record, update_record}
use Rattle.client_registry.specs.Command.{Add as adds, Delete as deletes}
use Rattle.client_registry.specs.Epochs.{begins, key_now, with_commands, with_renewal}
use Rattle.client_registry.specs.Histories.{frames_in}
use Rattle.client_registry.specs.IdNumber.{id_number}
use Rattle.client_registry.specs.Run.{last_run}
use Rattle.keyed_fn.specs.KeyFormulas.{mark_of}
use Rattle.keyed_fn.specs.KeyedFn.{keyed_fn}
use Rattle.world_disks.specs.Disks.{Holds}
use Rattle.world_model.specs.World.{Rests}
use Rattle.world_plans.proofs.Plans.{accepts-add, accepts-delete, accepts-renewal}
use Rattle.world_rules.specs.Changes.{Adds, Deletes, Renews}
use Rattle.world_client.specs.Clients.{IsResting, IsSending}
use Rattle.world_client.specs.Commanding.{IsCommanded, IsDone}
use Rattle.world_client.specs.Histories.{key_marks, records_under}
use Rattle.world_client.specs.declared.state.State.TheVariants as states
use Rattle.world_run.proofs.Came.{came_by, done_of, resting_came}
use Rattle.world_run.specs.Commands.{IsCame, change_of}
use Rattle.world_run.proofs.carry_out.of_resting.Goals as goal

pub returns-in-Add-clause-came : goal.returns-in-Add-clause-came
returns-in-Add-clause-came g c = λ first h phase is holds.
    let f = keyed_fn g.K.Keyed.prf g.K.Keyed.pad in
    let doc = c.in-Add.doc in
    let d = c.add-commanded in
    subst (λ x. IsCame f first h phase (change_of x) c.args.stop c.as_resting.result d.result.1 d.new.journal d.new.disk) (sym c.in-Add.is)
    (resting_came f first (Adds doc) c.args.stop d.result.1 d.new.journal d.new.disk h phase c.args.client c.as_resting.result is
    (λ es some rests.
    subst (λ x. IsCame f first (Some es) Rests (Adds doc) c.args.stop x d.result.1 d.new.journal d.new.disk) (sym c.as_resting.ensures)
    (came_by f first (Some es) (Adds doc) c.args.stop (λ b. states.Resting b) (IsResting f first es) (IsSending f first (with_commands (adds doc ∷ []) es) (frames_in (Some es)))
    (add_fault f (λ epoch. key_now first es) (begins es) (last_run es) doc) (update_record (adds doc)) (accepts-add f first es doc) refl (λ b p. p) (λ b p. p)
    d.result.0 d.result.1 d.new.journal d.new.disk (d.ensures.commanded first es (records_under f first (Some es)) rests (subst (λ x. Holds (records_under f first x) c.args.journal.now c.args.disk.now) some holds)))))

pub returns-in-Delete-clause-came : goal.returns-in-Delete-clause-came
returns-in-Delete-clause-came g c = λ first h phase is holds.
    let f = keyed_fn g.K.Keyed.prf g.K.Keyed.pad in
    let id = id_number c.in-Delete.id in
    let d = c.delete-commanded in
    subst (λ x. IsCame f first h phase (change_of x) c.args.stop c.as_resting-in-Delete.result d.result.1 d.new.journal d.new.disk) (sym c.in-Delete.is)
    (resting_came f first (Deletes id) c.args.stop d.result.1 d.new.journal d.new.disk h phase c.args.client c.as_resting-in-Delete.result is
    (λ es some rests.
    subst (λ x. IsCame f first (Some es) Rests (Deletes id) c.args.stop x d.result.1 d.new.journal d.new.disk) (sym c.as_resting-in-Delete.ensures)
    (came_by f first (Some es) (Deletes id) c.args.stop (λ b. states.Resting b) (IsResting f first es) (IsSending f first (with_commands (deletes id ∷ []) es) (frames_in (Some es)))
    (delete_fault f (λ epoch. key_now first es) (begins es) (last_run es) id) (update_record (deletes id)) (accepts-delete f first es id) refl (λ b p. p) (λ b p. p)
    d.result.0 d.result.1 d.new.journal d.new.disk (d.ensures.commanded first es (records_under f first (Some es)) rests (subst (λ x. Holds (records_under f first x) c.args.journal.now c.args.disk.now) some holds)))))

pub returns-clause-came : goal.returns-clause-came
returns-clause-came g c = λ first h phase is holds.
    let f = keyed_fn g.K.Keyed.prf g.K.Keyed.pad in
    let own = c.in-Renew.own in
    let d = c.renew-commanded in
    let key = c.new-in-Renew in
    subst (λ x. IsCame f first h phase (change_of x) c.args.stop c.as_resting-in-Renew.result d.result.1 d.new.journal d.new.disk) (sym c.in-Renew.is)
    (resting_came f first (Renews own) c.args.stop d.result.1 d.new.journal d.new.disk h phase c.args.client c.as_resting-in-Renew.result is
    (λ es some rests.
    subst (λ x. IsCame f first (Some es) Rests (Renews own) c.args.stop x d.result.1 d.new.journal d.new.disk) (sym c.as_resting-in-Renew.ensures)
    (came_by f first (Some es) (Renews own) c.args.stop (λ b. states.Resting b) (IsResting f first es) (IsSending f first (with_renewal own es) (frames_in (Some es)))
    (renewal_fault f own (key_marks f first es) (begins es) (last_run es)) (renewal_record (mark_of f own)) (accepts-renewal f first es own) refl (λ b p. p) (λ b p. p)
    d.result.0 d.result.1 d.new.journal d.new.disk
    (subst (λ k. IsCommanded (IsResting f first es) (IsSending f first (with_renewal k es) (frames_in (Some es))) (renewal_fault f k (key_marks f first es) (begins es) (last_run es)) (records_under f first (Some es)) (renewal_record (mark_of f k)) c.args.stop d.result.0 d.result.1 d.new.journal d.new.disk) key.ensures
    (d.ensures.commanded first es (records_under f first (Some es)) rests (subst (λ x. Holds (records_under f first x) c.args.journal.now c.args.disk.now) some holds))))))

pub returns-in-Add-clause-counted : goal.returns-in-Add-clause-counted
returns-in-Add-clause-counted g c = λ done. c.add-commanded.ensures.counted (done_of (λ b. states.Resting b) c.add-commanded.result.0 (subst IsDone c.as_resting.ensures done))

pub returns-in-Delete-clause-counted : goal.returns-in-Delete-clause-counted
returns-in-Delete-clause-counted g c = λ done. c.delete-commanded.ensures.counted (done_of (λ b. states.Resting b) c.delete-commanded.result.0 (subst IsDone c.as_resting-in-Delete.ensures done))

pub returns-clause-counted : goal.returns-clause-counted
returns-clause-counted g c = λ done. c.renew-commanded.ensures.counted (done_of (λ b. states.Resting b) c.renew-commanded.result.0 (subst IsDone c.as_resting-in-Renew.ensures done))
