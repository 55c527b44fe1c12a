use Rattle.std.proofs.Common.{◌≡◌, [], None, sym, ap, ◌∙◌, subst}
use Rattle.std.specs.Prelude.{is_none}
use Rattle.client_core.specs.Renewals.{alone}
use Rattle.client_records.specs.Records.{setup_record}
use Rattle.client_registry.specs.Run.{From, at_first}
use Rattle.client_registry.specs.Setup.{setup_with}
use Rattle.index_setup.specs.Refused.{build_refusal}
use Rattle.keyed_fn.specs.KeyFormulas.{mark_of}
use Rattle.keyed_fn.specs.KeyedFn.{keyed_fn}
use Rattle.world_disks.specs.Disks.{Holds}
use Rattle.world_model.specs.World.{Rests}
use Rattle.world_plans.proofs.Plans.{accepts-setup}
use Rattle.world_rules.specs.Changes.{SetsUp}
use Rattle.world_client.specs.Clients.{IsSending}
use Rattle.world_client.specs.Histories.{records_under}
use Rattle.world_client.specs.declared.state.State.TheVariants as states
use Rattle.world_run.proofs.Came.{came_by, fresh_came}
use Rattle.world_run.specs.Commands.{IsCame, change_of}
use Rattle.world_run.proofs.carry_out.of_fresh.Goals as goal

pub returns-in-SetUp-clause-came : goal.returns-in-SetUp-clause-came
returns-in-SetUp-clause-came g c = λ first h phase is holds.
    let f = keyed_fn g.K.Keyed.prf g.K.Keyed.pad in
    let s = setup_with c.in-SetUp.docs.documents c.in-SetUp.sizes.b c.in-SetUp.sizes.big c.in-SetUp.sizes.pad in
    let d = c.set_up-commanded in
    let client = c.args.client in
    subst (λ x. IsCame f first h phase (change_of x) c.args.stop c.as_fresh.result d.result.1 d.new.journal d.new.disk) (sym c.in-SetUp.is)
    (fresh_came f first (SetsUp s) c.args.stop d.result.1 d.new.journal d.new.disk h phase client c.as_fresh.result is
    (λ none keyed.
    subst (λ x. IsCame f first None Rests (SetsUp s) c.args.stop x d.result.1 d.new.journal d.new.disk) (sym c.as_fresh.ensures)
    (came_by f first None (SetsUp s) c.args.stop (λ b. states.Fresh b) (λ before. before.key ≡ client.key) (IsSending f client.key (From at_first (alone s)) 0) (build_refusal f client.key s) (setup_record (mark_of f client.key) s)
    (accepts-setup f first s ∙ ap (λ k. is_none (build_refusal f k s)) (sym keyed)) (ap (λ k. setup_record (mark_of f k) s) (sym keyed)) (λ b same. same ∙ keyed) (λ b sends. subst (λ k. IsSending f k (From at_first (alone s)) 0 b) keyed sends)
    d.result.0 d.result.1 d.new.journal d.new.disk (d.ensures.commanded [] (subst (λ x. Holds (records_under f first x) c.args.journal.now c.args.disk.now) none holds)))))
