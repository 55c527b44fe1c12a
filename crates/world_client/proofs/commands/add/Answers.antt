use Rattle.std.proofs.Common.{◌≡◌, ℕ, List, [], ◌∷◌, None, Some, map, sym, ap, ◌∙◌, subst}
use Rattle.client_core.specs.StandsFor.{add_fault, frames_next}
use Rattle.client_core.specs.declared.command_fault.CommandFault.TheVariants as faults
use Rattle.client_registry.specs.Command.{Command}
use Rattle.client_registry.specs.Epochs.{begins, key_now, with_commands}
use Rattle.client_registry.specs.Histories.{frames_in}
use Rattle.client_registry.specs.Run.{last_run}
use Rattle.keyed_fn.specs.KeyedFn.{keyed_fn}
use Rattle.sse_frames.specs.Frames.{frame_bytes}
use Rattle.world_client.proofs.Recording.{refused_for}
use Rattle.world_client.specs.Clients.{IsResting, IsSending}
use Rattle.world_client.specs.Commanding.{IsCommanded}
use Rattle.world_client.proofs.commands.add.Goals as goal

pub returns-in-Ok-clause-commanded : goal.returns-in-Ok-clause-commanded
returns-in-Ok-clause-commanded g c = λ first es payloads rests holds.
    let f = keyed_fn g.K.Keyed.prf g.K.Keyed.pad in
    let keys = λ (epoch : ℕ). key_now first es in
    let prepared = sym (c.requires.prepared ∙ rests.key) in
    let planned = c.in-Ok.planned in
    let still : IsResting f first es c.plan_add.new.self = record {
      key = c.plan_add.ensures.key ∙ rests.key;
      stands = c.plan_add.ensures.stands keys (begins es) (last_run es) prepared rests.stands;
      marks = ap (λ p. p.marks.items) c.plan_add.ensures.past ∙ rests.marks;
    } in
    let frame = c.in-Ok.ensures.frame keys (begins es) (last_run es) prepared rests.stands ∙ ap (λ m. map frame_bytes (frames_next f keys (begins es) (last_run es) m)) (sym c.in-Ok.ensures.command) in
    let fault : None ≡ add_fault f keys (begins es) (last_run es) c.args.doc = c.in-Ok.ensures.fault keys (begins es) (last_run es) prepared rests.stands (λ e. cc) in
    subst (λ (x : Command × List ℕ). IsCommanded (IsResting f first es) (IsSending f first (with_commands (x.0 ∷ []) es) (frames_in (Some es))) (add_fault f keys (begins es) (last_run es) c.args.doc) payloads x.1 c.args.stop c.carry_out.result.0 c.carry_out.result.1 c.carry_out.new.journal c.carry_out.new.disk)
    (λ i. (c.in-Ok.ensures.command i, c.in-Ok.ensures.payload i)) (c.carry_out.ensures.commanded f first es payloads (add_fault f keys (begins es) (last_run es) c.args.doc) (sym fault) still frame holds)

pub returns-in-NoMemory-clause-commanded : goal.returns-in-NoMemory-clause-commanded
returns-in-NoMemory-clause-commanded g c = λ first es payloads rests holds. (
  record {
    key = c.plan_add.ensures.key ∙ rests.key;
    stands = c.plan_add.ensures.stands (λ epoch. key_now first es) (begins es) (last_run es) (sym (c.requires.prepared ∙ rests.key)) rests.stands;
    marks = ap (λ p. p.marks.items) c.plan_add.ensures.past ∙ rests.marks;
  },
  holds,
)

pub returns-in_default-clause-commanded : goal.returns-in_default-clause-commanded
returns-in_default-clause-commanded g c = λ first es payloads rests holds.
    let f = keyed_fn g.K.Keyed.prf g.K.Keyed.pad in
    let keys = λ (epoch : ℕ). key_now first es in
    let prepared = sym (c.requires.prepared ∙ rests.key) in (
      record {
        key = c.plan_add.ensures.key ∙ rests.key;
        stands = c.plan_add.ensures.stands keys (begins es) (last_run es) prepared rests.stands;
        marks = ap (λ p. p.marks.items) c.plan_add.ensures.past ∙ rests.marks;
      },
      refused_for c.plan_add.result c.in-Err.fault faults.NoMemory (add_fault f keys (begins es) (last_run es) c.args.doc) c.in-Err.is (c.plan_add.ensures.fault keys (begins es) (last_run es) prepared rests.stands) c.in_default.not-NoMemory,
      holds,
    )
