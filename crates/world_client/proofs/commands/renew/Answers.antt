use Rattle.std.proofs.Common.{◌≡◌, ℕ, [], ◌∷◌, ◌++◌, None, Some, map, refl, sym, ap, ◌∙◌, subst, arith}
use Rattle.client_core.specs.Owes.{Owes}
use Rattle.client_core.specs.Payloads.{renewal_payload}
use Rattle.client_core.specs.Renewals.{alone, renewal_fault}
use Rattle.client_records.specs.Records.{renewal_record}
use Rattle.client_registry.specs.Epochs.{begins, key_now, next_begins, setup_renewed, with_renewal}
use Rattle.client_registry.specs.Histories.{frames_in}
use Rattle.client_registry.specs.Run.{last_run}
use Rattle.client_registry.specs.Setup.{Setup}
use Rattle.client_renewal.specs.declared.renewal_fault.RenewalFault.TheVariants as faults
use Rattle.keyed_fn.specs.KeyFormulas.{mark_of}
use Rattle.keyed_fn.specs.KeyedFn.{keyed_fn}
use Rattle.sse_frames.specs.Frames.{frame_bytes}
use Rattle.sse_model.specs.Names.{table}
use Rattle.sse_model.specs.Wire.{frames_of_setup}
use Rattle.world_client.proofs.Recording.{done, stopped, without_memory, broken, refused_for}
use Rattle.world_client.proofs.Histories.{low-alone, owes-alone}
use Rattle.world_client.specs.Clients.{IsResting, IsSending}
use Rattle.world_client.specs.Histories.{key_marks}
use Rattle.world_client.proofs.commands.renew.Goals as goal

pub returns-in-Made-clause-commanded : goal.returns-in-Made-clause-commanded
returns-in-Made-clause-commanded g c = λ first es payloads rests holds.
    let f = keyed_fn g.K.Keyed.prf g.K.Keyed.pad in
    let key = c.args.key in
    let keys = λ (epoch : ℕ). key in
    let before = λ (epoch : ℕ). key_now first es in
    let o = next_begins es in
    let s = setup_renewed (last_run es) in
    let planned = c.in-Ok.planned in
    let append = c.append_renewal-appended in
    let plan = c.in-Ok.ensures.plan in
    let renews = c.in-Ok.ensures.renews before (begins es) (last_run es) rests.stands in
    let number : planned.number ≡ o.frame = omega (arith, plan.number, rests.stands.number) in
    let frames = subst (λ (x : Setup). planned.frames ≡ map frame_bytes (frames_of_setup (table f x.shape keys) o x)) (sym renews.setup) renews.frames in
    let owes = subst (λ (x : Setup). Owes f keys o (alone x) 0 c.commit_renewal.result.state) renews.setup (c.commit_renewal.ensures.owes f keys o (sym number) frames) in
    let fault : None ≡ renewal_fault f key (key_marks f first es) (begins es) (last_run es) = c.in-Ok.ensures.fault before (begins es) (last_run es) rests.stands (λ e. cc) ∙ ap (λ ms. renewal_fault f key ms (begins es) (last_run es)) rests.marks in
    done (IsResting f first es) (IsSending f first (with_renewal key es) (frames_in (Some es))) (renewal_fault f key (key_marks f first es) (begins es) (last_run es)) payloads (renewal_payload planned) (renewal_record (mark_of f key))
    c.args.stop append.result.0 append.result.1 append.new.journal append.new.disk plan.payload (append.ensures.appended payloads holds) c.in-Made.is (sym fault) c.commit_renewal.result (record {
      key = c.commit_renewal.ensures.key;
      low = low-alone f key o s (frames_in (Some es)) refl;
      owes = owes-alone f key o s (frames_in (Some es)) refl c.commit_renewal.result.state owes;
      number = c.commit_renewal.ensures.renewed.first ∙ number;
      marks = c.commit_renewal.ensures.renewed.marks ∙ plan.marks ∙ ap (λ ms. ms ++ mark_of f key ∷ []) rests.marks;
    })

pub returns-in-Stopped-clause-commanded : goal.returns-in-Stopped-clause-commanded
returns-in-Stopped-clause-commanded g c = λ first es payloads rests holds.
    let f = keyed_fn g.K.Keyed.prf g.K.Keyed.pad in
    let key = c.args.key in
    let append = c.append_renewal-appended in
    let fault : None ≡ renewal_fault f key (key_marks f first es) (begins es) (last_run es) =
    c.in-Ok.ensures.fault (λ epoch. key_now first es) (begins es) (last_run es) rests.stands (λ e. cc) ∙ ap (λ ms. renewal_fault f key ms (begins es) (last_run es)) rests.marks in
    stopped (IsResting f first es) (IsSending f first (with_renewal key es) (frames_in (Some es))) (renewal_fault f key (key_marks f first es) (begins es) (last_run es)) payloads (renewal_payload c.in-Ok.planned) (renewal_record (mark_of f key))
    c.args.stop append.result.0 append.result.1 append.new.journal append.new.disk c.in-Ok.ensures.plan.payload (append.ensures.appended payloads holds) c.in-Stopped.is (sym fault)

pub returns-in-NoMemory-clause-commanded : goal.returns-in-NoMemory-clause-commanded
returns-in-NoMemory-clause-commanded g c = λ first es payloads rests holds.
    let f = keyed_fn g.K.Keyed.prf g.K.Keyed.pad in
    let key = c.args.key in
    let append = c.append_renewal-appended in
    without_memory (IsResting f first es) (IsSending f first (with_renewal key es) (frames_in (Some es))) (renewal_fault f key (key_marks f first es) (begins es) (last_run es)) payloads (renewal_payload c.in-Ok.planned) (renewal_record (mark_of f key))
    c.args.stop append.result.0 append.result.1 append.new.journal append.new.disk c.in-Ok.ensures.plan.payload (append.ensures.appended payloads holds) c.in-NoMemory.is c.args.client rests

pub returns-in-Broken-clause-commanded : goal.returns-in-Broken-clause-commanded
returns-in-Broken-clause-commanded g c = λ first es payloads rests holds.
    let f = keyed_fn g.K.Keyed.prf g.K.Keyed.pad in
    let key = c.args.key in
    let append = c.append_renewal-appended in
    let fault : None ≡ renewal_fault f key (key_marks f first es) (begins es) (last_run es) =
    c.in-Ok.ensures.fault (λ epoch. key_now first es) (begins es) (last_run es) rests.stands (λ e. cc) ∙ ap (λ ms. renewal_fault f key ms (begins es) (last_run es)) rests.marks in
    broken (IsResting f first es) (IsSending f first (with_renewal key es) (frames_in (Some es))) (renewal_fault f key (key_marks f first es) (begins es) (last_run es)) payloads (renewal_payload c.in-Ok.planned) (renewal_record (mark_of f key))
    c.args.stop append.result.0 append.result.1 append.new.journal append.new.disk c.in-Ok.ensures.plan.payload (append.ensures.appended payloads holds) c.in-Broken.is (sym fault)

pub returns-in_default-clause-commanded : goal.returns-in_default-clause-commanded
returns-in_default-clause-commanded g c = λ first es payloads rests holds.
    let f = keyed_fn g.K.Keyed.prf g.K.Keyed.pad in
    let o = begins es in
    let run = last_run es in
    let marked = ap (λ ms. renewal_fault f c.args.key ms o run) rests.marks in (
      rests,
      refused_for c.plan_renewal.result c.in-Err.fault faults.NoMemory (renewal_fault f c.args.key (key_marks f first es) o run) c.in-Err.is (λ other. c.plan_renewal.ensures.fault (λ epoch. key_now first es) o run rests.stands other ∙ marked)
          c.in_default.not-NoMemory,
      holds,
    )
