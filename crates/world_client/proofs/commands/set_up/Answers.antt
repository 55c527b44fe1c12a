use Rattle.std.proofs.Common.{◌≡◌, ℕ, [], ◌∷◌, map, refl, sym, ap, ◌∙◌, subst}
use Rattle.client_core.specs.Owes.{Owes}
use Rattle.client_core.specs.Payloads.{setup_payload}
use Rattle.client_core.specs.Renewals.{alone}
use Rattle.client_core.specs.States.{ClientOf}
use Rattle.client_core.specs.declared.fresh.Fresh.{Fresh}
use Rattle.client_records.specs.Records.{setup_record}
use Rattle.client_registry.specs.Run.{From, at_first}
use Rattle.client_registry.specs.Setup.{Setup, setup_with}
use Rattle.index_setup.specs.Refused.{build_refusal}
use Rattle.index_setup.specs.declared.fault.BuildFault.TheVariants as faults
use Rattle.keyed_fn.specs.KeyFormulas.{mark_of}
use Rattle.keyed_fn.specs.KeyedFn.{keyed_fn}
use Rattle.sse_frames.specs.Frames.{frame_bytes}
use Rattle.sse_model.specs.Names.{table}
use Rattle.sse_model.specs.Wire.{frames_of_setup}
use Rattle.world_client.proofs.Recording.{done, stopped, without_memory, broken, refused_setup}
use Rattle.world_client.proofs.Histories.{low-alone, owes-alone}
use Rattle.world_client.specs.Clients.{IsSending}
use Rattle.world_client.proofs.commands.set_up.Goals as goal

pub returns-in-Made-clause-commanded : goal.returns-in-Made-clause-commanded
returns-in-Made-clause-commanded g c = λ payloads holds.
    let f = keyed_fn g.K.Keyed.prf g.K.Keyed.pad in
    let key = c.args.client.key in
    let keys = λ (epoch : ℕ). key in
    let s = setup_with c.args.docs.documents c.args.sizes.b c.args.sizes.big c.args.sizes.pad in
    let planned = c.in-Ok.planned in
    let append = c.append_setup-appended in
    let same : setup_with planned.docs.documents planned.b planned.big planned.pad ≡ s = λ i. setup_with ((c.in-Ok.ensures.documents i).documents) (c.in-Ok.ensures.shape.0 i) (c.in-Ok.ensures.shape.1 i) (c.in-Ok.ensures.pad i) in
    let frames = subst (λ (x : Setup). planned.frames ≡ map frame_bytes (frames_of_setup (table f x.shape keys) at_first x)) (sym same) c.in-Ok.ensures.frames in
    let owes = subst (λ (x : Setup). Owes f keys at_first (alone x) 0 c.commit.result.state) same (c.commit.ensures.owes f keys frames) in
    done (λ (before : ClientOf Fresh). before.key ≡ key) (IsSending f key (From at_first (alone s)) 0) (build_refusal f key s) payloads (setup_payload planned) (setup_record (mark_of f key) s) c.args.stop append.result.0 append.result.1
    append.new.journal append.new.disk c.in-Ok.ensures.payload (append.ensures.appended payloads holds) c.in-Made.is c.in-Ok.ensures.accepted c.commit.result (record {
      key = c.commit.ensures.key;
      low = low-alone f key at_first s 0 refl;
      owes = owes-alone f key at_first s 0 refl c.commit.result.state owes;
      number = c.commit.ensures.first;
      marks = c.commit.ensures.marks ∙ ap (λ m. m ∷ []) c.in-Ok.ensures.mark;
    })

pub returns-in-Stopped-clause-commanded : goal.returns-in-Stopped-clause-commanded
returns-in-Stopped-clause-commanded g c = λ payloads holds.
    let f = keyed_fn g.K.Keyed.prf g.K.Keyed.pad in
    let key = c.args.client.key in
    let s = setup_with c.args.docs.documents c.args.sizes.b c.args.sizes.big c.args.sizes.pad in
    let append = c.append_setup-appended in
    stopped (λ (before : ClientOf Fresh). before.key ≡ key) (IsSending f key (From at_first (alone s)) 0) (build_refusal f key s) payloads (setup_payload c.in-Ok.planned) (setup_record (mark_of f key) s) c.args.stop append.result.0 append.result.1
    append.new.journal append.new.disk c.in-Ok.ensures.payload (append.ensures.appended payloads holds) c.in-Stopped.is c.in-Ok.ensures.accepted

pub returns-in-NoMemory-clause-commanded : goal.returns-in-NoMemory-clause-commanded
returns-in-NoMemory-clause-commanded g c = λ payloads holds.
    let f = keyed_fn g.K.Keyed.prf g.K.Keyed.pad in
    let key = c.args.client.key in
    let s = setup_with c.args.docs.documents c.args.sizes.b c.args.sizes.big c.args.sizes.pad in
    let append = c.append_setup-appended in
    without_memory (λ (before : ClientOf Fresh). before.key ≡ key) (IsSending f key (From at_first (alone s)) 0) (build_refusal f key s) payloads (setup_payload c.in-Ok.planned) (setup_record (mark_of f key) s) c.args.stop append.result.0 append.result.1
    append.new.journal append.new.disk c.in-Ok.ensures.payload (append.ensures.appended payloads holds) c.in-NoMemory.is c.args.client refl

pub returns-in-Broken-clause-commanded : goal.returns-in-Broken-clause-commanded
returns-in-Broken-clause-commanded g c = λ payloads holds.
    let f = keyed_fn g.K.Keyed.prf g.K.Keyed.pad in
    let key = c.args.client.key in
    let s = setup_with c.args.docs.documents c.args.sizes.b c.args.sizes.big c.args.sizes.pad in
    let append = c.append_setup-appended in
    broken (λ (before : ClientOf Fresh). before.key ≡ key) (IsSending f key (From at_first (alone s)) 0) (build_refusal f key s) payloads (setup_payload c.in-Ok.planned) (setup_record (mark_of f key) s) c.args.stop append.result.0 append.result.1
    append.new.journal append.new.disk c.in-Ok.ensures.payload (append.ensures.appended payloads holds) c.in-Broken.is c.in-Ok.ensures.accepted

pub returns-in_default-clause-commanded : goal.returns-in_default-clause-commanded
returns-in_default-clause-commanded g c = λ payloads holds.
    let f = keyed_fn g.K.Keyed.prf g.K.Keyed.pad in
    let s = setup_with c.args.docs.documents c.args.sizes.b c.args.sizes.big c.args.sizes.pad in
    (refl, refused_setup c.plan_setup.result c.in-Err.fault faults.NoMemory c.in-Err.docs (build_refusal f c.args.client.key s) c.in-Err.is c.plan_setup.ensures.built c.in_default.not-NoMemory, holds)
