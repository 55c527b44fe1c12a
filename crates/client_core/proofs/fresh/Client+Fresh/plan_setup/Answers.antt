use Rattle.std.proofs.Common.{◌≡◌, refl, ◌+◌, ◌*◌, List, ℕ, Ok, Err, sym, ap, subst, ◌∙◌}
use Rattle.std.specs.Prelude.{IfSome, Result, option_map}
use Rattle.std.specs.Int.{div_ceil}
use Rattle.client_registry.specs.Acceptance.{frames_needed, size_refusal}
use Rattle.client_registry.specs.Setup.{setup_with}
use Rattle.keyed_fn.specs.KeyedFn.{IsKeyedFn, keyed_fn}
use Rattle.sse_frames.specs.Frames.{Rises, labels_of}
use Rattle.sse_frames.specs.FrameViews.{entries_in}
use Rattle.index_setup.specs.declared.index.Index.{Index}
use Rattle.index_setup.proofs.BuildErrors.{labels_differ, second_none, size_accepted}
use Rattle.index_setup.specs.Refused.{clash_refusal, refused_by_size}
use Rattle.index_setup.specs.declared.fault.BuildFault.{BuildFault}
use Rattle.index_setup.specs.declared.fault.BuildFault.TheVariants.{NoMemory}
use Rattle.client_core.proofs.PlanLaws.{not_wanting, passed_on}
use Rattle.client_core.proofs.SetupOf.{setup_bytes-index, labels_rise}
use Rattle.client_core.specs.Setup.{setup_bytes}
use Rattle.client_core.specs.declared.planned.Planned.{Planned}
use Rattle.client_core.proofs.fresh.Client+Fresh.plan_setup.Goals as goal

-- labels that don't clash rise
pub new-requires-clause-sendable : goal.new-requires-clause-sendable
new-requires-clause-sendable g c =
    let was = c.in-Ok.ensures in
    let f = keyed_fn g.K.Keyed.prf g.K.Keyed.pad in
    let laws : IsKeyedFn f = record {
      prf_length = g.met.K.Keyed.prf_length;
      prf_bytes = g.met.K.Keyed.prf_bytes;
      pad_length = g.met.K.Keyed.pad_length;
      pad_bytes = g.met.K.Keyed.pad_bytes;
      pad_prefix = g.met.K.Keyed.pad_prefix;
    } in
    let key = c.self.inside.key in
    let docs = c.args.docs.documents in
    let s = setup_with docs c.args.sizes.b c.args.sizes.big c.args.sizes.pad in
    let rises = labels_rise f laws key s (size_accepted f key s was.accepted) (labels_differ f key s was.accepted) in
    record {
      rises =
          subst (λ (b : ℕ). Rises (labels_of (entries_in (1 + 8 * b) c.in-Ok.index.entries))) (sym was.b)
          (subst (λ (bytes : List ℕ). Rises (labels_of (entries_in (1 + 8 * c.args.sizes.b) bytes))) (sym was.entries) rises);
      accepted = (λ i. size_refusal (setup_with docs (was.b i) (was.big i) (was.pad i))) ∙ size_accepted f key s was.accepted;
      frames =
          (λ i. 2 + div_ceil (was.words i) 1024 + div_ceil (was.blocks i) 256)
          ∙ sym (λ i. frames_needed (setup_with docs (was.b i) (was.big i) (was.pad i)));
    }

-- the frames of the index are those of the setup that it is of
pub returns-clause-frames : goal.returns-clause-frames
returns-clause-frames g c =
    rw (← c.self.view_is) (
    let was = c.in-Ok.ensures in
    let f = keyed_fn g.K.Keyed.prf g.K.Keyed.pad in
    let laws : IsKeyedFn f = record {
      prf_length = g.met.K.Keyed.prf_length;
      prf_bytes = g.met.K.Keyed.prf_bytes;
      pad_length = g.met.K.Keyed.pad_length;
      pad_bytes = g.met.K.Keyed.pad_bytes;
      pad_prefix = g.met.K.Keyed.pad_prefix;
    } in
    let s = setup_with c.args.docs.documents c.args.sizes.b c.args.sizes.big c.args.sizes.pad in
    ap (λ plan. plan.frames) c.new.ensures.plan
    ∙ (λ i. setup_bytes (was.b i) (was.big i) (was.entries i) (was.array i))
    ∙ setup_bytes-index f laws c.self.inside.key s (size_accepted f c.self.inside.key s was.accepted)
    )

-- and carry as many entries and blocks as it has, dummies included
pub returns-clause-sends : goal.returns-clause-sends
returns-clause-sends g c =
    let was = c.in-Ok.ensures in
    let index = c.in-Ok.index in
    let is = c.new.ensures.limits in
    record {
      entries = index.entries;
      array = index.array;
      whole = is.whole ∙ (λ i. was.words i * (17 + 8 * was.b i));
      array_whole = is.array_whole ∙ (λ i. was.blocks i * (8 * was.big i));
      sent = ap (λ plan. plan.frames) c.new.ensures.plan ∙ (λ i. setup_bytes (was.b i) (was.big i) index.entries index.array);
    }

-- a fault of building is the plan's
pub returns-in-Err-clause-refused : goal.returns-in-Err-clause-refused
returns-in-Err-clause-refused g c =
    let fault = c.in-Err.fault in
    let built : Result Index BuildFault = Err fault in
    let planned : Result Planned BuildFault = Err fault in
    let s = setup_with c.args.docs.documents c.args.sizes.b c.args.sizes.big c.args.sizes.pad in
    passed_on (size_refusal s) refused_by_size built planned fault refl refl c.in-Err.ensures.refused

pub returns-in-Err-clause-clash : goal.returns-in-Err-clause-clash
returns-in-Err-clause-clash g c =
    rw (← c.self.view_is) (
    λ accepted some.
    let fault = c.in-Err.fault in
    let built : Result Index BuildFault = Err fault in
    let planned : Result Planned BuildFault = Err fault in
    let f = keyed_fn g.K.Keyed.prf g.K.Keyed.pad in
    let s = setup_with c.args.docs.documents c.args.sizes.b c.args.sizes.big c.args.sizes.pad in
    passed_on (clash_refusal f c.self.inside.key s) (λ e. e) built planned fault refl refl (c.in-Err.ensures.clash accepted (not_wanting built planned fault refl refl some))
    )

pub returns-in-Err-clause-built : goal.returns-in-Err-clause-built
returns-in-Err-clause-built g c = rw (← c.self.view_is) c.in-Err.ensures.built

-- without memory for the frames the documents were accepted
pub returns-in-Err-frame_buffer-clause-refused : goal.returns-in-Err-frame_buffer-clause-refused
returns-in-Err-frame_buffer-clause-refused g c =
    let f = keyed_fn g.K.Keyed.prf g.K.Keyed.pad in
    let s = setup_with c.args.docs.documents c.args.sizes.b c.args.sizes.big c.args.sizes.pad in
    let memory : Result Planned BuildFault = Err NoMemory in
    subst (λ o. IfSome o (λ fault. memory ≡ Err (refused_by_size fault))) (sym (size_accepted f c.self.inside.key s c.in-Ok.ensures.accepted)) tt

pub returns-in-Err-frame_buffer-clause-clash : goal.returns-in-Err-frame_buffer-clause-clash
returns-in-Err-frame_buffer-clause-clash g c = λ _ some. absurd (some refl)

-- and the same without memory for the mark
pub returns-in-Err-first_marks-clause-refused : goal.returns-in-Err-first_marks-clause-refused
returns-in-Err-first_marks-clause-refused g c =
    let f = keyed_fn g.K.Keyed.prf g.K.Keyed.pad in
    let s = setup_with c.args.docs.documents c.args.sizes.b c.args.sizes.big c.args.sizes.pad in
    let memory : Result Planned BuildFault = Err NoMemory in
    subst (λ o. IfSome o (λ fault. memory ≡ Err (refused_by_size fault))) (sym (size_accepted f c.self.inside.key s c.in-Ok.ensures.accepted)) tt

pub returns-in-Err-first_marks-clause-clash : goal.returns-in-Err-first_marks-clause-clash
returns-in-Err-first_marks-clause-clash g c = λ _ some. absurd (some refl)

pub returns-clause-accepted : goal.returns-clause-accepted
returns-clause-accepted g c = rw (← c.self.view_is) c.in-Ok.ensures.accepted

-- what is planned has no clash
pub returns-clause-clash : goal.returns-clause-clash
returns-clause-clash g c =
    rw (← c.self.view_is) (
    let f = keyed_fn g.K.Keyed.prf g.K.Keyed.pad in
    let docs = c.args.docs.documents in
    let s = setup_with docs c.args.sizes.b c.args.sizes.big c.args.sizes.pad in
    let planned : Result Planned BuildFault = Ok c.new.result in
    let none =
    second_none (option_map refused_by_size (size_refusal s)) (clash_refusal f c.self.inside.key s) c.in-Ok.ensures.accepted in
    λ _ _. subst (λ o. IfSome o (λ fault. planned ≡ Err fault)) (sym none) tt
    )
