use Rattle.std.proofs.Common.{◌+◌, ◌*◌, ◌<◌, ◌^◌, ap, List, ℕ, map, subst, sym, ◌∙◌}
use Rattle.std.specs.Int.{div_ceil}
use Rattle.std.specs.Prelude.{Err, option_map}
use Rattle.client_registry.specs.Acceptance.{frames_needed, size_refusal}
use Rattle.client_registry.specs.Setup.{setup_with}
use Rattle.index_setup.proofs.BuildErrors.{labels_differ, second_none}
use Rattle.index_setup.specs.Refused.{clash_refusal, refused_by_size}
use Rattle.index_setup.specs.declared.index.Index.{Index}
use Rattle.keyed_fn.specs.KeyedFn.{IsKeyedFn, keyed_fn}
use Rattle.sse_frames.specs.Frames.{Rises, frame_bytes, labels_of}
use Rattle.sse_frames.specs.FrameViews.{entries_in}
use Rattle.sse_frames.specs.SentParts.{numbered}
use Rattle.client_core.proofs.RenewalLaws.{means_renewal, no_values_refused, values_refused}
use Rattle.client_core.proofs.SetupOf.{bytes_from-index, labels_rise}
use Rattle.client_core.specs.Setup.{frames_of_joined}
use Rattle.client_core.proofs.renewals.plan_of_docs.Goals as goal

pub of_build-requires : goal.of_build-requires
of_build-requires g c =
    let s = setup_with c.args.docs.documents c.args.sizes.b c.args.sizes.big c.args.sizes.pad in
    means_renewal (keyed_fn g.K.Keyed.prf g.K.Keyed.pad) c.args.key.now s Index c.requires.accepted c.in-Err.fault c.in-Err.ensures.clash c.in-Err.ensures.built

pub returns-in-Err-clause-fault : goal.returns-in-Err-clause-fault
returns-in-Err-clause-fault g c =
    λ epoch other.
    let s = setup_with c.args.docs.documents c.args.sizes.b c.args.sizes.big c.args.sizes.pad in
    values_refused (keyed_fn g.K.Keyed.prf g.K.Keyed.pad) c.args.key.now s Index c.requires.accepted c.in-Err.fault c.in-Err.ensures.clash c.in-Err.ensures.built epoch c.of_build.result c.of_build.ensures
    (λ memory. other (ap (λ fault. Err fault) memory))

-- labels that don't clash rise
pub new-requires-clause-sendable : goal.new-requires-clause-sendable
new-requires-clause-sendable g c =
    let was = c.in-Ok.ensures in
    let f = keyed_fn g.K.Keyed.prf g.K.Keyed.pad in
    let laws : IsKeyedFn f = record {
      prf_length = g.met.K.Keyed.prf_length;
      prf_bytes = g.met.K.Keyed.prf_bytes;
      pad_length = g.met.K.Keyed.pad_length;
      pad_bytes = g.met.K.Keyed.pad_bytes;
      pad_prefix = g.met.K.Keyed.pad_prefix;
    } in
    let key = c.args.key.now in
    let docs = c.args.docs.documents in
    let s = setup_with docs c.args.sizes.b c.args.sizes.big c.args.sizes.pad in
    let rises = labels_rise f laws key s c.requires.accepted (labels_differ f key s was.accepted) in
    record {
      rises =
          subst (λ (b : ℕ). Rises (labels_of (entries_in (1 + 8 * b) c.in-Ok.index.entries))) (sym was.b)
          (subst (λ (bytes : List ℕ). Rises (labels_of (entries_in (1 + 8 * c.args.sizes.b) bytes))) (sym was.entries) rises);
      accepted = (λ i. size_refusal (setup_with docs (was.b i) (was.big i) (was.pad i))) ∙ c.requires.accepted;
      frames =
          (λ i. 2 + div_ceil (was.words i) 1024 + div_ceil (was.blocks i) 256)
          ∙ sym (λ i. frames_needed (setup_with docs (was.b i) (was.big i) (was.pad i)));
    }

pub new-requires-clause-numbers : goal.new-requires-clause-numbers
new-requires-clause-numbers g c =
    let was = c.in-Ok.ensures in
    subst (λ (n : ℕ). c.args.number + n < 2 ^ 32) (sym (λ i. 2 + div_ceil (was.words i) 1024 + div_ceil (was.blocks i) 256)) c.requires.numbers

-- what is planned has no clash
pub returns-clause-fault : goal.returns-clause-fault
returns-clause-fault g c =
    λ epoch other.
    let f = keyed_fn g.K.Keyed.prf g.K.Keyed.pad in
    let s = setup_with c.args.docs.documents c.args.sizes.b c.args.sizes.big c.args.sizes.pad in
    no_values_refused f c.args.key.now s epoch (second_none (option_map refused_by_size (size_refusal s)) (clash_refusal f c.args.key.now s) c.in-Ok.ensures.accepted)

pub returns-clause-frames : goal.returns-clause-frames
returns-clause-frames g c =
    λ o at.
    let was = c.in-Ok.ensures in
    let f = keyed_fn g.K.Keyed.prf g.K.Keyed.pad in
    let laws : IsKeyedFn f = record {
      prf_length = g.met.K.Keyed.prf_length;
      prf_bytes = g.met.K.Keyed.prf_bytes;
      pad_length = g.met.K.Keyed.pad_length;
      pad_bytes = g.met.K.Keyed.pad_bytes;
      pad_prefix = g.met.K.Keyed.pad_prefix;
    } in
    let s = setup_with c.args.docs.documents c.args.sizes.b c.args.sizes.big c.args.sizes.pad in
    ap (λ plan. plan.frames) c.new.ensures.plan
    ∙ (λ i. map frame_bytes (numbered (sym at i) (frames_of_joined (was.b i) (was.big i) (was.entries i) (was.array i))))
    ∙ bytes_from-index f laws c.args.key.now s c.requires.accepted o

pub returns-clause-plan : goal.returns-clause-plan
returns-clause-plan g c =
    let was = c.in-Ok.ensures in
    let plan = c.new.ensures.plan in
    record {
      mark = ap (λ p. p.mark) plan;
      marks = ap (λ p. p.marks) plan;
      docs = ap (λ p. p.docs) plan;
      b = ap (λ p. p.b) plan ∙ was.b;
      big = ap (λ p. p.big) plan ∙ was.big;
      pad = ap (λ p. p.pad) plan ∙ was.pad;
      number = ap (λ p. p.number) plan;
      own_words = ap (λ p. p.own_words) plan ∙ was.own_words;
      own_blocks = ap (λ p. p.own_blocks) plan ∙ was.own_blocks;
      grammar = c.new.ensures.grammar;
    }
