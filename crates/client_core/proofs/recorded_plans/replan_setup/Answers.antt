use Rattle.std.proofs.Common.{◌≡◌, ◌+◌, ◌-◌, ℕ, List, ap, length, map, refl, sym, subst, ◌∙◌, arith}
use Rattle.std.proofs.lemmas.List.{length-map}
use Rattle.client_registry.specs.Run.{Offsets}
use Rattle.client_registry.specs.Setup.{Setup, setup_with}
use Rattle.client_rebuild.specs.Recalls.{setup_in}
use Rattle.index_setup.specs.Entries.{key_table}
use Rattle.keyed_fn.specs.KeyedFn.{keyed_fn}
use Rattle.sse_frames.specs.Frames.{frame_bytes}
use Rattle.sse_model.proofs.Counts.{length-frames_of_setup}
use Rattle.sse_model.specs.Compared.{collision_of_setup}
use Rattle.sse_model.specs.Wire.{frames_of_setup}
use Rattle.client_core.proofs.ReplannedSetup.{differs_setup, means, replans-refused_setup, replans-setup}
use Rattle.client_core.specs.Owes.{Owes}
use Rattle.client_core.specs.Renewals.{alone, planned_setup}
use Rattle.client_core.specs.TakenViews.{first_number}
use Rattle.client_core.specs.declared.planned_renewal.PlannedRenewal.{PlannedRenewal}
use Rattle.client_core.proofs.recorded_plans.replan_setup.Goals as goal

pub skip-requires : goal.skip-requires
skip-requires g c =
    let f = keyed_fn g.K.Keyed.prf g.K.Keyed.pad in
    let s = setup_in c.args.setup in
    let t = key_table f c.args.key s in
    let o : Offsets = record { epoch = 0; command = 0; frame = c.args.setup.before } in
    omega (
      arith,
      c.requires.low,
      c.requires.high,
      c.args.setup.needed,
      ap length c.renewed.ensures.renewed.owed,
      ap length (c.in-Ok.ensures.frames o refl),
      length-map (frames_of_setup t o s) frame_bytes,
      length-frames_of_setup t o s,
    )

pub returns-in-Ok-clause-replans : goal.returns-in-Ok-clause-replans
returns-in-Ok-clause-replans g c =
    λ o at.
    let f = keyed_fn g.K.Keyed.prf g.K.Keyed.pad in
    let key = c.args.key in
    let s = setup_in c.args.setup in
    let keys : ℕ → List ℕ = λ epoch. key in
    let is = c.in-Ok.ensures.plan in
    let same : planned_setup c.in-Ok.planned ≡ s = λ i. setup_with (is.docs i).documents (is.b i) (is.big i) (is.pad i) in
    let number = at ∙ sym is.number in
    let frames = subst (λ (x : Setup). c.in-Ok.planned.frames ≡ map frame_bytes (frames_of_setup (key_table f key x) o x)) (sym same) (c.in-Ok.ensures.frames o at) in
    let owes = subst (λ (x : Setup). Owes f keys o (alone x) 0 c.renewed.result.state) same (c.renewed.ensures.owes f keys o number frames) in
    let first : first_number c.skip.result.state ≡ c.args.next = omega (arith, c.skip.ensures.first, c.renewed.ensures.renewed.first, is.number, c.requires.low) in
    let zero : 0 + (c.args.next - c.args.setup.before) ≡ c.args.next - o.frame = omega (arith, at) in
    replans-setup f key o s c.args.next c.skip.result (c.skip.ensures.key ∙ c.renewed.ensures.key) first (subst (λ k. Owes f keys o (alone s) k c.skip.result.state) zero (c.skip.ensures.owes f keys o (alone s) 0 owes))
    (c.in-Ok.ensures.fault o.epoch (λ e. absurd (cc)))

pub of_setup-requires : goal.of_setup-requires
of_setup-requires g c =
    let f = keyed_fn g.K.Keyed.prf g.K.Keyed.pad in
    let s = setup_in c.args.setup in
    means (collision_of_setup (key_table f c.args.key s) 0 s) c.in-Err.fault (λ other. c.in-Err.ensures.fault 0 (differs_setup {T = PlannedRenewal} c.in-Err.fault other))

pub returns-in-Err-clause-replans : goal.returns-in-Err-clause-replans
returns-in-Err-clause-replans g c =
    λ o at.
    let f = keyed_fn g.K.Keyed.prf g.K.Keyed.pad in
    replans-refused_setup f c.args.key o (setup_in c.args.setup) c.args.next c.in-Err.fault c.of_setup.result (λ other. c.in-Err.ensures.fault o.epoch (differs_setup {T = PlannedRenewal} c.in-Err.fault other)) c.of_setup.ensures
