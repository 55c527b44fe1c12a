-- The plan of a setup: the numbers of its frames, and what it is refused for.
use Rattle.std.proofs.Common.{◌≡◌, ◌≢◌, ◌⊎◌, inl, inr, ℕ, List, refl, sym, ap, subst, ◌∙◌}
use Rattle.std.specs.Prelude.{Option, None, Some, Ok, Err, IfSome, IsOkUnless, option_map}
use Rattle.std.specs.Option.{option_or}
use Rattle.client_core.proofs.SetupOf.{frames_of_setup-numbered}
use Rattle.client_registry.specs.Acceptance.{size_refusal}
use Rattle.client_registry.specs.Run.{Offsets}
use Rattle.client_registry.specs.Setup.{Setup}
use Rattle.client_registry.specs.declared.faults.SizeFault.{SizeFault}
use Rattle.client_registry.specs.declared.faults.SizeFault.TheVariants as sizes
use Rattle.index_setup.proofs.BuildErrors.{failed, first_of, same_fault, second_none}
use Rattle.index_setup.specs.Entries.{label_clash, place_clash}
use Rattle.index_setup.specs.Refused.{build_refusal, clash_refusal, refused_by_size}
use Rattle.index_setup.specs.declared.fault.BuildFault.{BuildFault}
use Rattle.index_setup.specs.declared.fault.BuildFault.TheVariants as builds
use Rattle.keyed_fn.specs.KeyedFn.{KeyedFn}
use Rattle.sse_model.specs.Compared.{Labels, Places}
use Rattle.sse_model.specs.Names.{Table}
use Rattle.sse_model.specs.Wire.{frames_of_setup}
use Rattle.sse_script.specs.Shown.{Cause}
use Rattle.sse_script.specs.declared.refusal.Refusal.{Refusal}
use Rattle.def_script_meaning.specs.Carries.{collision_cause}
use Rattle.def_script_meaning.specs.Refused.{size_refused}
use Rattle.client_core.specs.Owes.{AreNumbered}
use Rattle.sse_client.specs.SetupFaults.{setup_answer}
use Rattle.script_run_texts.specs.Stops.{command_cause}
use Rattle.script_run_texts.specs.declared.command_stop.CommandStop.{CommandStop}
use Rattle.script_run_texts.specs.declared.command_stop.CommandStop.TheVariants as stops

-- the frames of a setup are numbered one after the other
pub frames_of_setup-are_numbered : (t : Table) (o : Offsets) (s : Setup) → AreNumbered o.frame (frames_of_setup t o s)
frames_of_setup-are_numbered = frames_of_setup-numbered AreNumbered (λ q. tt) (λ q frame frames e rest. (e, rest))

-- The clash of a setup's labels or places, as the client finds it and as the setup's values show it.

-- the cause for which it stops the run
abbrev pub clash_cause : (labels places : Option (ℕ × ℕ)) → Option Cause
clash_cause labels places = option_map collision_cause (option_or (option_map (λ words. Labels words.0 words.1) labels) (option_map (λ blocks. Places blocks.0 blocks.1) places))

no_clash_cause : (labels places : Option (ℕ × ℕ)) → first_of labels places ≡ None → clash_cause labels places ≡ None
no_clash_cause None None none = refl
no_clash_cause None (Some blocks) none = absurd (cc)
no_clash_cause (Some words) places none = absurd (cc)

found_cause : (labels places : Option (ℕ × ℕ)) (fault : BuildFault) (stop : CommandStop) → first_of labels places ≡ Some fault → setup_answer fault ≡ Err stop → clash_cause labels places ≡ Some (command_cause stop)
found_cause None None fault stop found answer = absurd (cc)
found_cause None (Some blocks) fault stop found answer =
    let is : builds.PlaceClash blocks.0 blocks.1 ≡ fault = cc in
    let it : setup_answer (builds.PlaceClash blocks.0 blocks.1) ≡ Err stop = subst (λ x. setup_answer x ≡ Err stop) (sym is) answer in
    let same : stops.PlaceClash blocks.0 blocks.1 ≡ stop = cc in
    ap (λ s. Some (command_cause s)) same
found_cause (Some words) places fault stop found answer =
    let is : builds.LabelClash words.0 words.1 ≡ fault = cc in
    let it : setup_answer (builds.LabelClash words.0 words.1) ≡ Err stop = subst (λ x. setup_answer x ≡ Err stop) (sym is) answer in
    let same : stops.LabelClash words.0 words.1 ≡ stop = cc in
    ap (λ s. Some (command_cause s)) same

-- a clash refuses no command
no_refusal : (labels places : Option (ℕ × ℕ)) (fault : BuildFault) (refusal : Refusal) → first_of labels places ≡ Some fault → setup_answer fault ≡ Ok refusal → ⊥
no_refusal None None fault refusal found answer = absurd (cc)
no_refusal None (Some blocks) fault refusal found answer =
    let is : builds.PlaceClash blocks.0 blocks.1 ≡ fault = cc in
    let it : setup_answer (builds.PlaceClash blocks.0 blocks.1) ≡ Ok refusal = subst (λ x. setup_answer x ≡ Ok refusal) (sym is) answer in
    absurd (cc)
no_refusal (Some words) places fault refusal found answer =
    let is : builds.LabelClash words.0 words.1 ≡ fault = cc in
    let it : setup_answer (builds.LabelClash words.0 words.1) ≡ Ok refusal = subst (λ x. setup_answer x ≡ Ok refusal) (sym is) answer in
    absurd (cc)

-- What a plan was refused for.

pub record IsRefusedPlan (T : Type 0) (f : KeyedFn) (key : List ℕ) (s : Setup) (fault : BuildFault) : Type 0 where
  pub refused : IfSome (size_refusal s) (λ size. failed T fault ≡ failed T (refused_by_size size))
  pub clash : size_refusal s ≡ None → failed T fault ≢ failed T builds.NoMemory → IfSome (clash_refusal f key s) (λ clash. failed T fault ≡ failed T clash)
  pub built : build_refusal f key s ≡ None → IsOkUnless (failed T fault) builds.NoMemory

-- memory is wanting, or not
wanting : (T : Type 0) (fault : BuildFault) → (fault ≡ builds.NoMemory) ⊎ (failed T fault ≢ failed T builds.NoMemory)
wanting T (builds.BadParameter which value) = inr (λ e. absurd (cc))
wanting T (builds.ListTooLong word n) = inr (λ e. absurd (cc))
wanting T (builds.TooManyBytes n) = inr (λ e. absurd (cc))
wanting T (builds.LabelClash first second) = inr (λ e. absurd (cc))
wanting T (builds.PlaceClash first second) = inr (λ e. absurd (cc))
wanting T builds.NoMemory = inl refl

-- the answer to a size that is refused
size_answer : (size : SizeFault) → setup_answer (refused_by_size size) ≡ Ok (size_refused size)
size_answer (sizes.BadParameter which value) = refl
size_answer (sizes.ListTooLong word n) = refl
size_answer (sizes.TooManyBytes n) = refl

module _ (f : KeyedFn) (key : List ℕ) (s : Setup) where
  -- where nothing refuses the setup, no values of it are equal
  pub no_clash-planned : build_refusal f key s ≡ None → clash_cause (label_clash f key s) (place_clash f key s) ≡ None
  no_clash-planned accepted =
      no_clash_cause (label_clash f key s) (place_clash f key s) (second_none (option_map refused_by_size (size_refusal s)) (clash_refusal f key s) accepted)

  module _ (T : Type 0) (fault : BuildFault) (plan : IsRefusedPlan T f key s fault) where
    -- its size, its first clash, or want of memory
    abbrev IsFor : Type 0
    IsFor =
        ((size : SizeFault) × (size_refusal s ≡ Some size) × (fault ≡ refused_by_size size))
        ⊎ ((size_refusal s ≡ None) × (clash_refusal f key s ≡ Some fault))
        ⊎ ((size_refusal s ≡ None) × (fault ≡ builds.NoMemory))

    is_for : IsFor
    is_for = by (size_refusal s) refl
      where
        by_clash : size_refusal s ≡ None → (c : Option BuildFault) → clash_refusal f key s ≡ c → IsFor
        by_clash none None e = inr (inr (none, plan.built ((λ i. option_or (option_map refused_by_size (none i)) (clash_refusal f key s)) ∙ e)))
        by_clash none (Some clash) e = elim (wanting T fault) [
          | inl memory ↦ inr (inr (none, memory))
          | inr differ ↦
              let same : fault ≡ clash = same_fault T fault clash (subst (λ c. IfSome c (λ clash. failed T fault ≡ failed T clash)) e (plan.clash none differ)) in
              inr (inl (none, e ∙ ap (λ x. Some x) (sym same)))
        ]

        by : (r : Option SizeFault) → size_refusal s ≡ r → IsFor
        by None e = by_clash e (clash_refusal f key s) refl
        by (Some size) e = inl (size, e, same_fault T fault (refused_by_size size) (subst (λ r. IfSome r (λ size. failed T fault ≡ failed T (refused_by_size size))) e plan.refused))

    -- where the command is refused, it is for the size
    pub refused_size : (refusal : Refusal) → setup_answer fault ≡ Ok refusal → option_map size_refused (size_refusal s) ≡ Some refusal
    refused_size refusal answer = elim is_for [
      | inl size ↦
          let told : setup_answer (refused_by_size size.0) ≡ Ok refusal = subst (λ x. setup_answer x ≡ Ok refusal) size.2 answer in
          let same : size_refused size.0 ≡ refusal = cc (size_answer size.0, told) in
          ap (option_map size_refused) size.1 ∙ ap (λ r. Some r) same
      | inr (inl clash) ↦ absurd (no_refusal (label_clash f key s) (place_clash f key s) fault refusal clash.1 answer)
      | inr (inr memory) ↦ absurd (let told : setup_answer builds.NoMemory ≡ Ok refusal = subst (λ x. setup_answer x ≡ Ok refusal) memory.1 answer in cc)
    ]

    -- where the run stops, the size is right, and two values are equal or memory is wanting
    pub stopped_plan : (stop : CommandStop) → setup_answer fault ≡ Err stop
        → (size_refusal s ≡ None) × ((clash_cause (label_clash f key s) (place_clash f key s) ≡ Some (command_cause stop)) ⊎ (stop ≡ stops.Memory))
    stopped_plan stop answer = elim is_for [
      | inl size ↦
          let told : setup_answer (refused_by_size size.0) ≡ Err stop = subst (λ x. setup_answer x ≡ Err stop) size.2 answer in
          let no : Ok (size_refused size.0) ≡ Err stop = sym (size_answer size.0) ∙ told in
          absurd (cc)
      | inr (inl clash) ↦ (clash.0, inl (found_cause (label_clash f key s) (place_clash f key s) fault stop clash.1 answer))
      | inr (inr memory) ↦
          let told : setup_answer builds.NoMemory ≡ Err stop = subst (λ x. setup_answer x ≡ Err stop) memory.1 answer in
          let same : stop ≡ stops.Memory = cc in
          (memory.0, inr same)
    ]
