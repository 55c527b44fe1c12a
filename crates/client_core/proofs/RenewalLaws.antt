-- A renewal's setup: of a client that stands for a run it is the one that the definitions make, and the faults of its plan are theirs.
use Rattle.std.proofs.Common.{◌≡◌, ◌≢◌, inl, inr, ℕ, List, [], ◌∷◌, ◌++◌, length, Option, None, Some, refl, sym, ap, map, ◌∙◌, subst, arith}
use Rattle.std.specs.Prelude.{Ok, Err, IfOk, IfSome, IsErrAnd, IsOkUnless, IsSome, Result, option_map}
use Rattle.std.specs.Option.{option_or}
use Rattle.client_live_docs.proofs.Renewed.{renewed-are_live}
use Rattle.client_live_docs.specs.AreLive.{AreLive}
use Rattle.client_records.specs.Records.{renewal_record}
use Rattle.client_registry.proofs.LiveOnce.{rising_once}
use Rattle.client_registry.specs.Acceptance.{blocks_of, size_refusal}
use Rattle.client_registry.specs.Collected.{Collected}
use Rattle.client_registry.specs.Document.{Document}
use Rattle.client_registry.specs.Documents.{words_of}
use Rattle.client_registry.specs.Epochs.{behind, setup_renewed}
use Rattle.client_registry.specs.Registered.{facts}
use Rattle.client_registry.specs.Run.{Offsets, Run}
use Rattle.client_registry.specs.Setup.{Setup, setup_with}
use Rattle.client_renewal.specs.Refusals.{key_refusal, live_refusal, refusal_to_send, renewal_refusal}
use Rattle.index_setup.proofs.BuildErrors.{failed, first_of}
use Rattle.index_setup.specs.Entries.{key_table, label_clash, place_clash}
use Rattle.index_setup.specs.Refused.{build_refusal, clash_refusal}
use Rattle.index_setup.specs.declared.fault.BuildFault.{BuildFault}
use Rattle.index_setup.specs.declared.fault.BuildFault.TheVariants as builds
use Rattle.keyed_fn.specs.KeyedFn.{KeyedFn}
use Rattle.keyed_fn.specs.KeyFormulas.{mark_of, plain_key}
use Rattle.sse_frames.specs.Frames.{frame_bytes}
use Rattle.sse_model.proofs.SetupEpochs.{collision_of_setup-epoch}
use Rattle.sse_model.specs.Wire.{frames_of_setup}
use Rattle.client_core.proofs.PlanLaws.{passed_on}
use Rattle.client_core.proofs.ReplannedSetup.{found, is_for, none_found}
use Rattle.word_keys.specs.HashNumbers.{numbers_of_key}
use Rattle.client_core.specs.Plans.{RenewalPlan}
use Rattle.client_core.specs.Renewals.{IsOfDocs, IsRenewalPlan, fault_of_build, planned_setup, renewal_clash, renewal_fault, values_refusal}
use Rattle.client_core.specs.StandsFor.{StandsFor}
use Rattle.client_core.specs.States.{ReadyState}
use Rattle.client_renewal.specs.declared.renewal_fault.RenewalFault.{RenewalFault}
use Rattle.client_renewal.specs.declared.renewal_fault.RenewalFault.TheVariants as faults

is_meant : (labels places : Option (ℕ × ℕ)) (cause : BuildFault) → first_of labels places ≡ Some cause → IsSome (fault_of_build cause)
is_meant None None cause clash = absurd (cc)
is_meant None (Some blocks) cause clash =
    let same : builds.PlaceClash blocks.0 blocks.1 ≡ cause = cc in
    subst (λ x. IsSome (fault_of_build x)) same refl
is_meant (Some words) places cause clash =
    let same : builds.LabelClash words.0 words.1 ≡ cause = cc in
    subst (λ x. IsSome (fault_of_build x)) same refl

is_found : (labels places : Option (ℕ × ℕ)) (cause : BuildFault) (fault : RenewalFault) → first_of labels places ≡ Some cause → fault_of_build cause ≡ Some fault
    → option_map renewal_clash (found labels places) ≡ Some fault
is_found None None cause fault clash is = absurd (cc)
is_found None (Some blocks) cause fault clash is =
    let same : builds.PlaceClash blocks.0 blocks.1 ≡ cause = cc in
    subst (λ x. fault_of_build x ≡ Some fault) (sym same) is
is_found (Some words) places cause fault clash is =
    let same : builds.LabelClash words.0 words.1 ≡ cause = cc in
    subst (λ x. fault_of_build x ≡ Some fault) (sym same) is

module _ (f : KeyedFn) (key : List ℕ) (s : Setup) where
  -- what is refused in one epoch is in each
  in_epoch : (epoch : ℕ) → values_refusal f key epoch s ≡ option_map renewal_clash (found (label_clash f key s) (place_clash f key s))
  in_epoch epoch = ap (option_map renewal_clash) (collision_of_setup-epoch f key s epoch)

  pub no_values_refused : (epoch : ℕ) → clash_refusal f key s ≡ None → None ≡ values_refusal f key epoch s
  no_values_refused epoch none = sym (in_epoch epoch ∙ ap (option_map renewal_clash) (none_found (label_clash f key s) (place_clash f key s) none))

  module _ (T : Type 0) (accepted : size_refusal s ≡ None) (cause : BuildFault)
      (clash : size_refusal s ≡ None → failed T cause ≢ failed T builds.NoMemory → IfSome (clash_refusal f key s) (λ x. failed T cause ≡ failed T x))
      (built : build_refusal f key s ≡ None → IsOkUnless (failed T cause) builds.NoMemory) where
    pub means_renewal : IsSome (fault_of_build cause)
    means_renewal = elim (is_for f key s T accepted cause clash built (clash_refusal f key s) refl) [
      | inl memory ↦ subst (λ x. IsSome (fault_of_build x)) (sym memory) refl
      | inr is ↦ is_meant (label_clash f key s) (place_clash f key s) cause is
    ]

    pub values_refused : (epoch : ℕ) (fault : RenewalFault) → fault_of_build cause ≡ Some fault → (fault ≡ faults.NoMemory → ⊥) → Some fault ≡ values_refusal f key epoch s
    values_refused epoch fault is other = elim (is_for f key s T accepted cause clash built (clash_refusal f key s) refl) [
      | inl memory ↦ absurd (other (let told : Some faults.NoMemory ≡ Some fault = subst (λ x. fault_of_build x ≡ Some fault) memory is in cc))
      | inr named ↦ sym (in_epoch epoch ∙ is_found (label_clash f key s) (place_clash f key s) cause fault named is)
    ]

-- What is planned for a client that stands for a run.

-- if none of three causes applies, neither of the first two does
no_first : {X : Type 0} (a b c : Option X) → option_or a (option_or b c) ≡ None → option_or a b ≡ None
no_first None None c none = refl
no_first None (Some x) c none = absurd (cc)
no_first (Some x) b c none = absurd (cc)

module _ (f : KeyedFn) (keys : ℕ → List ℕ) (o : Offsets) (run : Run) (state : ReadyState) (stands : StandsFor f keys o run state) where
  abbrev renewed : Setup
  renewed = setup_renewed run

  -- the documents of the renewal's setup are live, and no others are
  pub renewed_live : AreLive (facts state.registry).live renewed.documents
  renewed_live = renewed-are_live (facts state.registry).live run stands.kept.0 (λ i. (stands.registry i).live)

  pub renewed_alone : (docs : List Document) → AreLive (facts state.registry).live docs → docs ≡ renewed.documents
  renewed_alone docs are = rising_once docs renewed.documents are.rising renewed_live.rising (λ id. are.same id ∙ sym (renewed_live.same id))

  -- its first frame has the number of the client's next one
  pub renewed_number : (behind o run).frame ≡ state.frames
  renewed_number = omega (arith, stands.number)

  pub renewed_setup : setup_with renewed.documents state.past.b state.past.big state.past.pad ≡ renewed
  renewed_setup = λ i. record { documents = renewed.documents; shape = sym stands.past.shape i; pad = sym stands.past.pad i }

  module _ (key : List ℕ) (marks : List (List ℕ)) (mark : List ℕ) (is_mark : mark ≡ mark_of f key) where
    abbrev first : Option RenewalFault
    first = renewal_refusal marks mark state.frames (setup_with renewed.documents state.past.b state.past.big state.past.pad)

    same_first : first ≡ renewal_refusal marks (mark_of f key) (behind o run).frame renewed
    same_first = λ i. renewal_refusal marks (is_mark i) (sym renewed_number i) (renewed_setup i)

    -- what is refused for its key or for what is live
    pub refused_first : {A B : Type 0} (r : Result A RenewalFault) (s : Result B RenewalFault) (x : RenewalFault) → r ≡ Err x → s ≡ Err x
        → IfSome (option_or (key_refusal marks mark) (live_refusal renewed.documents)) (λ fault. r ≡ Err fault) → IfSome (option_or (key_refusal marks (mark_of f key)) (live_refusal renewed.documents)) (λ fault. s ≡ Err fault)
    refused_first r s x one two told =
        subst (λ m. IfSome (option_or (key_refusal marks m) (live_refusal renewed.documents)) (λ fault. s ≡ Err fault)) is_mark
        (passed_on (option_or (key_refusal marks mark) (live_refusal renewed.documents)) (λ fault. fault) r s x one two told)

    -- nothing is refused for these
    pub not_refused_first : {A : Type 0} (r : Result A RenewalFault) → None ≡ first → IfSome (option_or (key_refusal marks (mark_of f key)) (live_refusal renewed.documents)) (λ fault. r ≡ Err fault)
    not_refused_first r none =
        let two : option_or (key_refusal marks (mark_of f key)) (live_refusal renewed.documents) ≡ None =
        no_first (key_refusal marks (mark_of f key)) (live_refusal renewed.documents) (refusal_to_send (behind o run).frame renewed) (sym (none ∙ same_first)) in
        subst (λ p. IfSome p (λ fault. r ≡ Err fault)) (sym two) tt

    -- what is refused before the values are made, and for these
    pub renewal_refused : (fault : RenewalFault) → Some fault ≡ first → Some fault ≡ renewal_fault f key marks o run
    renewal_refused fault is = ap (λ r. option_or r (values_refusal f key (behind o run).epoch renewed)) (is ∙ same_first)

    pub renewal_values : (docs : List Document) (x : Option RenewalFault) → AreLive (facts state.registry).live docs → None ≡ first
        → x ≡ values_refusal f key (behind o run).epoch (setup_with docs state.past.b state.past.big state.past.pad) → x ≡ renewal_fault f key marks o run
    renewal_values docs x are none is =
        is
        ∙ ap (λ ds. values_refusal f key (behind o run).epoch (setup_with ds state.past.b state.past.big state.past.pad)) (renewed_alone docs are)
        ∙ ap (values_refusal f key (behind o run).epoch) renewed_setup
        ∙ ap (λ r. option_or r (values_refusal f key (behind o run).epoch renewed)) (none ∙ same_first)

    -- its frames
    pub renewal_frames : (docs : List Document) (frames : List (List ℕ)) → AreLive (facts state.registry).live docs
        → frames ≡ map frame_bytes (frames_of_setup (key_table f key (setup_with docs state.past.b state.past.big state.past.pad)) (behind o run) (setup_with docs state.past.b state.past.big state.past.pad))
        → frames ≡ map frame_bytes (frames_of_setup (key_table f key renewed) (behind o run) renewed)
    renewal_frames docs frames are is =
        is
        ∙ ap (λ ds. map frame_bytes (frames_of_setup (key_table f key (setup_with ds state.past.b state.past.big state.past.pad)) (behind o run) (setup_with ds state.past.b state.past.big state.past.pad))) (renewed_alone docs are)
        ∙ ap (λ s. map frame_bytes (frames_of_setup (key_table f key s) (behind o run) s)) renewed_setup

-- A plan of what is live.

-- what is so of a result by two of its clauses
pub both_ok : {A E : Type 0} (r : Result A E) (P Q S : A → Type 0) → ((x : A) → P x → Q x → S x) → IfOk r P → IfOk r Q → IfOk r S
both_ok (Ok x) P Q S by p q = by x p q
both_ok (Err e) P Q S by p q = tt

module _ (state : ReadyState) (mark : List ℕ) (docs : Collected) (b big pad : ℕ) (is_b : b ≡ state.past.b) (is_big : big ≡ state.past.big) (is_pad : pad ≡ state.past.pad)
    (marks : List (List ℕ)) (are : marks ≡ state.past.marks.items ++ mark ∷ []) (planned : RenewalPlan) (is : IsOfDocs mark marks docs (setup_with docs.documents b big pad) state.frames planned) where
  pub planned_for : (f : KeyedFn) (key : List ℕ) → mark ≡ mark_of f key → docs.keys ≡ numbers_of_key (plain_key f key 13) → IsRenewalPlan f key state planned
  planned_for f key is_mark hash_keys = record {
    mark = is.mark ∙ is_mark;
    payload = ap renewal_record (is.mark ∙ is_mark);
    marks = is.marks ∙ are ∙ ap (λ m. state.past.marks.items ++ m ∷ []) is_mark;
    number = is.number;
    b = is.b ∙ is_b;
    big = is.big ∙ is_big;
    pad = is.pad ∙ is_pad;
    hash_keys = ap (λ ds. ds.keys) is.docs ∙ hash_keys;
    own_words = is.own_words ∙ ap (λ (ds : Collected). length (words_of ds.documents)) (sym is.docs);
    own_blocks = is.own_blocks ∙ sym (λ i. blocks_of (setup_with (is.docs i).documents (is.b i) (is.big i) (is.pad i)));
    grammar = is.grammar;
  }

  pub planned_setup-is : planned_setup planned ≡ setup_with docs.documents state.past.b state.past.big state.past.pad
  planned_setup-is = (λ i. setup_with (is.docs i).documents (is.b i) (is.big i) (is.pad i)) ∙ (λ i. setup_with docs.documents (is_b i) (is_big i) (is_pad i))

-- an error of memory is passed on
pub memory_passed : {X : Type 0} (r : Result X RenewalFault) (x : RenewalFault) → IsErrAnd r (λ e. e ≡ x) → r ≡ Err x
memory_passed (Ok v) x is = absurd is
memory_passed (Err e) x is = ap (λ y. Err y) is
