-- A setup that is planned again: its plan's faults, and what is owed of it.
use Rattle.std.proofs.Common.{◌≡◌, ◌≢◌, ◌⊎◌, inl, inr, ◌-◌, ℕ, List, Option, None, Some, refl, sym, ap, ◌∙◌, subst, arith}
use Rattle.std.specs.Prelude.{IfSome, IsOkUnless, IsSome, Ok, Err, Result, option_map}
use Rattle.std.specs.Option.{option_or}
use Rattle.client_registry.specs.Acceptance.{size_refusal}
use Rattle.client_registry.specs.Run.{Offsets}
use Rattle.client_registry.specs.Setup.{Setup}
use Rattle.index_setup.proofs.BuildErrors.{failed, first_of, same_fault}
use Rattle.client_renewal.specs.declared.renewal_fault.RenewalFault.{RenewalFault}
use Rattle.client_renewal.specs.declared.renewal_fault.RenewalFault.TheVariants as renewals
use Rattle.index_setup.specs.Entries.{key_table}
use Rattle.index_setup.specs.Refused.{build_refusal, clash_refusal, refused_by_size}
use Rattle.index_setup.specs.declared.fault.BuildFault.{BuildFault}
use Rattle.index_setup.specs.declared.fault.BuildFault.TheVariants as builds
use Rattle.keyed_fn.specs.KeyedFn.{KeyedFn}
use Rattle.sse_model.specs.Compared.{Collision, Labels, Numbers, Places, collision_of_setup}
use Rattle.client_core.proofs.ResumeLaws.{first-setup}
use Rattle.client_core.specs.Owes.{Owes}
use Rattle.client_core.specs.Renewals.{alone, renewal_clash, values_refusal}
use Rattle.client_core.specs.ResumeFaults.{collision_fault, setup_fault}
use Rattle.client_core.specs.Resumes.{Replans, first_of_last}
use Rattle.client_core.specs.TakenViews.{first_number}
use Rattle.client_core.specs.States.{BehindState, ClientOf}
use Rattle.client_core.specs.declared.resume_fault.ResumeFault.{ResumeFault}
use Rattle.client_core.specs.declared.resume_fault.ResumeFault.TheVariants as faults

-- the equal values that a setup's plan finds
abbrev pub found : Option (ℕ × ℕ) → Option (ℕ × ℕ) → Option Collision
found labels places = option_or (option_map (λ words. Labels words.0 words.1) labels) (option_map (λ blocks. Places blocks.0 blocks.1) places)

pub none_found : (labels places : Option (ℕ × ℕ)) → first_of labels places ≡ None → found labels places ≡ None
none_found None None none = refl
none_found None (Some blocks) none = absurd (cc)
none_found (Some words) places none = absurd (cc)

-- memory is wanting, or not
wanting : (T : Type 0) (fault : BuildFault) → (fault ≡ builds.NoMemory) ⊎ (failed T fault ≢ failed T builds.NoMemory)
wanting T (builds.BadParameter which value) = inr (λ e. absurd (cc))
wanting T (builds.ListTooLong word n) = inr (λ e. absurd (cc))
wanting T (builds.TooManyBytes n) = inr (λ e. absurd (cc))
wanting T (builds.LabelClash first second) = inr (λ e. absurd (cc))
wanting T (builds.PlaceClash first second) = inr (λ e. absurd (cc))
wanting T builds.NoMemory = inl refl

module _ (f : KeyedFn) (key : List ℕ) (s : Setup) where
  module _ (T : Type 0) (accepted : size_refusal s ≡ None) (cause : BuildFault)
      (clash : size_refusal s ≡ None → failed T cause ≢ failed T builds.NoMemory → IfSome (clash_refusal f key s) (λ x. failed T cause ≡ failed T x))
      (built : build_refusal f key s ≡ None → IsOkUnless (failed T cause) builds.NoMemory) where
    -- the plan of a setup of accepted size fails for want of memory, or for the first clash
    pub is_for : (fault : Option BuildFault) → clash_refusal f key s ≡ fault → (cause ≡ builds.NoMemory) ⊎ (clash_refusal f key s ≡ Some cause)
    is_for None e = inl (built (ap (λ r. option_or (option_map refused_by_size r) (clash_refusal f key s)) accepted ∙ e))
    is_for (Some x) e = elim (wanting T cause) [
      | inl memory ↦ inl memory
      | inr differ ↦
          let same : cause ≡ x = same_fault T cause x (subst (λ c. IfSome c (λ x. failed T cause ≡ failed T x)) e (clash accepted differ)) in
          inr (e ∙ ap (λ y. Some y) (sym same))
    ]

-- The faults of its plan.

no_other : (c : Option Collision) (cause : RenewalFault) → setup_fault cause ≡ None → Some cause ≡ option_map renewal_clash c → ⊥
no_other None cause none e = absurd (cc)
no_other (Some (Labels a b)) cause none e = let same : cause ≡ renewals.LabelClash a b = cc in let bad : setup_fault (renewals.LabelClash a b) ≡ None = subst (λ x. setup_fault x ≡ None) same none in absurd (cc)
no_other (Some (Places a b)) cause none e = let same : cause ≡ renewals.PlaceClash a b = cc in let bad : setup_fault (renewals.PlaceClash a b) ≡ None = subst (λ x. setup_fault x ≡ None) same none in absurd (cc)
no_other (Some (Numbers a b)) cause none e = let same : cause ≡ renewals.NoMemory = cc in let bad : setup_fault renewals.NoMemory ≡ None = subst (λ x. setup_fault x ≡ None) same none in absurd (cc)

-- it has a fault that it means
pub means : (c : Option Collision) (cause : RenewalFault) → (cause ≢ renewals.NoMemory → Some cause ≡ option_map renewal_clash c) → IsSome (setup_fault cause)
means c (renewals.LabelClash i j) named = refl
means c (renewals.PlaceClash i j) named = refl
means c renewals.NoMemory named = refl
means c (renewals.KeyUsed epoch) named = absurd (no_other c (renewals.KeyUsed epoch) refl (named (λ e. absurd (cc))))
means c (renewals.TooManyDocuments n) named = absurd (no_other c (renewals.TooManyDocuments n) refl (named (λ e. absurd (cc))))
means c (renewals.TooManyPairs n) named = absurd (no_other c (renewals.TooManyPairs n) refl (named (λ e. absurd (cc))))
means c (renewals.ListTooLong word n) named = absurd (no_other c (renewals.ListTooLong word n) refl (named (λ e. absurd (cc))))
means c (renewals.TooManyBytes n) named = absurd (no_other c (renewals.TooManyBytes n) refl (named (λ e. absurd (cc))))
means c renewals.HistoryFull named = absurd (no_other c renewals.HistoryFull refl (named (λ e. absurd (cc))))

label_named : (c : Option Collision) (i j : ℕ) → Some (renewals.LabelClash i j) ≡ option_map renewal_clash c → option_map collision_fault c ≡ Some (faults.LabelClash i j)
label_named None i j e = absurd (cc)
label_named (Some (Labels a b)) i j e = cc
label_named (Some (Places a b)) i j e = absurd (cc)
label_named (Some (Numbers a b)) i j e = absurd (cc)

place_named : (c : Option Collision) (i j : ℕ) → Some (renewals.PlaceClash i j) ≡ option_map renewal_clash c → option_map collision_fault c ≡ Some (faults.PlaceClash i j)
place_named None i j e = absurd (cc)
place_named (Some (Labels a b)) i j e = absurd (cc)
place_named (Some (Places a b)) i j e = cc
place_named (Some (Numbers a b)) i j e = absurd (cc)

-- want of memory, or two equal values
is_named : (c : Option Collision) (cause : RenewalFault) (fault : ResumeFault) → (cause ≢ renewals.NoMemory → Some cause ≡ option_map renewal_clash c) → setup_fault cause ≡ Some fault
    → (option_map collision_fault c ≡ Some fault) ⊎ (fault ≡ faults.NoMemory)
is_named c (renewals.LabelClash i j) fault named is = inl (label_named c i j (named (λ e. absurd (cc))) ∙ is)
is_named c (renewals.PlaceClash i j) fault named is = inl (place_named c i j (named (λ e. absurd (cc))) ∙ is)
is_named c renewals.NoMemory fault named is = inr (cc)
is_named c (renewals.KeyUsed epoch) fault named is = absurd (cc)
is_named c (renewals.TooManyDocuments n) fault named is = absurd (cc)
is_named c (renewals.TooManyPairs n) fault named is = absurd (cc)
is_named c (renewals.ListTooLong word n) fault named is = absurd (cc)
is_named c (renewals.TooManyBytes n) fault named is = absurd (cc)
is_named c renewals.HistoryFull fault named is = absurd (cc)

unnamed : (c : Option Collision) → None ≡ option_map renewal_clash c → c ≡ None
unnamed None e = refl
unnamed (Some c) e = absurd (cc)

-- a plan that failed for another cause than memory
pub differs_setup : {T : Type 0} (cause : RenewalFault) → cause ≢ renewals.NoMemory → ◌≢◌ {A = Result T RenewalFault} (Err cause) (Err renewals.NoMemory)
differs_setup cause other wants =
    let same : cause ≡ renewals.NoMemory = cc in
    other same

module _ (f : KeyedFn) (key : List ℕ) (o : Offsets) (s : Setup) (next : ℕ) where
  pub replans-refused_setup : (cause : RenewalFault) (fault : ResumeFault) → (cause ≢ renewals.NoMemory → Some cause ≡ values_refusal f key o.epoch s) → setup_fault cause ≡ Some fault
      → Replans f key o (alone s) next (Err fault)
  replans-refused_setup cause fault named is = is_named (collision_of_setup (key_table f key s) o.epoch s) cause fault named is

  -- the client owes the setup's frames from that number on
  pub replans-setup : (client : ClientOf BehindState) → client.key ≡ key → first_number client.state ≡ next → Owes f (λ epoch. key) o (alone s) (next - o.frame) client.state
      → None ≡ values_refusal f key o.epoch s → Replans f key o (alone s) next (Ok client)
  replans-setup client same first owes none =
      let at : next - o.frame ≡ next - first_of_last f key o (alone s) = omega (arith, first-setup f key o s) in (
        same,
        first,
        subst (λ k. Owes f (λ epoch. key) o (alone s) k client.state) at owes,
        unnamed (collision_of_setup (key_table f key s) o.epoch s) none,
      )
