-- Which fault a setup is refused with, from those of its labels and of its places.
use Rattle.std.proofs.Common.{◌≡◌, ℕ, List, Option, None, Some, Ok, Err, refl, sym, ap, subst}
use Rattle.std.specs.Prelude.{IfOk, IfSome, IsOkUnless, Result, option_map}
use Rattle.std.specs.Option.{option_or}
use Rattle.std.specs.Result.{result_err}
use Rattle.client_registry.specs.Acceptance.{size_refusal}
use Rattle.client_registry.specs.Setup.{Setup}
use Rattle.keyed_fn.specs.KeyedFn.{KeyedFn}
use Rattle.index_setup.specs.Entries.{label_clash, place_clash}
use Rattle.index_setup.specs.Refused.{build_refusal, clash_refusal, refused_by_size}
use Rattle.index_setup.specs.declared.fault.BuildFault.{BuildFault}
use Rattle.index_setup.specs.declared.fault.BuildFault.TheVariants.{BadParameter, LabelClash, ListTooLong, NoMemory, PlaceClash, TooManyBytes}

-- the first clash, of labels or else of places
abbrev pub first_of : Option (ℕ × ℕ) → Option (ℕ × ℕ) → Option BuildFault
first_of labels places = option_or (option_map (λ entries. LabelClash entries.0 entries.1) labels) (option_map (λ blocks. PlaceClash blocks.0 blocks.1) places)

abbrev pub failed : (A : Type 0) → BuildFault → Result A BuildFault
failed A fault = Err fault

pub same_fault : (A : Type 0) (x y : BuildFault) → failed A x ≡ failed A y → x ≡ y
same_fault A x y same = cc

-- a fault that isn't of one kind isn't of it in another result
pub other_kind : (A B : Type 0) (x y : BuildFault) → (failed B x ≡ failed B y → ⊥) → failed A x ≡ failed A y → ⊥
other_kind A B x y differ same = differ (ap (failed B) (same_fault A x y same))

-- what the fault of a result says of it
pub fails_by : {A : Type 0} (r : Result A BuildFault) (o : Option BuildFault) → result_err r ≡ o → IfSome o (λ fault. r ≡ Err fault)
fails_by (Ok x) o is = subst (λ o. IfSome o (λ fault. Ok x ≡ Err fault)) is tt
fails_by {A} (Err fault) o is = subst (λ o. IfSome o (λ other. failed A fault ≡ failed A other)) is refl

pub built_unless : {A : Type 0} (r : Result A BuildFault) → ((r ≡ Err NoMemory → ⊥) → result_err r ≡ None) → IsOkUnless r NoMemory
built_unless (Ok x) says = tt
built_unless (Err NoMemory) says = refl
built_unless (Err (BadParameter which value)) says = (let none : Some (BadParameter which value) ≡ None = says (λ e. cc) in absurd (cc))
built_unless (Err (ListTooLong word n)) says = (let none : Some (ListTooLong word n) ≡ None = says (λ e. cc) in absurd (cc))
built_unless (Err (TooManyBytes count)) says = (let none : Some (TooManyBytes count) ≡ None = says (λ e. cc) in absurd (cc))
built_unless (Err (LabelClash first second)) says = (let none : Some (LabelClash first second) ≡ None = says (λ e. cc) in absurd (cc))
built_unless (Err (PlaceClash first second)) says = (let none : Some (PlaceClash first second) ≡ None = says (λ e. cc) in absurd (cc))

-- labels that are equal come first
pub labels_named : (x : BuildFault) (labels places : Option (ℕ × ℕ)) → Some x ≡ option_map (λ entries. LabelClash entries.0 entries.1) labels → first_of labels places ≡ Some x
labels_named x None places is = absurd (cc)
labels_named x (Some words) places is = sym is

-- and places, where no labels are equal
pub places_named : (x : BuildFault) (labels places : Option (ℕ × ℕ)) → labels ≡ None → Some x ≡ option_map (λ blocks. PlaceClash blocks.0 blocks.1) places → first_of labels places ≡ Some x
places_named x None places none is = sym is
places_named x (Some words) places none is = absurd (cc)

-- no refusal at all is none of the second kind
pub second_none : {X : Type 0} (first second : Option X) → option_or first second ≡ None → second ≡ None
second_none None second clear = clear
second_none (Some x) second clear = absurd (cc)

-- and none of the first kind
pub first_none : {X : Type 0} (first second : Option X) → option_or first second ≡ None → first ≡ None
first_none None second clear = refl
first_none (Some x) second clear = absurd (cc)

pub unmapped : {X Y : Type 0} (f : X → Y) (o : Option X) → option_map f o ≡ None → o ≡ None
unmapped f None clear = refl
unmapped f (Some x) clear = absurd (cc)

-- nothing refuses a setup of an accepted size whose clash is no fault of a result
pub accepted_by : {A : Type 0} (f : KeyedFn) (key : List ℕ) (s : Setup) (r : Result A BuildFault) → size_refusal s ≡ None → ((r ≡ Err NoMemory → ⊥) → result_err r ≡ clash_refusal f key s) → IfOk r (λ _. build_refusal f key s ≡ None)
accepted_by f key s (Ok x) size says = (λ i. option_or (option_map refused_by_size (size i)) (sym (says (λ e. cc)) i))
accepted_by f key s (Err fault) size says = tt

module _ (f : KeyedFn) (key : List ℕ) (s : Setup) (clear : build_refusal f key s ≡ None) where
  -- an index that isn't refused has an accepted size
  pub size_accepted : size_refusal s ≡ None
  size_accepted =
      let size = size_refusal s in
      unmapped refused_by_size size (first_none (option_map refused_by_size size) (clash_refusal f key s) clear)

  -- and no equal labels
  pub labels_differ : label_clash f key s ≡ None
  labels_differ =
      let labels = label_clash f key s in
      let rest = second_none (option_map refused_by_size (size_refusal s)) (clash_refusal f key s) clear in
      unmapped (λ entries. LabelClash entries.0 entries.1) labels
      (first_none (option_map (λ entries. LabelClash entries.0 entries.1) labels) (option_map (λ blocks. PlaceClash blocks.0 blocks.1) (place_clash f key s)) rest)
