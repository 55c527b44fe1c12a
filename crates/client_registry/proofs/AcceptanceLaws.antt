-- When a list is the first that is too long, and when none is.
use Rattle.std.proofs.Common.{◌≡◌, ℕ, ◌+◌, ◌<◌, Bool, true, false, cond, List, length, Option, None, Some, is_none, nat_lt, position, slice_get, refl, ap, ◌∙◌, arith}
use Rattle.std.specs.Prelude.{slice_index, option_map}
use Rattle.std.specs.List.{position_or_len}
use Rattle.std.proofs.lemmas.Bool.{lt-ltb, le-ltb}
use Rattle.std.proofs.lemmas.List.Sums.{position_or_len_is}
use Rattle.std.proofs.lemmas.Option.{get_or_from_slice_get, slice_get_within}
use Rattle.two_level.specs.Plan.{Plan, plan, block_count}
use Rattle.client_registry.specs.Acceptance.{list_refusal}
use Rattle.client_registry.specs.Documents.{list_lengths}
use Rattle.client_registry.specs.Setup.{Setup}
use Rattle.client_registry.specs.declared.faults.SizeFault.TheVariants.{ListTooLong}

-- the first place that passes
position-at : {X : Type 0} (p : X → Bool) (xs : List X) (i : ℕ) → i < length xs → position_or_len p xs ≡ i → position p xs ≡ Some i
position-at p xs i within e = ap (λ n. cond (nat_lt n (length xs)) (Some n) None) e ∙ ap (λ b. cond b (Some i) None) (lt-ltb i (length xs) within)

-- no place that passes
position-none : {X : Type 0} (p : X → Bool) (xs : List X) → position_or_len p xs ≡ length xs → position p xs ≡ None
position-none p xs e =
    let n = length xs in
    ap (λ m. cond (nat_lt m n) (Some m) None) e ∙ ap (λ b. cond b (Some n) None) (le-ltb n n (omega arith))

blocks_in : Plan → ℕ
blocks_in p = p.pointer_blocks + p.data_blocks

-- a plan that is there, by the count of its blocks
pub is_planned : (o : Option Plan) (n : ℕ) → option_map (λ (p : Plan). p.pointer_blocks + p.data_blocks) o ≡ Some n → (is_none o ≡ false) × (block_count o ≡ n)
is_planned None n e = absurd (cc)
is_planned (Some p) n e = let same : p.pointer_blocks + p.data_blocks ≡ n = cc in (refl, same)

pub is_unplanned : (o : Option Plan) → option_map (λ (p : Plan). p.pointer_blocks + p.data_blocks) o ≡ None → is_none o ≡ true
is_unplanned None e = refl
is_unplanned (Some p) e = absurd (cc)

module _ (s : Setup) where
  -- where each list has a plan, none is too long
  pub list_refusal-none : ((k : ℕ) → k < length (list_lengths s.documents) → is_none (plan s.shape (slice_index (list_lengths s.documents) k)) ≡ false) → list_refusal s ≡ None
  list_refusal-none short =
      let lens = list_lengths s.documents in
      let none = position-none (λ n. is_none (plan s.shape n)) lens (position_or_len_is (λ n. is_none (plan s.shape n)) lens (length lens) 0 (omega arith) short (λ lt. absurd (omega arith))) in
      ap (option_map (λ word. ListTooLong word (slice_index lens word))) none

  -- the first list without a plan is the one that is too long
  pub list_refusal-at : (w n : ℕ) → slice_get (list_lengths s.documents) w ≡ Some n → ((k : ℕ) → k < w → is_none (plan s.shape (slice_index (list_lengths s.documents) k)) ≡ false) → is_none (plan s.shape n) ≡ true → list_refusal s ≡ Some (ListTooLong w n)
  list_refusal-at w n at short long =
      let lens = list_lengths s.documents in
      let within = slice_get_within lens w n at in
      let here = get_or_from_slice_get lens w n 0 at in
      let first = position-at (λ m. is_none (plan s.shape m)) lens w within (position_or_len_is (λ m. is_none (plan s.shape m)) lens w 0 (omega (arith, within)) short (λ lt. ap (λ m. is_none (plan s.shape m)) here ∙ long)) in
      ap (option_map (λ word. ListTooLong word (slice_index lens word))) first ∙ ap (λ m. Some (ListTooLong w m)) here
