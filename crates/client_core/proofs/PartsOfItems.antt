-- A part of joined items holds that part of the items.
use Rattle.std.proofs.Common.{◌≡◌, ℕ, zero, suc, ◌+◌, ◌-◌, ◌*◌, ◌<◌, ◌≤◌, inl, inr, min, List, [], ◌∷◌, map, length, take, drop, get_or, refl, sym, ap, ◌∙◌, arith}
use Rattle.std.specs.Int.{div_ceil}
use Rattle.std.specs.Simd.{first_chunks}
use Rattle.std.proofs.Math.Nat.{mul-le-mul_right}
use Rattle.std.proofs.lemmas.Bool.{cases_lt}
use Rattle.std.proofs.lemmas.Grind.{div_ceil_times}
use Rattle.std.proofs.lemmas.List.{take-map, drop-map, take_all, take-take, drop-take, drop-drop, length-map, length-take-le, length-drop}
use Rattle.list_packing.specs.Parts.{parts}
use Rattle.list_packing.proofs.PartsLemmas.{parts-at}
use Rattle.sse_frames.specs.FrameViews.{items_in, entry_in, entries_in}
use Rattle.sse_frames.proofs.Chunks.{items_are, length-items_in}

drop-chunks : (size k n m : ℕ) (xs : List ℕ) → n ≡ k + m → drop k (first_chunks size n xs) ≡ first_chunks size m (drop (k * size) xs)
drop-chunks size zero n m xs e =
    let none : 0 * size ≡ 0 = omega arith in
    let all : n ≡ m = omega (arith, e) in
    ap (λ (i : ℕ). first_chunks size i xs) all ∙ ap (λ (i : ℕ). first_chunks size m (drop i xs)) (sym none)
drop-chunks size (suc k) zero m xs e = absurd (omega (arith, e))
drop-chunks size (suc k) (suc n) m xs e =
    let less : size + k * size ≡ suc k * size = omega arith in
    drop-chunks size k n m (drop size xs) (omega (arith, e))
    ∙ ap (λ (ys : List ℕ). first_chunks size m ys) (drop-drop (k * size) size xs)
    ∙ ap (λ (i : ℕ). first_chunks size m (drop i xs)) less

take-chunks : (size c n : ℕ) (xs : List ℕ) → c ≤ n → first_chunks size c (take (c * size) xs) ≡ take c (first_chunks size n xs)
take-chunks size zero n xs le = refl
take-chunks size (suc c) zero xs le = absurd (omega (arith, le))
take-chunks size (suc c) (suc n) xs le =
    let total : suc c * size ≡ size + c * size = omega arith in
    let within : size ≤ size + c * size = omega arith in
    ap (λ (i : ℕ). first_chunks size (suc c) (take i xs)) total
    ∙ ap (λ (piece : List ℕ). piece ∷ first_chunks size c (drop size (take (size + c * size) xs))) (take-take size (size + c * size) xs within)
    ∙ ap (λ (rest : List ℕ). take size xs ∷ first_chunks size c rest) (drop-take size (c * size) xs)
    ∙ ap (λ (rest : List (List ℕ)). take size xs ∷ rest) (take-chunks size c n (drop size xs) (omega (arith, le)))

next_le : (a b : ℕ) → a < b → a + 1 ≤ b
next_le a b less = omega arith

-- elements come before each part
pub before_part : (k count i : ℕ) → 0 < k → i < div_ceil count k → i * k < count
before_part k count i wide within = omega (arith, (div_ceil_times count k wide).1, mul-le-mul_right k (next_le i (div_ceil count k) within))

-- the elements of a part: k, or those that are left
abbrev pub part_count : ℕ → ℕ → ℕ → ℕ
part_count k count i = min k (count - i * k)

module _ {X : Type 0} (k count i : ℕ) (xs : List X) (long : length xs ≡ count) where
  take_min : take k (drop (i * k) xs) ≡ take (part_count k count i) (drop (i * k) xs)
  take_min = elim (cases_lt (count - i * k) k) [
    | inl few ↦
        let c : part_count k count i ≡ count - i * k = omega (arith, few) in
        let left = length-drop (i * k) xs in
        take_all k (drop (i * k) xs) (omega (arith, left, long, few)) ∙ sym (take_all (part_count k count i) (drop (i * k) xs) (omega (arith, left, long, c)))
    | inr many ↦ let c : part_count k count i ≡ k = omega (arith, many) in ap (λ n. take n (drop (i * k) xs)) (sym c)
  ]

  -- the part of a list at its place
  pub part_taken : i < div_ceil count k → get_or (parts k xs) i [] ≡ take (part_count k count i) (drop (i * k) xs)
  part_taken within = parts-at k xs i (omega (arith, within, ap (λ n. div_ceil n k) long)) ∙ take_min

module _ (size k count i : ℕ) (bytes : List ℕ) (some : 0 < size) (wide : 0 < k) (whole : length bytes ≡ count * size) (within : i < div_ceil count k) where
  abbrev c : ℕ
  c = part_count k count i

  first : i * k < count
  first = before_part k count i wide within

  abbrev rest : List ℕ
  rest = drop (i * k * size) bytes

  first_bytes : i * k * size + size ≤ count * size
  first_bytes =
      let more : (i * k + 1) * size ≤ count * size = mul-le-mul_right size (next_le (i * k) count first) in
      let distributed : (i * k + 1) * size ≡ i * k * size + size = omega arith in
      omega (arith, more, distributed)

  place : i * (k * size) ≡ i * k * size
  place = omega arith

  -- there is such a part
  pub there : i < div_ceil (length bytes) (k * size)
  there =
      let d : ℕ = div_ceil (length bytes) (k * size) in
      let positive : 0 < k * size = let one : 1 * size ≤ k * size = mul-le-mul_right size wide in omega (arith, one, some) in
      let enough : length bytes ≤ d * (k * size) = (div_ceil_times (length bytes) (k * size) positive).0 in
      elim (cases_lt i d) [
        | inl lt ↦ lt
        | inr ge ↦ let few : d * (k * size) ≤ i * (k * size) = mul-le-mul_right (k * size) (omega (arith, ge)) in absurd (omega (arith, few, enough, whole, place, first_bytes, some))
      ]

  left_bytes : length rest ≡ (count - i * k) * size
  left_bytes =
      let split : count ≡ (count - i * k) + i * k = omega (arith, first) in
      let product : count * size ≡ (count - i * k) * size + i * k * size = (let distributed : ((count - i * k) + i * k) * size ≡ (count - i * k) * size + i * k * size = omega arith in ap (λ n. n * size) split ∙ distributed) in
      omega (arith, length-drop (i * k * size) bytes, whole, product)

  -- the bytes of a part
  pub part_bytes : get_or (parts (k * size) bytes) i [] ≡ take (c * size) rest
  part_bytes =
      parts-at (k * size) bytes i there
      ∙ ap (λ n. take (k * size) (drop n bytes)) place
      ∙ elim (cases_lt (count - i * k) k) [
        | inl few ↦
            let c_is : c ≡ count - i * k = omega (arith, few) in
            let less : (count - i * k) * size ≤ k * size = mul-le-mul_right size (omega (arith, few)) in
            take_all (k * size) rest (omega (arith, left_bytes, less)) ∙ sym (take_all (c * size) rest (omega (arith, left_bytes, ap (λ n. n * size) c_is)))
        | inr many ↦ let c_is : c ≡ k = omega (arith, many) in ap (λ n. take (n * size) rest) (sym c_is)
      ]

  c_within : c ≤ count - i * k
  c_within = omega arith

  pub length-part_bytes : length (get_or (parts (k * size) bytes) i []) ≡ c * size
  length-part_bytes =
      let less : c * size ≤ (count - i * k) * size = mul-le-mul_right size c_within in
      ap length part_bytes ∙ length-take-le (c * size) rest (omega (arith, left_bytes, less))

  -- are those of its items
  pub part_items : items_in size (get_or (parts (k * size) bytes) i []) ≡ get_or (parts k (items_in size bytes)) i []
  part_items =
      items_are size c (get_or (parts (k * size) bytes) i []) some length-part_bytes
      ∙ ap (first_chunks size c) part_bytes
      ∙ take-chunks size c (count - i * k) rest c_within
      ∙ ap (take c) (sym (drop-chunks size (i * k) count (count - i * k) bytes (omega (arith, first))))
      ∙ ap (λ xs. take c (drop (i * k) xs)) (sym (items_are size count bytes some whole))
      ∙ sym (part_taken k count i (items_in size bytes) (length-items_in size count bytes some whole) within)

-- and of its entries
module _ (width k count i : ℕ) (bytes : List ℕ) (wide : 0 < k) (whole : length bytes ≡ count * (16 + width)) (within : i < div_ceil count k) where
  pub part_entries : entries_in width (get_or (parts (k * (16 + width)) bytes) i []) ≡ get_or (parts k (entries_in width bytes)) i []
  part_entries =
      let items = items_in (16 + width) bytes in
      let long : length items ≡ count = length-items_in (16 + width) count bytes (omega arith) whole in
      let c = part_count k count i in
      ap (map entry_in) (part_items (16 + width) k count i bytes (omega arith) wide whole within ∙ part_taken k count i items long within)
      ∙ sym (take-map entry_in c (drop (i * k) items))
      ∙ ap (take c) (sym (drop-map entry_in (i * k) items))
      ∙ sym (part_taken k count i (map entry_in items) (length-map items entry_in ∙ long) within)
