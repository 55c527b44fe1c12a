-- Bytes cut into items of one size, and joined again.
use Rattle.std.proofs.Common.{◌≡◌, ℕ, zero, suc, ◌+◌, ◌*◌, ◌-◌, ◌/◌, ◌<◌, ◌≤◌, List, [], ◌∷◌, ◌++◌, map, length, take, drop, refl, sym, ap, ◌∙◌, arith}
use Rattle.std.specs.List.{flat_map, AllByRecursion}
use Rattle.std.specs.Simd.{first_chunks}
use Rattle.std.proofs.lemmas.List.{take-append-drop, take-take, drop-take, length-take, length-drop, length-map, nil_from_length}
use Rattle.std.proofs.Math.Nat.{mul-div_cancel}
use Rattle.sse_frames.specs.Frames.{IsBytes, IsEntry, entry_bytes, joined}
use Rattle.sse_frames.specs.FrameViews.{items_in, entry_in, entries_in}
use Rattle.sse_frames.specs.Sizes.{AreItems}
use Rattle.sse_frames.proofs.Cut.{AreBytes, AreBytes-take, AreBytes-drop}

pub length-first_chunks : {X : Type 0} (size n : ℕ) (xs : List X) → length (first_chunks size n xs) ≡ n
length-first_chunks size zero xs = refl
length-first_chunks size (suc n) xs = ap (λ (k : ℕ). suc k) (length-first_chunks size n (drop size xs))

pub joined-first_chunks : (size n : ℕ) (xs : List ℕ) → length xs ≡ n * size → joined (first_chunks size n xs) ≡ xs
joined-first_chunks size zero xs e = sym (nil_from_length xs (omega (arith, e)))
joined-first_chunks size (suc n) xs e =
    ap (λ (rest : List ℕ). take size xs ++ rest) (joined-first_chunks size n (drop size xs) (omega (arith, e, length-drop size xs))) ∙ take-append-drop size xs

-- the items in front are cut out of a front that has them
pub first_chunks-take : (size n m : ℕ) (xs : List ℕ) → n * size ≤ m → first_chunks size n (take m xs) ≡ first_chunks size n xs
first_chunks-take size zero m xs le = refl
first_chunks-take size (suc n) m xs le =
    let first : take size (take m xs) ≡ take size xs = take-take size m xs (omega (arith, le)) in
    let split : m ≡ size + (m - size) = omega (arith, le) in
    let rest : first_chunks size n (drop size (take m xs)) ≡ first_chunks size n (drop size xs) =
    ap (λ (k : ℕ). first_chunks size n (drop size (take k xs))) split ∙ ap (first_chunks size n) (drop-take size (m - size) xs) ∙ first_chunks-take size n (m - size) (drop size xs) (omega (arith, le)) in
    λ i. first i ∷ rest i

-- as many items as their bytes divided by the size
pub items_are : (size n : ℕ) (bytes : List ℕ) → 0 < size → length bytes ≡ n * size → items_in size bytes ≡ first_chunks size n bytes
items_are size n bytes some e =
    ap (λ (k : ℕ). first_chunks size k bytes) (ap (λ (l : ℕ). l / size) e ∙ mul-div_cancel n some)

pub length-items_in : (size n : ℕ) (bytes : List ℕ) → 0 < size → length bytes ≡ n * size → length (items_in size bytes) ≡ n
length-items_in size n bytes some e = ap length (items_are size n bytes some e) ∙ length-first_chunks size n bytes

pub length-entries_in : (width n : ℕ) (bytes : List ℕ) → length bytes ≡ n * (16 + width) → length (entries_in width bytes) ≡ n
length-entries_in width n bytes e = length-map (items_in (16 + width) bytes) entry_in ∙ length-items_in (16 + width) n bytes (omega arith) e

-- whole items joined again
pub joined-items_in : (size : ℕ) (bytes : List ℕ) → 0 < size → AreItems size bytes → joined (items_in size bytes) ≡ bytes
joined-items_in size bytes some are = ap joined (items_are size are.count bytes some are.whole) ∙ joined-first_chunks size are.count bytes are.whole

entries_joined : (pieces : List (List ℕ)) → flat_map entry_bytes (map entry_in pieces) ≡ joined pieces
entries_joined [] = refl
entries_joined (piece ∷ pieces) = ap (λ (front : List ℕ). front ++ flat_map entry_bytes (map entry_in pieces)) (take-append-drop 16 piece) ∙ ap (λ (rest : List ℕ). piece ++ rest) (entries_joined pieces)

-- the same of entries
pub entry_bytes-entries_in : (width : ℕ) (entries : List ℕ) → AreItems (16 + width) entries → flat_map entry_bytes (entries_in width entries) ≡ entries
entry_bytes-entries_in width entries are = entries_joined (items_in (16 + width) entries) ∙ joined-items_in (16 + width) entries (omega arith) are

each_chunk : (size n : ℕ) (xs : List ℕ) → AreBytes xs → n * size ≤ length xs → AllByRecursion (IsBytes size) (first_chunks size n xs)
each_chunk size zero xs bytes inside = tt
each_chunk size (suc n) xs bytes inside = (
  record { size_is = omega (arith, length-take size xs, inside); each = AreBytes-take size xs bytes },
  each_chunk size n (drop size xs) (AreBytes-drop size xs bytes) (omega (arith, length-drop size xs, inside)),
)

-- each of so many items has the size
pub each_item : (size n : ℕ) (bytes : List ℕ) → 0 < size → AreBytes bytes → length bytes ≡ n * size → AllByRecursion (IsBytes size) (items_in size bytes)
each_item size n bytes some all e =
    rw (items_are size n bytes some e) (each_chunk size n bytes all (omega (arith, e)))

each_in : (width : ℕ) (pieces : List (List ℕ)) → AllByRecursion (IsBytes (16 + width)) pieces → AllByRecursion (IsEntry width) (map entry_in pieces)
each_in width [] all = tt
each_in width (piece ∷ pieces) all = (
  record {
    label = record { size_is = omega (arith, length-take 16 piece, all.0.size_is); each = AreBytes-take 16 piece all.0.each };
    text = record { size_is = omega (arith, length-drop 16 piece, all.0.size_is); each = AreBytes-drop 16 piece all.0.each };
  },
  each_in width pieces all.1,
)

-- the same of entries
pub each_entry : (width n : ℕ) (bytes : List ℕ) → AreBytes bytes → length bytes ≡ n * (16 + width) → AllByRecursion (IsEntry width) (entries_in width bytes)
each_entry width n bytes all e = each_in width (items_in (16 + width) bytes) (each_item (16 + width) n bytes (omega arith) all e)
