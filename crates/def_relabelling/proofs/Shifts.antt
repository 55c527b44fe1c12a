-- Values under XOR: a text under a pad that was shifted, and a pad that was shifted there and back.
use Rattle.std.proofs.Common.{◌≡◌, ℕ, ◌<◌, List, length, refl, ap, ◌∙◌, arith, Some, None}
use Rattle.std.specs.Prelude.{Option, bit_xor, slice_index}
use Rattle.std.proofs.lemmas.Nat.Bits.{bit_at-lt, bit_at_xor, same_from_bits}
use Rattle.std.proofs.lemmas.List.FromFn.{fill_by_all}
use Rattle.chacha_stream.proofs.Laws.{length-xored, get_or-xored, xored-xored}
use Rattle.keyed_fn.specs.Xored.{xored}
use Rattle.def_leakage.specs.Relabelled.{Use, shifted, value_for}
use Rattle.sse_model.specs.Names.{Table}

xor_moved : (a v b : ℕ) → bit_xor b (bit_xor (bit_xor v a) b) ≡ bit_xor a v
xor_moved a v b =
    same_from_bits _ _
    (λ i. bit_at_xor b (bit_xor (bit_xor v a) b) i
    ∙ omega (arith, bit_at_xor (bit_xor v a) b i, bit_at_xor v a i, bit_at_xor a v i, bit_at-lt a i, bit_at-lt b i, bit_at-lt v i))

-- a text under a pad that was shifted to it is the text before under the pad as it was
pub xored_shifted : (text value other : List ℕ) → length value ≡ length text → length other ≡ length text → xored other (xored (xored value text) other) ≡ xored text value
xored_shifted text value other even same =
    fill_by_all _ _ (length text) 0 (length-xored other (xored (xored value text) other) ∙ same)
    (λ k within.
    let inside : k < length other = omega (arith, within, same) in
    let mid : k < length (xored value text) = omega (arith, within, even, length-xored value text) in
    let low : k < length value = omega (arith, within, even) in
    get_or-xored other (xored (xored value text) other) k 0 inside
    ∙ ap (bit_xor (slice_index other k)) (get_or-xored (xored value text) other k 0 mid ∙ ap (λ x. bit_xor x (slice_index other k)) (get_or-xored value text k 0 low))
    ∙ xor_moved (slice_index text k) (slice_index value k) (slice_index other k))

-- a pad that covers the same text keeps its value
pub shifted_same : (value : List ℕ) (text : Option (List ℕ)) → shifted value text text ≡ value
shifted_same value None = refl
shifted_same value (Some text) = xored-xored value text

pub shifted_back : (value text other : List ℕ) → shifted (shifted value (Some text) (Some other)) (Some other) (Some text) ≡ value
shifted_back value text other = ap (λ v. xored v text) (xored-xored (xored value text) other) ∙ xored-xored value text

-- a name that is no pad keeps its value too
pub bare_same : (t : Table) (one other : Use) → one.text ≡ None → value_for t one other ≡ t one.name
bare_same t one other e = ap (λ text. shifted (t one.name) text other.text) e
