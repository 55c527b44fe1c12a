-- Bytes XORed with a pad.
use Rattle.std.specs.Prelude.{ℕ, List, map, length, bit_xor, slice_index}
use Rattle.std.specs.List.{range_with_len}

-- each byte of the first list XORed with the byte of the pad at its place
abbrev pub xored : List ℕ → List ℕ → List ℕ
xored bytes pad = map (λ i. bit_xor (slice_index bytes i) (slice_index pad i)) (range_with_len 0 (length bytes))
