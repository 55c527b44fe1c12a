-- The laws that the toy keyed function keeps, as every keyed function does.
use Rattle.std.specs.Prelude.{◌≡◌, ℕ, ◌+◌, ◌%◌, ◌<◌, ◌≤◌, List, length, take, All, slice_index}
use Rattle.std.specs.List.{range_with_len}
use Rattle.std.proofs.Common.{arith}
use Rattle.std.proofs.lemmas.List.Elements.{All-map}
use Rattle.std.proofs.lemmas.List.FromFn.{length-map-range_with_len, take-map-range_with_len}
use Rattle.std.proofs.lemmas.Nat.{mod_below}
use Rattle.keyed_fn.specs.Toy.{toy_prf, toy_pad, weighed_sum}

-- a code has 32 bytes
pub length-toy_prf : (key input : List ℕ) → length (toy_prf key input) ≡ 32
length-toy_prf key input = length-map-range_with_len (λ i. (slice_index key i + weighed_sum input + i) % 256) 0 32

-- each value of a code is a byte
pub All-toy_prf : (key input : List ℕ) → All (λ b. b < 256) (toy_prf key input)
All-toy_prf key input =
    All-map (λ (b : ℕ). b < 256) (λ i. (slice_index key i + weighed_sum input + i) % 256) (range_with_len 0 32)
    (λ k d within. mod_below _ 256 (omega arith))

-- a pad has as many bytes as are asked for
pub length-toy_pad : (key : List ℕ) (n len : ℕ) → length (toy_pad key n len) ≡ len
length-toy_pad key n len = length-map-range_with_len (λ i. (slice_index key (i % 32) + n) % 256) 0 len

-- each value of a pad is a byte
pub All-toy_pad : (key : List ℕ) (n len : ℕ) → All (λ b. b < 256) (toy_pad key n len)
All-toy_pad key n len =
    All-map (λ (b : ℕ). b < 256) (λ i. (slice_index key (i % 32) + n) % 256) (range_with_len 0 len)
    (λ k d within. mod_below _ 256 (omega arith))

-- a shorter pad is the front of a longer one
pub take-toy_pad : (key : List ℕ) (n a b : ℕ) → a ≤ b → take a (toy_pad key n b) ≡ toy_pad key n a
take-toy_pad key n a b shorter =
    take-map-range_with_len (λ i. (slice_index key (i % 32) + n) % 256) 0 b a shorter
