-- The toy keyed function. Sums and places count from 0.
use Rattle.std.specs.Prelude.{ℕ, ◌+◌, ◌*◌, ◌%◌, List, length, map, slice_index, sum}
use Rattle.std.specs.List.{range_with_len}

-- the sum of (j + 1) times byte j over all places j, modulo 256
abbrev pub weighed_sum : List ℕ → ℕ
weighed_sum bytes = sum (map (λ j. (j + 1) * slice_index bytes j) (range_with_len 0 (length bytes))) % 256

-- byte i of a code is byte i of the key, the sum of the input and i, modulo 256
abbrev pub toy_code : List ℕ → ℕ → ℕ → List ℕ
toy_code key s len = map (λ i. (slice_index key i + s + i) % 256) (range_with_len 0 len)

-- the code has 32 bytes
abbrev pub toy_prf : List ℕ → List ℕ → List ℕ
toy_prf key input = toy_code key (weighed_sum input) 32

-- byte i of pad n is the key's byte at i modulo 32, and n, modulo 256
abbrev pub toy_pad : List ℕ → ℕ → ℕ → List ℕ
toy_pad key n len = map (λ i. (slice_index key (i % 32) + n) % 256) (range_with_len 0 len)
