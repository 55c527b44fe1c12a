-- The pads: prefixes of a key stream whose nonce is a number.
use Rattle.std.specs.Prelude.{ℕ, List, ◌∷◌, map}
use Rattle.std.specs.List.{range_with_len}
use Rattle.std.specs.Int.{w64, to_le_bytes}
use Rattle.chacha_stream.specs.Rfc8439.{key_stream_byte}

-- the nonce of pad number n: four zero bytes, then n in eight, low byte first
abbrev pub pad_nonce : ℕ → List ℕ
pad_nonce n = 0 ∷ 0 ∷ 0 ∷ 0 ∷ to_le_bytes w64 n

-- pad number n: the first `len` bytes of the key stream
abbrev pub chacha_pad : List ℕ → ℕ → ℕ → List ℕ
chacha_pad key n len = map (key_stream_byte key (pad_nonce n)) (range_with_len 0 len)
