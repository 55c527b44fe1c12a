-- Keys of HMAC-SHA-256 that are prepared side by side, and the blocks of short texts under them.
use Rattle.std.specs.Prelude.{◌≡◌, ℕ, ◌+◌, List, [], ◌∷◌, ◌++◌, length}
use Rattle.hmac_sha256.specs.Fips198.{key_block_of, masked}
use Rattle.hmac_lanes.specs.declared.hash_values.HashValues.{HashValues}
use Rattle.hmac_lanes.specs.declared.lane_keys.LaneKeys.{LaneKeys}
use Rattle.sha2.specs.Sha256.{compress, initial_hash_256, padding}
use Rattle.sha256_lanes.specs.Lanes.{lane}

-- the last block of a message: this text behind a block of 64 bytes, and the padding of both
abbrev pub padded : List ℕ → List ℕ
padded text = text ++ padding (64 + length text)

-- the vectors of hash values that are kept
abbrev pub vectors_in : HashValues → List (List ℕ)
vectors_in v = v.a ∷ v.b ∷ v.c ∷ v.d ∷ v.e ∷ v.f ∷ v.g ∷ v.h ∷ []

-- in lane j are the hash values behind the two blocks of this key
pub record IsKeyAt (j : ℕ) (keys : LaneKeys) (key : List ℕ) : Type 0 where
  pub inner : lane j (vectors_in keys.inner) ≡ compress initial_hash_256 (masked (key_block_of key) 0x36)
  pub outer : lane j (vectors_in keys.outer) ≡ compress initial_hash_256 (masked (key_block_of key) 0x5c)
