-- What the first steps of FIPS 198-1 make of a short key.
use Rattle.std.proofs.Common.{◌≡◌, ◌-◌, ◌≤◌, ℕ, List, ◌++◌, length, nat_lt, false, rules}
use Rattle.std.specs.Prelude.{replicate}
use Rattle.hmac_sha256.specs.Fips198.{key_block_of}

-- a key of at most 64 bytes is itself in front of the zeros
pub key_block_of-short : (key : List ℕ) → length key ≤ 64 → key_block_of key ≡ key ++ replicate (64 - length key) 0
key_block_of-short key fits = let short : nat_lt 64 (length key) ≡ false = search rules in simp short
