-- The size and the values of a code, for the crates above.
use Rattle.std.proofs.Common.{◌≡◌, ◌<◌, ℕ, zero, suc, List, length, arith}
use Rattle.std.specs.Prelude.{All, slice_index}
use Rattle.std.specs.Int.{w32, byte_at, bytes_high_first, to_be_bytes}
use Rattle.std.proofs.lemmas.List.Elements.{All-nil, All-cons, All-append}
use Rattle.sha2.specs.Sha256.{sha256, digest_bytes}
use Rattle.sha2.proofs.Facts256.{length-sha256}
use Rattle.hmac_sha256.specs.Fips198.{hmac_of}

-- a code has 32 bytes
pub length-hmac_of : (key text : List ℕ) → length (hmac_of key text) ≡ 32
unfolding hmac_of
length-hmac_of key text = length-sha256 _

-- a byte of a number is below 256
byte_at-below : (i n : ℕ) → byte_at i n < 256
byte_at-below zero n = omega arith
byte_at-below (suc i) n = omega arith

-- so are all of its bytes
All-bytes_high_first : (k n : ℕ) → All (λ b. b < 256) (bytes_high_first k n)
All-bytes_high_first zero n = All-nil (λ (b : ℕ). b < 256)
All-bytes_high_first (suc k) n =
    All-cons (λ (b : ℕ). b < 256) (byte_at k n) (bytes_high_first k n) (byte_at-below k n) (All-bytes_high_first k n)

-- and those of the words of a hash value
All-digest_bytes : (words : List ℕ) (n : ℕ) → All (λ b. b < 256) (digest_bytes words n)
unfolding digest_bytes
All-digest_bytes words zero = All-nil (λ (b : ℕ). b < 256)
All-digest_bytes words (suc n) =
    All-append (λ (b : ℕ). b < 256) (digest_bytes words n) (to_be_bytes w32 (slice_index words n))
    (All-digest_bytes words n) (All-bytes_high_first 4 (slice_index words n))

-- each value of a digest is a byte
All-sha256 : (message : List ℕ) → All (λ b. b < 256) (sha256 message)
unfolding sha256
All-sha256 message = All-digest_bytes _ 8

-- each value of a code is a byte
pub All-hmac_of : (key text : List ℕ) → All (λ b. b < 256) (hmac_of key text)
unfolding hmac_of
All-hmac_of key text = All-sha256 _
