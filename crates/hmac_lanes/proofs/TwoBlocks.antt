-- A code, by the hash values behind the two blocks of its key.
use Rattle.std.proofs.Common.{◌≡◌, ℕ, ◌+◌, ◌-◌, ◌/◌, ◌*◌, ◌%◌, ◌^◌, ◌≤◌, Bool, true, false, List, [], ◌∷◌, ◌++◌, length, take, drop, replicate, map, nat_lt, bit_xor, ap, sym, ◌∙◌, arith, refl, length-append, append_assoc}
use Rattle.std.specs.Prelude.{if◌then◌else◌}
use Rattle.std.specs.Int.{w64, to_be_bytes}
use Rattle.std.proofs.lemmas.List.{take_all, take_at, drop_at, length-map, length-replicate}
use Rattle.sha2.specs.Sha256.{compress, digest_bytes, final_hash, hash_after, initial_hash_256, padded_message, padding, sha256}
use Rattle.sha2.proofs.Facts256.{length-sha256}
use Rattle.hmac_sha256.specs.Fips198.{hmac_of, key_block_of, masked, short_key}
use Rattle.hmac_lanes.specs.LaneKeys.{padded}

length-padding : (n : ℕ) → n ≤ 55 → length (padding (64 + n)) ≡ 64 - n
length-padding n fits =
    let zeros : (119 - (64 + n) % 64) % 64 ≡ 55 - n = omega (arith, fits) in
    let long = length-append (replicate ((119 - (64 + n) % 64) % 64) 0) (to_be_bytes w64 ((64 + n) * 8 % 2 ^ 64)) in
    omega (arith, fits, long, length-replicate {A = ℕ} ((119 - (64 + n) % 64) % 64) 0, zeros)

-- the digest of a block and a text that fits into the next one
pub sha256-two_blocks : (block text : List ℕ) → length block ≡ 64 → length text ≤ 55
    → sha256 (block ++ text) ≡ digest_bytes (compress (compress initial_hash_256 block) (padded text)) 8
unfolding sha256 hash_after
sha256-two_blocks block text whole fits =
    let long : length (block ++ text) ≡ 64 + length text = length-append block text ∙ ap (λ n. n + length text) whole in
    let message : padded_message (block ++ text) ≡ block ++ padded text =
    ap (λ n. (block ++ text) ++ padding n) long ∙ append_assoc block text (padding (64 + length text)) in
    let last : length (padded text) ≡ 64 = omega (arith, fits, length-append text (padding (64 + length text)), length-padding (length text) fits) in
    let blocks : length (block ++ padded text) / 64 ≡ 2 = omega (arith, length-append block (padded text), whole, last) in
    let first : take 64 (drop 0 (block ++ padded text)) ≡ block = take_at block (padded text) 64 whole in
    let second : take 64 (drop 64 (block ++ padded text)) ≡ padded text =
    ap (take 64) (drop_at block (padded text) 64 whole) ∙ take_all 64 (padded text) (omega (arith, last)) in
    let hash : hash_after initial_hash_256 (block ++ padded text) 2 ≡ compress (compress initial_hash_256 block) (padded text) =
    λ i. compress (compress initial_hash_256 (first i)) (second i) in
    ap (λ m. digest_bytes (hash_after initial_hash_256 m (length m / 64)) 8) message
    ∙ ap (λ n. digest_bytes (hash_after initial_hash_256 (block ++ padded text) n) 8) blocks
    ∙ ap (λ h. digest_bytes h 8) hash

short_within : (long : Bool) (key : List ℕ) → nat_lt 64 (length key) ≡ long → length (if long then sha256 key else key) ≤ 64
short_within true key e = omega (arith, length-sha256 key)
short_within false key e = grind (arith, e)

length-masked : (key : List ℕ) (mask : ℕ) → length (masked (key_block_of key) mask) ≡ 64
length-masked key mask =
    let short : length (short_key key) ≤ 64 = short_within (nat_lt 64 (length key)) key refl in
    length-map (key_block_of key) (λ byte. bit_xor byte mask)
    ∙ omega (arith, short, length-append (short_key key) (replicate (64 - length (short_key key)) 0), length-replicate {A = ℕ} (64 - length (short_key key)) 0)

-- of these hash values behind the key's blocks
pub code_of : (key text : List ℕ) (inner outer : List ℕ) → length text ≤ 55
    → inner ≡ compress initial_hash_256 (masked (key_block_of key) 0x36) → outer ≡ compress initial_hash_256 (masked (key_block_of key) 0x5c)
    → digest_bytes (compress outer (padded (digest_bytes (compress inner (padded text)) 8))) 8 ≡ hmac_of key text
unfolding hmac_of
code_of key text inner outer fits of_inner of_outer =
    let digest = sha256 (masked (key_block_of key) 0x36 ++ text) in
    let inside : digest_bytes (compress inner (padded text)) 8 ≡ digest =
    ap (λ h. digest_bytes (compress h (padded text)) 8) of_inner ∙ sym (sha256-two_blocks (masked (key_block_of key) 0x36) text (length-masked key 0x36) fits) in
    ap (λ d. digest_bytes (compress outer (padded d)) 8) inside
    ∙ ap (λ h. digest_bytes (compress h (padded digest)) 8) of_outer
    ∙ sym (sha256-two_blocks (masked (key_block_of key) 0x5c) digest (length-masked key 0x5c) (omega (arith, length-sha256 (masked (key_block_of key) 0x36 ++ text))))
