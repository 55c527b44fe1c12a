-- HMAC over SHA-256 (FIPS 198-1). H is SHA-256, of FIPS 180-4, by the definition of the crate `sha2`; its
-- block has B = 64 bytes. Keys, texts and codes are lists of bytes. The standard bounds a text by what H
-- takes, 2 ^ 64 bits; `sha256` is defined past that, and so is all of this.
use Rattle.std.specs.Prelude.{ℕ, ◌-◌, List, ◌++◌, length, replicate, map, bit_xor, nat_lt, if◌then◌else◌}
use Rattle.sha2.specs.Sha256.{sha256}

-- the key as it is where it has at most B bytes (section 4, steps 1 and 3), and else its hash (step 2)
abbrev pub short_key : List ℕ → List ℕ
short_key key = if nat_lt 64 (length key) then sha256 key else key

-- K0: the short key with zeros after it, B bytes in all (section 4, steps 1 to 3)
abbrev pub key_block_of : List ℕ → List ℕ
key_block_of key = short_key key ++ replicate (64 - length (short_key key)) 0

-- K0 XOR ipad, where the mask is 0x36, and K0 XOR opad, where it is 0x5c (section 4, steps 4 and 7)
abbrev pub masked : List ℕ → ℕ → List ℕ
masked block mask = map (λ byte. bit_xor byte mask) block

-- H((K0 XOR opad) || H((K0 XOR ipad) || text)) (section 4, steps 4 to 9)
unfoldable pub hmac_of : List ℕ → List ℕ → List ℕ
hmac_of key text = sha256 (masked (key_block_of key) 0x5c ++ sha256 (masked (key_block_of key) 0x36 ++ text))
