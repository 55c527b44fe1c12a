-- What callers use of a pad and of XORing one in.
use Rattle.std.proofs.Common.{◌≡◌, ℕ, zero, suc, ◌/◌, ◌%◌, ◌<◌, ◌≤◌, List, length, take, get_or, sym, ap, subst, ◌∙◌, arith, zero-add, slice_index, All}
use Rattle.std.specs.Prelude.{bit_xor}
use Rattle.std.specs.Int.{w32, to_le_bytes}
use Rattle.std.proofs.lemmas.Nat.{xor_lt}
use Rattle.std.proofs.lemmas.Nat.Bits.{bit_at-lt, bit_at_xor, same_from_bits}
use Rattle.std.proofs.lemmas.List.FromFn.{length-map-range_with_len, take-map-range_with_len, get_or-map-range_with_len, fill_by_all}
use Rattle.chacha_stream.specs.Rfc8439.{key_stream_byte}
use Rattle.chacha_stream.specs.Pad.{chacha_pad, pad_nonce}
use Rattle.chacha_stream.specs.Xored.{xored}
use Rattle.chacha_stream.proofs.Streams.{stream_word, byte_by_word}

pub length-chacha_pad : (key : List ℕ) (n len : ℕ) → length (chacha_pad key n len) ≡ len
length-chacha_pad key n len = length-map-range_with_len _ 0 len

-- a shorter pad is a prefix of a longer one
pub take-chacha_pad : (key : List ℕ) (n a b : ℕ) → a ≤ b → take a (chacha_pad key n b) ≡ chacha_pad key n a
take-chacha_pad key n a b le = take-map-range_with_len _ 0 b a le

-- a byte of a word is below 256
le_byte-lt : (w r : ℕ) → r < 4 → slice_index (to_le_bytes w32 w) r < 256
le_byte-lt w zero small = omega arith
le_byte-lt w (suc zero) small = omega arith
le_byte-lt w (suc (suc zero)) small = omega arith
le_byte-lt w (suc (suc (suc zero))) small = omega arith
le_byte-lt w (suc (suc (suc (suc r)))) small = absurd (omega arith)

pub key_stream_byte-lt : (key nonce : List ℕ) (i : ℕ) → key_stream_byte key nonce i < 256
key_stream_byte-lt key nonce i =
    let small = le_byte-lt (stream_word key nonce (i / 4)) (i % 4) (omega arith) in
    subst (λ (b : ℕ). b < 256) (sym (byte_by_word key nonce i)) small

pub All-chacha_pad : (key : List ℕ) (n len : ℕ) → All (λ b. b < 256) (chacha_pad key n len)
All-chacha_pad key n len k d within =
    let inside : k < len = omega (arith, length-chacha_pad key n len) in
    rw (get_or-map-range_with_len (key_stream_byte key (pad_nonce n)) 0 len k k d inside (zero-add k))
    (key_stream_byte-lt key (pad_nonce n) k)

pub length-xored : (bytes pad : List ℕ) → length (xored bytes pad) ≡ length bytes
length-xored bytes pad = length-map-range_with_len _ 0 (length bytes)

-- a byte of the XOR
pub get_or-xored : (bytes pad : List ℕ) (i d : ℕ) → i < length bytes → get_or (xored bytes pad) i d ≡ bit_xor (slice_index bytes i) (slice_index pad i)
get_or-xored bytes pad i d within = get_or-map-range_with_len _ 0 (length bytes) i i d within (zero-add i)

-- the second XOR takes the first one back
xor-xor : (a b : ℕ) → bit_xor (bit_xor a b) b ≡ a
xor-xor a b =
    same_from_bits _ _
    (λ i. bit_at_xor (bit_xor a b) b i ∙ omega (arith, bit_at_xor a b i, bit_at-lt a i, bit_at-lt b i))

pub xored-xored : (bytes pad : List ℕ) → xored (xored bytes pad) pad ≡ bytes
xored-xored bytes pad =
    sym (fill_by_all _ bytes _ 0 (sym (length-xored bytes pad)) (λ k within.
    let inside : k < length bytes = omega (arith, length-xored bytes pad) in
    sym (ap (λ b. bit_xor b (slice_index pad k)) (get_or-xored bytes pad k 0 inside) ∙ xor-xor (slice_index bytes k) (slice_index pad k))))

pub All-xored : (bytes pad : List ℕ) → All (λ b. b < 256) bytes → All (λ b. b < 256) pad → length bytes ≤ length pad → All (λ b. b < 256) (xored bytes pad)
All-xored bytes pad low high long k d within =
    let inside : k < length bytes = omega (arith, length-xored bytes pad) in
    rw (get_or-xored bytes pad k d inside)
    (xor_lt 8 (slice_index bytes k) (slice_index pad k) (low k 0 inside) (high k 0 (omega arith)))
