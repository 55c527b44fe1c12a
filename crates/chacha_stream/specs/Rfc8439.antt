-- ChaCha20 as in RFC 8439, 2.1 to 2.4, under its names and in its order. A word is a number below
-- 2 ^ 32, a state a list of 16 words, and bytes are numbers below 256.
use Rattle.std.specs.Prelude.{ℕ, zero, suc, ◌+◌, ◌*◌, ◌/◌, ◌%◌, ◌^◌, List, [], ◌∷◌, flat_map, bit_xor, slice_index, slice_set}
use Rattle.std.specs.List.{range_with_len}
use Rattle.std.specs.Int.{w32, to_le_bytes, rotate_left}

-- a + b, modulo 2 ^ 32 (2.1)
abbrev pub sum32 : ℕ → ℕ → ℕ
sum32 a b = (a + b) % 2 ^ 32

-- d ^ a, then <<< n (2.1)
abbrev pub xor_rotated : ℕ → ℕ → ℕ → ℕ
xor_rotated d a n = rotate_left w32 (bit_xor d a) n

-- the quarter round (2.1): four times an addition, a XOR and a roll
unfoldable pub quarter_round : ℕ → ℕ → ℕ → ℕ → ℕ × ℕ × ℕ × ℕ
quarter_round a0 b0 c0 d0 =
    let a1 = sum32 a0 b0 in let d1 = xor_rotated d0 a1 16 in
    let c1 = sum32 c0 d1 in let b1 = xor_rotated b0 c1 12 in
    let a2 = sum32 a1 b1 in let d2 = xor_rotated d1 a2 8 in
    let c2 = sum32 c1 d2 in let b2 = xor_rotated b1 c2 7 in
    (a2, b2, c2, d2)

-- QUARTERROUND(x, y, z, w), on the words of a state at these four places (2.2)
unfoldable pub quarter_round_on : ℕ → ℕ → ℕ → ℕ → List ℕ → List ℕ
quarter_round_on x y z w s =
    let q = quarter_round (slice_index s x) (slice_index s y) (slice_index s z) (slice_index s w) in
    slice_set (slice_set (slice_set (slice_set s x q.0) y q.1) z q.2) w q.3

-- inner_block: a round on the columns, and one on the diagonals (2.3, 2.3.1)
unfoldable pub inner_block : List ℕ → List ℕ
inner_block s0 =
    let s1 = quarter_round_on 0 4 8 12 s0 in
    let s2 = quarter_round_on 1 5 9 13 s1 in
    let s3 = quarter_round_on 2 6 10 14 s2 in
    let s4 = quarter_round_on 3 7 11 15 s3 in
    let s5 = quarter_round_on 0 5 10 15 s4 in
    let s6 = quarter_round_on 1 6 11 12 s5 in
    let s7 = quarter_round_on 2 7 8 13 s6 in
    quarter_round_on 3 4 9 14 s7

-- inner_block n times
unfoldable pub inner_blocks : ℕ → List ℕ → List ℕ
inner_blocks zero s = s
inner_blocks (suc n) s = inner_block (inner_blocks n s)

-- word i of bytes: four of them, low byte first (2.3)
unfoldable pub le_word : List ℕ → ℕ → ℕ
le_word bytes i =
    slice_index bytes (4 * i) + slice_index bytes (4 * i + 1) * 2 ^ 8
    + slice_index bytes (4 * i + 2) * 2 ^ 16 + slice_index bytes (4 * i + 3) * 2 ^ 24

-- constants, key of 32 bytes, block counter, nonce of 12 bytes: the state that a block starts from (2.3)
abbrev pub initial_state : List ℕ → ℕ → List ℕ → List ℕ
initial_state key counter nonce =
    0x61707865 ∷ 0x3320646e ∷ 0x79622d32 ∷ 0x6b206574
    ∷ le_word key 0 ∷ le_word key 1 ∷ le_word key 2 ∷ le_word key 3
    ∷ le_word key 4 ∷ le_word key 5 ∷ le_word key 6 ∷ le_word key 7
    ∷ counter ∷ le_word nonce 0 ∷ le_word nonce 1 ∷ le_word nonce 2 ∷ []

-- word k of a block: ten times inner_block, and the state that it started from added (2.3)
unfoldable pub block_word : List ℕ → ℕ → List ℕ → ℕ → ℕ
block_word key counter nonce k =
    let start = initial_state key counter nonce in
    sum32 (slice_index (inner_blocks 10 start) k) (slice_index start k)

-- chacha20_block: the 16 words of a block, each low byte first (2.3, 2.3.1)
abbrev pub block : List ℕ → ℕ → List ℕ → List ℕ
block key counter nonce =
    flat_map (λ k. to_le_bytes w32 (block_word key counter nonce k)) (range_with_len 0 16)

-- byte i of the key stream: blocks of 64 bytes, with the counter from 0 (2.4); the standard's counter ends
-- with byte 2 ^ 38, and this one goes on, without wrapping
unfoldable pub key_stream_byte : List ℕ → List ℕ → ℕ → ℕ
key_stream_byte key nonce i = slice_index (block key (i / 64) nonce) (i % 64)
