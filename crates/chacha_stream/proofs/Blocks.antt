-- A block of the standard under the nonce of a pad is the block that `rand_chacha` computes.
use Rattle.std.proofs.Common.{◌≡◌, ℕ, zero, suc, ◌+◌, ◌*◌, ◌/◌, ◌%◌, ◌^◌, ◌<◌, List, [], ◌∷◌, length, refl, sym, ap, ◌∙◌, arith, slice_index}
use Rattle.std.proofs.lemmas.List.FromFn.{fill_by_all}
use Rattle.std.proofs.lemmas.Nat.{shr-shr}
use Rattle.rand_core.specs.Steps.{u32_at}
use Rattle.rand_chacha.specs.Block.{quarter_round as kit_quarter_round, column_round, diagonal_round, double_rounds, initial_state as kit_initial_state, block_word as kit_block_word}
use Rattle.rand_chacha.specs.ChaCha.{key_of}
use Rattle.chacha_stream.specs.Rfc8439.{sum32, quarter_round, quarter_round_on, inner_block, inner_blocks, le_word, initial_state, block_word}
use Rattle.chacha_stream.specs.Pad.{pad_nonce}

same_quarter : (a b c d : ℕ) → quarter_round a b c d ≡ kit_quarter_round a b c d
unfolding quarter_round kit_quarter_round
same_quarter a b c d = refl

-- a state is its 16 words
by_place : (s : List ℕ) → length s ≡ 16
    → s ≡ slice_index s 0 ∷ slice_index s 1 ∷ slice_index s 2 ∷ slice_index s 3
    ∷ slice_index s 4 ∷ slice_index s 5 ∷ slice_index s 6 ∷ slice_index s 7
    ∷ slice_index s 8 ∷ slice_index s 9 ∷ slice_index s 10 ∷ slice_index s 11
    ∷ slice_index s 12 ∷ slice_index s 13 ∷ slice_index s 14 ∷ slice_index s 15 ∷ []
by_place s h = fill_by_all (λ i. slice_index s i) s 16 0 h (λ k lt. refl)

-- the eight quarter rounds on 16 words
inner_of : (x0 x1 x2 x3 x4 x5 x6 x7 x8 x9 x10 x11 x12 x13 x14 x15 : ℕ) →
    let s = x0 ∷ x1 ∷ x2 ∷ x3 ∷ x4 ∷ x5 ∷ x6 ∷ x7 ∷ x8 ∷ x9 ∷ x10 ∷ x11 ∷ x12 ∷ x13 ∷ x14 ∷ x15 ∷ [] in
    inner_block s ≡ diagonal_round (column_round s)
unfolding inner_block quarter_round_on column_round diagonal_round
inner_of x0 x1 x2 x3 x4 x5 x6 x7 x8 x9 x10 x11 x12 x13 x14 x15 = simp same_quarter

same_inner : (s : List ℕ) → length s ≡ 16 → inner_block s ≡ diagonal_round (column_round s)
same_inner s h =
    ap inner_block (by_place s h)
    ∙ inner_of (slice_index s 0) (slice_index s 1) (slice_index s 2) (slice_index s 3)
    (slice_index s 4) (slice_index s 5) (slice_index s 6) (slice_index s 7)
    (slice_index s 8) (slice_index s 9) (slice_index s 10) (slice_index s 11)
    (slice_index s 12) (slice_index s 13) (slice_index s 14) (slice_index s 15)
    ∙ ap (λ x. diagonal_round (column_round x)) (sym (by_place s h))

length-diagonal_round : (s : List ℕ) → length (diagonal_round s) ≡ 16
unfolding diagonal_round
length-diagonal_round s = refl

length-double_rounds : (n : ℕ) (s : List ℕ) → length s ≡ 16 → length (double_rounds n s) ≡ 16
unfolding double_rounds
length-double_rounds zero s h = h
length-double_rounds (suc n) s h = length-diagonal_round _

same_rounds : (n : ℕ) (s : List ℕ) → length s ≡ 16 → inner_blocks n s ≡ double_rounds n s
unfolding inner_blocks double_rounds
same_rounds zero s h = refl
same_rounds (suc n) s h =
    ap inner_block (same_rounds n s h) ∙ same_inner (double_rounds n s) (length-double_rounds n s h)

-- the four low bytes of a number, and the four above them
four_digits : (n : ℕ) → n % 256 + n / 256 % 256 * 256 + n / 65536 % 256 * 65536 + n / 16777216 % 256 * 16777216 ≡ n % 2 ^ 32
four_digits n = omega arith

nonce_low : (n : ℕ) → le_word (pad_nonce n) 1 ≡ n % 2 ^ 32
unfolding le_word
nonce_low n = four_digits n

high_word : (n : ℕ) → n < 2 ^ 64 → n / 2 ^ 32 % 2 ^ 32 ≡ n / 2 ^ 32
high_word n h = omega arith

nonce_high : (n : ℕ) → n < 2 ^ 64 → le_word (pad_nonce n) 2 ≡ n / 2 ^ 32
unfolding le_word
nonce_high n h =
    rw (← shr-shr n 32 8, ← shr-shr n 32 16, ← shr-shr n 32 24) (four_digits (n / 2 ^ 32) ∙ high_word n h)

same_start : (key : List ℕ) (counter n : ℕ) → counter < 2 ^ 32 → n < 2 ^ 64
    → initial_state key counter (pad_nonce n) ≡ kit_initial_state (key_of key) counter n
unfolding le_word u32_at
same_start key counter n small fits =
    let low = nonce_low n in
    let high = nonce_high n fits in
    let a : counter % 2 ^ 32 ≡ counter = omega arith in
    let b : counter / 2 ^ 32 ≡ 0 = omega arith in
    cc

pub same_word : (key : List ℕ) (counter n k : ℕ) → counter < 2 ^ 32 → n < 2 ^ 64
    → block_word key counter (pad_nonce n) k ≡ kit_block_word 10 (key_of key) counter n k
unfolding block_word kit_block_word
same_word key counter n k small fits =
    ap (λ s. sum32 (slice_index (inner_blocks 10 s) k) (slice_index s k)) (same_start key counter n small fits)
    ∙ ap (λ s. sum32 (slice_index s k) (slice_index (kit_initial_state (key_of key) counter n) k))
    (same_rounds 10 (kit_initial_state (key_of key) counter n) refl)
