-- Words of a block, and the bytes that they are written as.
use Rattle.std.proofs.Common.{◌≡◌, ℕ, ◌+◌, ◌*◌, ◌/◌, ◌%◌, ◌^◌, ◌<◌, List, length, get_or, map, flat_map, slice_index, refl, sym, ap, ◌∙◌, arith}
use Rattle.std.specs.List.{range_with_len}
use Rattle.std.specs.Int.{w32, to_le_bytes}
use Rattle.std.proofs.lemmas.List.Folds.{flat_map-map}
use Rattle.std.proofs.lemmas.List.FromFn.{fill_by_all, get_or-map-range_with_len, length-map-range_with_len}
use Rattle.rand_chacha.specs.Block.{add32, double_rounds, initial_state, block_word as kit_block_word}
use Rattle.rand_chacha.specs.ChaCha.{key_of}
use Rattle.chacha_stream.specs.Rfc8439.{block, block_word, key_stream_byte}
use Rattle.chacha_stream.specs.Pad.{pad_nonce}
use Rattle.chacha_stream.proofs.Blocks.{same_word}
use Rattle.chacha_lanes.specs.Pads.{pad_block, pad_words}

-- the state behind the rounds, and the one before them added, are the words of a block
pub words_are : (key : List ℕ) (n counter : ℕ) (last first : List ℕ) → counter < 2 ^ 32 → n < 2 ^ 64
    → first ≡ initial_state (key_of key) counter n → last ≡ double_rounds 10 first
    → map (λ k. add32 (slice_index last k) (slice_index first k)) (range_with_len 0 16) ≡ pad_words key n counter
unfolding kit_block_word
words_are key n counter last first small fits starts ends =
    ap (λ (xs : List ℕ). map (λ k. add32 (slice_index xs k) (slice_index first k)) (range_with_len 0 16)) ends
    ∙ ap (λ (xs : List ℕ). map (λ k. add32 (slice_index (double_rounds 10 xs) k) (slice_index xs k)) (range_with_len 0 16)) starts
    ∙ sym (λ i. map (λ k. same_word key counter n k small fits i) (range_with_len 0 16))

-- the numbers from a on, counted from 0
counted : (f : ℕ → ℕ) (a n : ℕ) → map f (range_with_len a n) ≡ map (λ k. f (a + k)) (range_with_len 0 n)
counted f a n =
    fill_by_all (λ k. f (a + k)) (map f (range_with_len a n)) n 0 (length-map-range_with_len f a n)
    (λ k below. get_or-map-range_with_len f a n k (a + k) 0 below refl)

length-block : (key nonce : List ℕ) (counter : ℕ) → length (block key counter nonce) ≡ 64
length-block key nonce counter = refl

byte_of_block : (key nonce : List ℕ) (counter k : ℕ) → k < 64 → get_or (block key counter nonce) k 0 ≡ key_stream_byte key nonce (64 * counter + k)
unfolding key_stream_byte
byte_of_block key nonce counter k below =
    let number : (64 * counter + k) / 64 ≡ counter = omega arith in
    let place : (64 * counter + k) % 64 ≡ k = omega arith in
    rw (number, place) refl

-- their bytes are those of the pad
pub bytes_are : (key : List ℕ) (n counter : ℕ) (words : List ℕ) → words ≡ pad_words key n counter → flat_map (to_le_bytes w32) words ≡ pad_block key n counter
bytes_are key n counter words are =
    let nonce = pad_nonce n in
    ap (flat_map (to_le_bytes w32)) are
    ∙ flat_map-map (to_le_bytes w32) (block_word key counter nonce) (range_with_len 0 16)
    ∙ fill_by_all (λ k. key_stream_byte key nonce (64 * counter + k)) (block key counter nonce) 64 0 (length-block key nonce counter)
    (λ k below. byte_of_block key nonce counter k below)
    ∙ sym (counted (key_stream_byte key nonce) (64 * counter) 64)
