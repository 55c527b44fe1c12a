-- The words of a first block, and the bytes that they are written as.
use Rattle.std.proofs.Common.{◌≡◌, ℕ, ◌+◌, ◌*◌, ◌/◌, ◌%◌, ◌^◌, ◌<◌, ◌≤◌, List, [], ◌∷◌, ◌++◌, length, take, get_or, map, flat_map, slice_index, refl, sym, ap, ◌∙◌, arith}
use Rattle.std.specs.List.{range_with_len}
use Rattle.std.specs.Int.{w32, to_le_bytes}
use Rattle.std.proofs.lemmas.List.{flat_map_more, take_more}
use Rattle.std.proofs.lemmas.List.Folds.{flat_map-map}
use Rattle.std.proofs.lemmas.List.FromFn.{fill_by_all}
use Rattle.std.proofs.lemmas.Slice.{take-put_mid}
use Rattle.rand_chacha.specs.Block.{add32, double_rounds, initial_state, block_word as kit_block_word}
use Rattle.rand_chacha.specs.ChaCha.{key_of}
use Rattle.chacha_stream.specs.Rfc8439.{block, block_word, key_stream_byte}
use Rattle.chacha_stream.specs.Pad.{pad_nonce, chacha_pad}
use Rattle.chacha_stream.proofs.Blocks.{same_word}
use borrow.Rule.Slice.PartMut.{put_mid}

-- one more word, written behind the bytes of those before it
pub word_written : (out ys words : List ℕ) (k m : ℕ) → take (4 * k) out ≡ flat_map (to_le_bytes w32) (take k words) → 4 * k ≤ length out → k < length words
    → ys ≡ to_le_bytes w32 (slice_index words k) → take (4 * (k + 1)) (put_mid (4 * k) m out ys) ≡ flat_map (to_le_bytes w32) (take (k + 1) words)
word_written out ys words k m held fits within wrote =
    let four : length ys ≡ 4 = rw wrote refl in
    let front : take (4 * (k + 1)) (put_mid (4 * k) m out ys) ≡ take (4 * k) out ++ ys = take-put_mid (4 * k) m out ys (4 * (k + 1)) (omega (arith, four)) fits in
    let more : flat_map (to_le_bytes w32) (take k words) ++ to_le_bytes w32 (slice_index words k) ≡ flat_map (to_le_bytes w32) (take k words ++ slice_index words k ∷ []) =
    flat_map_more (to_le_bytes w32) [] (take k words) (slice_index words k) in
    front ∙ ap (λ (xs : List ℕ). xs ++ ys) held ∙ ap (λ (xs : List ℕ). flat_map (to_le_bytes w32) (take k words) ++ xs) wrote
    ∙ more ∙ ap (flat_map (to_le_bytes w32)) (sym (take_more words k 0 within))

-- the state behind the rounds, and the one before them added, are the words of the first block
pub words_are : (key : List ℕ) (n : ℕ) (words last first : List ℕ) → n < 2 ^ 64
    → first ≡ initial_state (key_of key) 0 n → last ≡ double_rounds 10 first
    → words ≡ map (λ k. add32 (slice_index last k) (slice_index first k)) (range_with_len 0 16)
    → words ≡ map (block_word key 0 (pad_nonce n)) (range_with_len 0 16)
unfolding kit_block_word
words_are key n words last first fits starts ends are =
    are
    ∙ ap (λ (xs : List ℕ). map (λ k. add32 (slice_index xs k) (slice_index first k)) (range_with_len 0 16)) ends
    ∙ ap (λ (xs : List ℕ). map (λ k. add32 (slice_index (double_rounds 10 xs) k) (slice_index xs k)) (range_with_len 0 16)) starts
    ∙ sym (λ i. map (λ k. same_word key 0 n k (omega arith) fits i) (range_with_len 0 16))

byte_of_block : (key nonce : List ℕ) (k : ℕ) → k < 64 → get_or (block key 0 nonce) k 0 ≡ key_stream_byte key nonce k
unfolding key_stream_byte
byte_of_block key nonce k below =
    let number : k / 64 ≡ 0 = omega arith in
    let place : k % 64 ≡ k = omega arith in
    rw (number, place) refl

length-block : (key nonce : List ℕ) → length (block key 0 nonce) ≡ 64
length-block key nonce = refl

-- their bytes are the first 64 of the pad
pub bytes_are : (key : List ℕ) (n : ℕ) (words : List ℕ) → words ≡ map (block_word key 0 (pad_nonce n)) (range_with_len 0 16)
    → flat_map (to_le_bytes w32) words ≡ chacha_pad key n 64
bytes_are key n words are =
    let nonce = pad_nonce n in
    ap (flat_map (to_le_bytes w32)) are
    ∙ flat_map-map (to_le_bytes w32) (block_word key 0 nonce) (range_with_len 0 16)
    ∙ fill_by_all (λ k. key_stream_byte key nonce k) (block key 0 nonce) 64 0 (length-block key nonce) (λ k below. byte_of_block key nonce k below)
