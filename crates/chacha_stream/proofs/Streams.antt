-- The bytes of the generator are the key stream, word by word.
use Rattle.std.proofs.Common.{◌≡◌, ℕ, zero, suc, ◌+◌, ◌*◌, ◌/◌, ◌%◌, ◌^◌, ◌<◌, ◌≤◌, List, [], ◌∷◌, ◌++◌, length, take, get_or, map, refl, sym, ap, ◌∙◌, arith, lit<, append_assoc, zero-add, slice_index, flat_map}
use Rattle.std.specs.List.{range_with_len}
use Rattle.std.specs.Int.{w32, to_le_bytes}
use Rattle.std.proofs.lemmas.List.FromFn.{take-map-range_with_len, map-range_with_len_more, get_or-range_with_len}
use Rattle.std.proofs.Math.ListN.{get_or-append}
use Rattle.std.proofs.lemmas.List.{get_or-append-add}
use Rattle.rand_core.specs.Steps.{word_bytes, fill_via_u32, steps_u32, stream_of}
use Rattle.rand_core.specs.Stream.{Stream, fill_bytes}
use Rattle.rand_core.proofs.StepsLemmas.{fill_bytes-value}
use Rattle.rand_chacha.specs.Block.{block_word as kit_block_word}
use Rattle.rand_chacha.specs.ChaCha.{ChaCha, key_of, next_word}
use Rattle.chacha_stream.specs.Rfc8439.{block_word, key_stream_byte}
use Rattle.chacha_stream.specs.Pad.{pad_nonce, chacha_pad}
use Rattle.chacha_stream.proofs.Blocks.{same_word}

-- in a list made of pieces of four, place 4 j + r is place r of piece j
fourth : (f : ℕ → List ℕ) → ((k : ℕ) → length (f k) ≡ 4) → (xs : List ℕ) (j r : ℕ) → r < 4 → j < length xs
    → slice_index (flat_map f xs) (4 * j + r) ≡ slice_index (f (get_or xs j 0)) r
fourth f four [] j r small within = absurd (omega arith)
fourth f four (x ∷ xs) zero r small within =
    rw (zero-add r) (get_or-append (f x) (flat_map f xs) 0 r (omega (arith, four x)))
fourth f four (x ∷ xs) (suc j) r small within =
    let later : 4 * suc j + r ≡ length (f x) + (4 * j + r) = omega (arith, four x) in
    rw later (get_or-append-add (f x) (flat_map f xs) (4 * j + r) 0 ∙ fourth f four xs j r small (omega arith))

-- word k of the key stream, counted over the blocks
abbrev pub stream_word : List ℕ → List ℕ → ℕ → ℕ
stream_word key nonce k = block_word key (k / 16) nonce (k % 16)

-- byte r of word k is byte 4 k + r of the key stream
byte_at_word : (key nonce : List ℕ) (k r : ℕ) → r < 4
    → key_stream_byte key nonce (4 * k + r) ≡ slice_index (to_le_bytes w32 (stream_word key nonce k)) r
unfolding key_stream_byte
byte_at_word key nonce k r small =
    let counter : (4 * k + r) / 64 ≡ k / 16 = omega arith in
    let place : (4 * k + r) % 64 ≡ 4 * (k % 16) + r = omega arith in
    let within : k % 16 < 16 = omega arith in
    rw (counter, place)
    (
    fourth (λ w. to_le_bytes w32 (block_word key (k / 16) nonce w)) (λ w. refl) (range_with_len 0 16) (k % 16) r small within
    ∙ ap (λ w. slice_index (to_le_bytes w32 (block_word key (k / 16) nonce w)) r)
    (get_or-range_with_len 0 16 (k % 16) 0 within ∙ zero-add (k % 16))
    )

-- byte i of the key stream, by its word
pub byte_by_word : (key nonce : List ℕ) (i : ℕ)
    → key_stream_byte key nonce i ≡ slice_index (to_le_bytes w32 (stream_word key nonce (i / 4))) (i % 4)
byte_by_word key nonce i =
    let place : i ≡ 4 * (i / 4) + i % 4 = omega arith in
    ap (key_stream_byte key nonce) place ∙ byte_at_word key nonce (i / 4) (i % 4) (omega arith)

-- four more values
four_more : (f : ℕ → ℕ) (m : ℕ)
    → map f (range_with_len 0 m) ++ f m ∷ f (m + 1) ∷ f (m + 2) ∷ f (m + 3) ∷ [] ≡ map f (range_with_len 0 (m + 4))
four_more f m =
    let e1 = map-range_with_len_more f 0 m m (zero-add m) in
    let e2 = map-range_with_len_more f 0 (m + 1) (m + 1) (zero-add (m + 1)) in
    let e3 = map-range_with_len_more f 0 (m + 2) (m + 2) (zero-add (m + 2)) in
    let e4 = map-range_with_len_more f 0 (m + 3) (m + 3) (zero-add (m + 3)) in
    grind (arith, e1, e2, e3, e4, append_assoc {A = ℕ})

-- word k after the pad of the words before it
word_more : (key : List ℕ) (n k : ℕ) → n < 2 ^ 64 → k < 2 ^ 36
    → chacha_pad key n (4 * k) ++ to_le_bytes w32 (kit_block_word 10 (key_of key) (k / 16) n (k % 16)) ≡ chacha_pad key n (4 * suc k)
word_more key n k fits small =
    let f : ℕ → ℕ = key_stream_byte key (pad_nonce n) in
    let word = same_word key (k / 16) n (k % 16) (omega arith) fits in
    let b0 = byte_at_word key (pad_nonce n) k 0 (lit< tt) in
    let b1 = byte_at_word key (pad_nonce n) k 1 (lit< tt) in
    let b2 = byte_at_word key (pad_nonce n) k 2 (lit< tt) in
    let b3 = byte_at_word key (pad_nonce n) k 3 (lit< tt) in
    let first : 4 * k + 0 ≡ 4 * k = omega arith in
    let bytes : to_le_bytes w32 (kit_block_word 10 (key_of key) (k / 16) n (k % 16))
    ≡ f (4 * k) ∷ f (4 * k + 1) ∷ f (4 * k + 2) ∷ f (4 * k + 3) ∷ [] = cc in
    let next : 4 * k + 4 ≡ 4 * suc k = omega arith in
    ap (λ b. chacha_pad key n (4 * k) ++ b) bytes ∙ four_more f (4 * k) ∙ ap (chacha_pad key n) next

-- the generator of a pad at word k
unfoldable at_word : List ℕ → ℕ → ℕ → ChaCha
at_word key n k = record { key = key_of key; stream = n; word_pos = k }

bytes_after : (key : List ℕ) (n k : ℕ) → n < 2 ^ 64 → k ≤ 2 ^ 36
    → word_bytes (to_le_bytes w32) (next_word 10) k (at_word key n 0) ≡ (chacha_pad key n (4 * k), at_word key n k)
unfolding word_bytes at_word
bytes_after key n zero fits small = refl
bytes_after key n (suc k) fits small =
    let next : (k + 1) % 2 ^ 68 ≡ suc k = omega arith in
    ap (λ (p : List ℕ × ChaCha). (p.0 ++ to_le_bytes w32 (next_word 10 p.1).0, (next_word 10 p.1).1))
    (bytes_after key n k fits (omega arith))
    ∙ ap (λ bytes. (bytes, (next_word 10 (at_word key n k)).1)) (word_more key n k fits (omega arith))
    ∙ ap (λ w. (chacha_pad key n (4 * suc k), at_word key n w)) next

-- what a fresh generator of this key and stream fills a buffer with is the pad
pub filled : (key : List ℕ) (n len : ℕ) (out : List ℕ) (rest : Stream) (g : ChaCha)
    → n < 2 ^ 64
    → len ≤ 2 ^ 38
    → g ≡ record { key = key_of key; stream = n; word_pos = 0 }
    → (out, rest) ≡ fill_bytes len (stream_of (steps_u32 (next_word 10)) g)
    → out ≡ chacha_pad key n len
unfolding at_word
filled key n len out rest g fits small start gave =
    fill_bytes-value (steps_u32 (next_word 10)) len g out rest gave
    ∙ ap (λ s. (fill_via_u32 (next_word 10) len s).0) start
    ∙ ap (λ (p : List ℕ × ChaCha). take len p.0) (bytes_after key n ((len + 3) / 4) fits (omega arith))
    ∙ take-map-range_with_len _ 0 (4 * ((len + 3) / 4)) len (omega arith)

-- between byte i of the key stream and the next one: the word that byte i is in, and the generator after it
pub record InHand (key : List ℕ) (n i word : ℕ) (stream : ChaCha) : Type 0 where
  pub word_is : word ≡ stream_word key (pad_nonce n) (i / 4)
  pub stream_is : stream ≡ record { key = key_of key; stream = n; word_pos = (i + 1 + 3) / 4 }

-- at the first byte of a word the generator gives that word
pub word_taken : (key : List ℕ) (n i word : ℕ) (before after : ChaCha)
    → n < 2 ^ 64
    → i < 2 ^ 38
    → i % 4 ≡ 0
    → before ≡ record { key = key_of key; stream = n; word_pos = (i + 3) / 4 }
    → (word, after) ≡ next_word 10 before
    → InHand key n i word after
unfolding at_word
word_taken key n i word before after fits small first start gave =
    let here : (i + 3) / 4 ≡ i / 4 = omega arith in
    let next : (i / 4 + 1) % 2 ^ 68 ≡ (i + 1 + 3) / 4 = omega arith in
    let step = gave ∙ ap (next_word 10) (start ∙ ap (at_word key n) here) in
    record {
      word_is = ap (λ (p : ℕ × ChaCha). p.0) step ∙ sym (same_word key (i / 4 / 16) n (i / 4 % 16) (omega arith) fits);
      stream_is = ap (λ (p : ℕ × ChaCha). p.1) step ∙ ap (at_word key n) next;
    }

-- at any other byte the word stays
pub word_stays : (key : List ℕ) (n i word : ℕ) (stream : ChaCha)
    → 0 < i % 4
    → stream ≡ record { key = key_of key; stream = n; word_pos = (i + 3) / 4 }
    → word ≡ stream_word key (pad_nonce n) (i / 4)
    → InHand key n i word stream
unfolding at_word
word_stays key n i word stream inside start in_hand =
    let same : (i + 3) / 4 ≡ (i + 1 + 3) / 4 = omega arith in
    record { word_is = in_hand; stream_is = start ∙ ap (at_word key n) same }

-- the word is that of the next byte too, unless it ends here
pub word_goes_on : (key : List ℕ) (n i word : ℕ) (stream : ChaCha)
    → InHand key n i word stream
    → 0 < (i + 1) % 4
    → word ≡ stream_word key (pad_nonce n) ((i + 1) / 4)
word_goes_on key n i word stream now inside =
    let same : i / 4 ≡ (i + 1) / 4 = omega arith in
    now.word_is ∙ ap (stream_word key (pad_nonce n)) same

-- the byte of the key stream that the word in hand has for place i
pub byte_in_hand : (key : List ℕ) (n i word : ℕ) (stream : ChaCha) (bytes : List ℕ)
    → InHand key n i word stream
    → bytes ≡ to_le_bytes w32 word
    → get_or bytes (i % 4) 0 ≡ key_stream_byte key (pad_nonce n) i
byte_in_hand key n i word stream bytes now are =
    ap (λ b. get_or b (i % 4) 0) (are ∙ ap (to_le_bytes w32) now.word_is) ∙ sym (byte_by_word key (pad_nonce n) i)
