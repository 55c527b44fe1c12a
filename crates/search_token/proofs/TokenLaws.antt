-- A token and its 160 bytes.
use Rattle.std.proofs.Common.{◌≡◌, ◌∙◌, ℕ, List, [], ◌∷◌, ◌++◌, append_assoc, append-nil, sym, ap, refl, length, length-append, take, drop, arith}
use Rattle.std.proofs.lemmas.List.{take_all}
use Rattle.std.proofs.Math.Seq.{take-add, take-append_seam, drop-append_seam}
use Rattle.keyed_fn.specs.KeyedFn.{KeyedFn, IsKeyedFn}
use Rattle.keyed_fn.specs.KeyFormulas.{token_of}
use Rattle.search_token.specs.TokenKeys.{token_keys, token_bytes, keys_of_bytes}

-- the bytes of a word's token are those of the key formula
pub token_bytes-token_keys : (f : KeyedFn) (master word : List ℕ) → token_bytes (token_keys f master word) ≡ token_of f master word
token_bytes-token_keys f master word = refl

-- the token that is read from 160 bytes has these bytes
pub token_bytes-keys_of_bytes : (bytes : List ℕ) → length bytes ≡ 160 → token_bytes (keys_of_bytes bytes) ≡ bytes
token_bytes-keys_of_bytes bytes long =
    let two : take 64 bytes ≡ take 32 bytes ++ take 32 (drop 32 bytes) = take-add 32 32 bytes in
    let three : take 96 bytes ≡ take 64 bytes ++ take 32 (drop 64 bytes) = take-add 64 32 bytes in
    let four : take 128 bytes ≡ take 96 bytes ++ take 32 (drop 96 bytes) = take-add 96 32 bytes in
    let five : take 160 bytes ≡ take 128 bytes ++ take 32 (drop 128 bytes) = take-add 128 32 bytes in
    let whole : take 160 bytes ≡ bytes = take_all 160 bytes (omega arith) in
    cc

-- the key that stands after n bytes
key_behind : (before key after : List ℕ) (n : ℕ) → length before ≡ n → length key ≡ 32 →
    take 32 (drop n (before ++ (key ++ after))) ≡ key
key_behind before key after n place size =
    ap (λ m. take 32 (drop m (before ++ (key ++ after)))) (sym place)
    ∙ ap (take 32) (drop-append_seam before (key ++ after))
    ∙ ap (λ m. take m (key ++ after)) (sym size)
    ∙ take-append_seam key after

-- five keys are read back from their bytes
keys_of_five : (a b c d e : List ℕ) →
    length a ≡ 32 → length b ≡ 32 → length c ≡ 32 → length d ≡ 32 → length e ≡ 32 →
    keys_of_bytes ((((a ++ b) ++ c) ++ d) ++ e)
    ≡ record { label_key = a; pad_key = b; plus_label_key = c; plus_pad_key = d; revocation_key = e }
keys_of_five a b c d e la lb lc ld le =
    let one : take 32 (a ++ (b ++ (c ++ (d ++ e)))) ≡ a = key_behind [] a (b ++ (c ++ (d ++ e))) 0 refl la in
    let two = key_behind a b (c ++ (d ++ e)) 32 la lb in
    let three = simp append_assoc at (key_behind (a ++ b) c (d ++ e) 64 (simp length-append (omega arith)) lc) in
    let four = simp append_assoc at (key_behind ((a ++ b) ++ c) d e 96 (simp length-append (omega arith)) ld) in
    let five = simp (append_assoc, append-nil) at (key_behind (((a ++ b) ++ c) ++ d) e [] 128 (simp length-append (omega arith)) le) in
    simp append_assoc (cc)

-- the token of a word is read back from its bytes
pub keys_of_bytes-token_of : (f : KeyedFn) → IsKeyedFn f → (master word : List ℕ) →
    keys_of_bytes (token_of f master word) ≡ token_keys f master word
keys_of_bytes-token_of f laws master word =
    keys_of_five _ _ _ _ _ (laws.prf_length master (1 ∷ word)) (laws.prf_length master (2 ∷ word))
    (laws.prf_length master (3 ∷ word)) (laws.prf_length master (4 ∷ word)) (laws.prf_length master (5 ∷ word))
