-- What is so of the bytes of each word.
use Rattle.std.proofs.Common.{◌≡◌, ℕ, zero, suc, ◌+◌, ◌/◌, ◌%◌, ◌<◌, ◌≤◌, Bool, true, false, cond, inl, inr, List, [], ◌∷◌, length, take, None, Some, nat_lt, refl, sym, ap, ◌∙◌, subst, arith}
use Rattle.std.specs.Prelude.{All, ◌==◌, if◌then◌else◌, IsUtf8}
use Rattle.std.specs.Str.{is_utf8}
use Rattle.std.specs.Str.Lossy.{utf8_valid_len, valid_len_up_to}
use Rattle.std.proofs.lemmas.Bool.{and_parts, ltb-true, ltb-false, eqb-false}
use Rattle.std.proofs.lemmas.List.{take_all}
use Rattle.std.proofs.lemmas.List.Elements.{All-nil, All-cons, All-append}
use Rattle.std.proofs.lemmas.Str.{IsUtf8-from_is_utf8}
use Rattle.client_registry.specs.WordRule.{clean_len, word_refusal}
use Rattle.client_registry.specs.declared.faults.WordFault.TheVariants.{Empty, TooLong, BadByte}
use lib.Utf8.{scalar, scalars, scalar_cases, encode, encodes}

-- a word has 1 to 64 bytes
pub length-word : (bytes : List ℕ) → word_refusal bytes ≡ None → (1 ≤ length bytes) × (length bytes ≤ 64) × (length bytes ≤ clean_len bytes)
length-word bytes h = by (length bytes == 0) (nat_lt 64 (length bytes)) (nat_lt (clean_len bytes) (length bytes)) refl refl refl h
  where
    by : (x y z : Bool) → (length bytes == 0) ≡ x → nat_lt 64 (length bytes) ≡ y → nat_lt (clean_len bytes) (length bytes) ≡ z
        → (if x then Some Empty else if y then Some (TooLong (length bytes)) else if z then Some (BadByte (clean_len bytes)) else None) ≡ None
        → (1 ≤ length bytes) × (length bytes ≤ 64) × (length bytes ≤ clean_len bytes)
    by true y z a b c e = absurd (cc)
    by false true z a b c e = absurd (cc)
    by false false true a b c e = absurd (cc)
    by false false false a b c e =
        let some : length bytes ≡ 0 → ⊥ = eqb-false (length bytes) 0 a in
        (omega arith, ltb-false 64 (length bytes) b, ltb-false (clean_len bytes) (length bytes) c)

-- the front that is UTF-8 is no longer than asked for
valid_len_up_to-below : (bytes : List ℕ) (n : ℕ) → valid_len_up_to bytes n ≤ n
valid_len_up_to-below bytes zero = omega arith
valid_len_up_to-below bytes (suc n) = by (is_utf8 (take (suc n) bytes)) (valid_len_up_to-below bytes n)
  where
    by : (b : Bool) → valid_len_up_to bytes n ≤ n → (if b then suc n else valid_len_up_to bytes n) ≤ suc n
    by true h = omega arith
    by false h = omega arith

valid_whole : (bytes : List ℕ) (n : ℕ) → 1 ≤ n → n ≤ valid_len_up_to bytes n → is_utf8 (take n bytes) ≡ true
valid_whole bytes zero some h = absurd (omega arith)
valid_whole bytes (suc n) some h = by (is_utf8 (take (suc n) bytes)) h
  where
    by : (b : Bool) → suc n ≤ (if b then suc n else valid_len_up_to bytes n) → b ≡ true
    by true e = refl
    by false e = absurd (omega (arith, e, valid_len_up_to-below bytes n))

-- a word is UTF-8
pub IsUtf8-word : (bytes : List ℕ) → word_refusal bytes ≡ None → IsUtf8 bytes
unfolding utf8_valid_len
IsUtf8-word bytes h =
    let parts = length-word bytes h in
    let n = length bytes in
    let whole : n ≤ valid_len_up_to bytes n = omega (arith, parts.2) in
    IsUtf8-from_is_utf8 bytes (ap is_utf8 (sym (take_all n bytes (omega arith))) ∙ valid_whole bytes n parts.0 whole)

-- each byte of a character is below 256
encode-below : (c : ℕ) → scalar c ≡ true → All (λ b. b < 256) (encode c)
unfolding encode
encode-below c ok = by (nat_lt c 128) (nat_lt c 2048) (nat_lt c 65536) refl refl refl
  where
    limit : c < 1114112
    limit = elim (scalar_cases c ok) [ inl h ↦ omega arith | inr h ↦ omega (arith, h.1) ]

    by : (x y z : Bool) → nat_lt c 128 ≡ x → nat_lt c 2048 ≡ y → nat_lt c 65536 ≡ z
        → All (λ b. b < 256) (cond x (c ∷ []) (cond y ((192 + c / 64) ∷ (128 + c % 64) ∷ []) (cond z ((224 + c / 4096) ∷ (128 + c / 64 % 64) ∷ (128 + c % 64) ∷ []) ((240 + c / 262144) ∷ (128 + c / 4096 % 64) ∷ (128 + c / 64 % 64) ∷ (128 + c % 64) ∷ []))))
    by true y z a b d = let small : c < 128 = ltb-true c 128 a in All-cons (λ b. b < 256) (c) [] (omega arith) (All-nil (λ b. b < 256))
    by false true z a b d = let small : c < 2048 = ltb-true c 2048 b in All-cons (λ b. b < 256) (192 + c / 64) ((128 + c % 64) ∷ []) (omega arith) (All-cons (λ b. b < 256) (128 + c % 64) [] (omega arith) (All-nil (λ b. b < 256)))
    by false false true a b d = let small : c < 65536 = ltb-true c 65536 d in All-cons (λ b. b < 256) (224 + c / 4096) ((128 + c / 64 % 64) ∷ (128 + c % 64) ∷ []) (omega arith) (All-cons (λ b. b < 256) (128 + c / 64 % 64) ((128 + c % 64) ∷ []) (omega arith) (All-cons (λ b. b < 256) (128 + c % 64) [] (omega arith) (All-nil (λ b. b < 256))))
    by false false false a b d = All-cons (λ b. b < 256) (240 + c / 262144) ((128 + c / 4096 % 64) ∷ (128 + c / 64 % 64) ∷ (128 + c % 64) ∷ []) (omega (arith, limit)) (All-cons (λ b. b < 256) (128 + c / 4096 % 64) ((128 + c / 64 % 64) ∷ (128 + c % 64) ∷ []) (omega arith) (All-cons (λ b. b < 256) (128 + c / 64 % 64) ((128 + c % 64) ∷ []) (omega arith) (All-cons (λ b. b < 256) (128 + c % 64) [] (omega arith) (All-nil (λ b. b < 256)))))

-- each byte of a word is below 256
pub bytes_of_words_fit : (bytes : List ℕ) → word_refusal bytes ≡ None → All (λ b. b < 256) bytes
bytes_of_words_fit bytes h =
    let text = IsUtf8-word bytes h in
    subst (All (λ b. b < 256)) text.1.1 (each text.0 text.1.0)
  where
    each : (cs : List ℕ) → scalars cs ≡ true → All (λ b. b < 256) (encodes cs)
    each [] ok = All-nil (λ b. b < 256)
    each (c ∷ cs) ok =
        let parts = and_parts (scalar c) (scalars cs) ok in
        All-append (λ b. b < 256) (encode c) (encodes cs) (encode-below c parts.0) (each cs parts.1)
