-- What the first five bytes show.
use Rattle.std.proofs.Common.{◌≡◌, ◌≢◌, ℕ, zero, suc, ◌+◌, ◌^◌, ◌<◌, ◌≤◌, List, [], ◌∷◌, ◌++◌, length, get_or, take, drop, refl, sym, ◌∙◌, ap, subst, arith, append_assoc, length-append, take-append-drop}
use Rattle.std.specs.Int.{w32, to_be_bytes, from_be_bytes}
use Rattle.std.proofs.lemmas.Nat.{be_bytes_4, from_be_bytes-to_be_bytes_4}
use Rattle.std.proofs.lemmas.List.{drop_more, drop-drop, length-take, length-drop, get_or-take}
use Rattle.sse_journal.specs.Files.{framed, record_bytes}
use Rattle.sse_journal.specs.Heads.{IsRecord, IsBad}

first_of : (rest : List ℕ) → 0 < length rest → rest ≡ get_or rest 0 0 ∷ drop 1 rest
first_of rest some = drop_more rest 0 0 some

four : (rest : List ℕ) → 5 ≤ length rest → drop 1 rest ≡ (get_or rest 1 0 ∷ get_or rest 2 0 ∷ get_or rest 3 0 ∷ get_or rest 4 0 ∷ []) ++ drop 5 rest
four rest long =
    drop_more rest 1 0 (omega (arith, long)) ∙ ap (λ (l : List ℕ). get_or rest 1 0 ∷ l)
    (drop_more rest 2 0 (omega (arith, long)) ∙ ap (λ (l : List ℕ). get_or rest 2 0 ∷ l)
    (drop_more rest 3 0 (omega (arith, long)) ∙ ap (λ (l : List ℕ). get_or rest 3 0 ∷ l)
    (drop_more rest 4 0 (omega (arith, long)) ∙ refl)))

pub record_head : (rest : List ℕ) (n : ℕ) → get_or rest 0 0 ≡ 1 → ((i : ℕ) → i < 5 → get_or rest i 0 < 256)
    → n ≡ from_be_bytes w32 (get_or rest 1 0 ∷ get_or rest 2 0 ∷ get_or rest 3 0 ∷ get_or rest 4 0 ∷ []) → 0 < n → n ≤ 2 ^ 27 → 5 + n < length rest → IsRecord n rest
unfolding framed
record_head rest n is_open bytes number some limit long = record {
  payload = payload;
  size = size;
  is = record { some = omega (arith, size, some); limit = omega (arith, size, limit) };
  are = are;
  more = long;
}
  where
    payload : List ℕ
    payload = take n (drop 5 rest)

    size : length payload ≡ n
    size = omega (arith, length-take n (drop 5 rest), length-drop 5 rest, long)

    small : (i : ℕ) → get_or (get_or rest 1 0 ∷ get_or rest 2 0 ∷ get_or rest 3 0 ∷ get_or rest 4 0 ∷ []) i 0 < 256
    small zero = bytes 1 (omega arith)
    small (suc zero) = bytes 2 (omega arith)
    small (suc (suc zero)) = bytes 3 (omega arith)
    small (suc (suc (suc zero))) = bytes 4 (omega arith)
    small (suc (suc (suc (suc i)))) = omega arith

    spelled : to_be_bytes w32 n ≡ get_or rest 1 0 ∷ get_or rest 2 0 ∷ get_or rest 3 0 ∷ get_or rest 4 0 ∷ []
    spelled = be_bytes_4 _ n refl small number

    behind : drop 5 rest ≡ payload ++ drop (5 + n) rest
    behind = sym (take-append-drop n (drop 5 rest)) ∙ ap (λ (l : List ℕ). payload ++ l) (drop-drop n 5 rest)

    are : rest ≡ record_bytes payload ++ drop (5 + n) rest
    are =
        first_of rest (omega (arith, long))
        ∙ ap (λ (g : ℕ). g ∷ drop 1 rest) is_open
        ∙ ap (λ (l : List ℕ). 1 ∷ l) (four rest (omega (arith, long)) ∙ ap (λ (l : List ℕ). l ++ drop 5 rest) (sym spelled ∙ ap (to_be_bytes w32) (sym size)) ∙ ap (λ (l : List ℕ). to_be_bytes w32 (length payload) ++ l) behind ∙ sym (append_assoc (to_be_bytes w32 (length payload)) payload (drop (5 + n) rest)))

pub bad_head : (rest : List ℕ) → 1 < length rest → get_or rest 0 0 ≡ 1
    → ((5 ≤ length rest) → (n : ℕ) → n ≡ from_be_bytes w32 (get_or rest 1 0 ∷ get_or rest 2 0 ∷ get_or rest 3 0 ∷ get_or rest 4 0 ∷ []) → 1 ≤ n → n ≤ 2 ^ 27 → 5 + n < length rest → ⊥) → IsBad rest
unfolding framed
bad_head rest long is_open none = record {
  tail = drop 1 rest;
  are = first_of rest (omega (arith, long)) ∙ ap (λ (g : ℕ). g ∷ drop 1 rest) is_open;
  more = λ empty. absurd (omega (arith, long, ap length empty, length-drop 1 rest));
  none = λ payload next is some same.
      let size : length rest ≡ 5 + (length payload + length next) = ap length same ∙ omega (arith, length-append (framed payload) next, length-append (to_be_bytes w32 (length payload)) payload) in
      let behind : 1 ≤ length next = some_of next some in
      none (omega (arith, size)) (length payload) (subst (λ (l : List ℕ). length payload ≡ from_be_bytes w32 (get_or l 1 0 ∷ get_or l 2 0 ∷ get_or l 3 0 ∷ get_or l 4 0 ∷ [])) (sym same) (sym (from_be_bytes-to_be_bytes_4 (length payload) (omega (arith, is.limit))))) is.some is.limit (omega (arith, size, behind));
}
  where
    some_of : (xs : List ℕ) → xs ≢ [] → 1 ≤ length xs
    some_of [] some = absurd (some refl)
    some_of (x ∷ xs) some = omega arith

-- the same of the first five bytes that were read
abbrev digits : List ℕ → List ℕ
digits l = get_or l 1 0 ∷ get_or l 2 0 ∷ get_or l 3 0 ∷ get_or l 4 0 ∷ []

module _ (head rest : List ℕ) (reads : head ≡ take 5 rest) where
  read_at : (i : ℕ) → i < 5 → get_or head i 0 ≡ get_or rest i 0
  read_at i lt = ap (λ (l : List ℕ). get_or l i 0) reads ∙ get_or-take 5 rest i 0 lt

  digits_read : digits head ≡ digits rest
  digits_read =
      let e1 = read_at 1 (omega arith) in
      let e2 = read_at 2 (omega arith) in
      let e3 = read_at 3 (omega arith) in
      let e4 = read_at 4 (omega arith) in
      cc

  pub record_read : (n : ℕ) → get_or head 0 0 ≡ 1 → ((i : ℕ) → get_or head i 0 < 256) → n ≡ from_be_bytes w32 (digits head) → (n ≡ 0 → ⊥) → n ≤ 2 ^ 27 → 5 + n < length rest → IsRecord n rest
  record_read n is_open bytes number some limit long =
      record_head rest n (sym (read_at 0 (omega arith)) ∙ is_open) (λ i lt. subst (λ (b : ℕ). b < 256) (read_at i lt) (bytes i)) (number ∙ ap (from_be_bytes w32) digits_read) (omega (arith, some)) limit long

  pub bad_read : 1 < length rest → get_or head 0 0 ≡ 1 → (5 ≤ length head → (n : ℕ) → n ≡ from_be_bytes w32 (digits head) → 1 ≤ n → n ≤ 2 ^ 27 → 5 + n < length rest → ⊥) → IsBad rest
  bad_read long is_open none =
      bad_head rest long (sym (read_at 0 (omega arith)) ∙ is_open) (λ five n number some limit more. none (omega (arith, five, ap length reads, length-take 5 rest)) n (number ∙ ap (from_be_bytes w32) (sym digits_read)) some limit more)
