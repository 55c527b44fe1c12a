-- Places one by one, and the words and positions of a split.
use Rattle.std.proofs.Common.{◌≡◌, ℕ, ◌+◌, ◌-◌, ◌<◌, Bool, true, false, cond, not, List, [], ◌∷◌, ◌++◌, length, map, filter, take, get_or, refl, sym, ap, ◌∙◌, append_assoc, length-append, arith}
use Rattle.std.specs.Prelude.{slice_index_or}
use Rattle.std.specs.List.{range_with_len}
use Rattle.std.proofs.lemmas.List.{get_or-append_right, length-take-le, take_more}
use Rattle.std.proofs.lemmas.List.Elements.{filter-append}
use Rattle.client_registry.specs.Numbered.{words_by_number}
use Rattle.client_registry.specs.Registered.{Registered, facts, known_words}
use Rattle.revocation_ids.specs.Places.{places_from, word_at, fresh_places, listed_places}
use Rattle.revocation_ids.specs.declared.numbered_word.NumberedWord.{NumberedWord}

abbrev place_at : ℕ → ℕ → NumberedWord
place_at i n = record { position = i; number = n }

places_from-push : (i : ℕ) (ns : List ℕ) (n j : ℕ) → i + length ns ≡ j → places_from i (ns ++ n ∷ []) ≡ places_from i ns ++ place_at j n ∷ []
places_from-push i [] n j e = let same : i ≡ j = omega (arith, e) in ap (λ k. place_at k n ∷ []) same
places_from-push i (m ∷ ns) n j e = ap (λ ps. place_at i m ∷ ps) (places_from-push (i + 1) ns n j (omega (arith, e)))

-- those that pass, with one number more
pub places_more : (p : NumberedWord → Bool) (numbers : List ℕ) (i : ℕ) → i < length numbers
    → filter p (places_from 0 (take (i + 1) numbers))
    ≡ filter p (places_from 0 (take i numbers)) ++ cond (p (place_at i (get_or numbers i 0))) (place_at i (get_or numbers i 0) ∷ []) []
places_more p numbers i within =
    ap (λ ns. filter p (places_from 0 ns)) (take_more numbers i 0 within)
    ∙ ap (filter p) (places_from-push 0 (take i numbers) (get_or numbers i 0) i (omega (arith, within, length-take-le i numbers)))
    ∙ filter-append p (places_from 0 (take i numbers)) (place_at i (get_or numbers i 0) ∷ [])

-- of one more whether it passes
pub one_more : (p : NumberedWord → Bool) (numbers : List ℕ) (i : ℕ) (b : Bool) → i < length numbers → p (place_at i (get_or numbers i 0)) ≡ b
    → filter p (places_from 0 (take (i + 1) numbers)) ≡ filter p (places_from 0 (take i numbers)) ++ cond b (place_at i (get_or numbers i 0) ∷ []) []
one_more p numbers i b within is =
    places_more p numbers i within ∙ ap (λ t. filter p (places_from 0 (take i numbers)) ++ cond t (place_at i (get_or numbers i 0) ∷ []) []) is

module _ (r : Registered) (p : List ℕ → Bool) where
  abbrev word : ℕ → List ℕ
  word n = slice_index_or (known_words r) n []

  -- the words of those places whose word passes a test
  pub words_of_places : (i : ℕ) (numbers : List ℕ) → map (word_at r) (filter (λ place. p (word_at r place)) (places_from i numbers)) ≡ filter p (words_by_number (known_words r) numbers)
  words_of_places i [] = refl
  words_of_places i (n ∷ ns) = by (p (word n)) (words_of_places (i + 1) ns)
    where
      rest : List NumberedWord
      rest = filter (λ place. p (word_at r place)) (places_from (i + 1) ns)

      by : (b : Bool) → map (word_at r) rest ≡ filter p (words_by_number (known_words r) ns)
          → map (word_at r) (cond b (place_at i n ∷ rest) rest) ≡ cond b (word n ∷ filter p (words_by_number (known_words r) ns)) (filter p (words_by_number (known_words r) ns))
      by true e = ap (λ ws. word n ∷ ws) e
      by false e = e

  -- Promise P64, also here
  -- and their positions, after these words
  pub positions_of_places : (front : List (List ℕ)) (numbers : List ℕ) (n : ℕ) → length front ≡ n
      → map (λ place. place.position) (filter (λ place. p (word_at r place)) (places_from n numbers))
      ≡ filter (λ i. p (slice_index_or (front ++ words_by_number (known_words r) numbers) i [])) (range_with_len n (length numbers))
  positions_of_places front [] n len = refl
  positions_of_places front (m ∷ ms) n len =
      by (p (word m))
      (positions_of_places (front ++ word m ∷ []) ms (n + 1) (length-append front (word m ∷ []) ∙ ap (λ k. k + 1) len)
      ∙ ap (λ all. filter (λ i. p (slice_index_or all i [])) (range_with_len (n + 1) (length ms))) (append_assoc front (word m ∷ []) (words_by_number (known_words r) ms)))
      ∙ ap (λ b. cond b (n ∷ others) others) (sym here)
    where
      all : List (List ℕ)
      all = front ++ word m ∷ words_by_number (known_words r) ms

      others : List ℕ
      others = filter (λ i. p (slice_index_or all i [])) (range_with_len (n + 1) (length ms))

      rest : List NumberedWord
      rest = filter (λ place. p (word_at r place)) (places_from (n + 1) ms)

      here : p (slice_index_or all n []) ≡ p (word m)
      here =
          let none : n - length front ≡ 0 = omega (arith, len) in
          ap p (get_or-append_right front (word m ∷ words_by_number (known_words r) ms) (length front) n [] refl (omega (arith, len)) ∙ ap (λ k. get_or (word m ∷ words_by_number (known_words r) ms) k []) none)

      by : (b : Bool) → map (λ place. place.position) rest ≡ others → map (λ place. place.position) (cond b (place_at n m ∷ rest) rest) ≡ cond b (n ∷ others) others
      by true e = ap (λ is. n ∷ is) e
      by false e = e

-- Promise P64, also here
-- the words of a split: those whose pair isn't listed, and those whose pair is
pub fresh-words : (r : Registered) (id : ℕ) (numbers : List ℕ)
    → map (word_at r) (fresh_places r id numbers) ≡ filter (λ word. not ((facts r).listed word id)) (words_by_number (known_words r) numbers)
fresh-words r id numbers = words_of_places r (λ word. not ((facts r).listed word id)) 0 numbers

-- Promise P64, also here
pub listed-words : (r : Registered) (id : ℕ) (numbers : List ℕ)
    → map (word_at r) (listed_places r id numbers) ≡ filter (λ word. (facts r).listed word id) (words_by_number (known_words r) numbers)
listed-words r id numbers = words_of_places r (λ word. (facts r).listed word id) 0 numbers
