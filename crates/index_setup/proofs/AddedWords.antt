-- The lists of all words once a document's identifier stands in those of its first words.
use Rattle.std.proofs.Common.{◌≡◌, ℕ, suc, ◌+◌, ◌<◌, ◌≤◌, Bool, true, false, cond, List, [], ◌∷◌, ◌++◌, length, take, drop, map, filter, get_or, set, Option, None, Some, position, refl, sym, ap, ◌∙◌, subst, append_assoc, arith, length-append}
use Rattle.std.specs.Prelude.{replicate}
use Rattle.std.specs.List.{AllByRecursion, IsDistinct}
use Rattle.std.specs.Option.{option_map}
use Rattle.std.specs.Str.{bytes_eq}
use Rattle.std.proofs.lemmas.Cmp.{nat_list_eq_equiv}
use Rattle.std.proofs.lemmas.List.{append-nil, length-map, map-append, take_more, take-append-drop}
use Rattle.std.proofs.lemmas.List.Elements.{All-cons, All-nil, filter-append}
use Rattle.std.proofs.lemmas.Slice.Eq.{bytes_eq-Decides}
use Rattle.client_registry.proofs.DistinctLaws.{IsDistinct-first_seen}
use Rattle.client_registry.proofs.Positions.{position-cons}
use Rattle.client_registry.proofs.WordsLaws.{length-ids_with}
use Rattle.client_registry.specs.Document.{Document}
use Rattle.client_registry.specs.DocumentRule.{IsDocument}
use Rattle.client_registry.specs.Documents.{all_words, has_word, ids_with, words_of}
use Rattle.index_setup.specs.Lists.{lists_among}

-- the identifier, as often as the word stands among these
abbrev pub id_for : ℕ → List (List ℕ) → List ℕ → List ℕ
id_for id ws word = map (λ _. id) (filter (bytes_eq word) ws)

-- for each word of all documents its list, and the identifier where the word is among these
abbrev pub lists_with : List Document → List Document → ℕ → List (List ℕ) → List (List ℕ)
lists_with docs before id ws = map (λ word. ids_with before word ++ id_for id ws word) (words_of docs)

id_for-push : (id : ℕ) (ws : List (List ℕ)) (v word : List ℕ) → id_for id (ws ++ v ∷ []) word ≡ id_for id ws word ++ id_for id (v ∷ []) word
id_for-push id ws v word = ap (map (λ _. id)) (filter-append (bytes_eq word) ws (v ∷ [])) ∙ map-append (λ _. id) (filter (bytes_eq word) ws) (filter (bytes_eq word) (v ∷ []))

module _ (G : List ℕ → List ℕ) (id : ℕ) (v : List ℕ) where
  -- with the identifier after the list of the word v
  abbrev with_id : List ℕ → List ℕ
  with_id word = G word ++ id_for id (v ∷ []) word

  here : (u : List ℕ) → bytes_eq v u ≡ true → with_id u ≡ G u ++ id ∷ []
  here u is = ap (λ b. G u ++ map (λ _. id) (cond b (v ∷ []) [])) (nat_list_eq_equiv.symm u v ∙ is)

  elsewhere : (u : List ℕ) → bytes_eq v u ≡ false → with_id u ≡ G u
  elsewhere u is = ap (λ b. G u ++ map (λ _. id) (cond b (v ∷ []) [])) (nat_list_eq_equiv.symm u v ∙ is) ∙ append-nil (G u)

  nowhere : (words : List (List ℕ)) → AllByRecursion (λ u. bytes_eq v u ≡ false) words → map with_id words ≡ map G words
  nowhere [] none = refl
  nowhere (u ∷ us) none = λ i. elsewhere u none.0 i ∷ nowhere us none.1 i

  at_place : (words : List (List ℕ)) → IsDistinct bytes_eq words → (n : ℕ) → position (bytes_eq v) words ≡ Some n
      → map with_id words ≡ set (map G words) n (get_or (map G words) n [] ++ id ∷ [])
  unfolding IsDistinct
  at_place [] apart n at = refl
  at_place (u ∷ us) apart n at = by (bytes_eq v u) refl (position (bytes_eq v) us) refl (sym (position-cons (bytes_eq v) u us) ∙ at) (at_place us apart.1)
    where
      by : (b : Bool) → bytes_eq v u ≡ b → (o : Option ℕ) → position (bytes_eq v) us ≡ o → cond b (Some 0) (option_map (λ k. suc k) o) ≡ Some n
          → ((m : ℕ) → position (bytes_eq v) us ≡ Some m → map with_id us ≡ set (map G us) m (get_or (map G us) m [] ++ id ∷ []))
          → with_id u ∷ map with_id us ≡ set (G u ∷ map G us) n (get_or (G u ∷ map G us) n [] ++ id ∷ [])
      by true is o e found later =
          let zero_is : 0 ≡ n = cc in
          let same : v ≡ u = (bytes_eq-Decides v u).0 is in
          let others : AllByRecursion (λ w. bytes_eq v w ≡ false) us = subst (λ x. AllByRecursion (λ w. bytes_eq x w ≡ false) us) (sym same) apart.0 in
          subst (λ k. with_id u ∷ map with_id us ≡ set (G u ∷ map G us) k (get_or (G u ∷ map G us) k [] ++ id ∷ [])) zero_is (λ i. here u is i ∷ nowhere us others i)
      by false is None e found later = absurd (cc)
      by false is (Some m) e found later =
          let next : suc m ≡ n = cc in
          subst (λ k. with_id u ∷ map with_id us ≡ set (G u ∷ map G us) k (get_or (G u ∷ map G us) k [] ++ id ∷ [])) next (λ i. elsewhere u is i ∷ later m e i)

module _ (docs before : List Document) (id : ℕ) (ws : List (List ℕ)) (v : List ℕ) where
  abbrev so_far : List (List ℕ)
  so_far = lists_with docs before id ws

  with_one : lists_with docs before id (ws ++ v ∷ []) ≡ map (with_id (λ word. ids_with before word ++ id_for id ws word) id v) (words_of docs)
  with_one =
      λ i. map (λ word. (ap (λ ids. ids_with before word ++ ids) (id_for-push id ws v word) ∙ sym (append_assoc (ids_with before word) (id_for id ws word) (id_for id (v ∷ []) word))) i) (words_of docs)

  -- one word more: its list has the identifier after it
  pub lists_with-found : (n : ℕ) → position (bytes_eq v) (words_of docs) ≡ Some n → lists_with docs before id (ws ++ v ∷ []) ≡ set so_far n (get_or so_far n [] ++ id ∷ [])
  lists_with-found n at = with_one ∙ at_place (λ word. ids_with before word ++ id_for id ws word) id v (words_of docs) (IsDistinct-first_seen (all_words docs)) n at

constant : {X : Type 0} (id : ℕ) (xs : List X) → map (λ _. id) xs ≡ replicate (length xs) id
constant id [] = refl
constant id (x ∷ xs) = ap (λ ids. id ∷ ids) (constant id xs)

-- a word stands once among a document's words, or nowhere
id_for-document : (d : Document) (word : List ℕ) → IsDocument d → id_for d.id d.words word ≡ ids_with (d ∷ []) word
id_for-document d word is =
    constant d.id (filter (bytes_eq word) d.words)
    ∙ ap (λ n. replicate n d.id) (ap (λ ws. length (filter (bytes_eq word) ws)) (sym (append-nil d.words)) ∙ length-ids_with (d ∷ []) word (All-cons IsDocument d [] is (All-nil IsDocument)))
    ∙ by (has_word word d)
  where
    by : (b : Bool) → replicate (length (map (λ (e : Document). e.id) (cond b (d ∷ []) []))) d.id ≡ map (λ (e : Document). e.id) (cond b (d ∷ []) [])
    by true = refl
    by false = refl

-- after all its words the document is one of those before
with_document : (docs : List Document) (i : ℕ) (d : Document) → i < length docs → get_or docs i d ≡ d → IsDocument d
    → (word : List ℕ) → ids_with (take i docs) word ++ id_for d.id d.words word ≡ ids_with (take (i + 1) docs) word
with_document docs i d within at is word =
    ap (λ ids. ids_with (take i docs) word ++ ids) (id_for-document d word is)
    ∙ sym (map-append (λ (e : Document). e.id) (filter (has_word word) (take i docs)) (filter (has_word word) (d ∷ [])))
    ∙ ap (map (λ (e : Document). e.id)) (sym (filter-append (has_word word) (take i docs) (d ∷ [])))
    ∙ ap (λ ds. ids_with ds word) (sym (take_more docs i d within ∙ ap (λ e. take i docs ++ e ∷ []) at))

pub lists_with-all : (docs : List Document) (i : ℕ) (d : Document) → i < length docs → get_or docs i d ≡ d → IsDocument d
    → lists_with docs (take i docs) d.id d.words ≡ lists_among docs (take (i + 1) docs)
lists_with-all docs i d within at is = λ j. map (λ word. with_document docs i d within at is word j) (words_of docs)

-- ---- no list grows beyond its length

fewer : {X : Type 0} (p : X → Bool) (xs ys : List X) → length (filter p xs) ≤ length (filter p (xs ++ ys))
fewer p xs ys = omega (arith, ap length (filter-append p xs ys), length-append (filter p xs) (filter p ys))

ids_with-front : (docs : List Document) (i : ℕ) (word : List ℕ) → length (ids_with (take i docs) word) ≤ length (ids_with docs word)
ids_with-front docs i word =
    let more = fewer (has_word word) (take i docs) (drop i docs) in
    let all = ap (λ ds. length (filter (has_word word) ds)) (take-append-drop i docs) in
    omega (arith, more, all, length-map (filter (has_word word) (take i docs)) (λ (d : Document). d.id), length-map (filter (has_word word) docs) (λ (d : Document). d.id))

id_for-front : (id : ℕ) (ws : List (List ℕ)) (k : ℕ) (word : List ℕ) → length (id_for id (take k ws) word) ≤ length (id_for id ws word)
id_for-front id ws k word =
    let more = fewer (bytes_eq word) (take k ws) (drop k ws) in
    let all = ap (λ vs. length (filter (bytes_eq word) vs)) (take-append-drop k ws) in
    omega (arith, more, all, length-map (filter (bytes_eq word) (take k ws)) (λ _. id), length-map (filter (bytes_eq word) ws) (λ _. id))

module _ (docs : List Document) (i : ℕ) (d : Document) (within : i < length docs) (at : get_or docs i d ≡ d) (is : IsDocument d) where
  -- what a list has after some of a document's words is no more than it is to have
  pub partial_fits : (k : ℕ) (word : List ℕ) → length (ids_with (take i docs) word ++ id_for d.id (take k d.words) word) ≤ length (ids_with docs word)
  partial_fits k word =
      let whole = ap length (with_document docs i d within at is word) in
      omega (
        arith,
        whole,
        length-append (ids_with (take i docs) word) (id_for d.id (take k d.words) word),
        length-append (ids_with (take i docs) word) (id_for d.id d.words word),
        id_for-front d.id d.words k word,
        ids_with-front docs (i + 1) word,
      )

  -- and less where the next word is the list's own
  pub partial_less : (k : ℕ) → k < length d.words
      → length (ids_with (take i docs) (get_or d.words k []) ++ id_for d.id (take k d.words) (get_or d.words k [])) < length (ids_with docs (get_or d.words k []))
  partial_less k inside =
      let word : List ℕ = get_or d.words k [] in
      let more : id_for d.id (take (k + 1) d.words) word ≡ id_for d.id (take k d.words) word ++ id_for d.id (word ∷ []) word =
      ap (λ vs. id_for d.id vs word) (take_more d.words k [] inside) ∙ id_for-push d.id (take k d.words) word word in
      let one : length (id_for d.id (word ∷ []) word) ≡ 1 = ap (λ b. length (map (λ _. d.id) (cond b (word ∷ []) []))) (nat_list_eq_equiv.refl word) in
      omega (
        arith,
        partial_fits (k + 1) word,
        ap length more,
        one,
        length-append (id_for d.id (take k d.words) word) (id_for d.id (word ∷ []) word),
        length-append (ids_with (take i docs) word) (id_for d.id (take k d.words) word),
        length-append (ids_with (take i docs) word) (id_for d.id (take (k + 1) d.words) word),
      )
