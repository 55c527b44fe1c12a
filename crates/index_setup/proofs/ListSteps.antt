-- One word of a document more: its identifier goes into the word's list.
use Rattle.std.proofs.Common.{◌≡◌, ℕ, ◌+◌, ◌<◌, ◌≤◌, List, [], ◌∷◌, ◌++◌, length, take, map, get_or, set, refl, sym, ap, subst, ◌∙◌, arith}
use Rattle.std.specs.Prelude.{All, slice_index_or}
use Rattle.std.proofs.lemmas.Grind.{get_or_default_zero}
use Rattle.std.proofs.lemmas.List.{append-nil, length-map, get_or-map, take-map, take_all}
use Rattle.client_registry.proofs.DistinctLaws.{position-at, IsDistinct-first_seen}
use Rattle.client_registry.proofs.SeenWords.{front_more}
use Rattle.client_registry.specs.Document.{Document}
use Rattle.client_registry.specs.DocumentRule.{IsDocument}
use Rattle.client_registry.specs.Documents.{all_words, ids_with, list_lengths, words_of}
use Rattle.client_registry.specs.Numbered.{words_by_number}
use Rattle.index_setup.specs.Lists.{lists_among, filled_lists, next_from, HoldsLists}
use Rattle.index_setup.proofs.AddedWords.{id_for, lists_with, lists_with-found, lists_with-all, partial_fits, partial_less}
use Rattle.index_setup.proofs.FlatLists.{Fit, Fit-map, filled_lists-push, next_from-push, next_from-within, length-next_from}

-- before the first word of a document
pub step_first : (docs before : List Document) (id : ℕ) (ids next : List ℕ) → HoldsLists (list_lengths docs) (lists_among docs before) ids next
    → HoldsLists (list_lengths docs) (lists_with docs before id []) ids next
step_first docs before id ids next holds =
    subst (λ lists. HoldsLists (list_lengths docs) lists ids next) (same (words_of docs)) holds
  where
    same : (ws : List (List ℕ)) → map (ids_with before) ws ≡ map (λ word. ids_with before word ++ id_for id [] word) ws
    same [] = refl
    same (w ∷ ws) = λ j. sym (append-nil (ids_with before w)) j ∷ same ws j

module _ (docs : List Document) (i : ℕ) (d : Document) (within : i < length docs) (at : get_or docs i d ≡ d) (is : IsDocument d)
    (numbers : List ℕ) (by_number : d.words ≡ words_by_number (words_of docs) numbers) (all : All (λ n. n < length (words_of docs)) numbers)
    (k : ℕ) (inside : k < length numbers) (ids next : List ℕ) (id : ℕ) (own : id ≡ d.id)
    (given : HoldsLists (list_lengths docs) (lists_with docs (take i docs) id (words_by_number (words_of docs) (take k numbers))) ids next) where
  abbrev n : ℕ
  n = get_or numbers k 0

  abbrev words : List (List ℕ)
  words = words_of docs

  abbrev lists : List (List ℕ)
  lists = lists_with docs (take i docs) d.id (words_by_number words (take k numbers))

  holds : HoldsLists (list_lengths docs) lists ids next
  holds = subst (λ m. HoldsLists (list_lengths docs) (lists_with docs (take i docs) m (words_by_number (words_of docs) (take k numbers))) ids next) own given

  below : n < length words
  below = all k 0 inside

  -- the words so far are the first of the document's
  front : words_by_number words (take k numbers) ≡ take k d.words
  front = sym (take-map (λ m. slice_index_or words m []) k numbers) ∙ ap (take k) (sym by_number)

  here : get_or d.words k [] ≡ get_or words n []
  here = ap (λ ws. get_or ws k []) by_number ∙ get_or-map (λ m. slice_index_or words m []) numbers k 0 [] inside

  some : k < length d.words
  some = omega (arith, ap length by_number, length-map numbers (λ m. slice_index_or words m []), inside)

  fit : Fit (list_lengths docs) lists
  fit =
      Fit-map (λ word. length (ids_with docs word)) (λ word. ids_with (take i docs) word ++ id_for d.id (words_by_number words (take k numbers)) word) words
      (λ word. subst (λ ws. length (ids_with (take i docs) word ++ id_for d.id ws word) ≤ length (ids_with docs word)) (sym front) (partial_fits docs i d within at is k word))

  count : n < length lists
  count = omega (arith, below, length-map words (λ word. ids_with (take i docs) word ++ id_for d.id (words_by_number words (take k numbers)) word))

  less : length (get_or lists n []) < get_or (list_lengths docs) n 0
  less =
      let v : List ℕ = get_or words n [] in
      let had : get_or lists n [] ≡ ids_with (take i docs) v ++ id_for d.id (take k d.words) v =
      get_or-map (λ word. ids_with (take i docs) word ++ id_for d.id (words_by_number words (take k numbers)) word) words n [] [] below
      ∙ ap (λ ws. ids_with (take i docs) v ++ id_for d.id ws v) front in
      let wanted : get_or (list_lengths docs) n 0 ≡ length (ids_with docs v) = get_or-map (λ word. length (ids_with docs word)) words n [] 0 below in
      let own = subst (λ u. length (ids_with (take i docs) u ++ id_for d.id (take k d.words) u) < length (ids_with docs u)) here (partial_less docs i d within at is k some) in
      omega (arith, ap length had, wanted, own)

  -- the place where the word's list goes on
  pub step_place : n < length next
  step_place = omega (arith, ap length holds.next_are, length-next_from 0 (list_lengths docs) lists fit, count)

  place_is : get_or next n 0 ≡ get_or (next_from 0 (list_lengths docs) lists) n 0
  place_is = ap (λ ns. get_or ns n 0) holds.next_are

  -- lies within the flat list
  pub step_within : get_or next n 0 < length ids
  step_within = omega (arith, ap length holds.ids_are, place_is, next_from-within (list_lengths docs) lists n fit count less)

  later : lists_with docs (take i docs) d.id (words_by_number words (take (k + 1) numbers)) ≡ set lists n (get_or lists n [] ++ d.id ∷ [])
  later =
      ap (lists_with docs (take i docs) d.id) (front_more (λ m. get_or words m []) numbers k n (get_or words n []) inside (sym (get_or_default_zero numbers k n inside)) refl)
      ∙ lists_with-found docs (take i docs) d.id (words_by_number words (take k numbers)) (get_or words n []) n (position-at words (IsDistinct-first_seen (all_words docs)) n below)

  written : HoldsLists (list_lengths docs) (lists_with docs (take i docs) d.id (words_by_number words (take (k + 1) numbers)))
      (set ids (get_or next n 0) d.id) (set next n (get_or next n 0 + 1))
  written = record {
    ids_are =
        ap (λ xs. set xs (get_or next n 0) d.id) holds.ids_are
        ∙ ap (λ m. set (filled_lists (list_lengths docs) lists) m d.id) place_is
        ∙ filled_lists-push (list_lengths docs) lists n d.id fit count less
        ∙ ap (filled_lists (list_lengths docs)) (sym later);
    next_are =
        ap (λ xs. set xs n (get_or xs n 0 + 1)) holds.next_are
        ∙ next_from-push 0 (list_lengths docs) lists n d.id fit count
        ∙ ap (next_from 0 (list_lengths docs)) (sym later);
  }

  -- the identifier written there is the next of the word's list
  pub step_holds : HoldsLists (list_lengths docs) (lists_with docs (take i docs) id (words_by_number words (take (k + 1) numbers)))
      (set ids (get_or next n 0) id) (set next n (get_or next n 0 + 1))
  step_holds =
      subst (λ m. HoldsLists (list_lengths docs) (lists_with docs (take i docs) m (words_by_number words (take (k + 1) numbers)))
      (set ids (get_or next n 0) m) (set next n (get_or next n 0 + 1))) (sym own) written

-- after the last word of a document
pub step_last : (docs : List Document) (i : ℕ) (d : Document) → i < length docs → get_or docs i d ≡ d → IsDocument d → (numbers : List ℕ) → d.words ≡ words_by_number (words_of docs) numbers
    → (k : ℕ) → length numbers ≤ k → (ids next : List ℕ) (id : ℕ) → id ≡ d.id
    → HoldsLists (list_lengths docs) (lists_with docs (take i docs) id (words_by_number (words_of docs) (take k numbers))) ids next
    → HoldsLists (list_lengths docs) (lists_among docs (take (i + 1) docs)) ids next
step_last docs i d within at is numbers by_number k reached ids next id own given =
    let all : lists_with docs (take i docs) id (words_by_number (words_of docs) (take k numbers)) ≡ lists_among docs (take (i + 1) docs) =
    ap (λ ns. lists_with docs (take i docs) id (words_by_number (words_of docs) ns)) (take_all k numbers reached)
    ∙ ap (λ m. lists_with docs (take i docs) m (words_by_number (words_of docs) numbers)) own
    ∙ ap (lists_with docs (take i docs) d.id) (sym by_number)
    ∙ lists_with-all docs i d within at is in
    subst (λ lists. HoldsLists (list_lengths docs) lists ids next) all given
