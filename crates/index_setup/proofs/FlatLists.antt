-- Lists that grow in one flat list.
use Rattle.std.proofs.Common.{◌≡◌, ℕ, zero, suc, ◌+◌, ◌-◌, ◌^◌, ◌<◌, ◌≤◌, List, [], ◌∷◌, ◌++◌, length, take, map, get_or, set, replicate, zero-add, add-zero, refl, sym, ap, ◌∙◌, arith, append_assoc, length-append}
use Rattle.std.specs.Prelude.{flat_map, sum, Some, slice_get}
use Rattle.std.proofs.lemmas.List.{append-nil, length-map, replicate-append-replicate, set_at, set-append_left, set-append_right, take_more}
use Rattle.std.proofs.lemmas.List.Sums.{sum_by-cons, sum_by_more, sum_by-take-le}
use Rattle.std.proofs.lemmas.Option.{get_or_from_slice_get}
use Rattle.client_registry.specs.Document.{Document}
use Rattle.client_registry.specs.Documents.{ids_with, list_lengths, words_of, IsCollected}
use Rattle.index_setup.proofs.ListsWithin.{lists_within}
use Rattle.list_packing.specs.Parts.{filled}
use Rattle.list_packing.proofs.PartsLemmas.{length-filled}
use Rattle.index_setup.specs.Lists.{lists_among, starts_from, filled_lists, next_from, HoldsLists}

-- ---- where lists begin

pub starts_from-push : (a : ℕ) (ns : List ℕ) (n : ℕ) → starts_from a (ns ++ n ∷ []) ≡ starts_from a ns ++ (a + sum ns) ∷ []
starts_from-push a [] n = ap (λ k. k ∷ []) (sym (add-zero a))
starts_from-push a (m ∷ ns) n =
    let e : a + m + sum ns ≡ a + sum (m ∷ ns) = omega (arith, sum_by-cons (λ x. x) m ns) in
    ap (λ ks. a ∷ ks) (starts_from-push (a + m) ns n ∙ ap (λ k. starts_from (a + m) ns ++ k ∷ []) e)

-- one list more
pub starts_from-more : (ns : List ℕ) (w : ℕ) → w < length ns → starts_from 0 (take (w + 1) ns) ≡ starts_from 0 (take w ns) ++ sum (take w ns) ∷ []
starts_from-more ns w within =
    ap (starts_from 0) (take_more ns w 0 within)
    ∙ starts_from-push 0 (take w ns) (get_or ns w 0)
    ∙ ap (λ k. starts_from 0 (take w ns) ++ k ∷ []) (zero-add (sum (take w ns)))

module _ (docs : List Document) (collected : IsCollected docs) (w n : ℕ) (within : w < length (words_of docs)) (at : slice_get (list_lengths docs) w ≡ Some n) where
  there : w < length (list_lengths docs)
  there = omega (arith, length-map (words_of docs) (λ word. length (ids_with docs word)), within)

  -- the identifiers of one list more
  pub sum_lengths-more : sum (take (w + 1) (list_lengths docs)) ≡ sum (take w (list_lengths docs)) + n
  sum_lengths-more = sum_by_more (λ k. k) (list_lengths docs) w 0 there ∙ ap (λ k. sum (take w (list_lengths docs)) + k) (get_or_from_slice_get (list_lengths docs) w n 0 at)

  -- which aren't too many
  pub sum_lengths-within : sum (take w (list_lengths docs)) + n ≤ 2 ^ 20
  sum_lengths-within = omega (arith, sum_lengths-more, sum_by-take-le (λ k. k) (list_lengths docs) (w + 1), lists_within docs collected)

-- ---- lists that are to have these lengths

-- no list is longer than it is to be
abbrev pub Fit : List ℕ → List (List ℕ) → Type 0
Fit [] [] = Unit {0}
Fit [] (list ∷ lists) = ⊥
Fit (n ∷ ns) [] = ⊥
Fit (n ∷ ns) (list ∷ lists) = (length list ≤ n) × Fit ns lists

-- none has an identifier yet
pub filled_lists-empty : (ns : List ℕ) → filled_lists ns (map (λ _. []) ns) ≡ replicate (sum ns) 0
filled_lists-empty [] = refl
filled_lists-empty (n ∷ ns) =
    let all : n - 0 ≡ n = omega arith in
    ap (λ k. replicate k 0 ++ filled_lists ns (map (λ _. []) ns)) all
    ∙ ap (λ zeros. replicate n 0 ++ zeros) (filled_lists-empty ns)
    ∙ replicate-append-replicate n (sum ns) 0
    ∙ ap (λ k. replicate k 0) (sym (sum_by-cons (λ x. x) n ns))

pub next_from-empty : (a : ℕ) (ns : List ℕ) → next_from a ns (map (λ _. []) ns) ≡ starts_from a ns
next_from-empty a [] = refl
next_from-empty a (n ∷ ns) = (λ i. add-zero a i ∷ next_from-empty (a + n) ns i)

-- one more in front of the zeros
filled-push : (n : ℕ) (list : List ℕ) (id : ℕ) → length list < n → set (filled n list) (length list) id ≡ filled n (list ++ id ∷ [])
filled-push n list id less =
    let zeros : n - length list ≡ suc (n - length (list ++ id ∷ [])) = omega (arith, length-append list (id ∷ [])) in
    ap (λ k. set (list ++ replicate k 0) (length list) id) zeros
    ∙ set_at list 0 (replicate (n - length (list ++ id ∷ [])) 0) id (length list) refl
    ∙ sym (append_assoc list (id ∷ []) (replicate (n - length (list ++ id ∷ [])) 0))

next_beyond : (a : ℕ) (ns : List ℕ) (lists : List (List ℕ)) (n : ℕ) → Fit ns lists → n < length lists → a ≤ get_or (next_from a ns lists) n 0
next_beyond a [] [] n fit within = absurd (omega arith)
next_beyond a [] (l ∷ ls) n fit within = absurd fit
next_beyond a (m ∷ ns) [] n fit within = absurd fit
next_beyond a (m ∷ ns) (l ∷ ls) zero fit within = omega arith
next_beyond a (m ∷ ns) (l ∷ ls) (suc n) fit within = let later = next_beyond (a + m) ns ls n fit.1 (omega arith) in omega (arith, later)

pushed_from : (a : ℕ) (ns : List ℕ) (lists : List (List ℕ)) (n id : ℕ) → Fit ns lists → n < length lists → length (get_or lists n []) < get_or ns n 0
    → set (filled_lists ns lists) (get_or (next_from a ns lists) n 0 - a) id ≡ filled_lists ns (set lists n (get_or lists n [] ++ id ∷ []))
pushed_from a [] [] n id fit within less = absurd (omega arith)
pushed_from a [] (l ∷ ls) n id fit within less = absurd fit
pushed_from a (m ∷ ns) [] n id fit within less = absurd fit
pushed_from a (m ∷ ns) (l ∷ ls) zero id fit within less =
    let place : a + length l - a ≡ length l = omega arith in
    let size : length (filled m l) ≡ m = length-filled m l fit.0 in
    ap (λ k. set (filled m l ++ filled_lists ns ls) k id) place
    ∙ set-append_left (filled m l) (filled_lists ns ls) (length l) id (omega (arith, size, less))
    ∙ ap (λ xs. xs ++ filled_lists ns ls) (filled-push m l id less)
pushed_from a (m ∷ ns) (l ∷ ls) (suc n) id fit within less =
    let size : length (filled m l) ≡ m = length-filled m l fit.0 in
    let later = next_beyond (a + m) ns ls n fit.1 (omega arith) in
    let place : get_or (next_from (a + m) ns ls) n 0 - a - m ≡ get_or (next_from (a + m) ns ls) n 0 - (a + m) = omega arith in
    set-append_right (filled m l) (filled_lists ns ls) m (get_or (next_from (a + m) ns ls) n 0 - a) id size (omega (arith, later))
    ∙ ap (λ k. filled m l ++ set (filled_lists ns ls) k id) place
    ∙ ap (λ xs. filled m l ++ xs) (pushed_from (a + m) ns ls n id fit.1 (omega arith) less)

-- an identifier written where list n goes on is the next of list n
pub filled_lists-push : (ns : List ℕ) (lists : List (List ℕ)) (n id : ℕ) → Fit ns lists → n < length lists → length (get_or lists n []) < get_or ns n 0
    → set (filled_lists ns lists) (get_or (next_from 0 ns lists) n 0) id ≡ filled_lists ns (set lists n (get_or lists n [] ++ id ∷ []))
filled_lists-push ns lists n id fit within less =
    let place : get_or (next_from 0 ns lists) n 0 ≡ get_or (next_from 0 ns lists) n 0 - 0 = omega arith in
    ap (λ k. set (filled_lists ns lists) k id) place ∙ pushed_from 0 ns lists n id fit within less

-- and it goes on one place further
pub next_from-push : (a : ℕ) (ns : List ℕ) (lists : List (List ℕ)) (n id : ℕ) → Fit ns lists → n < length lists
    → set (next_from a ns lists) n (get_or (next_from a ns lists) n 0 + 1) ≡ next_from a ns (set lists n (get_or lists n [] ++ id ∷ []))
next_from-push a [] [] n id fit within = absurd (omega arith)
next_from-push a [] (l ∷ ls) n id fit within = absurd fit
next_from-push a (m ∷ ns) [] n id fit within = absurd fit
next_from-push a (m ∷ ns) (l ∷ ls) zero id fit within =
    let e : a + length l + 1 ≡ a + length (l ++ id ∷ []) = omega (arith, length-append l (id ∷ [])) in
    ap (λ k. k ∷ next_from (a + m) ns ls) e
next_from-push a (m ∷ ns) (l ∷ ls) (suc n) id fit within = ap (λ ks. (a + length l) ∷ ks) (next_from-push (a + m) ns ls n id fit.1 (omega arith))

-- where list n goes on lies within the flat list
next_within : (a : ℕ) (ns : List ℕ) (lists : List (List ℕ)) (n : ℕ) → Fit ns lists → n < length lists → length (get_or lists n []) < get_or ns n 0
    → get_or (next_from a ns lists) n 0 < a + length (filled_lists ns lists)
next_within a [] [] n fit within less = absurd (omega arith)
next_within a [] (l ∷ ls) n fit within less = absurd fit
next_within a (m ∷ ns) [] n fit within less = absurd fit
next_within a (m ∷ ns) (l ∷ ls) zero fit within less = omega (arith, less, length-append (filled m l) (filled_lists ns ls), length-filled m l fit.0)
next_within a (m ∷ ns) (l ∷ ls) (suc n) fit within less =
    let later = next_within (a + m) ns ls n fit.1 (omega arith) less in
    omega (arith, later, length-append (filled m l) (filled_lists ns ls), length-filled m l fit.0)

pub next_from-within : (ns : List ℕ) (lists : List (List ℕ)) (n : ℕ) → Fit ns lists → n < length lists → length (get_or lists n []) < get_or ns n 0
    → get_or (next_from 0 ns lists) n 0 < length (filled_lists ns lists)
next_from-within ns lists n fit within less = let later = next_within 0 ns lists n fit within less in omega (arith, later)

pub length-next_from : (a : ℕ) (ns : List ℕ) (lists : List (List ℕ)) → Fit ns lists → length (next_from a ns lists) ≡ length lists
length-next_from a [] [] fit = refl
length-next_from a [] (l ∷ ls) fit = absurd fit
length-next_from a (m ∷ ns) [] fit = absurd fit
length-next_from a (m ∷ ns) (l ∷ ls) fit = ap (λ (k : ℕ). suc k) (length-next_from (a + m) ns ls fit.1)

-- lists as long as they are to be, one after the other
pub filled_lists-full : (lists : List (List ℕ)) → filled_lists (map length lists) lists ≡ flat_map (λ list. list) lists
filled_lists-full [] = refl
filled_lists-full (l ∷ ls) =
    let none : length l - length l ≡ 0 = omega arith in
    ap (λ k. (l ++ replicate k 0) ++ filled_lists (map length ls) ls) none
    ∙ ap (λ xs. xs ++ filled_lists (map length ls) ls) (append-nil l)
    ∙ ap (λ xs. l ++ xs) (filled_lists-full ls)

-- lists made of the same words fit where each does
pub Fit-map : (F : List ℕ → ℕ) (G : List ℕ → List ℕ) (words : List (List ℕ)) → ((word : List ℕ) → length (G word) ≤ F word) → Fit (map F words) (map G words)
Fit-map F G [] each = tt
Fit-map F G (w ∷ ws) each = (each w, Fit-map F G ws each)

-- ---- before the first document, and after the last

no_lists : (docs : List Document) (words : List (List ℕ)) → map (ids_with []) words ≡ map (λ _. []) (map (λ word. length (ids_with docs word)) words)
no_lists docs [] = refl
no_lists docs (w ∷ ws) = ap (λ rest. [] ∷ rest) (no_lists docs ws)

pub HoldsLists-none : (docs : List Document) (ids next : List ℕ) → ids ≡ replicate (sum (list_lengths docs)) 0 → next ≡ starts_from 0 (list_lengths docs)
    → HoldsLists (list_lengths docs) (lists_among docs []) ids next
HoldsLists-none docs ids next zeros starts = record {
  ids_are = zeros ∙ sym (filled_lists-empty (list_lengths docs)) ∙ ap (filled_lists (list_lengths docs)) (sym (no_lists docs (words_of docs)));
  next_are = starts ∙ sym (next_from-empty 0 (list_lengths docs)) ∙ ap (next_from 0 (list_lengths docs)) (sym (no_lists docs (words_of docs)));
}

lengths_of : (docs : List Document) (words : List (List ℕ)) → map (λ word. length (ids_with docs word)) words ≡ map length (map (ids_with docs) words)
lengths_of docs [] = refl
lengths_of docs (w ∷ ws) = ap (λ ns. length (ids_with docs w) ∷ ns) (lengths_of docs ws)

joined_lists : (docs : List Document) (words : List (List ℕ)) → flat_map (λ list. list) (map (ids_with docs) words) ≡ flat_map (ids_with docs) words
joined_lists docs [] = refl
joined_lists docs (w ∷ ws) = ap (λ ids. ids_with docs w ++ ids) (joined_lists docs ws)

pub HoldsLists-all : (docs : List Document) (ids next : List ℕ) → HoldsLists (list_lengths docs) (lists_among docs docs) ids next → ids ≡ flat_map (ids_with docs) (words_of docs)
HoldsLists-all docs ids next holds =
    holds.ids_are
    ∙ ap (λ ns. filled_lists ns (lists_among docs docs)) (lengths_of docs (words_of docs))
    ∙ filled_lists-full (lists_among docs docs)
    ∙ joined_lists docs (words_of docs)
