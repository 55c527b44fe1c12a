-- Lists of tags with their positions, longer by some.
use Rattle.std.proofs.Common.{◌≡◌, ℕ, suc, ◌+◌, ◌<◌, ◌≤◌, List, [], ◌∷◌, ◌++◌, length, take, drop, map, get_or, zero-add, add-zero, sym, ap, ◌∙◌, arith, append_assoc, length-append}
use Rattle.std.specs.Prelude.{flat_map}
use Rattle.std.specs.List.{range_with_len}
use Rattle.std.proofs.lemmas.List.{append-nil, length-map, length-take-le, map_more, take_more, take-append-drop}
use Rattle.std.proofs.lemmas.List.Concat.{flat_map-append}
use Rattle.std.proofs.lemmas.List.FromFn.{length-map-range_with_len, map-range_with_len_more}
use Rattle.client_tag_order.specs.Tagged.{tagged_from}
use Rattle.client_tag_order.specs.declared.tagged.Tagged.{Tagged}
use Rattle.client_tag_order.proofs.InOrder.{make, tagged_from-push, length-tagged_from}

pub tagged_from-append : (i : ℕ) (xs ys : List (List ℕ)) → tagged_from i (xs ++ ys) ≡ tagged_from i xs ++ tagged_from (i + length xs) ys
tagged_from-append i [] ys = ap (λ k. tagged_from k ys) (sym (add-zero i))
tagged_from-append i (x ∷ xs) ys =
    let e : i + 1 + length xs ≡ i + suc (length xs) = omega arith in
    ap (λ es. make x i ∷ es) (tagged_from-append (i + 1) xs ys ∙ ap (λ k. tagged_from (i + 1) xs ++ tagged_from k ys) e)

-- one word's tag more
pub tagged-map_more : (F : List ℕ → List ℕ) (words : List (List ℕ)) (w : ℕ) (items : List Tagged) (tag : List ℕ) → w < length words
    → items ≡ tagged_from 0 (map F (take w words)) → tag ≡ F (get_or words w [])
    → items ++ make tag w ∷ [] ≡ tagged_from 0 (map F (take (w + 1) words))
tagged-map_more F words w items tag within are is =
    let front : List (List ℕ) = map F (take w words) in
    let count : w ≡ 0 + length front = omega (arith, length-map (take w words) F, length-take-le w words, within) in
    let value : List ℕ = F (get_or words w []) in
    ap (λ es. es ++ make tag w ∷ []) are
    ∙ ap (λ t. tagged_from 0 front ++ make t w ∷ []) is
    ∙ ap (λ n. tagged_from 0 front ++ make value n ∷ []) count
    ∙ sym (tagged_from-push 0 front value)
    ∙ ap (tagged_from 0) (sym (map_more F words w [] within))

-- one block's tag more
pub tagged-range_more : (F : ℕ → List ℕ) (n i position : ℕ) (tag : List ℕ) (old items : List Tagged)
    → items ≡ old ++ tagged_from n (map F (range_with_len 0 i)) → tag ≡ F i → position ≡ n + i
    → items ++ make tag position ∷ [] ≡ old ++ tagged_from n (map F (range_with_len 0 (i + 1)))
tagged-range_more F n i position tag old items are is at =
    let front : List (List ℕ) = map F (range_with_len 0 i) in
    let count : n + i ≡ n + length front = ap (λ k. n + k) (sym (length-map-range_with_len F 0 i)) in
    ap (λ es. es ++ make tag position ∷ []) are
    ∙ append_assoc old (tagged_from n front) (make tag position ∷ [])
    ∙ ap (λ t. old ++ (tagged_from n front ++ make t position ∷ [])) is
    ∙ ap (λ k. old ++ (tagged_from n front ++ make (F i) k ∷ [])) (at ∙ count)
    ∙ ap (λ es. old ++ es) (sym (tagged_from-push n front (F i)))
    ∙ ap (λ ts. old ++ tagged_from n ts) (sym (map-range_with_len_more F 0 i i (zero-add i)))

-- tags behind others
pub tagged-append : (xs ys : List (List ℕ)) (n : ℕ) (items all : List Tagged) → items ≡ tagged_from 0 xs → n ≡ length items
    → all ≡ items ++ tagged_from n ys → all ≡ tagged_from 0 (xs ++ ys)
tagged-append xs ys n items all are count is =
    let size : n ≡ 0 + length xs = count ∙ ap length are ∙ length-tagged_from 0 xs ∙ sym (zero-add (length xs)) in
    is ∙ (λ i. are i ++ tagged_from (size i) ys) ∙ sym (tagged_from-append 0 xs ys)

-- the pieces of one element more
pub flat_map-take_more : {Y : Type 0} (F : List ℕ → List Y) (words : List (List ℕ)) (w : ℕ) → w < length words
    → flat_map F (take (w + 1) words) ≡ flat_map F (take w words) ++ F (get_or words w [])
flat_map-take_more F words w within =
    ap (flat_map F) (take_more words w [] within)
    ∙ flat_map-append F (take w words) (get_or words w [] ∷ [])
    ∙ ap (λ ys. flat_map F (take w words) ++ ys) (append-nil (F (get_or words w [])))

-- and the pieces of a front are no more than all
pub length-flat_map-take : {Y : Type 0} (F : List ℕ → List Y) (words : List (List ℕ)) (w : ℕ) → length (flat_map F (take w words)) ≤ length (flat_map F words)
length-flat_map-take F words w =
    let all = ap length (sym (flat_map-append F (take w words) (drop w words)) ∙ ap (flat_map F) (take-append-drop w words)) in
    omega (arith, all, length-append (flat_map F (take w words)) (flat_map F (drop w words)))

-- the tags of one word's blocks more
pub tagged-flat_map_more : (F : List ℕ → List (List ℕ)) (words : List (List ℕ)) (w : ℕ) (items more : List Tagged) → w < length words
    → items ≡ tagged_from 0 (flat_map F (take w words)) → more ≡ tagged_from (length items) (F (get_or words w []))
    → items ++ more ≡ tagged_from 0 (flat_map F (take (w + 1) words))
tagged-flat_map_more F words w items more within are is =
    let front : List (List ℕ) = flat_map F (take w words) in
    let count : length items ≡ 0 + length front = ap length are ∙ length-tagged_from 0 front ∙ sym (zero-add (length front)) in
    let piece : List (List ℕ) = F (get_or words w []) in
    ap (λ es. items ++ es) (is ∙ ap (λ n. tagged_from n piece) count)
    ∙ ap (λ es. es ++ tagged_from (0 + length front) piece) are
    ∙ sym (tagged_from-append 0 front piece)
    ∙ ap (tagged_from 0) (sym (flat_map-take_more F words w within))

-- which are no more than all
pub tagged-flat_map_room : (F : List ℕ → List (List ℕ)) (words : List (List ℕ)) (w : ℕ) (items : List Tagged) → w < length words
    → items ≡ tagged_from 0 (flat_map F (take w words)) → length items + length (F (get_or words w [])) ≤ length (flat_map F words)
tagged-flat_map_room F words w items within are =
    let size : length items ≡ length (flat_map F (take w words)) = ap length are ∙ length-tagged_from 0 (flat_map F (take w words)) in
    let more : length (flat_map F (take (w + 1) words)) ≡ length (flat_map F (take w words)) + length (F (get_or words w [])) =
    ap length (flat_map-take_more F words w within) ∙ length-append (flat_map F (take w words)) (F (get_or words w [])) in
    omega (arith, size, more, length-flat_map-take F words (w + 1))
