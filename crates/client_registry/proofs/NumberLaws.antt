-- What the number of a word stands for, and that it goes on to stand for it.
use Rattle.std.proofs.Common.{◌≡◌, ℕ, suc, ◌+◌, ◌≤◌, ◌<◌, Bool, true, false, cond, not, List, [], ◌∷◌, ◌++◌, length, map, take, get_or, Some, refl, sym, ap, ◌∙◌, arith}
use Rattle.std.specs.Prelude.{All, if◌then◌else◌, slice_get}
use Rattle.std.specs.List.{position_or_len}
use Rattle.std.specs.Map.{keys_of, lookup}
use Rattle.std.specs.Str.{bytes_eq}
use Rattle.indexmap.specs.IndexMap.{insert_entry, set_value_at}
use Rattle.std.proofs.lemmas.List.{get_or-take, length-map, map-append, take_all}
use Rattle.std.proofs.lemmas.List.Elements.{All-head, All-tail}
use Rattle.std.proofs.lemmas.Option.{get_or_from_slice_get}
use Rattle.std.proofs.lemmas.Slice.Eq.{bytes_eq-Decides}
use Rattle.client_registry.specs.Numbered.{words_by_number}
use Rattle.client_registry.specs.Tally.{counted_up}

-- words that are found equal are equal
pub same_bytes : (v w : List ℕ) → bytes_eq v w ≡ true → v ≡ w
same_bytes v w same = (bytes_eq-Decides v w).0 same

module _ {K : Type 0} (bytes : K → List ℕ) where
  abbrev counts : List (K × ℕ) → List (List ℕ × ℕ)
  counts es = map (λ e. (bytes e.0, e.1)) es

  -- the place of a word is the same among the counts
  pub place-counts : (bs : List ℕ) (es : List (K × ℕ)) → position_or_len (λ k. bytes_eq bs (bytes k)) (keys_of es) ≡ position_or_len (bytes_eq bs) (keys_of (counts es))
  place-counts bs [] = refl
  place-counts bs (e ∷ es) = ap (λ n. cond (not (bytes_eq bs (bytes e.0))) (1 + n) 0) (place-counts bs es)

  -- the words of the counts
  pub keys-counts : (es : List (K × ℕ)) → keys_of (counts es) ≡ map (λ e. bytes e.0) es
  keys-counts [] = refl
  keys-counts (e ∷ es) = ap (λ ks. bytes e.0 ∷ ks) (keys-counts es)

  -- a word that was there, put in anew and given its count and one more
  pub set_value_at-counts : (k : K) (es : List (K × ℕ)) (n : ℕ) → lookup (λ a. bytes_eq (bytes k) (bytes a)) es ≡ Some n
      → counts (set_value_at (insert_entry (λ a b. bytes_eq (bytes a) (bytes b)) es k 1) (position_or_len (λ a. bytes_eq (bytes k) (bytes a)) (keys_of es)) (n + 1)) ≡ counted_up (counts es) (bytes k)
  set_value_at-counts k [] n at = absurd (cc)
  set_value_at-counts k (e ∷ es) n at =
      by (bytes_eq (bytes k) (bytes e.0)) at (λ h. set_value_at-counts k es n h)
    where
      others : List (K × ℕ)
      others = insert_entry (λ a b. bytes_eq (bytes a) (bytes b)) es k 1

      place : ℕ
      place = position_or_len (λ a. bytes_eq (bytes k) (bytes a)) (keys_of es)

      by : (b : Bool) → cond b (Some e.1) (lookup (λ a. bytes_eq (bytes k) (bytes a)) es) ≡ Some n
          → (lookup (λ a. bytes_eq (bytes k) (bytes a)) es ≡ Some n → counts (set_value_at others place (n + 1)) ≡ counted_up (counts es) (bytes k))
          → counts (set_value_at (if b then (e.0, 1) ∷ es else e ∷ others) (cond (not b) (1 + place) 0) (n + 1))
          ≡ (if b then (bytes e.0, e.1 + 1) ∷ counts es else (bytes e.0, e.1) ∷ counted_up (counts es) (bytes k))
      by true h rest = let same : e.1 ≡ n = cc in ap (λ m. (bytes e.0, m + 1) ∷ counts es) (sym same)
      by false h rest =
          let next : 1 + place ≡ suc place = omega arith in
          ap (λ i. counts (set_value_at (e ∷ others) i (n + 1))) next ∙ ap (λ r. (bytes e.0, e.1) ∷ r) (rest h)

-- a word that was counted stands at its number
pub counted_at : (es : List (List ℕ × ℕ)) (w : List ℕ) → slice_get (keys_of (counted_up es w)) (position_or_len (bytes_eq w) (keys_of es)) ≡ Some w
counted_at [] w = refl
counted_at (e ∷ es) w = by (bytes_eq w e.0) refl (counted_at es w)
  where
    place : ℕ
    place = position_or_len (bytes_eq w) (keys_of es)

    by : (b : Bool) → bytes_eq w e.0 ≡ b → slice_get (keys_of (counted_up es w)) place ≡ Some w
        → slice_get (keys_of (if b then (e.0, e.1 + 1) ∷ es else e ∷ counted_up es w)) (cond (not b) (1 + place) 0) ≡ Some w
    by true same h = ap (λ v. Some v) (sym (same_bytes w e.0 same))
    by false differ h = let next : 1 + place ≡ suc place = omega arith in ap (slice_get (e.0 ∷ keys_of (counted_up es w))) next ∙ h

-- words before stay where they are
pub keys_stay : (es : List (List ℕ × ℕ)) (w : List ℕ) → take (length es) (keys_of (counted_up es w)) ≡ keys_of es
keys_stay [] w = refl
keys_stay (e ∷ es) w = by (bytes_eq w e.0) (keys_stay es w)
  where
    by : (b : Bool) → take (length es) (keys_of (counted_up es w)) ≡ keys_of es
        → take (suc (length es)) (keys_of (if b then (e.0, e.1 + 1) ∷ es else e ∷ counted_up es w)) ≡ e.0 ∷ keys_of es
    by true h = ap (λ ks. e.0 ∷ ks) (take_all (length es) (keys_of es) (omega (arith, length-map es (λ (x : List ℕ × ℕ). x.0))))
    by false h = ap (λ ks. e.0 ∷ ks) h

-- Numbers into a table that grows.

-- a place of a list is the same where more stands after
get_or-front : {X : Type 0} (xs ys : List X) (n : ℕ) (d : X) → take (length xs) ys ≡ xs → n < length xs → get_or ys n d ≡ get_or xs n d
get_or-front xs ys n d same within = sym (get_or-take (length xs) ys n d within) ∙ ap (λ zs. get_or zs n d) same

-- numbers stand for the same words once the table has grown
pub words_by_number-grown : (ws vs : List (List ℕ)) → take (length ws) vs ≡ ws → (ns : List ℕ) → All (λ n. n < length ws) ns → words_by_number vs ns ≡ words_by_number ws ns
words_by_number-grown ws vs same [] all = refl
words_by_number-grown ws vs same (n ∷ ns) all =
    λ i. get_or-front ws vs n [] same (All-head (λ m. m < length ws) n ns all) i ∷ words_by_number-grown ws vs same ns (All-tail (λ m. m < length ws) n ns all) i

-- one number more stands for its word
pub words_by_number-push : (ws : List (List ℕ)) (ns : List ℕ) (n : ℕ) (w : List ℕ) → slice_get ws n ≡ Some w → words_by_number ws (ns ++ n ∷ []) ≡ words_by_number ws ns ++ w ∷ []
words_by_number-push ws ns n w at =
    map-append (λ m. get_or ws m []) ns (n ∷ []) ∙ ap (λ v. words_by_number ws ns ++ v ∷ []) (get_or_from_slice_get ws n w [] at)

length-counted_up : (es : List (List ℕ × ℕ)) (w : List ℕ) → (length es ≤ length (counted_up es w)) × (length (counted_up es w) ≤ length es + 1)
length-counted_up [] w = (omega arith, omega arith)
length-counted_up (e ∷ es) w = by (bytes_eq w e.0) (length-counted_up es w)
  where
    by : (b : Bool) → (length es ≤ length (counted_up es w)) × (length (counted_up es w) ≤ length es + 1)
        → (suc (length es) ≤ length (if b then (e.0, e.1 + 1) ∷ es else e ∷ counted_up es w)) × (length (if b then (e.0, e.1 + 1) ∷ es else e ∷ counted_up es w) ≤ suc (length es) + 1)
    by true h = (omega arith, omega arith)
    by false h = (omega (arith, h.0), omega (arith, h.1))

module _ {K : Type 0} (bytes : K → List ℕ) (es fs : List (K × ℕ)) (w : List ℕ) (counted : counts bytes fs ≡ counted_up (counts bytes es) w) where
  -- one word counted more: the words that were there stay where they are
  pub table_stays : take (length (map (λ e. bytes e.0) es)) (map (λ e. bytes e.0) fs) ≡ map (λ e. bytes e.0) es
  table_stays =
      ap (λ ks. take (length (map (λ e. bytes e.0) es)) ks) (sym (keys-counts bytes fs) ∙ ap keys_of counted)
      ∙ ap (λ n. take n (keys_of (counted_up (counts bytes es) w))) (length-map es (λ e. bytes e.0) ∙ sym (length-map es (λ e. (bytes e.0, e.1))))
      ∙ keys_stay (counts bytes es) w
      ∙ keys-counts bytes es

  -- and at most one is new
  pub table_grows : (length es ≤ length fs) × (length fs ≤ length es + 1)
  table_grows =
      let by = length-counted_up (counts bytes es) w in
      let e = length-map {B = List ℕ × ℕ} es (λ e. (bytes e.0, e.1)) in
      let f = length-map {B = List ℕ × ℕ} fs (λ e. (bytes e.0, e.1)) in
      (omega (arith, by.0, e, f, ap length counted), omega (arith, by.1, e, f, ap length counted))
