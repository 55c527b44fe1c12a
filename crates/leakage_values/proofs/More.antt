-- Lists that a loop makes longer by what is made of one item more.
use Rattle.std.proofs.Common.{◌≡◌, ℕ, ◌+◌, ◌<◌, Bool, true, false, ◌&&◌, ◌||◌, List, [], ◌∷◌, ◌++◌, length, take, map, get_or, zero-add, refl, sym, ap, ◌∙◌, append_assoc, Some}
use Rattle.std.specs.Prelude.{flat_map, bytes_eq, slice_get}
use Rattle.std.specs.List.{range_with_len, list_any}
use Rattle.std.proofs.lemmas.List.Folds.{list_any-append}
use Rattle.std.proofs.lemmas.Option.{get_or_from_slice_get}
use Rattle.client_registry.specs.Numbered.{words_by_number}
use Rattle.std.proofs.lemmas.List.{append-nil, map_more, take_more}
use Rattle.std.proofs.lemmas.List.Concat.{flat_map-append}
use Rattle.std.proofs.lemmas.List.FromFn.{map-range_with_len_more}

-- one number more
pub more-range : {X : Type 0} (f : ℕ → X) (old now : List X) (n : ℕ) (x : X) → now ≡ old ++ map f (range_with_len 0 n) → x ≡ f n
    → now ++ x ∷ [] ≡ old ++ map f (range_with_len 0 (n + 1))
more-range f old now n x are is =
    (λ i. are i ++ is i ∷ [])
    ∙ append_assoc old (map f (range_with_len 0 n)) (f n ∷ [])
    ∙ ap (λ ys. old ++ ys) (sym (map-range_with_len_more f 0 n n (zero-add n)))

-- one word more
pub more-words : {X : Type 0} (f : List ℕ → X) (words : List (List ℕ)) (k : ℕ) (old now : List X) (x : X) → k < length words
    → now ≡ old ++ map f (take k words) → x ≡ f (get_or words k [])
    → now ++ x ∷ [] ≡ old ++ map f (take (k + 1) words)
more-words f words k old now x within are is =
    (λ i. are i ++ is i ∷ [])
    ∙ append_assoc old (map f (take k words)) (f (get_or words k []) ∷ [])
    ∙ ap (λ ys. old ++ ys) (sym (map_more f words k [] within))

-- the pieces of one item more
pub more-pieces : {A X : Type 0} (f : A → List X) (items : List A) (k : ℕ) (d : A) (old now then : List X) → k < length items
    → now ≡ old ++ flat_map f (take k items) → then ≡ now ++ f (get_or items k d)
    → then ≡ old ++ flat_map f (take (k + 1) items)
more-pieces f items k d old now then within are is =
    is
    ∙ ap (λ ys. ys ++ f (get_or items k d)) are
    ∙ append_assoc old (flat_map f (take k items)) (f (get_or items k d))
    ∙ ap (λ ys. old ++ ys) (ap (λ ys. flat_map f (take k items) ++ ys) (sym (append-nil (f (get_or items k d)))) ∙ sym (flat_map-append f (take k items) (get_or items k d ∷ [])) ∙ ap (flat_map f) (sym (take_more items k d within)))

-- the same where the front is longer by the item
pub more-front : {A X : Type 0} (f : A → List X) (front longer : List A) (x : A) (old now then : List X) → longer ≡ front ++ x ∷ []
    → now ≡ old ++ flat_map f front → then ≡ now ++ f x → then ≡ old ++ flat_map f longer
more-front f front longer x old now then is are more =
    more
    ∙ ap (λ ys. ys ++ f x) are
    ∙ append_assoc old (flat_map f front) (f x)
    ∙ ap (λ ys. old ++ ys) (ap (λ ys. flat_map f front ++ ys) (sym (append-nil (f x))) ∙ sym (flat_map-append f front (x ∷ [])) ∙ ap (flat_map f) (sym is))

-- what is among a longer front
pub among-front : (w : List ℕ) (front longer : List (List ℕ)) (x : List ℕ) → longer ≡ front ++ x ∷ [] → list_any (bytes_eq w) longer ≡ (list_any (bytes_eq w) front || bytes_eq w x)
among-front w front longer x is = ap (list_any (bytes_eq w)) is ∙ list_any-append (bytes_eq w) front (x ∷ []) ∙ ap (λ b. list_any (bytes_eq w) front || b) (or_false (bytes_eq w x))
  where
    or_false : (b : Bool) → (b || false) ≡ b
    or_false true = refl
    or_false false = refl

-- one item more of a front whose items are looked up
pub front_by_number : (known : List (List ℕ)) (numbers : List ℕ) (i : ℕ) (word : List ℕ) → i < length numbers → slice_get known (get_or numbers i 0) ≡ Some word
    → words_by_number known (take (i + 1) numbers) ≡ words_by_number known (take i numbers) ++ word ∷ []
front_by_number known numbers i word within is =
    map_more (λ n. get_or known n []) numbers i 0 within ∙ ap (λ w. words_by_number known (take i numbers) ++ w ∷ []) (get_or_from_slice_get known (get_or numbers i 0) word [] is)

-- marks with one more, and with one more where it is listed
pub more-marks : (before then now seen more same : Bool) → then ≡ (before || seen && same) → now ≡ (then || more && same) → now ≡ (before || (seen || more) && same)
more-marks before then now seen more same had has = has ∙ ap (λ b. b || more && same) had ∙ by before seen more same
  where
    by : (b s m e : Bool) → ((b || s && e) || m && e) ≡ (b || (s || m) && e)
    by true s m e = refl
    by false true true true = refl
    by false true true false = refl
    by false true false true = refl
    by false true false false = refl
    by false false m e = refl

pub more-listed : (before then now seen more same listed : Bool) → then ≡ (before || (seen && same) && listed) → now ≡ (then || (more && same) && listed) → now ≡ (before || ((seen || more) && same) && listed)
more-listed before then now seen more same listed had has = has ∙ ap (λ b. b || (more && same) && listed) had ∙ by before seen more same listed
  where
    by : (b s m e l : Bool) → ((b || (s && e) && l) || (m && e) && l) ≡ (b || ((s || m) && e) && l)
    by true s m e l = refl
    by false true true true true = refl
    by false true true true false = refl
    by false true true false l = refl
    by false true false true true = refl
    by false true false true false = refl
    by false true false false l = refl
    by false false m e l = refl
