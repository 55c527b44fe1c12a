-- Lists of words and pairs, one more at a time.
use Rattle.std.proofs.Common.{◌≡◌, ℕ, suc, ◌+◌, ◌<◌, Bool, true, false, cond, List, [], ◌∷◌, ◌++◌, length, filter, get_or, map, take, refl, sym, ap, append_assoc, ◌∙◌, arith}
use Rattle.std.specs.Prelude.{flat_map}
use Rattle.std.specs.List.{enumerate_from}
use Rattle.std.proofs.lemmas.List.{append-nil, length-map, length-take-le, map-append, take-map, take_more}
use Rattle.std.proofs.lemmas.List.Filters.{length-filter_more}
use Rattle.std.proofs.lemmas.List.Concat.{flat_map-append}

-- a test of mapped elements
pub length-filter-map : {A B : Type 0} (p : B → Bool) (f : A → B) (xs : List A) → length (filter (λ x. p (f x)) xs) ≡ length (filter p (map f xs))
length-filter-map p f [] = refl
length-filter-map p f (x ∷ xs) = by (p (f x)) (length-filter-map p f xs)
  where
    by : (b : Bool) → length (filter (λ x. p (f x)) xs) ≡ length (filter p (map f xs))
        → length (cond b (x ∷ filter (λ x. p (f x)) xs) (filter (λ x. p (f x)) xs)) ≡ length (cond b (f x ∷ filter p (map f xs)) (filter p (map f xs)))
    by true h = ap (λ n. suc n) h
    by false h = h

-- an element more, with its place
enumerate_from-push : {A : Type 0} (k : ℕ) (xs : List A) (x : A) → enumerate_from k (xs ++ x ∷ []) ≡ enumerate_from k xs ++ (k + length xs, x) ∷ []
enumerate_from-push k [] x = ap (λ n. (n, x) ∷ []) (let e : k ≡ k + 0 = omega arith in e)
enumerate_from-push k (y ∷ ys) x =
    ap (λ rest. (k, y) ∷ rest) (enumerate_from-push (k + 1) ys x ∙ ap (λ n. enumerate_from (k + 1) ys ++ (n, x) ∷ []) (let e : k + 1 + length ys ≡ k + suc (length ys) = omega arith in e))

-- the next element counts where it passes
pub counted_more : {A : Type 0} (p : A → Bool) (xs : List A) (i : ℕ) (d : A) (n m : ℕ) (b : Bool) → i < length xs → b ≡ p (get_or xs i d) → n ≡ length (filter p (take i xs)) → m ≡ n + cond b 1 0
    → m ≡ length (filter p (take (i + 1) xs))
counted_more p xs i d n m b within is had next = next ∙ (λ j. had j + cond (is j) 1 0) ∙ sym (length-filter_more p xs i d within)

module _ {A B : Type 0} (f : A → B) (xs : List A) (i : ℕ) (d : A) (within : i < length xs) where
  -- the mapped elements up to the next one
  take-map-more : take (i + 1) (map f xs) ≡ take i (map f xs) ++ f (get_or xs i d) ∷ []
  take-map-more =
      take-map f (i + 1) xs
      ∙ ap (map f) (take_more xs i d within)
      ∙ map-append f (take i xs) (get_or xs i d ∷ [])
      ∙ ap (λ front. front ++ f (get_or xs i d) ∷ []) (sym (take-map f i xs))

  -- the texts of all of them up to the next one
  flat-take-more : (t : B → List ℕ) → flat_map t (take (i + 1) (map f xs)) ≡ flat_map t (take i (map f xs)) ++ t (f (get_or xs i d))
  flat-take-more t =
      ap (flat_map t) take-map-more
      ∙ flat_map-append t (take i (map f xs)) (f (get_or xs i d) ∷ [])
      ∙ ap (λ rest. flat_map t (take i (map f xs)) ++ rest) (append-nil (t (f (get_or xs i d))))

  -- and of those with their places
  placed-take-more : (t : ℕ × B → List ℕ) → flat_map t (enumerate_from 0 (take (i + 1) (map f xs))) ≡ flat_map t (enumerate_from 0 (take i (map f xs))) ++ t (i, f (get_or xs i d))
  placed-take-more t =
      let front = take i (map f xs) in
      let x = f (get_or xs i d) in
      let count : 0 + length front ≡ i = omega (arith, length-take-le i (map f xs) (omega (arith, within, length-map xs f))) in
      ap (λ ys. flat_map t (enumerate_from 0 ys)) take-map-more
      ∙ ap (flat_map t) (enumerate_from-push 0 front x)
      ∙ flat_map-append t (enumerate_from 0 front) ((0 + length front, x) ∷ [])
      ∙ ap (λ n. flat_map t (enumerate_from 0 front) ++ (t (n, x) ++ [])) count
      ∙ ap (λ rest. flat_map t (enumerate_from 0 front) ++ rest) (append-nil (t (i, x)))

  -- a line that has the texts of all up to one, and then its own
  pub push_flat : (t : B → List ℕ) (start line new : List ℕ) → line ≡ start ++ flat_map t (take i (map f xs)) → new ≡ line ++ t (f (get_or xs i d)) → new ≡ start ++ flat_map t (take (i + 1) (map f xs))
  push_flat t start line new had next =
      next
      ∙ ap (λ front. front ++ t (f (get_or xs i d))) had
      ∙ append_assoc start (flat_map t (take i (map f xs))) (t (f (get_or xs i d)))
      ∙ ap (λ rest. start ++ rest) (sym (flat-take-more t))

  -- the same with places
  pub push_placed : (t : ℕ × B → List ℕ) (start line new : List ℕ) → line ≡ start ++ flat_map t (enumerate_from 0 (take i (map f xs))) → new ≡ line ++ t (i, f (get_or xs i d))
      → new ≡ start ++ flat_map t (enumerate_from 0 (take (i + 1) (map f xs)))
  push_placed t start line new had next =
      next
      ∙ ap (λ front. front ++ t (i, f (get_or xs i d))) had
      ∙ append_assoc start (flat_map t (enumerate_from 0 (take i (map f xs)))) (t (i, f (get_or xs i d)))
      ∙ ap (λ rest. start ++ rest) (sym (placed-take-more t))
