-- Lists that a loop makes longer by what is made of one place more, seen by a view.
use Rattle.std.proofs.Common.{◌≡◌, ℕ, zero, suc, ◌+◌, ◌<◌, List, [], ◌∷◌, ◌++◌, length, map, take, get_or, refl, sym, ap, ◌∙◌, arith, append_assoc}
use Rattle.std.proofs.lemmas.List.{map-append, map_more}
use Rattle.leakage_draws.specs.Beside.{beside}

module _ {A B X : Type 0} (f : A → B → X) where
  -- one place more
  pub beside-more : (xs : List A) (ys : List B) (i : ℕ) (a : A) (b : B) → i < length xs → i < length ys
      → beside f (take (i + 1) xs) (take (i + 1) ys) ≡ beside f (take i xs) (take i ys) ++ f (get_or xs i a) (get_or ys i b) ∷ []
  beside-more [] ys i a b within inside = absurd (omega arith)
  beside-more (x ∷ xs) [] i a b within inside = absurd (omega arith)
  beside-more (x ∷ xs) (y ∷ ys) zero a b within inside = refl
  beside-more (x ∷ xs) (y ∷ ys) (suc i) a b within inside =
      let next : suc i + 1 ≡ suc (i + 1) = omega arith in
      ap (λ n. beside f (take n (x ∷ xs)) (take n (y ∷ ys))) next
      ∙ ap (λ rest. f x y ∷ rest) (beside-more xs ys i a b (omega arith) (omega arith))

one_more : {W X : Type 0} (view : W → X) (now then : List W) (w : W) (x : X) → then ≡ now ++ w ∷ [] → view w ≡ x → map view then ≡ map view now ++ x ∷ []
one_more view now then w x more is = ap (map view) more ∙ map-append view now (w ∷ []) ∙ ap (λ y. map view now ++ y ∷ []) is

module _ {A W X : Type 0} (view : W → X) where
  -- of an item of a list
  pub more-mapped : (f : A → X) (xs : List A) (i : ℕ) (d : A) (now then : List W) (w : W) → i < length xs → map view now ≡ map f (take i xs) → then ≡ now ++ w ∷ []
      → view w ≡ f (get_or xs i d) → map view then ≡ map f (take (i + 1) xs)
  more-mapped f xs i d now then w within are more is =
      one_more view now then w (f (get_or xs i d)) more is ∙ ap (λ ys. ys ++ f (get_or xs i d) ∷ []) are ∙ sym (map_more f xs i d within)

  -- of two items at one place, behind others
  pub more-beside : {B : Type 0} (f : A → B → X) (xs : List A) (ys : List B) (i : ℕ) (a : A) (b : B) (old : List X) (now then : List W) (w : W) → i < length xs → i < length ys
      → map view now ≡ old ++ beside f (take i xs) (take i ys) → then ≡ now ++ w ∷ [] → view w ≡ f (get_or xs i a) (get_or ys i b)
      → map view then ≡ old ++ beside f (take (i + 1) xs) (take (i + 1) ys)
  more-beside f xs ys i a b old now then w within inside are more is =
      let x = f (get_or xs i a) (get_or ys i b) in
      one_more view now then w x more is
      ∙ ap (λ zs. zs ++ x ∷ []) are
      ∙ append_assoc old (beside f (take i xs) (take i ys)) (x ∷ [])
      ∙ ap (λ zs. old ++ zs) (sym (beside-more f xs ys i a b within inside))
