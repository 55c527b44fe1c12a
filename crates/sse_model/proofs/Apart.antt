-- Lists without repeats: filtered, one after another, and made of parts that have owners.
use Rattle.std.proofs.Common.{◌≡◌, ◌≢◌, Bool, true, false, List, [], ◌∷◌, ◌++◌, filter, sym, ap, ◌∙◌}
use Rattle.std.specs.Bool.{Decides}
use Rattle.std.specs.Prelude.{All, flat_map}
use Rattle.std.specs.List.{IsDistinct}
use Rattle.std.proofs.lemmas.Bool.{true≢false, false_from_ne_true}
use Rattle.std.proofs.lemmas.List.Elements.{All-nil, All-cons, All-head, All-tail, All-append, All-weaker, All-from_recursion, recursion_from_All}
use Rattle.std.proofs.lemmas.List.Kept.{AllPairs-filter}
use Rattle.std.proofs.lemmas.Map.Keys.{IsDistinct-head, IsDistinct-tail, IsDistinct-cons}
use Rattle.std.proofs.lemmas.Map.Made.{AllPairs-from_IsDistinct, IsDistinct-from_AllPairs}

-- what holds of the members of each part holds of all members
pub All-flat_map : {K X : Type 0} (P : X → Type 0) (f : K → List X) (ks : List K) → All (λ k. All P (f k)) ks → All P (flat_map f ks)
All-flat_map P f [] all = All-nil P
All-flat_map P f (k ∷ ks) all =
    All-append P (f k) (flat_map f ks) (All-head (λ k. All P (f k)) k ks all) (All-flat_map P f ks (All-tail (λ k. All P (f k)) k ks all))

pub All-two : {X : Type 0} (P : X → Type 0) (x y : X) → P x → P y → All P (x ∷ y ∷ [])
All-two P x y p q = All-cons P x (y ∷ []) p (All-cons P y [] q (All-nil P))

module _ {X : Type 0} (eq : X → X → Bool) (same : (a b : X) → Decides (eq a b) (a ≡ b)) where
  -- those of different values that pass are different
  pub IsDistinct-filter : (p : X → Bool) (xs : List X) → IsDistinct eq xs → IsDistinct eq (filter p xs)
  IsDistinct-filter p xs d = IsDistinct-from_AllPairs same (filter p xs) (AllPairs-filter (λ x y. x ≢ y) p xs (AllPairs-from_IsDistinct same xs d))

  -- different values after others are different, where a test tells the ones from the others
  pub IsDistinct-append : (p : X → Bool) (xs ys : List X) → All (λ x. p x ≡ true) xs → All (λ y. p y ≡ false) ys → IsDistinct eq xs → IsDistinct eq ys → IsDistinct eq (xs ++ ys)
  IsDistinct-append p [] ys ones others front rest = rest
  IsDistinct-append p (x ∷ xs) ys ones others front rest =
      IsDistinct-cons eq x (xs ++ ys)
      (recursion_from_All (λ y. eq x y ≡ false) (xs ++ ys)
      (All-append (λ y. eq x y ≡ false) xs ys
      (All-from_recursion (λ y. eq x y ≡ false) xs (IsDistinct-head eq x xs front))
      (All-weaker (λ y. p y ≡ false) (λ y. eq x y ≡ false) differ ys others)))
      (IsDistinct-append p xs ys (All-tail (λ x. p x ≡ true) x xs ones) others (IsDistinct-tail eq x xs front) rest)
    where
      differ : (y : X) → p y ≡ false → eq x y ≡ false
      differ y e = false_from_ne_true (eq x y) (λ h. true≢false (sym (All-head (λ x. p x ≡ true) x xs ones) ∙ ap p ((same x y).0 h) ∙ e))

  -- the parts of different owners, where each part has no repeats and tells its owner
  pub IsDistinct-flat_map : {K : Type 0} (alike : K → K → Bool) (owns : K → X → Bool) (f : K → List X)
      → ((k : K) → alike k k ≡ true) → ((k j : K) → All (λ x. owns k x ≡ alike k j) (f j)) → ((k : K) → IsDistinct eq (f k))
      → (ks : List K) → IsDistinct alike ks → IsDistinct eq (flat_map f ks)
  unfolding IsDistinct
  IsDistinct-flat_map alike owns f itself mine each [] d = tt
  IsDistinct-flat_map alike owns f itself mine each (k ∷ ks) d =
      IsDistinct-append (owns k) (f k) (flat_map f ks)
      (All-weaker (λ x. owns k x ≡ alike k k) (λ x. owns k x ≡ true) (λ x e. e ∙ itself k) (f k) (mine k k))
      (All-flat_map (λ x. owns k x ≡ false) f ks
      (All-weaker (λ j. alike k j ≡ false) (λ j. All (λ x. owns k x ≡ false) (f j))
      (λ j e. All-weaker (λ x. owns k x ≡ alike k j) (λ x. owns k x ≡ false) (λ x g. g ∙ e) (f j) (mine k j))
      ks (All-from_recursion (λ j. alike k j ≡ false) ks d.0)))
      (each k) (IsDistinct-flat_map alike owns f itself mine each ks d.1)
