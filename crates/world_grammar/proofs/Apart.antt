-- Names of a command that are told apart, where no two of its values that have to differ are equal.
use Rattle.std.proofs.Common.{◌≡◌, true, false, ℕ, Option, List, [], ◌∷◌, ◌++◌, map, None, Some, refl, sym, ap, ◌∙◌, subst, inl, inr, ◌⊎◌, ⊎_elim}
use Rattle.std.specs.Prelude.{Contains, bytes_eq, option_map}
use Rattle.std.specs.List.{AllByRecursion, IsDistinct}
use Rattle.std.specs.Option.{option_or}
use Rattle.std.proofs.lemmas.Bool.{true≢false}
use Rattle.std.proofs.lemmas.Cmp.{nat_list_eq_equiv}
use Rattle.std.proofs.lemmas.List.Elements.{Contains-append_cases}
use Rattle.sse_model.proofs.Members.{Contains-nil, Contains-cases}
use Rattle.sse_model.specs.Drawn.{is_compared, AreDistinct}
use Rattle.sse_model.specs.Names.{Name, class_of, Table}

-- what holds of all holds of each
pub of_member : {X : Type 0} (P : X → Type 0) (xs : List X) (x : X) → AllByRecursion P xs → Contains xs x → P x
of_member P [] x all within = absurd (Contains-nil x within)
of_member P (y ∷ ys) x all within = ⊎_elim (λ (same : y ≡ x). subst P same all.0) (λ rest. of_member P ys x all.1 rest) (Contains-cases y ys x within)

pub map_none : {X Y : Type 0} (g : X → Y) (o : Option X) → option_map g o ≡ None → o ≡ None
map_none g None e = refl
map_none g (Some x) e = cc

pub both_none : {X : Type 0} (a b : Option X) → option_or a b ≡ None → (a ≡ None) × (b ≡ None)
both_none None b e = (refl, e)
both_none (Some x) b e = cc

module _ (t : Table) where
  -- names of which no values are compared
  pub apart-uncompared : (names : List Name) → AllByRecursion (λ n. is_compared (class_of n) ≡ false) names → AreDistinct t names
  apart-uncompared names all x y here there at same compared equal = absurd (true≢false (sym compared ∙ of_member (λ n. is_compared (class_of n) ≡ false) names x all here))

  none_equal : {X : Type 0} (g : X → Name) (value : List ℕ) (xs : List X) (y : Name) → AllByRecursion (λ v. bytes_eq value v ≡ false) (map (λ x. t (g x)) xs) → Contains (map g xs) y → value ≡ t y → ⊥
  none_equal g value [] y all within same = Contains-nil y within
  none_equal g value (x ∷ xs) y all within same =
      ⊎_elim (λ (here : g x ≡ y). true≢false (sym (nat_list_eq_equiv.refl value) ∙ ap (bytes_eq value) (same ∙ ap t (sym here)) ∙ all.0)) (λ rest. none_equal g value xs y all.1 rest same)
      (Contains-cases (g x) (map g xs) y within)

  -- names of which no two values are equal
  pub apart-values : {X : Type 0} (g : X → Name) (xs : List X) → IsDistinct bytes_eq (map (λ x. t (g x)) xs) → AreDistinct t (map g xs)
  unfolding IsDistinct
  apart-values g [] distinct x y here there at class compared equal = absurd (Contains-nil x here)
  apart-values {X} g (z ∷ zs) distinct x y here there at class compared equal =
      by (λ first second. apart-values g zs distinct.1 x y first second at class compared equal) (Contains-cases (g z) (map g zs) x here) (Contains-cases (g z) (map g zs) y there)
    where
      by : (Contains (map g zs) x → Contains (map g zs) y → x ≡ y) → (g z ≡ x) ⊎ Contains (map g zs) x → (g z ≡ y) ⊎ Contains (map g zs) y → x ≡ y
      by rest (inl first) (inl second) = sym first ∙ second
      by rest (inl first) (inr second) = absurd (none_equal g (t (g z)) zs y distinct.0 second (ap t first ∙ equal))
      by rest (inr first) (inl second) = absurd (none_equal g (t (g z)) zs x distinct.0 first (ap t second ∙ sym equal))
      by rest (inr first) (inr second) = rest first second

  -- names of two kinds that are never compared with one another
  pub apart-append : (xs ys : List Name) → AreDistinct t xs → AreDistinct t ys
      → ((x y : Name) → Contains xs x → Contains ys y → class_of x ≡ class_of y → is_compared (class_of x) ≡ true → ⊥) → AreDistinct t (xs ++ ys)
  apart-append xs ys first second never x y here there at class compared equal = by (Contains-append_cases xs ys x here) (Contains-append_cases xs ys y there)
    where
      by : Contains xs x ⊎ Contains ys x → Contains xs y ⊎ Contains ys y → x ≡ y
      by (inl a) (inl b) = first x y a b at class compared equal
      by (inl a) (inr b) = absurd (never x y a b class compared)
      by (inr a) (inl b) = absurd (never y x b a (sym class) (ap is_compared (sym class) ∙ compared))
      by (inr a) (inr b) = second x y a b at class compared equal
