-- Whether a run has a collision can be computed, for a given table.
use Rattle.std.proofs.Common.{◌≡◌, Bool, true, false, not, ◌&&◌, ◌||◌, List, [], ◌∷◌, ◌++◌, refl, sym, ap, ◌∙◌, subst, ⊎_elim}
use Rattle.std.specs.Prelude.{Contains, flat_map, bytes_eq, ◌==◌}
use Rattle.std.specs.List.{list_all}
use Rattle.std.proofs.lemmas.Bool.{true≢false, and_parts}
use Rattle.std.proofs.lemmas.Cmp.{nat_eq_equiv}
use Rattle.std.proofs.lemmas.Slice.Eq.{bytes_eq-Decides}
use Rattle.client_registry.specs.Run.{Run, Offsets}
use Rattle.sse_model.proofs.Members.{Contains-nil, Contains-cases}
use Rattle.sse_model.proofs.SameName.{same_name-Decides}
use Rattle.sse_model.specs.Drawn.{drawn, probed, is_compared, IsCollisionFree}
use Rattle.sse_model.specs.Names.{Name, Table, Class, class_of, same_name, Tokens, ListLabels, CellPads, BlockPads, PlusLabels, PlusPads, Revocations, PlaceTags}

abbrev pub same_class : Class → Class → Bool
same_class Tokens Tokens = true
same_class ListLabels ListLabels = true
same_class CellPads CellPads = true
same_class BlockPads BlockPads = true
same_class PlusLabels PlusLabels = true
same_class PlusPads PlusPads = true
same_class Revocations Revocations = true
same_class PlaceTags PlaceTags = true
same_class _ _ = false

same_class-refl : (c : Class) → same_class c c ≡ true
same_class-refl Tokens = refl
same_class-refl ListLabels = refl
same_class-refl CellPads = refl
same_class-refl BlockPads = refl
same_class-refl PlusLabels = refl
same_class-refl PlusPads = refl
same_class-refl Revocations = refl
same_class-refl PlaceTags = refl

-- whether two names are one, or are of different epochs, of different classes or of one that isn't compared, or have
-- different values
abbrev pub is_apart : Table → Name → Name → Bool
is_apart t x y = same_name x y || not (x.epoch == y.epoch && is_compared (class_of x) && same_class (class_of x) (class_of y) && bytes_eq (t x) (t y))

abbrev pub are_apart : Table → List Name → Bool
are_apart t names = list_all (λ x. list_all (is_apart t x) names) names

-- the test of a whole run
abbrev pub is_collision_free : Table → Offsets → Run → Bool
is_collision_free t o run = are_apart t (flat_map (λ n. n) (drawn o run ++ probed o run))

passes : {X : Type 0} (p : X → Bool) (xs : List X) (x : X) → list_all p xs ≡ true → Contains xs x → p x ≡ true
passes p [] x all within = absurd (Contains-nil x within)
passes {X} p (y ∷ ys) x all within =
    let parts = and_parts (p y) (list_all p ys) all in
    ⊎_elim (λ (same : y ≡ x). subst (λ z. p z ≡ true) same parts.0) (λ rest. passes p ys x parts.1 rest) (Contains-cases y ys x within)

-- a run that passes the test has no collision
pub IsCollisionFree-from_test : (t : Table) (o : Offsets) (run : Run) → is_collision_free t o run ≡ true → IsCollisionFree t o run
IsCollisionFree-from_test t o run all x y x_in y_in epochs classes compared values =
    by (same_name x y) refl (passes (is_apart t x) names y (passes (λ x. list_all (is_apart t x) names) names x all x_in) y_in)
  where
    names : List Name
    names = flat_map (λ n. n) (drawn o run ++ probed o run)

    together : (x.epoch == y.epoch && is_compared (class_of x) && same_class (class_of x) (class_of y) && bytes_eq (t x) (t y)) ≡ true
    together =
        ap (λ b. b && is_compared (class_of x) && same_class (class_of x) (class_of y) && bytes_eq (t x) (t y)) (ap (λ n. n == y.epoch) epochs ∙ nat_eq_equiv.refl y.epoch)
        ∙ ap (λ b. b && same_class (class_of x) (class_of y) && bytes_eq (t x) (t y)) compared
        ∙ ap (λ b. b && bytes_eq (t x) (t y)) (subst (λ c. same_class (class_of x) c ≡ true) classes (same_class-refl (class_of x)))
        ∙ (bytes_eq-Decides (t x) (t y)).1 values

    by : (b : Bool) → same_name x y ≡ b → (b || not (x.epoch == y.epoch && is_compared (class_of x) && same_class (class_of x) (class_of y) && bytes_eq (t x) (t y))) ≡ true → x ≡ y
    by true e h = (same_name-Decides x y).0 e
    by false e h = absurd (true≢false (sym h ∙ ap not together))
