-- Two lists of rising numbers, joined as a query joins the sets of them.
use Rattle.std.specs.Prelude.{◌≡◌, ◌<◌, ℕ, Bool, true, not, ◌&&◌, ◌||◌, List, [], ◌∷◌, nat_eq, if◌then◌else◌}
use Rattle.std.specs.List.{AllByRecursion, list_any}
use Rattle.bool_search.specs.Chosen.{has_in, holds}
use Rattle.bool_search.specs.Grammar.{Tree}
use Rattle.bool_search.specs.declared.join.Join.{Join}
use Rattle.bool_search.specs.declared.join.Join.TheVariants as joins

-- whether a number is among these
abbrev pub has : ℕ → List ℕ → Bool
has n ns = list_any (nat_eq n) ns

-- all of these are above a number
abbrev pub Above : ℕ → List ℕ → Type 0
Above n ns = AllByRecursion (λ m. n < m) ns

-- each is below those after it
abbrev pub IsRising : List ℕ → Type 0
IsRising [] = Unit {0}
IsRising (n ∷ ns) = Above n ns × IsRising ns

-- whether a number is taken, by whether the left list has it and whether the right one does
abbrev pub takes : Join → Bool → Bool → Bool
takes joins.And left right = left && right
takes joins.Not left right = left && not right
takes joins.Or left right = left || right

-- the least number of two lists, by which of them have it, and what is left of each after it
pub record IsFirst (n : ℕ) (in_left in_right : Bool) (left left' right right' : List ℕ) : Type 0 where
  pub left_is : left ≡ (if in_left then n ∷ left' else left')
  pub right_is : right ≡ (if in_right then n ∷ right' else right')
  pub left_above : Above n left'
  pub right_above : Above n right'
  pub some : (in_left || in_right) ≡ true

-- these numbers rise, and are those that a tree chooses
abbrev pub Chooses : Tree → (lists : List (List ℕ)) → (ids : List ℕ) → Type 0
Chooses t lists ids = IsRising ids × ((n : ℕ) → has n ids ≡ holds t (has_in lists n))
