-- How a duel goes: its turns, as the adversary tells them, and how it ends.
use Rattle.std.specs.Prelude.{◌≡◌, ◌⊎◌, ℕ, ◌+◌, ◌≤◌, Bool, true, false, List, [], ◌∷◌, ◌++◌, Option, None, Some, is_some, option_map}
use Rattle.client_registry.specs.Histories.{IsKept}
use Rattle.def_comparison.specs.FirstDifference.{IsFirstDifference}
use Rattle.def_leakage.specs.Histories.{leak_in}
use Rattle.keyed_fn.specs.KeyedFn.{KeyedFn}
use Rattle.def_duel.specs.Choices.{Pair, Sides, at_start, grown, is_taken}
use Rattle.def_duel.specs.Turns.{Turn, turn, answered, sides_after, texts_of, AreShown, AreOver, AreAnswered}

-- what was told, and these turns after it
abbrev pub told_more : Option (List Turn) → List Turn → Option (List Turn)
told_more old turns = option_map (λ all. all ++ turns) old

-- both sides keep the rules of a history, and leak the same
pub record CanGoOn (s : Sides) : Type 0 where
  pub left : IsKept s.left
  pub right : IsKept s.right
  pub leaks : leak_in s.left ≡ leak_in s.right

-- one turn: the adversary was shown all that had passed, and the sides are those after its answer; there are more if it gave a pair
pub record HasTurned (f : KeyedFn) (key : List ℕ) (old new : Option (List Turn)) (before after : Sides) (more : Bool) : Type 0 where
  pub answer : Option Pair
  pub told : new ≡ told_more old (turn (texts_of f key before.left) answer ∷ [])
  pub sides : after ≡ answered f key before answer
  pub given : more ≡ is_some answer
  pub goes_on : CanGoOn after

-- so many turns, each answered by a pair
pub record HasPlayed (f : KeyedFn) (key : List ℕ) (count : ℕ) (old now : Option (List Turn)) (s : Sides) : Type 0 where
  pub turns : List Turn
  pub told : now ≡ told_more old turns
  pub shown : AreShown f key at_start turns
  pub answered : AreAnswered count turns
  pub few : s.skipped ≤ count
  pub sides : s ≡ sides_after f key at_start turns
  pub goes_on : CanGoOn s

-- a duel of at most so many turns
pub record HasDuelled (f : KeyedFn) (key : List ℕ) (most : ℕ) (old new : Option (List Turn)) (end : Sides) : Type 0 where
  pub turns : List Turn
  pub told : new ≡ told_more old turns
  pub shown : AreShown f key at_start turns
  pub over : AreOver most turns
  pub sides : end ≡ sides_after f key at_start turns
  pub goes_on : CanGoOn end

-- a turn whose pair is taken and leaks something else on either side, at the commands of this number
pub record DiffersAt (f : KeyedFn) (key : List ℕ) (old new : Option (List Turn)) (before : Sides) (k : ℕ) : Type 0 where
  pub pair : Pair
  pub told : new ≡ told_more old (turn (texts_of f key before.left) (Some pair) ∷ [])
  pub taken : is_taken f key before pair ≡ true
  pub first : IsFirstDifference k (leak_in (grown before.left pair.left)) (leak_in (grown before.right pair.right))

-- a duel that ends with such a turn
pub record HasDiffered (f : KeyedFn) (key : List ℕ) (old new : Option (List Turn)) (k : ℕ) : Type 0 where
  pub turns : List Turn
  pub before : Option (List Turn)
  pub told : before ≡ told_more old turns
  pub shown : AreShown f key at_start turns
  pub same : leak_in (sides_after f key at_start turns).left ≡ leak_in (sides_after f key at_start turns).right
  pub last : DiffersAt f key before new (sides_after f key at_start turns) k

-- an answer that is no pair, or none that is taken as the first
abbrev pub IsNoSetup : KeyedFn → (key : List ℕ) → Option Pair → Type 0
IsNoSetup f key None = Unit {0}
IsNoSetup f key (Some p) = is_taken f key at_start p ≡ false

-- a duel that doesn't begin: there is no turn, or the first has such an answer
abbrev pub HasNoSetup : KeyedFn → (key : List ℕ) → (most : ℕ) → (old new : Option (List Turn)) → Type 0
HasNoSetup f key most old new =
    ((most ≡ 0) × (new ≡ old)) ⊎ ((answer : Option Pair) × (new ≡ told_more old (turn (texts_of f key None) answer ∷ [])) × IsNoSetup f key answer)
