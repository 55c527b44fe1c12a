-- Duels that began, and what each of their turns tells.
use Rattle.std.specs.Prelude.{◌≡◌, ℕ, true, List, [], ◌∷◌, ◌++◌, Option, None, Some}
use Rattle.def_duel.proofs.TurnsTell.{IsShownAlone}
use Rattle.def_duel.specs.Choices.{Pair, Sides, at_start, is_taken, taken_if}
use Rattle.def_duel.specs.Duels.{CanGoOn, HasDuelled, HasPlayed, HasDiffered, told_more}
use Rattle.def_duel.specs.Telling.{AgreeAtNames}
use Rattle.def_duel.specs.Turns.{Turn, turn, sides_after, texts_of}
use Rattle.def_relabelling.specs.Histories.{relabelled_from}
use Rattle.keyed_fn.specs.KeyedFn.{KeyedFn}

-- the first of these turns was answered by a pair that is taken
abbrev pub IsBegun : KeyedFn → (key : List ℕ) → List Turn → Type 0
IsBegun f key [] = ⊥
IsBegun f key (t ∷ ts) = (p : Pair) × (t.answer ≡ Some p) × (is_taken f key at_start p ≡ true)

-- a turn after these tells nothing but leakage, and its relabelled table agrees with that of the end
pub record TellsAlone (f : KeyedFn) (key : List ℕ) (before : List Turn) (t : Turn) (end : Sides) : Type 0 where
  pub shown : IsShownAlone f key (sides_after f key at_start before) t
  pub table : AgreeAtNames (sides_after f key at_start before).right
      (relabelled_from f key (sides_after f key at_start before).left (sides_after f key at_start before).right) (relabelled_from f key end.left end.right)

abbrev pub TellAlone : KeyedFn → (key : List ℕ) → List Turn → (end : Sides) → Type 0
TellAlone f key turns end = (before after : List Turn) (t : Turn) → turns ≡ before ++ t ∷ after → TellsAlone f key before t end

-- a duel of at most so many turns that began
pub record IsDuel (f : KeyedFn) (key : List ℕ) (most : ℕ) (old new : Option (List Turn)) (end : Sides) : Type 0 where
  pub duelled : HasDuelled f key most old new end
  pub begun : IsBegun f key duelled.turns
  pub tells : TellAlone f key duelled.turns end

-- so many turns of a duel that began
pub record IsPlayed (f : KeyedFn) (key : List ℕ) (count : ℕ) (old now : Option (List Turn)) (s : Sides) : Type 0 where
  pub played : HasPlayed f key count old now s
  pub begun : IsBegun f key played.turns

-- a first turn whose pair is taken
pub record HasBegun (f : KeyedFn) (key : List ℕ) (old now : Option (List Turn)) (s : Sides) : Type 0 where
  pub pair : Pair
  pub told : now ≡ told_more old (turn (texts_of f key None) (Some pair) ∷ [])
  pub taken : is_taken f key at_start pair ≡ true
  pub sides : s ≡ taken_if true at_start pair
  pub goes_on : CanGoOn s

-- a duel that began, and ends with a pair that is taken and leaks something else on either side, at the commands of this number
pub record EndsUnequal (f : KeyedFn) (key : List ℕ) (old new : Option (List Turn)) (k : ℕ) : Type 0 where
  pub differed : HasDiffered f key old new k
  pub begun : IsBegun f key (differed.turns ++ turn (texts_of f key (sides_after f key at_start differed.turns).left) (Some differed.last.pair) ∷ [])

-- turns that are told, of which this holds
abbrev pub Told : (tells : List Turn → Type 0) → (List Turn → Type 0) → Type 0
Told tells P = (now : List Turn) × tells now × P now
