-- A duel after some of its turns.
use Rattle.std.specs.Prelude.{◌≡◌, ℕ, true, List, None, Some}
use Rattle.def_comparison.specs.FirstDifference.{IsFirstDifference}
use Rattle.def_duel.specs.Choices.{Pair, Sides, SetsUp, can_take, grown, is_taken}
use Rattle.def_leakage.specs.Histories.{leak_in}
use Rattle.keyed_fn.specs.KeyedFn.{KeyedFn}
use Rattle.leakage_history.specs.HashedEpochs.{epochs_in}
use Rattle.sse_game.specs.Passing.{HasPassed, marks_in}
use Rattle.sse_game.specs.Side.{IsSide, epochs_at, history_at}
use Rattle.sse_game.specs.Views.{setup_view}
use Rattle.sse_game.specs.declared.choice.NewSetup.{NewSetup}
use Rattle.sse_game.specs.declared.duel.Duel.{Duel}
use Rattle.sse_game.specs.declared.game.Game.{Game}

-- the two histories, and how many pairs were skipped
abbrev pub sides_at : Game → Sides
sides_at g = record { left = history_at g.left; right = history_at g.right; skipped = g.skipped }

abbrev pub sides_of : Duel → Sides
sides_of d = record { left = Some (epochs_in d.left); right = Some (epochs_in d.right); skipped = d.skipped }

-- both sides leaked the same, and what passed is known of the left one
pub record IsGame (f : KeyedFn) (key : List ℕ) (g : Game) : Type 0 where
  pub left : IsSide g.left
  pub right : IsSide g.right
  pub leaks : leak_in (history_at g.left) ≡ leak_in (history_at g.right)
  pub passed : HasPassed f key (history_at g.left) g.shown
  pub marks : g.marks.items ≡ marks_in f key (epochs_at g.left)

-- a pair that is taken and leaks something else on either side, at the commands of this number
pub record IsUnequal (f : KeyedFn) (key : List ℕ) (s : Sides) (pair : Pair) (k : ℕ) : Type 0 where
  pub taken : is_taken f key s pair ≡ true
  pub first : IsFirstDifference k (leak_in (grown s.left pair.left)) (leak_in (grown s.right pair.right))

-- both setups are taken as the first command
abbrev pub AreTaken : (left right : NewSetup) → Type 0
AreTaken left right = (can_take None (SetsUp (setup_view left)) ≡ true) × (can_take None (SetsUp (setup_view right)) ≡ true)
