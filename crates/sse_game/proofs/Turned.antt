-- A turn of a duel, by what the chooser was shown and answered.
use Rattle.std.proofs.Common.{◌≡◌, ℕ, ◌+◌, ◌≤◌, Bool, true, false, List, [], ◌∷◌, ◌++◌, None, Some, Ok, Err, refl, ap, arith, inr}
use Rattle.std.specs.Prelude.{IfOk, OnOk, Result}
use Rattle.def_duel.specs.Choices.{Pair, Sides, at_start, is_taken, played, taken_if}
use Rattle.def_duel.specs.Duels.{CanGoOn, DiffersAt, HasNoSetup, HasTurned}
use Rattle.def_duel.specs.Turns.{Turn, turn, texts_of}
use Rattle.keyed_fn.specs.KeyedFn.{KeyedFn}
use Rattle.sse_game.specs.Game.{IsGame, IsUnequal, sides_at}
use Rattle.sse_game.specs.Passing.{HasPassed}
use Rattle.sse_game.specs.Played.{HasBegun, Told}
use Rattle.sse_game.specs.Side.{history_at}
use Rattle.sse_game.specs.declared.fault.DuelFault.{DuelFault}
use Rattle.sse_game.specs.declared.game.Game.{Game}
use Rattle.sse_game.specs.declared.shown.Shown.{Shown}
use Rattle.sse_game.proofs.Passing.{passed-is}

few_if : (b : Bool) (s : Sides) (p : Pair) → (taken_if b s p).skipped ≤ s.skipped + 1
few_if true s p = omega arith
few_if false s p = omega arith

module _ (f : KeyedFn) (key : List ℕ) where
  pub can_go_on : (g : Game) → IsGame f key g → CanGoOn (sides_at g)
  can_go_on g game = record { left = game.left.numbers.kept; right = game.right.numbers.kept; leaks = game.leaks }

  pub seen_is : (g : Game) → IsGame f key g → g.shown.seen ≡ texts_of f key (history_at g.left)
  seen_is g game = passed-is f key (history_at g.left) g.shown game.left.numbers.whole game.left.numbers.kept game.passed

  pub greeting_is : (shown : Shown) → HasPassed f key None shown → shown.seen ≡ texts_of f key None
  greeting_is shown passed = passed-is f key None shown tt tt passed

  -- one more pair skipped at most
  pub few : (old new : Game) (p : Pair) → sides_at new ≡ played f key (sides_at old) p → new.skipped ≤ old.skipped + 1
  few old new p is = omega (arith, ap (λ (s : Sides). s.skipped) is, few_if (is_taken f key (sides_at old) p) (sides_at old) p)

  module _ (old : Game) (game : IsGame f key old) (past : List Turn) where
    pub turned_pair : (new : Game) (p : Pair) → IsGame f key new → sides_at new ≡ played f key (sides_at old) p
        → HasTurned f key (Some past) (Some (past ++ turn old.shown.seen (Some p) ∷ [])) (sides_at old) (sides_at new) true
    turned_pair new p after sides = record {
      answer = Some p;
      told = ap (λ seen. Some (past ++ turn seen (Some p) ∷ [])) (seen_is old game);
      sides = sides;
      given = refl;
      goes_on = can_go_on new after;
    }

    pub turned_none : HasTurned f key (Some past) (Some (past ++ turn old.shown.seen None ∷ [])) (sides_at old) (sides_at old) false
    turned_none = record {
      answer = None;
      told = ap (λ seen. Some (past ++ turn seen None ∷ [])) (seen_is old game);
      sides = refl;
      given = refl;
      goes_on = can_go_on old game;
    }

    pub differs : (p : Pair) (k : ℕ) → IsUnequal f key (sides_at old) p k → DiffersAt f key (Some past) (Some (past ++ turn old.shown.seen (Some p) ∷ [])) (sides_at old) k
    differs p k unequal = record {
      pair = p;
      told = ap (λ seen. Some (past ++ turn seen (Some p) ∷ [])) (seen_is old game);
      taken = unequal.taken;
      first = unequal.first;
    }

  -- The first turn.

  module _ (shown : Shown) (passed : HasPassed f key None shown) (past : List Turn) where
    pub begun_pair : (g : Game) (p : Pair) → IsGame f key g → is_taken f key at_start p ≡ true → sides_at g ≡ taken_if true at_start p
        → HasBegun f key (Some past) (Some (past ++ turn shown.seen (Some p) ∷ [])) (sides_at g)
    begun_pair g p game taken sides = record {
      pair = p;
      told = ap (λ seen. Some (past ++ turn seen (Some p) ∷ [])) (greeting_is shown passed);
      taken = taken;
      sides = sides;
      goes_on = can_go_on g game;
    }

    pub differs_first : (p : Pair) (k : ℕ) → IsUnequal f key at_start p k → DiffersAt f key (Some past) (Some (past ++ turn shown.seen (Some p) ∷ [])) at_start k
    differs_first p k unequal = record {
      pair = p;
      told = ap (λ seen. Some (past ++ turn seen (Some p) ∷ [])) (greeting_is shown passed);
      taken = unequal.taken;
      first = unequal.first;
    }

    pub no_pair : (most : ℕ) → HasNoSetup f key most (Some past) (Some (past ++ turn shown.seen None ∷ []))
    no_pair most = inr (None, ap (λ seen. Some (past ++ turn seen None ∷ [])) (greeting_is shown passed), tt)

    pub no_setups : (most : ℕ) (p : Pair) → is_taken f key at_start p ≡ false → HasNoSetup f key most (Some past) (Some (past ++ turn shown.seen (Some p) ∷ []))
    no_setups most p refused = inr (Some p, ap (λ seen. Some (past ++ turn seen (Some p) ∷ [])) (greeting_is shown passed), refused)

    -- by the result of the pair
    pub begun_result : (told : List Turn → Type 0) (p : Pair) → told (past ++ turn shown.seen (Some p) ∷ []) → (r : Result Game DuelFault) → IfOk r (λ g. IsGame f key g) → OnOk r (is_taken f key at_start p ≡ true)
        → IfOk r (λ g. sides_at g ≡ taken_if true at_start p) → IfOk r (λ g. Told told (λ now. HasBegun f key (Some past) (Some now) (sides_at g)))
    begun_result told p there (Ok g) game taken sides = (past ++ turn shown.seen (Some p) ∷ [], there, begun_pair g p game taken sides)
    begun_result told p there (Err fault) game taken sides = tt
