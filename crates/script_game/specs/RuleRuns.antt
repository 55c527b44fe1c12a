-- What is live on a side after choices of the rule.
use Rattle.std.specs.Prelude.{◌≡◌, ◌+◌, ◌<◌, ℕ, List, [], ◌∷◌, length, map}
use Rattle.client_registry.specs.Command.{Command}
use Rattle.client_registry.specs.Live.{live}
use Rattle.script_game.specs.GameDocuments.{game_document, game_documents}
use Rattle.script_game.specs.declared.game_side.GameSide.{GameSide}

-- these numbers rise, and are above the one bound and below the other
abbrev pub IsRisingWithin : (above below : ℕ) → List ℕ → Type 0
IsRisingWithin above below [] = Unit {0}
IsRisingWithin above below (n ∷ ns) = (above < n) × (n < below) × IsRisingWithin n below ns

-- the live identifiers, if these are those above 100
abbrev pub live_with : List ℕ → List ℕ
live_with added = 1 ∷ 2 ∷ 3 ∷ 4 ∷ added

-- after these commands the live documents above 100 are those that were added and not deleted; each was added under 100 and the number
-- of its turn
pub record IsRuleRun (side : GameSide) (added : List ℕ) (later : List Command) : Type 0 where
  pub live : live (game_documents side) later ≡ map (game_document side) (live_with added)
  pub rising : IsRisingWithin 100 (101 + length later) added
