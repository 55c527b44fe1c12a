-- What the words of a command line ask of the duel's program (docs/FORMATS.md, "A duel").
use Rattle.std.specs.Prelude.{ℕ, List, [], ◌∷◌, Option, None, Some, codes, bytes_eq, if◌then◌else◌}
use Rattle.program_words.specs.Numbers.{number_within}
use Rattle.script_game.specs.declared.game.Game.{Game}

-- the duel of these numbers, if both are given
abbrev pub game_by : (seed turns : Option ℕ) → Option Game
game_by (Some seed) (Some turns) = Some (record { seed = seed; turns = turns })
game_by (Some seed) None = None
game_by None turns = None

-- `duel SEED N`: SEED from 0 to 999,999 and N from 0 to 1,000
abbrev pub game_of : List (List ℕ) → Option Game
game_of [] = None
game_of (word ∷ []) = None
game_of (word ∷ seed ∷ []) = None
game_of (word ∷ seed ∷ turns ∷ []) =
    if bytes_eq word (codes "duel") then game_by (number_within 0 999999 seed) (number_within 0 1000 turns) else None
game_of (word ∷ seed ∷ turns ∷ next ∷ words) = None
