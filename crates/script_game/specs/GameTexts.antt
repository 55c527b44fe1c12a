-- The line that tells of a duel, and the last line and the status of one that stopped (docs/FORMATS.md).
use Rattle.std.specs.Prelude.{ℕ, List, [], ◌∷◌, codes, decimal}
use Rattle.std.specs.List.{concat}
use Rattle.script_run_texts.specs.Stops.{last_line, stop_status}
use Rattle.script_game.specs.declared.game_stop.GameStop.{GameStop}
use Rattle.script_game.specs.declared.game_stop.GameStop.TheVariants.{Run, LeaksDiffer}

-- the line of a duel of so many commands, in which so many bytes passed
abbrev pub game_line : (commands bytes : ℕ) → List ℕ
game_line commands bytes = concat (codes "duel: " ∷ decimal commands ∷ codes " commands, " ∷ decimal bytes ∷ codes " bytes" ∷ (10 ∷ []) ∷ [])

-- the last line of a stop, its end included; nothing if the sink is what failed
abbrev pub game_last_line : GameStop → List ℕ
game_last_line (Run stop) = last_line stop
game_last_line (LeaksDiffer command) = concat (codes "stopped: leaks differ at command " ∷ decimal command ∷ (10 ∷ []) ∷ [])

-- its status
abbrev pub game_status : GameStop → ℕ
game_status (Run stop) = stop_status stop
game_status (LeaksDiffer command) = 13
