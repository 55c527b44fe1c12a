-- The stops of a vault's run: the last line of each, and its status (docs/FORMATS.md).
use Rattle.std.specs.Prelude.{ℕ, List, [], ◌∷◌, ◌++◌, codes, decimal}
use Rattle.std.specs.List.{concat}
use Rattle.script_run_texts.specs.Stops.{last_line, stop_status, journal_line, journal_status}
use Rattle.vault_script.specs.declared.vault_stop.VaultStop.{VaultStop}
use Rattle.vault_script.specs.declared.vault_stop.VaultStop.TheVariants.{Clash, Forged, Run, Unopened}

-- the last line, its end included; nothing if the sink is what failed
abbrev pub vault_last_line : VaultStop → List ℕ
vault_last_line Clash = codes "stopped: clash" ++ 10 ∷ []
vault_last_line (Forged id) = concat (codes "stopped: forged " ∷ decimal id ∷ (10 ∷ []) ∷ [])
vault_last_line (Run stop) = last_line stop
vault_last_line (Unopened stop) = journal_line stop

-- the status
abbrev pub vault_status : VaultStop → ℕ
vault_status Clash = 8
vault_status (Forged id) = 12
vault_status (Run stop) = stop_status stop
vault_status (Unopened stop) = journal_status stop
