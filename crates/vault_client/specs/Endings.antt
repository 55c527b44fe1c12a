-- How a vault's run ends: its status, and its last line.
use Rattle.std.specs.Prelude.{◌≡◌, ◌≢◌, ◌⊎◌, ℕ, Bool, true, false, List, [], Option, Result, Ok, Err}
use Rattle.std.specs.Io.KnownBytes.{append_known}
use Rattle.sse_outside.specs.Causes.{Rose}
use Rattle.sse_outside.specs.Fronts.{TookFront}
use Rattle.client_journal.specs.Shows.{SinkShows}
use Rattle.vault_script.specs.VaultStops.{vault_last_line, vault_status}
use Rattle.vault_script.specs.declared.vault_stop.VaultStop.{VaultStop}

-- of a run that is through: whether a command was refused
abbrev pub status_through : Bool → ℕ
status_through false = 0
status_through true = 1

-- of a run, by what its script came to
abbrev pub run_status : Result Bool VaultStop → ℕ
run_status (Ok refused) = status_through refused
run_status (Err stop) = vault_status stop

-- the line that says why it stopped; nothing if it didn't
abbrev pub run_line : Result Bool VaultStop → List ℕ
run_line (Ok refused) = []
run_line (Err stop) = vault_last_line stop

-- how that line was printed, after what the run had printed: whole, and the sink's count of faults is that of the run's start unless the
-- status says that the sink failed; or a strict prefix of it, and a count of the sink rose
abbrev pub EndsLine : (line : List ℕ) (printed : Option (List ℕ)) (sink sink' : SinkShows) (status : ℕ) → Type 0
EndsLine line printed sink sink' status =
    ((sink'.written ≡ append_known printed line) × (status ≢ 4 → sink'.faults ≡ sink.faults))
    ⊎ (TookFront printed sink'.written line × (Rose sink.faults sink'.faults ⊎ Rose sink.shortages sink'.shortages))
