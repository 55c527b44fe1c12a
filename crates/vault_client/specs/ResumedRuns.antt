-- A run of a script that resumes from the records of a journal, with its last line and its status.
use Rattle.std.specs.Prelude.{◌≡◌, ◌≢◌, ℕ, Bool, List, Option, Result, Ok, Err, IfSome}
use Rattle.client_journal.specs.Shows.{SinkShows}
use Rattle.keyed_fn.specs.KeyedFn.{KeyedFn}
use Rattle.keyed_fn.specs.VaultFormulas.{vault_secrets}
use Rattle.sse_outside.specs.Kept.{Kept}
use Rattle.vault_server.specs.VaultState.{VaultState}
use Rattle.vault_shelf.specs.Shelves.{VaultCommand, shelf_of}
use Rattle.vault_shelf.specs.VaultSessions.{SlotsDiffer}
use Rattle.vault_script.specs.declared.vault_stop.VaultStop.{VaultStop}
use Rattle.doc_vault.specs.Openings.{FindsKey}
use Rattle.doc_vault.specs.Sights.{Sight}
use Rattle.doc_vault.specs.VaultRuns.{commands_in}
use Rattle.vault_client.specs.Endings.{EndsLine, run_line, run_status}
use Rattle.vault_client.specs.Forgeries.{ForgedAfter}
use Rattle.vault_client.specs.CatchingUp.{MissesAtMostOne, left_by}
use Rattle.vault_client.specs.Restorings.{StopsRestoring}
use Rattle.vault_client.specs.Resumptions.{AreKept, AtLine, BeforeLine, InLines, Resumes, StopsSomewhere, Unready}

module _ (f : KeyedFn) (left : Option (List (List ℕ))) where
  -- the run resumed under the key of its key line, after the commands that were kept under that key
  pub record ResumesUnder (now end : Sight) (ended : Result Bool VaultStop) : Type 0 where
    pub key : List ℕ
    pub number : ℕ
    pub left_over : Option (List (List ℕ))
    pub finds : FindsKey 1 left key number left_over
    pub commands : List VaultCommand
    pub kept : AreKept f key now.kept commands
    pub resumes : Resumes f (vault_secrets f key) commands number left_over now end ended

  -- what the script came to: the run stops before it resumes, with nothing sent, kept or printed; or it resumed
  pub data ResumesScript (now end : Sight) (ended : Result Bool VaultStop) : Type 0 where
    HeldUp : (stop : VaultStop) → ended ≡ Err stop → StopsRestoring f left now.kept stop → end ≡ now → ResumesScript now end ended
    Under : ResumesUnder now end ended → ResumesScript now end ended

  -- whatever was kept under the key of the key line, the vault is as that left it, or all but the last of it; and puts of different numbers have
  -- different slots
  abbrev pub StandsThere : Kept → VaultState → Type 0
  StandsThere kept vault = (key : List ℕ) (number : ℕ) (left_over : Option (List (List ℕ))) (commands : List VaultCommand) → FindsKey 1 left key number left_over → AreKept f key kept commands
      → SlotsDiffer f (vault_secrets f key) × MissesAtMostOne f (vault_secrets f key) commands vault

-- of a run that stops: the last reply it received, which it had memory to read, is a text whose tag is wrong

abbrev pub ForgedSomewhere : (f : KeyedFn) (key : List ℕ) (commands : List VaultCommand) {number : ℕ} {left : Option (List (List ℕ))} {old new : Sight} {stop : VaultStop} → StopsSomewhere f (vault_secrets f key) commands number left old new stop → Type 0
ForgedSomewhere f key commands (Unready why same) = ⊥
ForgedSomewhere f key commands (BeforeLine why kept written) = ⊥
ForgedSomewhere f key commands (AtLine again frames caught kept printing) = ⊥
ForgedSomewhere f key commands (InLines run) = ForgedAfter f (vault_secrets f key) (shelf_of (left_by commands) (commands_in run.lines.run.turns)) run.lines.stops

abbrev pub ForgedUnder : (f : KeyedFn) (key : List ℕ) (commands : List VaultCommand) (number : ℕ) (left : Option (List (List ℕ))) (old new : Sight) (ended : Result Bool VaultStop) → Resumes f (vault_secrets f key) commands number left old new ended → Type 0
ForgedUnder f key commands number left old new (Ok refused) resumes = ⊥
ForgedUnder f key commands number left old new (Err stop) resumes = ForgedSomewhere f key commands resumes.where_is

abbrev pub IsForgedResumed : (f : KeyedFn) (left : Option (List (List ℕ))) (now end : Sight) (ended : Result Bool VaultStop) → ResumesScript f left now end ended → Type 0
IsForgedResumed f left now end ended (HeldUp stop is why same) = ⊥
IsForgedResumed f left now end ended (Under run) = ForgedUnder f run.key run.commands run.number run.left_over now end ended run.resumes

-- A run that resumes. All is said of one end: what the script came to, and what was seen of all devices then.
pub record IsResumedRun (f : KeyedFn) (left : Option (List (List ℕ))) (now last : Sight) (sink sink' : SinkShows) (status : ℕ) : Type 0 where
  pub ended : Result Bool VaultStop
  pub end : Sight
  pub runs : ResumesScript f left now end ended
  pub passed : last.link ≡ end.link
  pub kept : last.kept ≡ end.kept
  pub line : EndsLine (run_line ended) end.written sink sink' status
  pub status_is : status ≡ run_status ended
  -- the status 12 comes if and only if a get received a text whose tag is wrong, and it was read
  pub forged_only : status ≡ 12 → IsForgedResumed f left now end ended runs
  pub forged : IsForgedResumed f left now end ended runs → status ≡ 12
  -- over an honest link, to a vault that is as the journal's commands left it, or all but the last: no reply stops the run
  pub honest : IfSome now.link.remote (λ before. StandsThere f left now.kept before.state → (status ≢ 8) × (status ≢ 9) × (status ≢ 12))
