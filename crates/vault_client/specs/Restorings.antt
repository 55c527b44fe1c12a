-- What a run resumes from, after the records of its journal and the key line of its script were read; or why it doesn't.
use Rattle.std.specs.Prelude.{◌≡◌, ◌≤◌, ℕ, List, [], take, Option, IfSome, Result, Ok, Err}
use Rattle.keyed_fn.specs.KeyFormulas.{mark_of}
use Rattle.keyed_fn.specs.KeyedFn.{KeyedFn}
use Rattle.keyed_fn.specs.VaultFormulas.{VaultSecrets}
use Rattle.script_run_texts.specs.declared.input_stop.InputStop.{InputStop}
use Rattle.script_run_texts.specs.declared.input_stop.InputStop.TheVariants as inputs
use Rattle.script_run_texts.specs.declared.journal_stop.JournalStop.{JournalStop}
use Rattle.script_run_texts.specs.declared.journal_stop.JournalStop.TheVariants.{NoJournal, HasRecords, BadRecord, WrongKey, Disk, Memory}
use Rattle.script_run_texts.specs.declared.stop_cause.StopCause.TheVariants as runs
use Rattle.sse_journal.specs.FileRecords.{records_in_file}
use Rattle.sse_outside.specs.Kept.{Kept}
use Rattle.std.specs.Option.{option_map}
use Rattle.client_journal.specs.DiskRuns.{kept_on}
use Rattle.vault_shelf.specs.ClientRecords.{VaultOpensElsewhere}
use Rattle.vault_shelf.specs.Shelves.{VaultCommand}
use Rattle.vault_script.specs.declared.vault_stop.VaultStop.{VaultStop}
use Rattle.vault_script.specs.declared.vault_stop.VaultStop.TheVariants as stops
use Rattle.vault_shelf.specs.ShelfView.{ShelfView}
use Rattle.doc_vault.specs.Counts.{RoseOnly, source_stop}
use Rattle.doc_vault.specs.Openings.{FindsKey, MissesKey}
use Rattle.vault_client.specs.Recoveries.{IsBadUnder}
use Rattle.vault_client.specs.Resumptions.{IsRestored}

-- the key line was read, and the commands that were kept under its key were found
pub record HasRestored (f : KeyedFn) (left : Option (List (List ℕ))) (kept : Kept) (number : ℕ) (left' : Option (List (List ℕ))) (keys : VaultSecrets) (view : ShelfView) (last : List ℕ) : Type 0 where
  pub key : List ℕ
  pub finds : FindsKey 1 left key number left'
  pub commands : List VaultCommand
  pub restored : IsRestored f key kept keys view last commands

-- the records are no client's of this key: one is bad, or the first is the mark of another key. Or they weren't read
abbrev pub AreUnread : KeyedFn → (key : List ℕ) → Kept → JournalStop → Type 0
AreUnread f key kept (BadRecord n) = IfSome kept.records (λ payloads. IsBadUnder (mark_of f key) payloads n)
AreUnread f key kept WrongKey = IfSome kept.records (λ payloads. VaultOpensElsewhere (mark_of f key) (take 1 payloads))
AreUnread f key kept NoJournal = IfSome kept.records (λ payloads. ⊥)
AreUnread f key kept HasRecords = ⊥
AreUnread f key kept Disk = Unit {0}
AreUnread f key kept Memory = Unit {0}

-- a run stops before it resumes: at its key line, or at its records
pub data StopsRestoring (f : KeyedFn) (left : Option (List (List ℕ))) (kept : Kept) (stop : VaultStop) : Type 0 where
  AtKeyLine : (why : InputStop) → stop ≡ stops.Run (runs.Input why) → ((number : ℕ) → why ≡ inputs.Line number → MissesKey 1 left number) → StopsRestoring f left kept stop
  AtMemory : stop ≡ stops.Run runs.Memory → StopsRestoring f left kept stop
  AtRecords : (key : List ℕ) (number : ℕ) (left' : Option (List (List ℕ))) (why : JournalStop) → FindsKey 1 left key number left' → stop ≡ stops.Unopened why → AreUnread f key kept why → StopsRestoring f left kept stop

-- the counts of the disk and of the source: each rises if the run stops for it, and stays otherwise
pub record ShowsHeldUp (disk disk' source source' : ℕ) (stop : VaultStop) : Type 0 where
  pub disk_rose : RoseOnly (stop ≡ stops.Unopened Disk) disk disk'
  pub disk_later : disk ≤ disk'
  pub source_rose : RoseOnly (stop ≡ source_stop) source source'

abbrev pub CountsRestoring : {T : Type 0} → (disk disk' source source' : ℕ) → Result T VaultStop → Type 0
CountsRestoring disk disk' source source' (Ok done) = (disk' ≡ disk) × (source' ≡ source)
CountsRestoring disk disk' source source' (Err stop) = ShowsHeldUp disk disk' source source' stop
