-- A whole restore: its script, what it does under the script's key, its last line and its status.
use Rattle.std.specs.Prelude.{◌≡◌, ◌≢◌, ◌⊎◌, ℕ, ◌≤◌, Bool, List, Option, Result, Ok, Err, if◌then◌else◌}
use Rattle.std.specs.Io.KnownBytes.{append_known}
use Rattle.keyed_fn.specs.KeyedFn.{KeyedFn}
use Rattle.keyed_fn.specs.VaultFormulas.{vault_secrets}
use Rattle.script_run_texts.specs.declared.input_stop.InputStop.{InputStop}
use Rattle.script_run_texts.specs.declared.input_stop.InputStop.TheVariants as inputs
use Rattle.script_run_texts.specs.declared.stop_cause.StopCause.TheVariants as runs
use Rattle.sse_outside.specs.Causes.{Rose}
use Rattle.sse_outside.specs.Fronts.{TookOrRose}
use Rattle.vault_shelf.specs.Shelves.{VaultCommand, empty_shelf, shelf_of}
use Rattle.vault_script.specs.VaultStops.{vault_last_line, vault_status}
use Rattle.vault_script.specs.declared.vault_stop.VaultStop.{VaultStop}
use Rattle.vault_script.specs.declared.vault_stop.VaultStop.TheVariants as stops
use Rattle.vault_restore.specs.KeyScripts.{BadLineAt, KeyAlone, MakesKeyScript}
use Rattle.vault_restore.specs.LeftInOrder.{all_lines}
use Rattle.vault_restore.specs.RestoredLines.{text_of_lines}
use Rattle.vault_restore.specs.Restores.{FinishesRestore, StopsRestore}
use Rattle.vault_restore.specs.Visits.{RestoreSight}

module _ (f : KeyedFn) where
  -- the restore is through, under the key of the script
  pub record FinishesScript (left : Option (List (List ℕ))) (old new : RestoreSight) (forged : Bool) : Type 0 where
    pub key : List ℕ
    pub script : MakesKeyScript left (KeyAlone key)
    pub restores : FinishesRestore f (vault_secrets f key) old new forged

  -- it stops: in the script, with nothing done, or under its key
  pub data StopsScript (left : Option (List (List ℕ))) (old new : RestoreSight) (stop : VaultStop) : Type 0 where
    InScript : (why : InputStop) → stop ≡ stops.Run (runs.Input why) → ((number : ℕ) → why ≡ inputs.Line number → MakesKeyScript left (BadLineAt number)) → new ≡ old → StopsScript left old new stop
    UnderKey : (key : List ℕ) → MakesKeyScript left (KeyAlone key) → StopsRestore f (vault_secrets f key) old new stop → StopsScript left old new stop

  -- one of the two
  abbrev pub RestoresScript : (left : Option (List (List ℕ))) (old new : RestoreSight) → Result Bool VaultStop → Type 0
  RestoresScript left old new (Ok forged) = FinishesScript left old new forged
  RestoresScript left old new (Err stop) = StopsScript left old new stop

-- the status: 1 if the tag of a text was wrong
abbrev pub restore_status : Result Bool VaultStop → ℕ
restore_status (Ok forged) = if forged then 1 else 0
restore_status (Err stop) = vault_status stop

-- what a sink shows of itself: the bytes that it took, and its counts of faults and of shortages
pub record SinkShows : Type 0 where
  pub written : Option (List ℕ)
  pub faults : ℕ
  pub shortages : ℕ

abbrev pub prints : Option (List ℕ) → (faults shortages : ℕ) → SinkShows
prints written faults shortages = record { written = written; faults = faults; shortages = shortages }

-- the last line: there is none after a restore that is through; of a stop it is printed whole, or the sink failed
abbrev pub EndsLine : Result Bool VaultStop → (old new : SinkShows) → Type 0
EndsLine (Ok forged) old new = new ≡ old
EndsLine (Err stop) old new = TookOrRose old.written new.written (vault_last_line stop) old.faults new.faults old.shortages new.shortages

-- a restore came to this end, printed its last line, and has this status
pub record IsRestore (f : KeyedFn) (left : Option (List (List ℕ))) (old new : RestoreSight) (sink' : SinkShows) (status : ℕ) : Type 0 where
  pub end : Result Bool VaultStop
  pub between : RestoreSight
  pub sink : SinkShows
  pub runs : RestoresScript f left old between end
  pub link : new.link ≡ between.link
  pub printed : sink.written ≡ between.written
  pub line : EndsLine end sink sink'
  pub status_is : status ≡ restore_status end

-- the counts of faults of source, link and sink: a device's count rose if the status names it. The sink's may also rise in the last line
pub record TellsRestore (source source' link link' sink sink' status : ℕ) : Type 0 where
  pub source_failed : status ≡ 3 → Rose source source'
  pub source_steady : status ≢ 3 → source' ≡ source
  pub link_failed : status ≡ 5 → Rose link link'
  pub link_steady : status ≢ 5 → link' ≡ link
  pub sink_failed : status ≡ 4 → Rose sink sink'
  pub sink_steady : status ≤ 1 → sink' ≡ sink

-- a restore is through; or a device failed, or it is out of memory
abbrev pub IsFairStatus : ℕ → Type 0
IsFairStatus status = (status ≡ 0) ⊎ ((status ≡ 3) ⊎ ((status ≡ 4) ⊎ ((status ≡ 5) ⊎ (status ≡ 7))))

-- over a link that tells its server: if the script has this key alone, and commands under it left the vault so, the texts that are there come back
pub record BringsBack (written written' : Option (List ℕ)) (cs : List VaultCommand) (status : ℕ) : Type 0 where
  pub fair : IsFairStatus status
  pub texts : status ≡ 0 → written' ≡ append_known written (text_of_lines (all_lines (shelf_of empty_shelf cs)))
