-- A run refuses no record, unless its disk failed or memory ran out: so its recorder takes more.
use Rattle.std.proofs.Common.{◌≡◌, ◌≢◌, ℕ, Bool, List, [], Result, Ok, Err, ap, ◌∙◌}
use Rattle.std.specs.Prelude.{Option}
use Rattle.client_journal.specs.Shows as shows
use Rattle.keyed_fn.specs.KeyedFn.{KeyedFn}
use Rattle.keyed_fn.specs.VaultFormulas.{VaultSecrets, vault_secrets}
use Rattle.sse_outside.specs.Kept.{Kept}
use Rattle.sse_outside.specs.declared.device_fault.DeviceFault.TheVariants as devices
use Rattle.vault_shelf.specs.Shelves.{Shelf, VaultCommand, empty_shelf, shelf_of}
use Rattle.vault_script.specs.VaultStops.{vault_status}
use Rattle.vault_script.specs.declared.vault_stop.VaultStop.{VaultStop}
use Rattle.doc_vault.specs.Beginnings as begins
use Rattle.doc_vault.specs.Beginnings.{StopsAt, StopsBeginning}
use Rattle.doc_vault.specs.CommandRuns as does
use Rattle.doc_vault.specs.CommandRuns.{StopsCommand, StopsKeeping}
use Rattle.doc_vault.specs.LineRuns.{InCommand, StopsTurn, Unprinted}
use Rattle.doc_vault.specs.RecordersLeft.{LeavesRecorder}
use Rattle.doc_vault.specs.ScriptRuns.{AtBadLine, AtCommand, InLine, StopsAfter, StopsLine, Unread}
use Rattle.doc_vault.specs.Scripts.{AtKeyLine, AtStart, RunsScript, StopsScript, UnderKey}
use Rattle.doc_vault.specs.Sights.{LinkSight, Sight}
use Rattle.doc_vault.specs.VaultRuns.{commands_in}
use Rattle.vault_client.specs.Endings.{run_status}

-- the same records as before, or with more of them
same_refused : (old new : Kept) → new ≡ old → new.refused ≡ old.refused
same_refused old new same = ap (λ (k : Kept). k.refused) same

-- the same record of all devices
same_sight : (old new : Sight) → new ≡ old → new.kept.refused ≡ old.kept.refused
same_sight old new same = ap (λ (s : Sight). s.kept.refused) same

-- a stop with another status than 6 and 7
module _ (stop : VaultStop) (disk : vault_status stop ≢ 6) (memory : vault_status stop ≢ 7) where
  keeping_refused : (records : List (List ℕ)) (old new : Kept) → StopsKeeping records old new stop → new.refused ≡ old.refused
  keeping_refused records old new (does.NoRoom is same) = same_refused old new same
  keeping_refused records old new (does.NotTaken devices.Failed is now) = absurd (disk (ap vault_status is))
  keeping_refused records old new (does.NotTaken devices.NoMemory is now) = absurd (memory (ap vault_status is))

  module _ (f : KeyedFn) (keys : VaultSecrets) (s : Shelf) where
    command_refused : (c : VaultCommand) (old new : LinkSight) (kept kept' : Kept) → StopsCommand f keys s c old new kept kept' stop → kept'.refused ≡ kept.refused
    command_refused c old new kept kept' (does.Unprepared is same kept_same) = same_refused kept kept' kept_same
    command_refused c old new kept kept' (does.Unkept keeping same) = keeping_refused _ kept kept' keeping
    command_refused c old new kept kept' (does.Cut exchange now) = ap (λ (k : Kept). k.refused) now

    turn_refused : (c : VaultCommand) (line : List ℕ) (old new : Sight) → StopsTurn f keys s c line old new stop → new.kept.refused ≡ old.kept.refused
    turn_refused c line old new (InCommand fine has command same) = command_refused c old.link new.link old.kept new.kept command
    turn_refused c line old new (Unprinted turn is taken passed kept printing) = ap (λ (k : Kept). k.refused) kept

    line_refused : (number : ℕ) (line : List ℕ) (old new : Sight) → StopsLine f keys s number line old new stop → new.kept.refused ≡ old.kept.refused
    line_refused number line old new (AtBadLine is bad same) = same_sight old new same
    line_refused number line old new (AtCommand c said turn) = turn_refused c line old new turn

    pub after_refused : (number : ℕ) (left : Option (List (List ℕ))) (old new : Sight) → StopsAfter f keys s number left old new stop → new.kept.refused ≡ old.kept.refused
    after_refused number left old new (InLine line left' takes stops) = line_refused number line old new stops
    after_refused number left old new (Unread why unread is same) = same_sight old new same

  module _ (f : KeyedFn) where
    beginning_refused : (key : List ℕ) (old new : LinkSight) (kept kept' : Kept) → StopsBeginning f key old new kept kept' stop → kept'.refused ≡ kept.refused
    beginning_refused key old new kept kept' (begins.NotGreeted greeting same) = same_refused kept kept' same
    beginning_refused key old new kept kept' (begins.NotMarked said keeping) = keeping_refused _ kept kept' keeping

    at_refused : (key : List ℕ) (number : ℕ) (left : Option (List (List ℕ))) (old new : Sight) → StopsAt f key number left old new stop → new.kept.refused ≡ old.kept.refused
    at_refused key number left old new (begins.AtBeginning why unprinted) = beginning_refused key old.link new.link old.kept new.kept why
    at_refused key number left old new (begins.InLines run) =
        after_refused f (vault_secrets f key) (shelf_of empty_shelf (commands_in run.lines.run.turns)) _ _ run.lines.between new run.lines.stops
        ∙ ap (λ (k : Kept). k.refused) run.lines.run.moves.kept
        ∙ ap (λ (k : Kept). k.refused) run.begins.marked

    script_refused : (left : Option (List (List ℕ))) (old new : Sight) → StopsScript f left old new stop → new.kept.refused ≡ old.kept.refused
    script_refused left old new (AtStart is same) = same_sight old new same
    script_refused left old new (AtKeyLine why is misses same) = same_sight old new same
    script_refused left old new (UnderKey key number left_over finds stops) = at_refused key number left_over old new stops.at

run_refused : (f : KeyedFn) (left : Option (List (List ℕ))) (old new : Sight) (ended : Result Bool VaultStop) → RunsScript f left old new ended → run_status ended ≢ 6 → run_status ended ≢ 7 → new.kept.refused ≡ old.kept.refused
run_refused f left old new (Ok refused) runs disk memory =
    ap (λ (k : Kept). k.refused) runs.runs.lines.run.moves.kept ∙ ap (λ (k : Kept). k.refused) runs.runs.begins.marked
run_refused f left old new (Err stop) runs disk memory = script_refused stop disk memory f left old new runs

-- what a run of this status leaves of its recorder
pub records-run : (f : KeyedFn) {R : Type 0} (kept : R → Kept) (moment : R → ℕ) (left_since : R → ℕ → List ℕ → Type 0) (whole : R → Type 0) (old new : R) (left : Option (List (List ℕ))) (link link' : LinkSight) (written written' : Option (List ℕ))
    (status : ℕ) (ended : Result Bool VaultStop) → (kept old).refused ≡ [] → RunsScript f left (record { link = link; kept = kept old; written = written }) (record { link = link'; kept = kept new; written = written' }) ended
    → LeavesRecorder kept moment left_since whole old new → status ≡ run_status ended → shows.LeavesRecorder kept moment left_since whole old new status
records-run f kept moment left_since whole old new left link link' written written' status ended none runs leaves is = record {
  kept_on = leaves.kept_on;
  lasts = λ disk memory.
      leaves.lasts
      (run_refused f left (record { link = link; kept = kept old; written = written }) (record { link = link'; kept = kept new; written = written' }) ended runs (λ e. disk (is ∙ e)) (λ e. memory (is ∙ e)) ∙ none);
}
