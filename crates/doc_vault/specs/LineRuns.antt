-- What a line of a run comes to: it is taken, or the run stops in it.
use Rattle.std.specs.Prelude.{◌≡◌, ℕ, Bool, true, false, List, ◌∷◌, Option, None, Result, Ok, Err}
use Rattle.std.specs.Io.KnownBytes.{append_known}
use Rattle.keyed_fn.specs.KeyedFn.{KeyedFn}
use Rattle.keyed_fn.specs.VaultFormulas.{VaultSecrets}
use Rattle.sse_outside.specs.Fronts.{TookFront}
use Rattle.sse_outside.specs.Kept.{with_records}
use Rattle.sse_outside.specs.declared.device_fault.DeviceFault.{DeviceFault}
use Rattle.script_run_texts.specs.Stops.{stop_of_sink}
use Rattle.vault_shelf.specs.ShelfFaults.{shelf_fault}
use Rattle.vault_shelf.specs.Shelves.{Shelf, VaultCommand, shelf_of}
use Rattle.vault_script.specs.VaultShown.{VaultShownText, Refused}
use Rattle.vault_script.specs.declared.vault_stop.VaultStop.{VaultStop}
use Rattle.vault_script.specs.declared.vault_stop.VaultStop.TheVariants as stops
use Rattle.vault_shelf.specs.ShelfView.{Keeps, ShelfView}
use Rattle.doc_vault.specs.CommandRuns.{HasFrame, StopsCommand}
use Rattle.doc_vault.specs.Sights.{HasPassed, Moves, Sight}
use Rattle.doc_vault.specs.VaultRuns.{TakesCommand, Turn, records_of_commands, text_of_shown}

-- whether a printed line is a refusal
abbrev pub is_refusal : List VaultShownText → Bool
is_refusal (Refused refusal ∷ shown) = true
is_refusal _ = false

-- these lines were printed
abbrev pub HasPrinted : List VaultShownText → (old new : Option (List ℕ)) → Type 0
HasPrinted shown old new = new ≡ append_known old (text_of_shown shown)

-- a strict prefix of them was printed, and the run stops for the sink
pub record StopsPrinting (shown : List VaultShownText) (old new : Option (List ℕ)) (stop : VaultStop) : Type 0 where
  pub fault : DeviceFault
  pub stop_is : stop ≡ stops.Run (stop_of_sink fault)
  pub front : TookFront old new (text_of_shown shown)

-- one of the two
abbrev pub Prints : {T : Type 0} → List VaultShownText → (old new : Option (List ℕ)) → Result T VaultStop → Type 0
Prints shown old new (Ok done) = HasPrinted shown old new
Prints shown old new (Err stop) = StopsPrinting shown old new stop

module _ (f : KeyedFn) (keys : VaultSecrets) (s : Shelf) (c : VaultCommand) (line : List ℕ) where
  -- the command of a line was taken, by a turn of the run
  pub record HasTaken (old new : Sight) (view : ShelfView) (refused : Bool) : Type 0 where
    pub turn : Turn
    pub line_is : turn.line ≡ line
    pub taken : TakesCommand f keys s c turn
    pub moves : Moves turn.passed (records_of_commands turn.commands) (text_of_shown turn.shown) old new
    pub keeps : Keeps view (shelf_of s turn.commands)
    pub refuses : refused ≡ is_refusal turn.shown

  -- the run stops in it: as it is carried out, or as its turn is printed
  pub data StopsTurn (old new : Sight) (stop : VaultStop) : Type 0 where
    InCommand : shelf_fault s c ≡ None → HasFrame s c → StopsCommand f keys s c old.link new.link old.kept new.kept stop → new.written ≡ old.written → StopsTurn old new stop
    Unprinted : (turn : Turn) → turn.line ≡ line → TakesCommand f keys s c turn → HasPassed turn.passed old.link new.link → new.kept ≡ with_records (records_of_commands turn.commands) old.kept
        → StopsPrinting turn.shown old.written new.written stop → StopsTurn old new stop

  -- one of the two
  abbrev pub TakesOrStops : (old new : Sight) (view : ShelfView) → Result Bool VaultStop → Type 0
  TakesOrStops old new view (Ok refused) = HasTaken old new view refused
  TakesOrStops old new view (Err stop) = StopsTurn old new stop
