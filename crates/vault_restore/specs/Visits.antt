-- The slots that a restore fetches, one after another, and how it stops at one.
use Rattle.std.specs.Prelude.{◌≡◌, ◌⊎◌, ℕ, ◌+◌, List, [], ◌∷◌, Option, None, Some, Result, Ok, Err}
use Rattle.std.specs.List.{flat_map}
use Rattle.std.specs.Io.KnownBytes.{append_known}
use Rattle.keyed_fn.specs.KeyedFn.{KeyedFn}
use Rattle.keyed_fn.specs.VaultFormulas.{VaultSecrets, vault_slot}
use Rattle.script_run_texts.specs.Stops.{stop_of_sink}
use Rattle.sse_outside.specs.Fronts.{TookFront}
use Rattle.sse_outside.specs.declared.device_fault.DeviceFault.{DeviceFault}
use Rattle.vault_server.specs.VaultFrames.{FetchFrame, InVault, vault_bytes}
use Rattle.vault_link.specs.Exchanges.{Exchange}
use Rattle.vault_script.specs.declared.vault_stop.VaultStop.{VaultStop}
use Rattle.vault_script.specs.declared.vault_stop.VaultStop.TheVariants as stops
use Rattle.doc_vault.specs.Outcomes.{link_stop, memory_stop, own_memory_stop}
use Rattle.doc_vault.specs.Sights.{HasPassed, LinkSight}
use Rattle.vault_restore.specs.RestoredLines.{RestoredLine, lines_of_slot, text_of_lines}
use Rattle.vault_restore.specs.Slots.{Holds, SlotComesTo, StopsAtReply, line_of, slot_outcome}
use Rattle.vault_restore.specs.declared.slot.Slot.{Slot}

-- what is seen of a restore from outside: its link, and the bytes that were printed, if the sink tells them
pub record RestoreSight : Type 0 where
  pub link : LinkSight
  pub written : Option (List ℕ)

-- a slot that was fetched: the reply, and the line of it
pub record Visit : Type 0 where
  pub reply : List ℕ
  pub line : Option RestoredLine

-- the lines of all slots, in order
abbrev pub lines_in : List Visit → List RestoredLine
lines_in visits = flat_map (λ visit. lines_of_slot visit.line) visits

-- a strict prefix of a line was printed, and the restore stops for the sink
pub record StopsInLine (line : Option RestoredLine) (old new : Option (List ℕ)) (stop : VaultStop) : Type 0 where
  pub fault : DeviceFault
  pub stop_is : stop ≡ stops.Run (stop_of_sink fault)
  pub front : TookFront old new (text_of_lines (lines_of_slot line))

-- a slot's line was printed whole, if it has one; or the restore stops in it
abbrev pub PrintsSlot : {T : Type 0} → Option RestoredLine → (old new : Option (List ℕ)) → Result T VaultStop → Type 0
PrintsSlot line old new (Ok done) = new ≡ append_known old (text_of_lines (lines_of_slot line))
PrintsSlot line old new (Err stop) = StopsInLine line old new stop

module _ (f : KeyedFn) (keys : VaultSecrets) where
  -- the fetch of slot v, with this reply or with none
  abbrev pub fetch_of : ℕ → Option (List ℕ) → Exchange
  fetch_of v reply = record { frame = vault_bytes (FetchFrame (vault_slot f keys.slots v)); reply = reply }

  -- the fetches of slot v and those after it, with their replies
  abbrev pub fetches : ℕ → List Visit → List Exchange
  fetches v [] = []
  fetches v (visit ∷ visits) = fetch_of v (Some visit.reply) ∷ fetches (v + 1) visits

  -- slot v was fetched; its reply comes to its line
  pub record IsVisited (v : ℕ) (visit : Visit) : Type 0 where
    pub grammar : InVault (FetchFrame (vault_slot f keys.slots v))
    pub comes : SlotComesTo (slot_outcome f keys v) visit.reply (Holds visit.line)

  -- slot v and those after it
  abbrev pub AreVisited : (v : ℕ) → List Visit → Type 0
  AreVisited v [] = Unit {0}
  AreVisited v (visit ∷ visits) = IsVisited v visit × AreVisited (v + 1) visits

  -- slots from the first on were fetched, and their lines printed
  pub record HasVisited (visits : List Visit) (old new : RestoreSight) : Type 0 where
    pub are : AreVisited 0 visits
    pub passed : HasPassed (fetches 0 visits) old.link new.link
    pub printed : new.written ≡ append_known old.written (text_of_lines (lines_in visits))

  -- one slot was fetched, and its line printed
  pub record HasVisitedSlot (v : ℕ) (visit : Visit) (old new : RestoreSight) : Type 0 where
    pub is : IsVisited v visit
    pub passed : HasPassed (fetch_of v (Some visit.reply) ∷ []) old.link new.link
    pub printed : new.written ≡ append_known old.written (text_of_lines (lines_of_slot visit.line))

  -- the restore stops at the fetch of slot v: nothing is sent, since there is no memory for the frame, or the link is cut or out of
  -- memory; the fetch has no reply; or its reply stops it
  pub data StopsFetch (v : ℕ) (old new : LinkSight) (stop : VaultStop) : Type 0 where
    Unsent : (stop ≡ own_memory_stop) ⊎ ((stop ≡ link_stop) ⊎ (stop ≡ memory_stop)) → new ≡ old → StopsFetch v old new stop
    Unanswered : stop ≡ link_stop → HasPassed (fetch_of v None ∷ []) old new → StopsFetch v old new stop
    Unjudged : (reply : List ℕ) → InVault (FetchFrame (vault_slot f keys.slots v)) → HasPassed (fetch_of v (Some reply) ∷ []) old new → StopsAtReply (slot_outcome f keys v) reply stop
        → StopsFetch v old new stop

  -- slot v was fetched, as the code has it, with this text in the buffer
  pub record HasFetched (v : ℕ) (line : Option RestoredLine) (old new : LinkSight) : Type 0 where
    pub reply : List ℕ
    pub grammar : InVault (FetchFrame (vault_slot f keys.slots v))
    pub passed : HasPassed (fetch_of v (Some reply) ∷ []) old new
    pub comes : SlotComesTo (slot_outcome f keys v) reply (Holds line)

  -- one of the two
  abbrev pub FetchesOrStops : (v : ℕ) (text : List ℕ) (old new : LinkSight) → Result Slot VaultStop → Type 0
  FetchesOrStops v text old new (Ok slot) = HasFetched v (line_of slot (v + 1) text) old new
  FetchesOrStops v text old new (Err stop) = StopsFetch v old new stop

  -- the restore stops at slot v, at its fetch or since its line isn't printed whole
  pub data StopsAtSlot (v : ℕ) (old new : RestoreSight) (stop : VaultStop) : Type 0 where
    Unfetched : StopsFetch v old.link new.link stop → new.written ≡ old.written → StopsAtSlot v old new stop
    Unprinted : (visit : Visit) → IsVisited v visit → HasPassed (fetch_of v (Some visit.reply) ∷ []) old.link new.link → StopsInLine visit.line old.written new.written stop
        → StopsAtSlot v old new stop

  -- the visit of slot v
  abbrev pub VisitsOrStops : (v : ℕ) (text : List ℕ) (old new : RestoreSight) → Result Slot VaultStop → Type 0
  VisitsOrStops v text old new (Ok slot) = (reply : List ℕ) × HasVisitedSlot v (record { reply = reply; line = line_of slot (v + 1) text }) old new
  VisitsOrStops v text old new (Err stop) = StopsAtSlot v old new stop
