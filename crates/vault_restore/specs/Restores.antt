-- A restore under a key: the question for the number of the next update, and then the slots.
use Rattle.std.specs.Prelude.{◌≡◌, ◌⊎◌, ℕ, ◌+◌, ◌*◌, ◌<◌, Bool, false, ◌||◌, List, [], ◌∷◌, length, drop, Option, None, Some, IfSome, Result, Ok, Err}
use Rattle.keyed_fn.specs.KeyedFn.{KeyedFn}
use Rattle.keyed_fn.specs.VaultFormulas.{VaultSecrets}
use Rattle.vault_server.specs.VaultFrames.{AskFrame, VaultReplyText, Next, vault_bytes, vault_reply_bytes}
use Rattle.vault_link.specs.Exchanges.{Exchange}
use Rattle.vault_link.specs.ReplySizes.{IsVaultReply}
use Rattle.vault_shelf.specs.Shelves.{VaultCommand, empty_shelf, shelf_of}
use Rattle.vault_script.specs.declared.vault_stop.VaultStop.{VaultStop}
use Rattle.doc_vault.specs.FairStops.{StopsFairly}
use Rattle.doc_vault.specs.Outcomes.{IsRead, bad_reply, link_stop, memory_stop, own_memory_stop}
use Rattle.doc_vault.specs.Sights.{HasPassed, LinkSight}
use Rattle.vault_restore.specs.LeftInOrder.{IsLeftInOrder, all_lines, lines_from}
use Rattle.vault_restore.specs.RestoredLines.{is_forged_line}
use Rattle.vault_restore.specs.Slots.{unfit}
use Rattle.vault_restore.specs.Visits.{HasVisited, RestoreSight, StopsAtSlot, Visit, lines_in}

-- The question for the number of the next update.

-- with this reply, or with none
abbrev pub question : Option (List ℕ) → Exchange
question reply = record { frame = vault_bytes AskFrame; reply = reply }

-- a reply that has no number of an update in it
abbrev pub HasNoNumber : Option VaultReplyText → Type 0
HasNoNumber (Some (Next n)) = ⊥
HasNoNumber _ = Unit {0}

-- such a reply, and the stop for it
pub record IsNoNumber (reply : List ℕ) (stop : VaultStop) : Type 0 where
  pub read : Option VaultReplyText
  pub is_read : IsRead reply read
  pub other : HasNoNumber read
  pub stop_is : stop ≡ unfit reply read

-- what a call answered that judged the reply
abbrev pub JudgesNumber : List ℕ → Result ℕ VaultStop → Type 0
JudgesNumber reply (Ok n) = IsVaultReply (Next n) reply
JudgesNumber reply (Err stop) = IsNoNumber reply stop

-- the same of a reply that was read
abbrev pub TakesNumber : VaultReplyText → List ℕ → Result ℕ VaultStop → Type 0
TakesNumber reply bytes (Ok n) = reply ≡ Next n
TakesNumber reply bytes (Err stop) = HasNoNumber (Some reply) × (stop ≡ unfit bytes (Some reply))

-- the server said that its next update is number n
pub record IsTold (n : ℕ) (old new : LinkSight) : Type 0 where
  pub reply : List ℕ
  pub passed : HasPassed (question (Some reply) ∷ []) old new
  pub said : IsVaultReply (Next n) reply

-- or the restore stops: nothing passed; the question had no reply; or the reply is another
pub data StopsAsking (old new : LinkSight) (stop : VaultStop) : Type 0 where
  NotAsked : (stop ≡ link_stop) ⊎ (stop ≡ memory_stop) → new ≡ old → StopsAsking old new stop
  NotAnswered : stop ≡ link_stop → HasPassed (question None ∷ []) old new → StopsAsking old new stop
  NotNumbered : (reply : List ℕ) → HasPassed (question (Some reply) ∷ []) old new → IsNoNumber reply stop → StopsAsking old new stop

-- one of the two
abbrev pub AsksNext : (old new : LinkSight) → Result ℕ VaultStop → Type 0
AsksNext old new (Ok n) = IsTold n old new
AsksNext old new (Err stop) = StopsAsking old new stop

-- The slots.

-- whether the tag of one of them is wrong
abbrev pub any_forged : List Visit → Bool
any_forged [] = false
any_forged (visit ∷ visits) = is_forged_line visit.line || any_forged visits

-- the number n of the next update fits what the slots hold: there were so many puts, each of which is one update if its slot holds a
-- text, and two if it doesn't (a put and a drop), and no slot beyond them holds a text
pub record AddsUp (n : ℕ) (visits : List Visit) : Type 0 where
  pub puts : ℕ
  pub count : n + length (lines_in visits) ≡ 2 * puts
  pub beyond : lines_in (drop puts visits) ≡ []

-- the stop of a number that doesn't fit: it tells the reply that said it
abbrev pub number_stop : (n : ℕ) → VaultStop
number_stop n = bad_reply (vault_reply_bytes (Next n))

module _ (f : KeyedFn) (keys : VaultSecrets) where
  -- the slots 0 to n - 1 were fetched, and n fits what they hold
  pub record FinishesScan (n : ℕ) (old new : RestoreSight) (forged : Bool) : Type 0 where
    pub visits : List Visit
    pub visited : HasVisited f keys visits old new
    pub all : length visits ≡ n
    pub adds_up : AddsUp n visits
    pub forged_is : forged ≡ any_forged visits

  -- after these slots the restore stops at the next; or they are all, and n doesn't fit
  pub data StopsAfter (n : ℕ) (visits : List Visit) (between new : RestoreSight) (stop : VaultStop) : Type 0 where
    AtNext : length visits < n → StopsAtSlot f keys (length visits) between new stop → StopsAfter n visits between new stop
    AtEnd : length visits ≡ n → (AddsUp n visits → ⊥) → stop ≡ number_stop n → new ≡ between → StopsAfter n visits between new stop

  pub record StopsScan (n : ℕ) (old new : RestoreSight) (stop : VaultStop) : Type 0 where
    pub visits : List Visit
    pub between : RestoreSight
    pub visited : HasVisited f keys visits old between
    pub stops : StopsAfter n visits between new stop

  -- one of the two
  abbrev pub ScansOrStops : (n : ℕ) (old new : RestoreSight) → Result Bool VaultStop → Type 0
  ScansOrStops n old new (Ok forged) = FinishesScan n old new forged
  ScansOrStops n old new (Err stop) = StopsScan n old new stop

  -- All of it.

  -- the restore is through: the server said its number, and it fits what the slots hold
  pub record FinishesRestore (old new : RestoreSight) (forged : Bool) : Type 0 where
    pub next : ℕ
    pub asked : LinkSight
    pub told : IsTold next old.link asked
    pub scan : FinishesScan next (record { link = asked; written = old.written }) new forged
    -- if the link tells its server, and the vault stands so: the lines are the texts that are there, in the order of their puts
    pub texts : IfSome old.link.remote (λ before. (cs : List VaultCommand) → IsLeftInOrder f keys before.state cs → lines_in scan.visits ≡ all_lines (shelf_of empty_shelf cs))

  -- it stops after some slots, or after all of them
  pub record StopsInScan (old new : RestoreSight) (stop : VaultStop) : Type 0 where
    pub next : ℕ
    pub asked : LinkSight
    pub told : IsTold next old.link asked
    pub scan : StopsScan next (record { link = asked; written = old.written }) new stop
    -- in the same case: the lines are the texts that are there of the puts of these slots
    pub texts : IfSome old.link.remote (λ before. (cs : List VaultCommand) → IsLeftInOrder f keys before.state cs → lines_in scan.visits ≡ lines_from (shelf_of empty_shelf cs) 0 (length scan.visits))

  -- out of memory with nothing done, at the question, or at the slots
  pub data StopsSomewhere (old new : RestoreSight) (stop : VaultStop) : Type 0 where
    AtStart : stop ≡ own_memory_stop → new ≡ old → StopsSomewhere old new stop
    AtQuestion : StopsAsking old.link new.link stop → new.written ≡ old.written → StopsSomewhere old new stop
    AtSlot : StopsInScan old new stop → StopsSomewhere old new stop

  pub record StopsRestore (old new : RestoreSight) (stop : VaultStop) : Type 0 where
    pub stops : StopsSomewhere old new stop
    -- in the same case: no reply stops it
    pub fair : IfSome old.link.remote (λ before. (cs : List VaultCommand) → IsLeftInOrder f keys before.state cs → StopsFairly stop)

  -- one of the two
  abbrev pub RestoresOrStops : (old new : RestoreSight) → Result Bool VaultStop → Type 0
  RestoresOrStops old new (Ok forged) = FinishesRestore old new forged
  RestoresOrStops old new (Err stop) = StopsRestore old new stop
