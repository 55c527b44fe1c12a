-- What the reply to the fetch of a slot comes to. Slot v, from 0, is that of put v, whose identifier is v + 1.
use Rattle.std.specs.Prelude.{◌≡◌, ◌⊎◌, ℕ, ◌+◌, List, Option, None, Some, Result, Ok, Err}
use Rattle.keyed_fn.specs.KeyedFn.{KeyedFn}
use Rattle.keyed_fn.specs.VaultFormulas.{VaultSecrets}
use Rattle.vault_server.specs.VaultFrames.{VaultReplyText, BodyReply, Absent, NoMemory, StoreFault}
use Rattle.vault_link.specs.ReplySizes.{IsVaultReply}
use Rattle.vault_shelf.specs.VaultTexts.{Fetched, Opened, Oversized, Forged, fetched_text}
use Rattle.vault_script.specs.declared.vault_stop.VaultStop.{VaultStop}
use Rattle.doc_vault.specs.Outcomes.{IsRead, bad_reply, link_stop, memory_stop, own_memory_stop}
use Rattle.vault_restore.specs.RestoredLines.{RestoredLine, TextLine, ForgedLine}
use Rattle.vault_restore.specs.declared.slot.Slot.{Slot}
use Rattle.vault_restore.specs.declared.slot.Slot.TheVariants as slots

-- the slot holds what this line says, or is empty; or the restore stops
pub data SlotOutcome : Type 0 where
  Holds : (line : Option RestoredLine) → SlotOutcome
  Stops : VaultStop → SlotOutcome

-- the stop of a reply that isn't an answer to a question
abbrev pub unfit : List ℕ → Option VaultReplyText → VaultStop
unfit bytes (Some NoMemory) = memory_stop
unfit bytes (Some StoreFault) = link_stop
unfit bytes _ = bad_reply bytes

-- a text that was received under this identifier. One whose tag is right and that is longer than a vault's text isn't possible
abbrev pub held_outcome : (id : ℕ) → List ℕ → Fetched → SlotOutcome
held_outcome id bytes (Opened text) = Holds (Some (TextLine id text))
held_outcome id bytes Forged = Holds (Some (ForgedLine id))
held_outcome id bytes Oversized = Stops (bad_reply bytes)

module _ (f : KeyedFn) (keys : VaultSecrets) where
  -- the tag of a text is tested with the number of the put and its identifier, before its length
  abbrev pub slot_outcome : (v : ℕ) → List ℕ → Option VaultReplyText → SlotOutcome
  slot_outcome v bytes (Some (BodyReply tag sealed)) = held_outcome (v + 1) bytes (fetched_text f keys v (v + 1) tag sealed)
  slot_outcome v bytes (Some Absent) = Holds None
  slot_outcome v bytes read = Stops (unfit bytes read)

-- the reply of these bytes comes to this
pub record SlotComesTo (outcome : List ℕ → Option VaultReplyText → SlotOutcome) (bytes : List ℕ) (came : SlotOutcome) : Type 0 where
  pub read : Option VaultReplyText
  pub is_read : IsRead bytes read
  pub comes : outcome bytes read ≡ came

-- a reply that hands out a text
abbrev pub HasText : VaultReplyText → Type 0
HasText reply = (tag : List ℕ) × (sealed : List ℕ) × (reply ≡ BodyReply tag sealed)

-- a text was received, and there was no memory to decrypt it
pub record IsUnread (bytes : List ℕ) (stop : VaultStop) : Type 0 where
  pub reply : VaultReplyText
  pub is_read : IsVaultReply reply bytes
  pub text : HasText reply
  pub stop_is : stop ≡ own_memory_stop

-- a reply that stops the restore
pub data StopsAtReply (outcome : List ℕ → Option VaultReplyText → SlotOutcome) (bytes : List ℕ) (stop : VaultStop) : Type 0 where
  Unfit : SlotComesTo outcome bytes (Stops stop) → StopsAtReply outcome bytes stop
  Unread : IsUnread bytes stop → StopsAtReply outcome bytes stop

-- the line of a slot as the code has it, with this text in the buffer
abbrev pub line_of : Slot → (id : ℕ) (text : List ℕ) → Option RestoredLine
line_of slots.Text id text = Some (TextLine id text)
line_of slots.Forged id text = Some (ForgedLine id)
line_of slots.Empty id text = None

-- the number above the last slot with a text, after slot v with this line, if it was this before
abbrev pub last_after : Option RestoredLine → (last v : ℕ) → ℕ
last_after None last v = last
last_after (Some line) last v = v + 1

-- What a call answered that judged a reply.

abbrev pub JudgesSlot : (outcome : List ℕ → Option VaultReplyText → SlotOutcome) (bytes : List ℕ) (id : ℕ) (text : List ℕ) → Result Slot VaultStop → Type 0
JudgesSlot outcome bytes id text (Ok slot) = SlotComesTo outcome bytes (Holds (line_of slot id text))
JudgesSlot outcome bytes id text (Err stop) = StopsAtReply outcome bytes stop

-- the same of one that was read and comes to this; one with a text may also find no memory
abbrev pub JudgesRead : (came : SlotOutcome) (reply : VaultReplyText) (id : ℕ) (text : List ℕ) → Result Slot VaultStop → Type 0
JudgesRead came reply id text (Ok slot) = came ≡ Holds (line_of slot id text)
JudgesRead came reply id text (Err stop) = (came ≡ Stops stop) ⊎ (HasText reply × (stop ≡ own_memory_stop))

-- and of a text
abbrev pub JudgesText : (came : SlotOutcome) (id : ℕ) (text : List ℕ) → Result Slot VaultStop → Type 0
JudgesText came id text (Ok slot) = came ≡ Holds (line_of slot id text)
JudgesText came id text (Err stop) = (came ≡ Stops stop) ⊎ (stop ≡ own_memory_stop)
