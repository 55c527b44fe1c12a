-- When a run stops for a text whose tag is wrong.
use Rattle.std.specs.Prelude.{◌≡◌, ℕ, Bool, List, Option, Result, Ok, Err, unwrap_or}
use Rattle.keyed_fn.specs.KeyedFn.{KeyedFn}
use Rattle.keyed_fn.specs.VaultFormulas.{VaultSecrets, vault_secrets}
use Rattle.sse_outside.specs.Kept.{Kept}
use Rattle.vault_link.specs.ReplySizes.{IsVaultReply}
use Rattle.vault_server.specs.VaultFrames.{BodyReply}
use Rattle.vault_shelf.specs.Shelves.{Shelf, VaultCommand, Put, Drop, Get, empty_shelf, shelf_of}
use Rattle.vault_shelf.specs.VaultTexts.{Forged, fetched_text}
use Rattle.vault_script.specs.declared.vault_stop.VaultStop.{VaultStop}
use Rattle.doc_vault.specs.Beginnings.{AtBeginning, InLines, StopsAt}
use Rattle.doc_vault.specs.CommandRuns.{Cut, StopsCommand, StopsExchange, Unanswered, Unfit, Unkept, Unprepared, Unread, Unsent}
use Rattle.doc_vault.specs.LineRuns.{InCommand, StopsTurn, Unprinted}
use Rattle.doc_vault.specs.ScriptRuns as lines
use Rattle.doc_vault.specs.ScriptRuns.{AtBadLine, AtCommand, InLine, StopsAfter, StopsLine}
use Rattle.doc_vault.specs.Scripts.{AtKeyLine, AtStart, RunsScript, StopsScript, UnderKey}
use Rattle.doc_vault.specs.Sights.{LinkSight, Sight}
use Rattle.doc_vault.specs.VaultRuns.{commands_in}

module _ (f : KeyedFn) (keys : VaultSecrets) (s : Shelf) where
  -- the reply to a get is a text, and its tag isn't that of the put, the identifier and the encrypted text received
  abbrev pub HasWrongTag : VaultCommand → (reply : List ℕ) → Type 0
  HasWrongTag (Put id body) reply = ⊥
  HasWrongTag (Drop id) reply = ⊥
  HasWrongTag (Get id) reply = (tag : List ℕ) × (sealed : List ℕ) × IsVaultReply (BodyReply tag sealed) reply × (fetched_text f keys (unwrap_or (s.there id) 0) id tag sealed ≡ Forged)

  -- of a run that stops: the last reply it received, which it had memory to read, is such
  abbrev pub ForgedExchange : (c : VaultCommand) {old new : LinkSight} {stop : VaultStop} → StopsExchange f keys s c old new stop → Type 0
  ForgedExchange c (Unsent why same) = ⊥
  ForgedExchange c (Unanswered why passed) = ⊥
  ForgedExchange c (Unread reply why passed) = ⊥
  ForgedExchange c (Unfit reply passed grammar comes) = HasWrongTag c reply

  abbrev pub ForgedCommand : (c : VaultCommand) {old new : LinkSight} {kept kept' : Kept} {stop : VaultStop} → StopsCommand f keys s c old new kept kept' stop → Type 0
  ForgedCommand c (Unprepared why same kept) = ⊥
  ForgedCommand c (Unkept why same) = ⊥
  ForgedCommand c (Cut exchange kept) = ForgedExchange c exchange

  abbrev pub ForgedTurn : (c : VaultCommand) {line : List ℕ} {old new : Sight} {stop : VaultStop} → StopsTurn f keys s c line old new stop → Type 0
  ForgedTurn c (InCommand accepted frame command unprinted) = ForgedCommand c command
  ForgedTurn c (Unprinted turn is taken passed kept printing) = ⊥

  abbrev pub ForgedLine : {number : ℕ} {line : List ℕ} {old new : Sight} {stop : VaultStop} → StopsLine f keys s number line old new stop → Type 0
  ForgedLine (AtBadLine why bad same) = ⊥
  ForgedLine (AtCommand c said turn) = ForgedTurn c turn

  abbrev pub ForgedAfter : {number : ℕ} {left : Option (List (List ℕ))} {old new : Sight} {stop : VaultStop} → StopsAfter f keys s number left old new stop → Type 0
  ForgedAfter (InLine line left' takes stops) = ForgedLine stops
  ForgedAfter (lines.Unread why unread is same) = ⊥

-- the same of a run under a key, and of one over a whole script

abbrev pub ForgedAt : (f : KeyedFn) (key : List ℕ) {number : ℕ} {left : Option (List (List ℕ))} {old new : Sight} {stop : VaultStop} → StopsAt f key number left old new stop → Type 0
ForgedAt f key (AtBeginning why unprinted) = ⊥
ForgedAt f key (InLines run) = ForgedAfter f (vault_secrets f key) (shelf_of empty_shelf (commands_in run.lines.run.turns)) run.lines.stops

abbrev pub ForgedScript : (f : KeyedFn) {left : Option (List (List ℕ))} {old new : Sight} {stop : VaultStop} → StopsScript f left old new stop → Type 0
ForgedScript f (AtStart why same) = ⊥
ForgedScript f (AtKeyLine why is misses same) = ⊥
ForgedScript f (UnderKey key number left_over finds stops) = ForgedAt f key stops.at

abbrev pub IsForgedRun : (f : KeyedFn) (left : Option (List (List ℕ))) (old new : Sight) (ended : Result Bool VaultStop) → RunsScript f left old new ended → Type 0
IsForgedRun f left old new (Ok refused) runs = ⊥
IsForgedRun f left old new (Err stop) runs = ForgedScript f runs
