-- What the reply to a command's frame comes to: the line that is printed, or why the run stops.
use Rattle.std.specs.Prelude.{◌≡◌, ℕ, ◌==◌, List, take, Option, None, Some, Result, Ok, Err, unwrap_or, if◌then◌else◌}
use Rattle.keyed_fn.specs.KeyedFn.{KeyedFn}
use Rattle.keyed_fn.specs.VaultFormulas.{VaultSecrets}
use Rattle.vault_server.specs.VaultFrames.{VaultReplyText, Took, BodyReply, Clash, NoMemory, StoreFault}
use Rattle.vault_link.specs.ReplySizes.{IsVaultReply}
use Rattle.vault_shelf.specs.Shelves.{Shelf, VaultCommand, Put, Drop, Get}
use Rattle.vault_shelf.specs.VaultTexts.{Fetched, Opened, Oversized, Forged, fetched_text}
use Rattle.script_run_texts.specs.declared.command_stop.CommandStop.TheVariants as commands
use Rattle.script_run_texts.specs.declared.peer_stop.PeerStop.TheVariants as peers
use Rattle.script_run_texts.specs.declared.stop_cause.StopCause.TheVariants as runs
use Rattle.vault_script.specs.VaultShown as says
use Rattle.vault_script.specs.VaultShown.{VaultShownText}
use Rattle.vault_script.specs.declared.vault_stop.VaultStop.{VaultStop}
use Rattle.vault_script.specs.declared.vault_stop.VaultStop.TheVariants as stops

pub data VaultOutcome : Type 0 where
  Shows : VaultShownText → VaultOutcome
  Stops : VaultStop → VaultOutcome

-- The stops in an exchange: the link failed, or the server's disk did; the server or the link is out of memory; and a reply that isn't
-- the one expected, of which the first 16 bytes are printed.

abbrev pub link_stop : VaultStop
link_stop = stops.Run (runs.Command (commands.Exchange peers.Link))

abbrev pub memory_stop : VaultStop
memory_stop = stops.Run (runs.Command (commands.Exchange peers.Memory))

abbrev pub bad_reply : List ℕ → VaultStop
bad_reply bytes = stops.Run (runs.Command (commands.Exchange (peers.BadReply (take 16 bytes))))

-- the stop of a client that is out of memory itself
abbrev pub own_memory_stop : VaultStop
own_memory_stop = stops.Run runs.Memory

-- these bytes are this reply; or they are none of the grammar
abbrev pub IsRead : List ℕ → Option VaultReplyText → Type 0
IsRead bytes (Some reply) = IsVaultReply reply bytes
IsRead bytes None = (reply : VaultReplyText) → IsVaultReply reply bytes → ⊥

-- a reply that isn't the one expected
abbrev pub unexpected : List ℕ → Option VaultReplyText → VaultStop
unexpected bytes (Some Clash) = stops.Clash
unexpected bytes (Some NoMemory) = memory_stop
unexpected bytes (Some StoreFault) = link_stop
unexpected bytes _ = bad_reply bytes

-- of update n: only its own acknowledgement shows the line
abbrev pub update_outcome : ℕ → VaultShownText → List ℕ → Option VaultReplyText → VaultOutcome
update_outcome n shown bytes (Some (Took m)) = if m == n then Shows shown else Stops (bad_reply bytes)
update_outcome n shown bytes read = Stops (unexpected bytes read)

-- of a text that was received: only one whose tag is right is shown
abbrev pub fetched_outcome : ℕ → List ℕ → Fetched → VaultOutcome
fetched_outcome id bytes (Opened text) = Shows (says.Fetched id text)
fetched_outcome id bytes Oversized = Stops (bad_reply bytes)
fetched_outcome id bytes Forged = Stops (stops.Forged id)

module _ (f : KeyedFn) (keys : VaultSecrets) where
  -- of the fetch of put v, which is one of this identifier
  abbrev pub fetch_outcome : (v id : ℕ) → List ℕ → Option VaultReplyText → VaultOutcome
  fetch_outcome v id bytes (Some (BodyReply tag sealed)) = fetched_outcome id bytes (fetched_text f keys v id tag sealed)
  fetch_outcome v id bytes read = Stops (unexpected bytes read)

  -- of the frame of a command
  abbrev pub command_outcome : Shelf → VaultCommand → List ℕ → Option VaultReplyText → VaultOutcome
  command_outcome s (Put id body) bytes read = update_outcome s.sent (says.Stored id) bytes read
  command_outcome s (Drop id) bytes read = update_outcome s.sent (says.Dropped id) bytes read
  command_outcome s (Get id) bytes read = fetch_outcome (unwrap_or (s.there id) 0) id bytes read

-- the reply of these bytes comes to this
pub record ComesTo (outcome : List ℕ → Option VaultReplyText → VaultOutcome) (bytes : List ℕ) (came : VaultOutcome) : Type 0 where
  pub read : Option VaultReplyText
  pub is_read : IsRead bytes read
  pub comes : outcome bytes read ≡ came

-- what a call answered that judges a reply: the line is shown, or the run stops
abbrev pub judged : {T : Type 0} → VaultShownText → Result T VaultStop → VaultOutcome
judged shown (Ok done) = Shows shown
judged shown (Err stop) = Stops stop
