-- How a run begins: it asks for the number of the next update. A first run needs 0.
use Rattle.std.specs.Prelude.{◌≡◌, ◌≢◌, ◌⊎◌, ℕ, List, [], ◌∷◌, Option, None, Some, Result, Ok, Err}
use Rattle.script_run_texts.specs.declared.command_stop.CommandStop.TheVariants as commands
use Rattle.script_run_texts.specs.declared.peer_stop.PeerStop.TheVariants as peers
use Rattle.script_run_texts.specs.declared.stop_cause.StopCause.TheVariants as runs
use Rattle.vault_link.specs.Exchanges.{Exchange}
use Rattle.vault_link.specs.ReplySizes.{IsVaultReply}
use Rattle.vault_server.specs.VaultFrames.{AskFrame, VaultReplyText, Next, vault_bytes}
use Rattle.vault_script.specs.declared.vault_stop.VaultStop.{VaultStop}
use Rattle.vault_script.specs.declared.vault_stop.VaultStop.TheVariants as stops
use Rattle.doc_vault.specs.Outcomes.{IsRead, link_stop, memory_stop, unexpected}
use Rattle.doc_vault.specs.Sights.{HasPassed, LinkSight}

-- the question, with this reply or with none
abbrev pub greeting : Option (List ℕ) → Exchange
greeting reply = record { frame = vault_bytes AskFrame; reply = reply }

-- the reply is no number
abbrev pub IsNoNumber : Option VaultReplyText → Type 0
IsNoNumber (Some (Next n)) = ⊥
IsNoNumber _ = Unit {0}

-- the server said that this is the number of the next update. The question leaves the server as it is
pub record HasSaid (n : ℕ) (old new : LinkSight) : Type 0 where
  pub reply : List ℕ
  pub passed : HasPassed (greeting (Some reply) ∷ []) old new
  pub said : IsVaultReply (Next n) reply
  pub unmoved : new.remote ≡ old.remote

-- or the run stops: nothing passed; the question had no reply; or the reply is no number
pub data StopsAsking (old new : LinkSight) (stop : VaultStop) : Type 0 where
  NotAsked : (stop ≡ link_stop) ⊎ (stop ≡ memory_stop) → new ≡ old → StopsAsking old new stop
  NotAnswered : stop ≡ link_stop → HasPassed (greeting None ∷ []) old new → StopsAsking old new stop
  NotSaid : (reply : List ℕ) → HasPassed (greeting (Some reply) ∷ []) old new → (read : Option VaultReplyText) → IsRead reply read → IsNoNumber read → stop ≡ unexpected reply read → StopsAsking old new stop

-- one of the two
abbrev pub AsksNext : (old new : LinkSight) → Result ℕ VaultStop → Type 0
AsksNext old new (Ok n) = HasSaid n old new
AsksNext old new (Err stop) = StopsAsking old new stop

-- over a link that tells its server, which expects this update: that number, or the link is cut or out of memory
abbrev pub SaysHonestly : (next : ℕ) → Result ℕ VaultStop → Type 0
SaysHonestly next (Ok n) = n ≡ next
SaysHonestly next (Err stop) = (stop ≡ link_stop) ⊎ (stop ≡ memory_stop)

-- the server expects update `got`, and not the first
abbrev pub elsewhere : ℕ → VaultStop
elsewhere got = stops.Run (runs.Command (commands.Exchange (peers.Elsewhere 0 0 got)))

-- the run stops: the server said no number, or not 0
pub data StopsGreeting (old new : LinkSight) (stop : VaultStop) : Type 0 where
  NoNumber : StopsAsking old new stop → StopsGreeting old new stop
  NotFirst : (n : ℕ) → HasSaid n old new → n ≢ 0 → stop ≡ elsewhere n → StopsGreeting old new stop

-- the server said that the next update is the first; or the run stops
abbrev pub Greets : {T : Type 0} → (old new : LinkSight) → Result T VaultStop → Type 0
Greets old new (Ok done) = HasSaid 0 old new
Greets old new (Err stop) = StopsGreeting old new stop

-- over a link that tells its server, which expects this update: it is the first; or the run stops for that number, or the link is cut or out of memory
abbrev pub GreetsHonestly : {T : Type 0} → (next : ℕ) → Result T VaultStop → Type 0
GreetsHonestly next (Ok done) = next ≡ 0
GreetsHonestly next (Err stop) = ((next ≢ 0) × (stop ≡ elsewhere next)) ⊎ ((stop ≡ link_stop) ⊎ (stop ≡ memory_stop))

-- a reply that was judged: it has this number, or the run stops for it
abbrev pub JudgesNext : List ℕ → Result ℕ VaultStop → Type 0
JudgesNext bytes (Ok n) = IsVaultReply (Next n) bytes
JudgesNext bytes (Err stop) = (read : Option VaultReplyText) × IsRead bytes read × IsNoNumber read × (stop ≡ unexpected bytes read)

-- the same of a reply that was read
abbrev pub TakesNumber : VaultReplyText → List ℕ → Result ℕ VaultStop → Type 0
TakesNumber read bytes (Ok n) = read ≡ Next n
TakesNumber read bytes (Err stop) = IsNoNumber (Some read) × (stop ≡ unexpected bytes (Some read))
