-- The frame of an update that is sent again, and its acknowledgement.
use Rattle.std.specs.Prelude.{◌≡◌, ◌≢◌, ◌⊎◌, ℕ, List, [], ◌∷◌, Option, None, Some, Result, Ok, Err}
use Rattle.vault_link.specs.Exchanges.{Exchange}
use Rattle.vault_link.specs.ReplySizes.{IsVaultReply}
use Rattle.vault_server.specs.VaultFrames.{VaultReplyText, Took}
use Rattle.vault_script.specs.declared.vault_stop.VaultStop.{VaultStop}
use Rattle.doc_vault.specs.Outcomes.{IsRead, link_stop, memory_stop, unexpected}
use Rattle.doc_vault.specs.Sights.{HasPassed, LinkSight}

-- the frame, with this reply or with none
abbrev pub sending : List ℕ → Option (List ℕ) → Exchange
sending frame reply = record { frame = frame; reply = reply }

module _ (frame : List ℕ) (n : ℕ) where
  -- the reply acknowledges update n
  pub record IsAcknowledged (old new : LinkSight) : Type 0 where
    pub reply : List ℕ
    pub passed : HasPassed (sending frame (Some reply) ∷ []) old new
    pub own : IsVaultReply (Took n) reply

  -- or the run stops: nothing passed; the frame had no reply; or the reply is another
  pub data StopsSending (old new : LinkSight) (stop : VaultStop) : Type 0 where
    NotSent : (stop ≡ link_stop) ⊎ (stop ≡ memory_stop) → new ≡ old → StopsSending old new stop
    NotReplied : stop ≡ link_stop → HasPassed (sending frame None ∷ []) old new → StopsSending old new stop
    NotOwn : (reply : List ℕ) → HasPassed (sending frame (Some reply) ∷ []) old new → (read : Option VaultReplyText) → IsRead reply read → read ≢ Some (Took n) → stop ≡ unexpected reply read → StopsSending old new stop

  -- one of the two
  abbrev pub Acknowledges : {T : Type 0} → (old new : LinkSight) → Result T VaultStop → Type 0
  Acknowledges old new (Ok done) = IsAcknowledged old new
  Acknowledges old new (Err stop) = StopsSending old new stop
