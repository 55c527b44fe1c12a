-- The observable parts of a loopback to a vault, and the effect of a frame on them.
use Rattle.std.specs.Prelude.{◌≡◌, ◌⊎◌, ℕ, List, [], ◌∷◌, ◌++◌, Option, Some, length, max, refl}
use Rattle.std.specs.Coded.{Coded, code_by, coded×, coded_list, coded_option, coded_ℕ}
use Rattle.sse_journal.specs.JournalView.{broken_by}
use Rattle.sse_outside.specs.Causes.{Rose}
use Rattle.sse_outside.specs.declared.device_fault.DeviceFault.TheVariants.{Failed}
use Rattle.vault_server.specs.VaultAnswers.{vault_answered}
use Rattle.vault_server.specs.VaultFrames.{StoreFault, vault_reply_bytes}
use Rattle.vault_server.specs.VaultRecords.{CanTake}
use Rattle.vault_server.specs.VaultServerView.{VaultServerView, IsWithin, vault_server_code}
use Rattle.vault_server.specs.VaultState.{VaultState, state_code}
use Rattle.vault_link.specs.Exchanges.{Exchange, exchanges_code}
use Rattle.vault_link.specs.Served.{VaultRemote, IsAnswered, AreServed, body_of}

pub record LoopbackState : Type 0 where
  pub exchanges : List Exchange
  -- what the vault held before the first of them
  pub began : VaultState
  pub server : VaultServerView
  -- the bytes of the server's file, if its disk tells them, and the disk's count of faults
  pub file : Option (List ℕ)
  pub disk_faults : ℕ
  -- the link's own count
  pub faults : ℕ

-- a server that was handed in with its file, and no exchange
abbrev pub loopback_on : VaultServerView → Option (List ℕ) → (disk_faults : ℕ) → LoopbackState
loopback_on server file disk_faults = record { exchanges = []; began = server.state; server = server; file = file; disk_faults = disk_faults; faults = 0 }

-- the server at the other end
abbrev pub remote_of : LoopbackState → VaultRemote
remote_of l = record { state = l.server.state; file = l.file }

-- the server had a frame and made this reply. A frame that it doesn't take as an update leaves its file. It reports a fault of its disk only
-- if the disk's count of faults rose, or its journal was broken by such a fault before
pub record Replies (frame reply : List ℕ) (before after : VaultServerView) (file file' : Option (List ℕ)) (disk_faults disk_faults' : ℕ) : Type 0 where
  pub answered : IsAnswered before.state frame reply after.state
  pub untouched : (CanTake before.state (body_of frame) → ⊥) → file' ≡ file
  pub within : IsWithin after.journal file'
  pub store_fault : reply ≡ vault_reply_bytes StoreFault → Rose disk_faults disk_faults' ⊎ (broken_by before.journal ≡ Some Failed)

-- the same of a loopback: the frame and this reply are its last exchange
pub record HasReplied (frame reply : List ℕ) (old new : LoopbackState) : Type 0 where
  pub exchanges : new.exchanges ≡ old.exchanges ++ record { frame = frame; reply = Some reply } ∷ []
  pub replies : Replies frame reply old.server new.server old.file new.file old.disk_faults new.disk_faults
  pub began : new.began ≡ old.began

-- what a loopback keeps: its server's journal is within the disk's file, and all exchanges were honest
pub record IsHonest (exchanges : List Exchange) (began : VaultState) (server : VaultServerView) (file : Option (List ℕ)) : Type 0 where
  pub within : IsWithin server.journal file
  pub served : AreServed began exchanges server.state

-- how many bytes the reply to a frame with this body may have: those of the vault's step, or those of a reply without fields
abbrev pub reply_room : VaultState → (body : List ℕ) → ℕ
reply_room s body = max 5 (length (vault_reply_bytes (vault_answered s body).1))

-- the code by which a proof tells these values apart

abbrev Counted : Type 0
Counted = Option (List ℕ) × (ℕ × ℕ)

abbrev pub loopback_code : Coded LoopbackState
loopback_code =
    code_by (List Exchange × (VaultState × (VaultServerView × Counted))) (coded× exchanges_code (coded× state_code (coded× vault_server_code (coded× (coded_option (coded_list coded_ℕ)) (coded× coded_ℕ coded_ℕ))))) (λ l. (l.exchanges, (l.began, (l.server, (l.file, (l.disk_faults, l.faults)))))) (λ p. record { exchanges = p.0; began = p.1.0; server = p.1.1.0; file = p.1.1.1.0; disk_faults = p.1.1.1.1.0; faults = p.1.1.1.1.1 }) (λ _. refl)
