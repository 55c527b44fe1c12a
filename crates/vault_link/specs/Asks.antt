-- What a link promises of a frame that is asked: by the reply, if it is cut, and if its own record is out of memory.
use Rattle.std.specs.Prelude.{◌≡◌, ◌≢◌, ◌⊎◌, ℕ, List, [], ◌∷◌, ◌++◌, Option, None}
use Rattle.std.specs.Option.{option_map}
use Rattle.sse_outside.specs.Causes.{Rose}
use Rattle.vault_server.specs.VaultFrames.{StoreFault, vault_reply_bytes}
use Rattle.vault_link.specs.Exchanges.{Exchange}
use Rattle.vault_link.specs.Served.{VaultRemote, Serves}

-- the frame was sent: with this reply, or none, it is the last exchange, and the server at the other end had it
pub record HasAsked (frame : List ℕ) (reply : Option (List ℕ)) (old new : Option (List Exchange)) (remote remote' : Option VaultRemote) : Type 0 where
  pub told : new ≡ option_map (λ exchanges. exchanges ++ record { frame = frame; reply = reply } ∷ []) old
  pub served : Serves frame reply remote remote'

-- nothing passed, and the server at the other end is as before
pub record HasKept (old new : Option (List Exchange)) (remote remote' : Option VaultRemote) : Type 0 where
  pub told : new ≡ old
  pub remote_kept : remote' ≡ remote

-- the count of faults rises when a fault of the server's disk is handed over, and at no other reply
pub record CountsReply (reply : List ℕ) (faults faults' : ℕ) : Type 0 where
  pub store_fault : reply ≡ vault_reply_bytes StoreFault → Rose faults faults'
  pub steady : reply ≢ vault_reply_bytes StoreFault → faults' ≡ faults

-- the link is cut: its count rose; the frame was sent and has no reply, or nothing passed
pub record IsCut (frame : List ℕ) (old new : Option (List Exchange)) (remote remote' : Option VaultRemote) (faults faults' : ℕ) : Type 0 where
  pub rose : Rose faults faults'
  pub told : HasAsked frame None old new remote remote' ⊎ HasKept old new remote remote'

-- all that the link tells is unchanged
pub record IsSame (old new : Option (List Exchange)) (remote remote' : Option VaultRemote) (faults faults' : ℕ) : Type 0 where
  pub kept : HasKept old new remote remote'
  pub steady : faults' ≡ faults
