-- A session of a client with a vault that keeps to its step: what the client sends for its commands under its keys, and each reply.
use Rattle.std.specs.Prelude.{◌≡◌, ℕ, ◌+◌, ◌<◌, List, [], ◌∷◌, ◌++◌, length, None, Some, unwrap_or}
use Rattle.keyed_fn.specs.KeyedFn.{KeyedFn}
use Rattle.keyed_fn.specs.VaultFormulas.{VaultSecrets, vault_slot, vault_pad, vault_tag}
use Rattle.keyed_fn.specs.Xored.{xored}
use Rattle.vault_server.specs.VaultFrames.{VaultFrameText, DropFrame, FetchFrame, AskFrame}
use Rattle.vault_server.specs.VaultLeaks.{VaultDraw, VaultPassed, Sent, Received, put_frame}
use Rattle.vault_server.specs.VaultState.{VaultState, empty_vault, vault_step}
use Rattle.vault_shelf.specs.Shelves.{VaultCommand, Put, Drop, Get, Deposit, Shelf, empty_shelf, shelf_after, shelf_of}

module _ (f : KeyedFn) (keys : VaultSecrets) where
  -- the text of put v, encrypted
  abbrev pub sealed_by : ℕ → List ℕ → List ℕ
  sealed_by v body = xored body (vault_pad f keys.pads v (length body))

  -- what put v draws: its slot, its encrypted text, and its tag
  abbrev pub draw_by : ℕ → Deposit → VaultDraw
  draw_by v put = record {
    slot = vault_slot f keys.slots v;
    tag = vault_tag f keys.tags v put.id (sealed_by v put.body);
    sealed = sealed_by v put.body;
  }

  abbrev pub draws_from : ℕ → List Deposit → List VaultDraw
  draws_from v [] = []
  draws_from v (put ∷ puts) = draw_by v put ∷ draws_from (v + 1) puts

  -- the frame of a command. A put's is sealed and tagged under the number of the put; a get of what isn't there has none
  abbrev pub sent_by : Shelf → VaultCommand → List VaultFrameText
  sent_by s (Put id body) = put_frame s.sent (draw_by (length s.puts) (record { id = id; body = body })) ∷ []
  sent_by s (Drop id) = DropFrame s.sent (vault_slot f keys.slots (unwrap_or (s.there id) 0)) ∷ []
  sent_by s (Get id) = elim (s.there id) [ None ↦ [] | Some put ↦ FetchFrame (vault_slot f keys.slots put) ∷ [] ]

  -- all frames of commands, in order
  abbrev pub frames_of : Shelf → List VaultCommand → List VaultFrameText
  frames_of s [] = []
  frames_of s (c ∷ cs) = sent_by s c ++ frames_of (shelf_after s c) cs

  -- frames, each with the reply of the vault's step, and then the rest of the session
  abbrev pub exchanged_with : VaultState → List VaultFrameText → (VaultState → List VaultPassed) → List VaultPassed
  exchanged_with vault [] rest = rest vault
  exchanged_with vault (frame ∷ frames) rest =
      Sent frame ∷ Received (vault_step vault frame).1 ∷ exchanged_with (vault_step vault frame).0 frames rest

  -- all that passes for commands
  abbrev pub session_from : VaultState → Shelf → List VaultCommand → List VaultPassed
  session_from vault s [] = []
  session_from vault s (c ∷ cs) = exchanged_with vault (sent_by s c) (λ now. session_from now (shelf_after s c) cs)

  -- a whole session with a vault that holds nothing: it begins with the question for the number of the next update
  abbrev pub vault_session : List VaultCommand → List VaultPassed
  vault_session cs = exchanged_with empty_vault (AskFrame ∷ []) (λ now. session_from now empty_shelf cs)

  -- what all puts of a history draw
  abbrev pub vault_draws : List VaultCommand → List VaultDraw
  vault_draws cs = draws_from 0 (shelf_of empty_shelf cs).puts

  -- puts of different numbers have different slots
  abbrev pub SlotsDiffer : Type 0
  SlotsDiffer = (v w : ℕ) → v < 0xffffffff → w < 0xffffffff → vault_slot f keys.slots v ≡ vault_slot f keys.slots w → v ≡ w

-- the vault after these frames
abbrev pub vault_stepped : VaultState → List VaultFrameText → VaultState
vault_stepped vault [] = vault
vault_stepped vault (frame ∷ frames) = vault_stepped (vault_step vault frame).0 frames
