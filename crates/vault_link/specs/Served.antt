-- The exchanges of an honest link: each reply is the answer of the vault at its other end.
use Rattle.std.specs.Prelude.{◌≡◌, ◌≢◌, ◌⊎◌, ℕ, List, [], ◌∷◌, drop, map, Option, None, Some, IsSomeAnd, refl}
use Rattle.std.specs.Coded.{Coded, code_by, coded×, coded_list, coded_option, coded_ℕ}
use Rattle.vault_server.specs.VaultAnswers.{vault_answered}
use Rattle.vault_server.specs.VaultFrames.{VaultReplyText, NoMemory, StoreFault, InVaultReplies, vault_reply_bytes}
use Rattle.vault_server.specs.VaultRecords.{CanTake}
use Rattle.vault_server.specs.VaultState.{VaultState, state_code}
use Rattle.vault_link.specs.Exchanges.{Exchange}

-- the server at the other end: what its vault holds, with the number of the next update, and the bytes of its file if its disk tells them
pub record VaultRemote : Type 0 where
  pub state : VaultState
  pub file : Option (List ℕ)

-- the body of a frame: what follows its four length bytes
abbrev pub body_of : List ℕ → List ℕ
body_of frame = drop 4 frame

-- the vault's step: the state and the reply are those of `vault_answered`, and the reply is one of the grammar
pub record IsStep (before : VaultState) (frame reply : List ℕ) (after : VaultState) : Type 0 where
  pub state : after ≡ (vault_answered before (body_of frame)).0
  pub reply_is : reply ≡ vault_reply_bytes (vault_answered before (body_of frame)).1
  pub grammar : InVaultReplies (vault_answered before (body_of frame)).1

-- in place of its step the vault couldn't keep an update that it would have taken: it said why, and holds what it held
pub record CannotKeep (why : VaultReplyText) (before : VaultState) (frame reply : List ℕ) (after : VaultState) : Type 0 where
  pub update : CanTake before (body_of frame)
  pub state : after ≡ before
  pub reply_is : reply ≡ vault_reply_bytes why

-- the reply to a frame: by the vault's step, or out of memory, or its disk failed, now or at an earlier update
abbrev pub IsAnswered : (before : VaultState) (frame reply : List ℕ) (after : VaultState) → Type 0
IsAnswered before frame reply after =
    IsStep before frame reply after ⊎ (CannotKeep NoMemory before frame reply after ⊎ CannotKeep StoreFault before frame reply after)

-- the frame had no reply: the vault made its step, or holds what it held
abbrev pub IsUnanswered : (before : VaultState) (frame : List ℕ) (after : VaultState) → Type 0
IsUnanswered before frame after = (after ≡ (vault_answered before (body_of frame)).0) ⊎ (after ≡ before)

abbrev pub IsHonestReply : (before : VaultState) (frame : List ℕ) → Option (List ℕ) → (after : VaultState) → Type 0
IsHonestReply before frame None after = IsUnanswered before frame after
IsHonestReply before frame (Some reply) after = IsAnswered before frame reply after

-- these exchanges with an honest server lead from one state to another
abbrev pub AreServed : (before : VaultState) → List Exchange → (after : VaultState) → Type 0
AreServed before [] after = after ≡ before
AreServed before (x ∷ exchanges) after = (between : VaultState) × IsHonestReply before x.frame x.reply between × AreServed between exchanges after

-- the reply reports neither that the server was out of memory nor that its disk failed
pub record IsPlain (reply : List ℕ) : Type 0 where
  pub has_memory : reply ≢ vault_reply_bytes NoMemory
  pub has_disk : reply ≢ vault_reply_bytes StoreFault

-- each frame has a reply, and each reply is such
abbrev pub ArePlain : List Exchange → Type 0
ArePlain [] = Unit {0}
ArePlain (x ∷ exchanges) = IsSomeAnd x.reply IsPlain × ArePlain exchanges

-- the exchanges of a vault in this state that is asked these frames, and makes its step at each
abbrev pub exchanges_from : VaultState → (frames : List (List ℕ)) → List Exchange
exchanges_from s [] = []
exchanges_from s (frame ∷ frames) =
    record { frame = frame; reply = Some (vault_reply_bytes (vault_answered s (body_of frame)).1) } ∷ exchanges_from (vault_answered s (body_of frame)).0 frames

-- the frames of these exchanges
abbrev pub frames_in : List Exchange → List (List ℕ)
frames_in exchanges = map (λ x. x.frame) exchanges

-- the server at the other end had a frame; one that it doesn't take as an update leaves its file
pub record IsServed (frame : List ℕ) (reply : Option (List ℕ)) (before after : VaultRemote) : Type 0 where
  pub honest : IsHonestReply before.state frame reply after.state
  pub untouched : (CanTake before.state (body_of frame) → ⊥) → after.file ≡ before.file

-- the same of a server that the link can tell; one that it can't tell stays so
abbrev pub Serves : (frame : List ℕ) → Option (List ℕ) → (before after : Option VaultRemote) → Type 0
Serves frame reply None after = after ≡ None
Serves frame reply (Some before) None = ⊥
Serves frame reply (Some before) (Some after) = IsServed frame reply before after

-- the code by which a proof tells these values apart
abbrev pub remote_code : Coded VaultRemote
remote_code = code_by (VaultState × Option (List ℕ)) (coded× state_code (coded_option (coded_list coded_ℕ))) (λ r. (r.state, r.file)) (λ p. record { state = p.0; file = p.1 }) (λ _. refl)
