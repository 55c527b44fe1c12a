-- What the vault holds, and what it does with a frame.
use Rattle.std.specs.Prelude.{◌≡◌, ℕ, ◌+◌, ◌-◌, ◌<◌, ◌==◌, Bool, not, List, [], ◌∷◌, map, Option, None, Some, IsSome, refl, if◌then◌else◌}
use Rattle.std.specs.Ordering.{nat_cmp}
use Rattle.std.specs.Cmp.Lexicographic.{slice_cmp}
use Rattle.std.specs.Coded.{Coded, code_by, coded×, coded_list, coded_ℕ}
use Rattle.std.specs.FinMap as finmap
use Rattle.vault_server.specs.VaultFrames.{VaultFrameText, PutFrame, DropFrame, FetchFrame, AskFrame, VaultReplyText, Took, BodyReply, Absent, Next, Clash, InVault, vault_number, vault_body}

-- what stands in a slot
pub record Held : Type 0 where
  pub tag : List ℕ
  pub sealed : List ℕ

-- from slots to what stands there
abbrev pub Slots : Type 0
Slots = finmap.FinMap (slice_cmp nat_cmp) Held

pub record VaultState : Type 0 where
  pub slots : Slots
  -- the number of the next update
  pub next : ℕ

-- the codes by which a proof tells these values apart

abbrev pub held_code : Coded Held
held_code = code_by (List ℕ × List ℕ) (coded× (coded_list coded_ℕ) (coded_list coded_ℕ)) (λ h. (h.tag, h.sealed)) (λ p. record { tag = p.0; sealed = p.1 }) (λ _. refl)

abbrev pub state_code : Coded VaultState
state_code = code_by (Slots × ℕ) (coded× (finmap.code (coded_list coded_ℕ) held_code) coded_ℕ) (λ s. (s.slots, s.next)) (λ p. record { slots = p.0; next = p.1 }) (λ _. refl)

abbrev pub empty_vault : VaultState
empty_vault = record { slots = finmap.empty; next = 0 }

-- why an update isn't taken: its number, then its slot
abbrev pub update_refusal : (expected n : ℕ) (clashes : Bool) → Option VaultReplyText
update_refusal expected n clashes = if n == expected then (if clashes then Some Clash else None) else Some (Next expected)

abbrev pub vault_refusal : VaultState → VaultFrameText → Option VaultReplyText
vault_refusal s (PutFrame n slot tag sealed) = update_refusal s.next n (finmap.contains_key s.slots slot)
vault_refusal s (DropFrame n slot) = update_refusal s.next n (not (finmap.contains_key s.slots slot))
vault_refusal s (FetchFrame slot) = None
vault_refusal s AskFrame = None

-- the state after a frame that is taken
abbrev pub vault_taken : VaultState → VaultFrameText → VaultState
vault_taken s (PutFrame n slot tag sealed) = record { slots = finmap.insert s.slots slot (record { tag = tag; sealed = sealed }); next = s.next + 1 }
vault_taken s (DropFrame n slot) = record { slots = finmap.remove s.slots slot; next = s.next + 1 }
vault_taken s (FetchFrame slot) = s
vault_taken s AskFrame = s

-- An update in steps: the memory for it is taken before its record is kept.

-- the state once the memory is taken: a put fills its slot, and a drop takes none
abbrev pub prepared : VaultState → VaultFrameText → VaultState
prepared s (PutFrame n slot tag sealed) = vault_taken s (PutFrame n slot tag sealed)
prepared s (DropFrame n slot) = s
prepared s (FetchFrame slot) = s
prepared s AskFrame = s

-- the numbers are in range when a prepared update is finished, or given up

abbrev pub CanFinish : VaultState → VaultFrameText → Type 0
CanFinish s (PutFrame n slot tag sealed) = Unit {0}
CanFinish s (DropFrame n slot) = s.next < 0xffffffff
CanFinish s (FetchFrame slot) = Unit {0}
CanFinish s AskFrame = Unit {0}

abbrev pub CanUndo : VaultState → VaultFrameText → Type 0
CanUndo s (PutFrame n slot tag sealed) = 0 < s.next
CanUndo s (DropFrame n slot) = Unit {0}
CanUndo s (FetchFrame slot) = Unit {0}
CanUndo s AskFrame = Unit {0}

-- the state once the record of a prepared update is kept: a drop empties its slot
abbrev pub finished : VaultState → VaultFrameText → VaultState
finished s (PutFrame n slot tag sealed) = s
finished s (DropFrame n slot) = vault_taken s (DropFrame n slot)
finished s (FetchFrame slot) = s
finished s AskFrame = s

-- the state once a prepared update is given up, as its record wasn't kept: the slot of a put is empty again
abbrev pub undone : VaultState → VaultFrameText → VaultState
undone s (PutFrame n slot tag sealed) = record { slots = finmap.remove s.slots slot; next = s.next - 1 }
undone s (DropFrame n slot) = s
undone s (FetchFrame slot) = s
undone s AskFrame = s

-- what is handed out of a slot
abbrev pub handed : Option Held → VaultReplyText
handed None = Absent
handed (Some held) = BodyReply held.tag held.sealed

-- the reply to a frame that is taken, or asks for something
abbrev pub vault_reply : VaultState → VaultFrameText → VaultReplyText
vault_reply s (PutFrame n slot tag sealed) = Took n
vault_reply s (DropFrame n slot) = Took n
vault_reply s (FetchFrame slot) = handed (finmap.get s.slots slot)
vault_reply s AskFrame = Next s.next

abbrev pub step_unless : Option VaultReplyText → VaultState → VaultFrameText → VaultState × VaultReplyText
step_unless (Some reply) s frame = (s, reply)
step_unless None s frame = (vault_taken s frame, vault_reply s frame)

-- what a server does with a frame of the grammar
abbrev pub vault_step : VaultState → VaultFrameText → VaultState × VaultReplyText
vault_step s frame = step_unless (vault_refusal s frame) s frame

-- Its journal.

-- a server in this state takes the frame as an update
pub record IsVaultTaken (s : VaultState) (frame : VaultFrameText) : Type 0 where
  pub update : IsSome (vault_number frame)
  pub grammar : InVault frame
  pub accepted : vault_refusal s frame ≡ None

abbrev pub AreVaultTaken : VaultState → List VaultFrameText → Type 0
AreVaultTaken s [] = Unit {0}
AreVaultTaken s (frame ∷ frames) = IsVaultTaken s frame × AreVaultTaken (vault_taken s frame) frames

-- the state after these records' frames, and the records
abbrev pub vault_after : VaultState → List VaultFrameText → VaultState
vault_after s [] = s
vault_after s (frame ∷ frames) = vault_after (vault_taken s frame) frames

abbrev pub vault_records : List VaultFrameText → List (List ℕ)
vault_records frames = map vault_body frames
