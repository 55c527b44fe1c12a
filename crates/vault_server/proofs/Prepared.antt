-- An update in steps is the update, or nothing if it is given up.
use Rattle.std.proofs.Common.{◌≡◌, ℕ, ◌+◌, ◌-◌, ◌<◌, ◌==◌, Bool, true, false, not, List, Some, None, refl, subst, arith}
use Rattle.std.specs.Prelude.{Option, is_some, if◌then◌else◌}
use Rattle.std.specs.FinMap as finmap
use Rattle.std.proofs.lemmas.Bool.Decides.{Decides-eqb}
use Rattle.vault_server.specs.VaultFrames.{VaultFrameText, PutFrame, DropFrame, FetchFrame, AskFrame, Next, Clash}
use Rattle.vault_server.specs.VaultState.{Held, Slots, VaultState, CanFinish, CanUndo, IsVaultTaken, finished, prepared, undone, update_refusal, vault_refusal, vault_taken}
use Rattle.vault_server.proofs.SlotMaps.{put_and_emptied}

-- a prepared update that is finished is taken
pub finished-prepared : (s : VaultState) (frame : VaultFrameText) → finished (prepared s frame) frame ≡ vault_taken s frame
finished-prepared s (PutFrame n slot tag sealed) = refl
finished-prepared s (DropFrame n slot) = refl
finished-prepared s (FetchFrame slot) = refl
finished-prepared s AskFrame = refl

-- an update that isn't refused has the number that is expected
number_is : (expected n : ℕ) (clashes : Bool) → update_refusal expected n clashes ≡ None → n ≡ expected
number_is expected n clashes = by (n == expected) refl clashes
  where
    by : (same : Bool) → (n == expected) ≡ same → (clash : Bool) → (if same then (if clash then Some Clash else None) else Some (Next expected)) ≡ None → n ≡ expected
    by true is clash e = (Decides-eqb n expected).0 is
    by false is clash e = absurd (let wrong : Some (Next expected) ≡ None = e in cc)

pub can_finish : (s : VaultState) (frame : VaultFrameText) → IsVaultTaken s frame → CanFinish (prepared s frame) frame
can_finish s (PutFrame n slot tag sealed) is = tt
can_finish s (DropFrame n slot) is = subst (λ m. m < 0xffffffff) (number_is s.next n (not (finmap.contains_key s.slots slot)) is.accepted) is.grammar.number
can_finish s (FetchFrame slot) is = tt
can_finish s AskFrame is = tt

pub can_undo : (s : VaultState) (frame : VaultFrameText) → IsVaultTaken s frame → CanUndo (prepared s frame) frame
can_undo s (PutFrame n slot tag sealed) is = omega arith
can_undo s (DropFrame n slot) is = tt
can_undo s (FetchFrame slot) is = tt
can_undo s AskFrame is = tt

-- a put that isn't refused has an empty slot
empty_slot : (s : VaultState) (n : ℕ) (slot tag sealed : List ℕ) → vault_refusal s (PutFrame n slot tag sealed) ≡ None → finmap.get s.slots slot ≡ None
empty_slot s n slot tag sealed accepted = by (n == s.next) (finmap.get s.slots slot) refl accepted
  where
    by : (b : Bool) (m : Option Held) → finmap.get s.slots slot ≡ m → (if b then (if is_some m then Some Clash else None) else Some (Next s.next)) ≡ None → finmap.get s.slots slot ≡ None
    by true None e a = e
    by true (Some h) e a = absurd (let wrong : Some Clash ≡ None = a in cc)
    by false m e a = absurd (let wrong : Some (Next s.next) ≡ None = a in cc)

put_back_same : (m : Slots) (n : ℕ) (slot : List ℕ) (h : Held) → finmap.get m slot ≡ None
    → ◌≡◌ {A = VaultState} (record { slots = finmap.remove (finmap.insert m slot h) slot; next = n + 1 - 1 }) (record { slots = m; next = n })
put_back_same m n slot h none = λ i. record { slots = put_and_emptied m slot h none i; next = back n i }
  where
    back : (n : ℕ) → n + 1 - 1 ≡ n
    back n = omega arith

-- one that is given up leaves what was there
pub undone-prepared : (s : VaultState) (frame : VaultFrameText) → IsVaultTaken s frame → undone (prepared s frame) frame ≡ s
undone-prepared s (PutFrame n slot tag sealed) is = put_back_same s.slots s.next slot (record { tag = tag; sealed = sealed }) (empty_slot s n slot tag sealed is.accepted)
undone-prepared s (DropFrame n slot) is = refl
undone-prepared s (FetchFrame slot) is = refl
undone-prepared s AskFrame is = refl
