-- Commands, and others after them: what they leave, whether they are accepted, what they send and leak, and what passes.
use Rattle.std.proofs.Common.{◌≡◌, List, [], ◌∷◌, ◌++◌, refl, sym, ap, ◌∙◌}
use Rattle.std.proofs.lemmas.List.{append_assoc}
use Rattle.keyed_fn.specs.KeyedFn.{KeyedFn}
use Rattle.keyed_fn.specs.VaultFormulas.{VaultSecrets}
use Rattle.vault_server.specs.VaultFrames.{VaultFrameText}
use Rattle.vault_server.specs.VaultLeaks.{VaultPassed, Sent, Received}
use Rattle.vault_server.specs.VaultState.{VaultState, vault_step}
use Rattle.vault_shelf.specs.ShelfFaults.{AreAccepted}
use Rattle.vault_shelf.specs.Shelves.{VaultCommand, Shelf, shelf_after, shelf_of}
use Rattle.vault_shelf.specs.VaultLeaking.{leaks_by, vault_leaks}
use Rattle.vault_shelf.specs.VaultSessions.{exchanged_with, frames_of, sent_by, session_from, vault_stepped}

pub shelf_of-append : (s : Shelf) (cs ds : List VaultCommand) → shelf_of s (cs ++ ds) ≡ shelf_of (shelf_of s cs) ds
shelf_of-append s [] ds = refl
shelf_of-append s (c ∷ cs) ds = shelf_of-append (shelf_after s c) cs ds

pub accepted-append : (s : Shelf) (cs ds : List VaultCommand) → AreAccepted s cs → AreAccepted (shelf_of s cs) ds → AreAccepted s (cs ++ ds)
accepted-append s [] ds are later = later
accepted-append s (c ∷ cs) ds are later = (are.0, accepted-append (shelf_after s c) cs ds are.1 later)

pub accepted_first : (s : Shelf) (cs ds : List VaultCommand) → AreAccepted s (cs ++ ds) → AreAccepted s cs
accepted_first s [] ds are = tt
accepted_first s (c ∷ cs) ds are = (are.0, accepted_first (shelf_after s c) cs ds are.1)

pub accepted_later : (s : Shelf) (cs ds : List VaultCommand) → AreAccepted s (cs ++ ds) → AreAccepted (shelf_of s cs) ds
accepted_later s [] ds are = are
accepted_later s (c ∷ cs) ds are = accepted_later (shelf_after s c) cs ds are.1

-- what a front leaks is the front of what all leak
pub vault_leaks-append : (s : Shelf) (cs ds : List VaultCommand) → vault_leaks s (cs ++ ds) ≡ vault_leaks s cs ++ vault_leaks (shelf_of s cs) ds
vault_leaks-append s [] ds = refl
vault_leaks-append s (c ∷ cs) ds =
    ap (λ rest. leaks_by s c ++ rest) (vault_leaks-append (shelf_after s c) cs ds)
    ∙ sym (append_assoc (leaks_by s c) (vault_leaks (shelf_after s c) cs) (vault_leaks (shelf_of (shelf_after s c) cs) ds))

pub vault_stepped-append : (vault : VaultState) (xs ys : List VaultFrameText) → vault_stepped vault (xs ++ ys) ≡ vault_stepped (vault_stepped vault xs) ys
vault_stepped-append vault [] ys = refl
vault_stepped-append vault (x ∷ xs) ys = vault_stepped-append (vault_step vault x).0 xs ys

module _ (f : KeyedFn) (keys : VaultSecrets) where
  pub frames_of-append : (s : Shelf) (cs ds : List VaultCommand) → frames_of f keys s (cs ++ ds) ≡ frames_of f keys s cs ++ frames_of f keys (shelf_of s cs) ds
  frames_of-append s [] ds = refl
  frames_of-append s (c ∷ cs) ds =
      ap (λ rest. sent_by f keys s c ++ rest) (frames_of-append (shelf_after s c) cs ds)
      ∙ sym (append_assoc (sent_by f keys s c) (frames_of f keys (shelf_after s c) cs) (frames_of f keys (shelf_of (shelf_after s c) cs) ds))

  -- what passes after frames depends on the vault that they leave
  exchanged-append : (vault : VaultState) (frames : List VaultFrameText) (first all : VaultState → List VaultPassed) (later : List VaultPassed)
      → all (vault_stepped vault frames) ≡ first (vault_stepped vault frames) ++ later
      → exchanged_with f keys vault frames all ≡ exchanged_with f keys vault frames first ++ later
  exchanged-append vault [] first all later e = e
  exchanged-append vault (frame ∷ frames) first all later e =
      ap (λ rest. Sent frame ∷ Received (vault_step vault frame).1 ∷ rest) (exchanged-append (vault_step vault frame).0 frames first all later e)

  pub session_from-append : (vault : VaultState) (s : Shelf) (cs ds : List VaultCommand)
      → session_from f keys vault s (cs ++ ds) ≡ session_from f keys vault s cs ++ session_from f keys (vault_stepped vault (frames_of f keys s cs)) (shelf_of s cs) ds
  session_from-append vault s [] ds = refl
  session_from-append vault s (c ∷ cs) ds =
      exchanged-append vault (sent_by f keys s c) (λ now. session_from f keys now (shelf_after s c) cs) (λ now. session_from f keys now (shelf_after s c) (cs ++ ds))
      (session_from f keys (vault_stepped vault (sent_by f keys s c ++ frames_of f keys (shelf_after s c) cs)) (shelf_of (shelf_after s c) cs) ds)
      (session_from-append (vault_stepped vault (sent_by f keys s c)) (shelf_after s c) cs ds
      ∙ ap (λ now. session_from f keys (vault_stepped vault (sent_by f keys s c)) (shelf_after s c) cs ++ session_from f keys now (shelf_of (shelf_after s c) cs) ds)
      (sym (vault_stepped-append vault (sent_by f keys s c) (frames_of f keys (shelf_after s c) cs))))
