-- The records of a client of the vault that a rebuild took, and its answer to one more.
use Rattle.std.specs.Prelude.{◌≡◌, ◌⊎◌, ℕ, List, [], ◌∷◌, ◌++◌, length, Bool, true, false, Result, Ok, Err}
use Rattle.vault_shelf.specs.ClientRecords.{VaultOpens, VaultOpensElsewhere, VaultOpensNowhere}
use Rattle.vault_shelf.specs.Shelves.{VaultCommand, empty_shelf, shelf_of}
use Rattle.vault_shelf.specs.Apart.{KeepsApart, KeepsNone}
use Rattle.vault_shelf.specs.ShelfView.{ShelfView, Keeps}
use Rattle.vault_shelf.specs.declared.rebuild.ShelfRebuild.{ShelfRebuild}
use Rattle.vault_shelf.specs.declared.record_fault.RecordFault.{RecordFault}
use Rattle.vault_shelf.specs.declared.record_fault.RecordFault.TheVariants.{BadRecord, WrongKey, NoMemory}

-- the records are those of commands under the mark, of which the last is kept apart
pub record HasCommands (mark : List ℕ) (payloads : List (List ℕ)) (view : ShelfView) (last : List ℕ) : Type 0 where
  pub commands : List VaultCommand
  pub opens : VaultOpens mark payloads commands
  pub kept : KeepsNone view last commands ⊎ KeepsApart view last commands

-- there is no record
pub record HasNone (payloads : List (List ℕ)) (view : ShelfView) (last : List ℕ) : Type 0 where
  pub none : payloads ≡ []
  pub kept : KeepsNone view last []

abbrev pub IsTaken : (mark : List ℕ) (marked : Bool) (payloads : List (List ℕ)) (view : ShelfView) (last : List ℕ) → Type 0
IsTaken mark false payloads view last = HasNone payloads view last
IsTaken mark true payloads view last = HasCommands mark payloads view last

-- the records are those of commands under the mark, and a shelf keeps what all of them leave
pub record IsSettled (mark : List ℕ) (payloads : List (List ℕ)) (view : ShelfView) : Type 0 where
  pub commands : List VaultCommand
  pub opens : VaultOpens mark payloads commands
  pub keeps : Keeps view (shelf_of empty_shelf commands)

-- a rebuild took these records
abbrev pub Rebuilds : List (List ℕ) → ShelfRebuild → Type 0
Rebuilds payloads r = IsTaken r.mark r.marked payloads r.shelf r.last.items

-- what one record more makes of those taken: it is taken; or with it they open under no mark, or under another one; or there is no
-- memory for it, though they open and it is a command's
abbrev pub Takes : {A : Type 0} → List ℕ → List (List ℕ) → List ℕ → (marked : Bool) → ShelfView → (last : List ℕ) → Result A RecordFault → Type 0
Takes mark payloads payload marked view last (Ok done) = IsTaken mark marked (payloads ++ payload ∷ []) view last
Takes mark payloads payload marked view last (Err (BadRecord n)) = (n ≡ length payloads) × VaultOpensNowhere (payloads ++ payload ∷ [])
Takes mark payloads payload marked view last (Err WrongKey) = VaultOpensElsewhere mark (payloads ++ payload ∷ [])
Takes mark payloads payload marked view last (Err NoMemory) = (cs : List VaultCommand) × (c : VaultCommand) × VaultOpens mark (payloads ++ payload ∷ []) (cs ++ c ∷ [])
