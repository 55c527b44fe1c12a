-- The last of a row of commands, kept apart from what those before it leave.
use Rattle.std.specs.Prelude.{◌≡◌, ℕ, List, [], ◌∷◌, ◌++◌}
use Rattle.vault_shelf.specs.ClientRecords.{IsRecorded, command_record}
use Rattle.vault_shelf.specs.Shelves.{VaultCommand, empty_shelf, shelf_of}
use Rattle.vault_shelf.specs.ShelfView.{ShelfView, Keeps}

-- the last of the commands is kept apart, as its record, and a shelf keeps what those before it leave
pub record KeepsApart (view : ShelfView) (last : List ℕ) (cs : List VaultCommand) : Type 0 where
  pub before : List VaultCommand
  pub command : VaultCommand
  pub are : cs ≡ before ++ command ∷ []
  pub recorded : IsRecorded command
  pub last_is : last ≡ command_record command
  pub keeps : Keeps view (shelf_of empty_shelf before)

-- there is no command yet
pub record KeepsNone (view : ShelfView) (last : List ℕ) (cs : List VaultCommand) : Type 0 where
  pub none : cs ≡ []
  pub last_is : last ≡ []
  pub keeps : Keeps view empty_shelf
