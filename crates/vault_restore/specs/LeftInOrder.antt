-- A vault as commands left it whose puts have the identifiers 1, 2, .. in order, and the texts that are there.
use Rattle.std.specs.Prelude.{ℕ, ◌+◌, List, length, Option, option_map}
use Rattle.std.specs.List.{flat_map, range_with_len}
use Rattle.keyed_fn.specs.KeyedFn.{KeyedFn}
use Rattle.keyed_fn.specs.VaultFormulas.{VaultSecrets}
use Rattle.vault_server.specs.VaultState.{VaultState}
use Rattle.vault_shelf.specs.Scans.{AreInOrder}
use Rattle.vault_shelf.specs.ShelfFaults.{AreAccepted}
use Rattle.vault_shelf.specs.Shelves.{VaultCommand, Shelf, empty_shelf, shelf_of, text_there}
use Rattle.vault_shelf.specs.Standing.{LeftBy}
use Rattle.vault_restore.specs.RestoredLines.{RestoredLine, TextLine, lines_of_slot}

-- these commands left the vault so: each was accepted, and put v has the identifier v + 1
pub record IsLeftInOrder (f : KeyedFn) (keys : VaultSecrets) (vault : VaultState) (cs : List VaultCommand) : Type 0 where
  pub accepted : AreAccepted empty_shelf cs
  pub order : AreInOrder empty_shelf cs
  pub left : LeftBy f keys vault (shelf_of empty_shelf cs)

-- the line of put v, if its text is there
abbrev pub line_there : Shelf → ℕ → Option RestoredLine
line_there s v = option_map (TextLine (v + 1)) (text_there s (v + 1))

-- the lines of so many puts from put v on, in their order
abbrev pub lines_from : Shelf → (v count : ℕ) → List RestoredLine
lines_from s v count = flat_map (λ put. lines_of_slot (line_there s put)) (range_with_len v count)

-- and of all puts
abbrev pub all_lines : Shelf → List RestoredLine
all_lines s = lines_from s 0 (length s.puts)
