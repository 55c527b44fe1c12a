-- The command that the bytes of a record are.
use Rattle.std.specs.Prelude.{ℕ, ◌==◌, nat_le, List, [], ◌∷◌, length, take, drop, Option, None, Some, if◌then◌else◌}
use Rattle.std.specs.Int.{w64, from_be_bytes}
use Rattle.vault_shelf.specs.Shelves.{VaultCommand, Put, Drop}

-- an identifier, and the text after it
abbrev pub put_in : List ℕ → Option VaultCommand
put_in rest = if nat_le 8 (length rest) then Some (Put (from_be_bytes w64 (take 8 rest)) (drop 8 rest)) else None

-- an identifier, and nothing after it
abbrev pub drop_in : List ℕ → Option VaultCommand
drop_in rest = if length rest == 8 then Some (Drop (from_be_bytes w64 (take 8 rest))) else None

-- by the first byte
abbrev pub command_in : List ℕ → Option VaultCommand
command_in [] = None
command_in (kind ∷ rest) = if kind == 0x21 then put_in rest else if kind == 0x22 then drop_in rest else None

-- the mark that they are
abbrev pub mark_in : List ℕ → Option (List ℕ)
mark_in [] = None
mark_in (kind ∷ rest) = if kind == 0x23 then (if length rest == 16 then Some (take 16 rest) else None) else None
