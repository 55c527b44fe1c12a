-- Whether a command can be carried out without memory.
use Rattle.std.specs.Prelude.{ℕ, Bool, true, ◌&&◌, nat_le, nat_lt, List, length}
use Rattle.std.specs.Option.{option_map_or}
use Rattle.vault_shelf.specs.Shelves.{VaultCommand, Put, Drop, Get}
use Rattle.vault_shelf.specs.RecordReading.{command_in}
use Rattle.vault_shelf.specs.ShelfView.{ShelfView}

-- there are numbers and memory for it, and its text isn't too long
abbrev pub is_ready_for : ShelfView → VaultCommand → Bool
is_ready_for view (Put id body) = nat_lt view.puts 0xffffffff && (nat_lt view.sent 0xffffffff && (nat_le (length body) 65536 && nat_lt 0 view.room))
is_ready_for view (Drop id) = nat_lt view.sent 0xffffffff
is_ready_for view (Get id) = true

-- the same of the command that a record is
abbrev pub is_ready : ShelfView → (last : List ℕ) → Bool
is_ready view last = option_map_or (is_ready_for view) (command_in last) true
