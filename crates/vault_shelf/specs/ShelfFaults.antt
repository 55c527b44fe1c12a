-- Which commands a client accepts, and why it refuses the others.
use Rattle.std.specs.Prelude.{◌≡◌, ◌==◌, Bool, not, ◌&&◌, nat_lt, List, [], ◌∷◌, length, Option, None, Some, is_some, if◌then◌else◌}
use Rattle.vault_shelf.specs.Shelves.{VaultCommand, Put, Drop, Get, Shelf, shelf_after}
use Rattle.vault_shelf.specs.declared.shelf_fault.ShelfFault.{ShelfFault}
use Rattle.vault_shelf.specs.declared.shelf_fault.ShelfFault.TheVariants.{IdentifierZero, IsThere, NotThere, TooLong, Full}

-- a number is left for one more update: numbers are below 2^32 - 1
abbrev pub has_number : Shelf → Bool
has_number s = nat_lt s.sent 0xffffffff

-- and for one more put
abbrev pub has_place : Shelf → Bool
has_place s = nat_lt (length s.puts) 0xffffffff && has_number s

-- the first of these causes. An identifier isn't put twice, and only one that is there is dropped; a get of any other is accepted,
-- and nothing is sent for it
abbrev pub shelf_fault : Shelf → VaultCommand → Option ShelfFault
shelf_fault s (Put id body) =
    if id == 0 then Some IdentifierZero
    else if is_some (s.there id) then Some (IsThere id)
    else if nat_lt 65536 (length body) then Some (TooLong (length body))
    else if has_place s then None
    else Some Full
shelf_fault s (Drop id) =
    if id == 0 then Some IdentifierZero
    else if not (is_some (s.there id)) then Some (NotThere id)
    else if has_number s then None
    else Some Full
shelf_fault s (Get id) = if id == 0 then Some IdentifierZero else None

-- each command is accepted after those before it
abbrev pub AreAccepted : Shelf → List VaultCommand → Type 0
AreAccepted s [] = Unit {0}
AreAccepted s (c ∷ cs) = (shelf_fault s c ≡ None) × AreAccepted (shelf_after s c) cs
