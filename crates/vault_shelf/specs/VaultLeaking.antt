-- What a client's commands leak to the vault.
use Rattle.std.specs.Prelude.{List, [], ◌∷◌, ◌++◌, length, None, Some, unwrap_or}
use Rattle.vault_server.specs.VaultLeaks.{VaultLeak, PutLeak, DropLeak, FetchLeak}
use Rattle.vault_shelf.specs.Shelves.{VaultCommand, Put, Drop, Get, Shelf, shelf_after}

-- a put the length of its text, a drop or a get which put it is about; a get of what isn't there leaks nothing
abbrev pub leaks_by : Shelf → VaultCommand → List VaultLeak
leaks_by s (Put id body) = PutLeak (length body) ∷ []
leaks_by s (Drop id) = DropLeak (unwrap_or (s.there id) 0) ∷ []
leaks_by s (Get id) = elim (s.there id) [ None ↦ [] | Some put ↦ FetchLeak put ∷ [] ]

abbrev pub vault_leaks : Shelf → List VaultCommand → List VaultLeak
vault_leaks s [] = []
vault_leaks s (c ∷ cs) = leaks_by s c ++ vault_leaks (shelf_after s c) cs
