-- Puts in the order of their identifiers, whose slots tell how many puts there were.
use Rattle.std.specs.Prelude.{◌≡◌, ℕ, zero, suc, ◌+◌, Bool, true, false, List, [], ◌∷◌, length, Option, is_some}
use Rattle.vault_shelf.specs.Shelves.{VaultCommand, Put, Drop, Get, Shelf, shelf_after}

-- each put has the next identifier: put v has v + 1
abbrev pub AreInOrder : Shelf → List VaultCommand → Type 0
AreInOrder s [] = Unit {0}
AreInOrder s (Put id body ∷ cs) = (id ≡ length s.puts + 1) × AreInOrder (shelf_after s (Put id body)) cs
AreInOrder s (Drop id ∷ cs) = AreInOrder (shelf_after s (Drop id)) cs
AreInOrder s (Get id ∷ cs) = AreInOrder s cs

abbrev pub one_if : Bool → ℕ
one_if true = 1
one_if false = 0

-- how many of the first v puts are there
abbrev pub full : (ℕ → Option ℕ) → ℕ → ℕ
full there zero = 0
full there (suc v) = full there v + one_if (is_some (there (suc v)))
