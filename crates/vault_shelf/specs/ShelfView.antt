-- What contracts see of a shelf of the code, and the shelf of a history that it keeps.
use Rattle.std.specs.Prelude.{◌≡◌, ℕ, ◌<◌, ◌≤◌, nat_eq, List, length, Option}
use Rattle.std.specs.Map.{lookup}
use Rattle.vault_shelf.specs.Shelves.{VaultCommand, Put, Drop, Get, Shelf}

-- the identifiers of the texts that are there, each with the number of its put; how many puts there were, and how many updates; for
-- how many more identifiers there is memory; and the two numbers under which they are hashed
pub record ShelfView : Type 0 where
  pub kept : List (ℕ × ℕ)
  pub puts : ℕ
  pub sent : ℕ
  pub room : ℕ
  pub keys : ℕ × ℕ

-- the number of the put of a text that is there
abbrev pub put_in : ShelfView → ℕ → Option ℕ
put_in view id = lookup (nat_eq id) view.kept

-- it has what the shelf of a history has, but for the texts
pub record Keeps (view : ShelfView) (s : Shelf) : Type 0 where
  pub puts : view.puts ≡ length s.puts
  pub there : (id : ℕ) → put_in view id ≡ s.there id
  pub sent : view.sent ≡ s.sent

-- there is a number for the frame of a put, and its text isn't too long
pub record IsPutSendable (view : ShelfView) (body : List ℕ) : Type 0 where
  pub put : view.puts < 0xffffffff
  pub number : view.sent < 0xffffffff
  pub short : length body ≤ 65536

-- there are numbers for the command's frame, and its text isn't too long
abbrev pub CanSend : ShelfView → VaultCommand → Type 0
CanSend view (Put id body) = IsPutSendable view body
CanSend view (Drop id) = view.sent < 0xffffffff
CanSend view (Get id) = Unit {0}

-- there is memory for what the command leaves: only a put takes some
abbrev pub HasRoom : ShelfView → VaultCommand → Type 0
HasRoom view (Put id body) = 0 < view.room
HasRoom view (Drop id) = Unit {0}
HasRoom view (Get id) = Unit {0}
