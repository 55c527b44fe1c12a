-- What a client does with texts at the vault, and what it knows of them after that.
use Rattle.std.specs.Prelude.{ℕ, ◌+◌, ◌==◌, List, [], ◌∷◌, ◌++◌, length, Option, None, Some, option_and_then, option_map, if◌then◌else◌}
use Rattle.std.specs.List.{slice_get}

-- a text is put under an identifier, dropped, or got back
pub data VaultCommand : Type 0 where
  Put : (id : ℕ) (body : List ℕ) → VaultCommand
  Drop : (id : ℕ) → VaultCommand
  Get : (id : ℕ) → VaultCommand

-- a put: its identifier and its text
pub record Deposit : Type 0 where
  pub id : ℕ
  pub body : List ℕ

-- what commands leave: all puts, in their order; of each identifier the number of its last put, from 0, unless that was dropped; and
-- how many updates there were, which are puts and drops
pub record Shelf : Type 0 where
  pub puts : List Deposit
  pub there : ℕ → Option ℕ
  pub sent : ℕ

abbrev pub empty_shelf : Shelf
empty_shelf = record { puts = []; there = λ id. None; sent = 0 }

-- the same for all identifiers but one
abbrev pub set_there : (ℕ → Option ℕ) → ℕ → Option ℕ → ℕ → Option ℕ
set_there there id at other = if other == id then at else there other

-- a command that is accepted; a get changes nothing
abbrev pub shelf_after : Shelf → VaultCommand → Shelf
shelf_after s (Put id body) = record {
  puts = s.puts ++ record { id = id; body = body } ∷ [];
  there = set_there s.there id (Some (length s.puts));
  sent = s.sent + 1;
}
shelf_after s (Drop id) = record { puts = s.puts; there = set_there s.there id None; sent = s.sent + 1 }
shelf_after s (Get id) = s

abbrev pub shelf_of : Shelf → List VaultCommand → Shelf
shelf_of s [] = s
shelf_of s (c ∷ cs) = shelf_of (shelf_after s c) cs

-- the text of an identifier's last put, unless that was dropped
abbrev pub text_there : Shelf → ℕ → Option (List ℕ)
text_there s id = option_and_then (λ put. option_map (λ deposit. deposit.body) (slice_get s.puts put)) (s.there id)

-- earlier gets change nothing
abbrev pub without_gets : List VaultCommand → List VaultCommand
without_gets [] = []
without_gets (Put id body ∷ cs) = Put id body ∷ without_gets cs
without_gets (Drop id ∷ cs) = Drop id ∷ without_gets cs
without_gets (Get id ∷ cs) = without_gets cs
