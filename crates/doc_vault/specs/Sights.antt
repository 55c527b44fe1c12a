-- What is seen of a run from outside: what passed over the link, the server at its other end, the records that were kept, and the bytes
-- that were printed. Each is told only where its device can tell it.
use Rattle.std.specs.Prelude.{◌≡◌, ℕ, List, [], ◌∷◌, ◌++◌, Option}
use Rattle.std.specs.Option.{option_map}
use Rattle.std.specs.Io.KnownBytes.{append_known}
use Rattle.sse_outside.specs.Kept.{Kept, with_records}
use Rattle.vault_link.specs.Exchanges.{Exchange}
use Rattle.vault_link.specs.Served.{VaultRemote, Serves}

-- of a link
pub record LinkSight : Type 0 where
  pub told : Option (List Exchange)
  pub remote : Option VaultRemote

abbrev pub sight_of : Option (List Exchange) → Option VaultRemote → LinkSight
sight_of told remote = record { told = told; remote = remote }

-- the server at the other end had these frames, one after another, with these replies
abbrev pub ServesAll : List Exchange → (before after : Option VaultRemote) → Type 0
ServesAll [] before after = after ≡ before
ServesAll (x ∷ exchanges) before after = (between : Option VaultRemote) × Serves x.frame x.reply before between × ServesAll exchanges between after

-- these exchanges passed
pub record HasPassed (passed : List Exchange) (old new : LinkSight) : Type 0 where
  pub told : new.told ≡ option_map (λ all. all ++ passed) old.told
  pub served : ServesAll passed old.remote new.remote

-- of all devices
pub record Sight : Type 0 where
  pub link : LinkSight
  pub kept : Kept
  pub written : Option (List ℕ)

-- these exchanges passed, these records were kept after those of before, and this text was printed
pub record Moves (passed : List Exchange) (records : List (List ℕ)) (text : List ℕ) (old new : Sight) : Type 0 where
  pub link : HasPassed passed old.link new.link
  pub kept : new.kept ≡ with_records records old.kept
  pub written : new.written ≡ append_known old.written text
