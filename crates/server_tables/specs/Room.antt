-- For how much more there is memory. No rule reads it; it says only when a call can't be out of memory.
use Rattle.std.specs.Prelude.{ℕ, ◌+◌, ◌*◌, ◌≤◌, refl}
use Rattle.std.specs.Coded.{Coded, code_by, coded×, coded_ℕ}

-- of one part: how many more calls, and how many bytes of all their pieces
pub record PartRoom : Type 0 where
  pub calls : ℕ
  pub bytes : ℕ

pub record Room : Type 0 where
  pub entries : PartRoom
  pub blocks : PartRoom
  pub additions : PartRoom
  pub revoked : PartRoom

-- so many pieces of one size
abbrev pub pieces : (count size : ℕ) → PartRoom
pieces count size = record { calls = count; bytes = count * size }

abbrev pub no_room : Room
no_room = record { entries = pieces 0 0; blocks = pieces 0 0; additions = pieces 0 0; revoked = pieces 0 0 }

-- what one piece takes: a cell or a block of a size in bytes, an addition of 8 bytes, a number of 16
abbrev pub of_entry : (size : ℕ) → Room
of_entry size = record no_room { entries = pieces 1 size }

abbrev pub of_block : (size : ℕ) → Room
of_block size = record no_room { blocks = pieces 1 size }

abbrev pub of_addition : Room
of_addition = record no_room { additions = pieces 1 8 }

abbrev pub of_number : Room
of_number = record no_room { revoked = pieces 1 16 }

-- a part has room for this
pub record PartHas (room wanted : PartRoom) : Type 0 where
  pub calls : wanted.calls ≤ room.calls
  pub bytes : wanted.bytes ≤ room.bytes

pub record HasRoom (room wanted : Room) : Type 0 where
  pub entries : PartHas room.entries wanted.entries
  pub blocks : PartHas room.blocks wanted.blocks
  pub additions : PartHas room.additions wanted.additions
  pub revoked : PartHas room.revoked wanted.revoked

-- a part's room fell by no more than this
pub record PartSpends (old new spent : PartRoom) : Type 0 where
  pub calls : old.calls ≤ new.calls + spent.calls
  pub bytes : old.bytes ≤ new.bytes + spent.bytes

pub record Spends (old new spent : Room) : Type 0 where
  pub entries : PartSpends old.entries new.entries spent.entries
  pub blocks : PartSpends old.blocks new.blocks spent.blocks
  pub additions : PartSpends old.additions new.additions spent.additions
  pub revoked : PartSpends old.revoked new.revoked spent.revoked

-- the code by which a proof tells rooms apart

abbrev part_code : Coded PartRoom
part_code = code_by (ℕ × ℕ) (coded× coded_ℕ coded_ℕ) (λ p. (p.calls, p.bytes)) (λ p. record { calls = p.0; bytes = p.1 }) (λ _. refl)

abbrev pub room_code : Coded Room
room_code =
    code_by (PartRoom × (PartRoom × (PartRoom × PartRoom))) (coded× part_code (coded× part_code (coded× part_code part_code))) (λ r. (r.entries, (r.blocks, (r.additions, r.revoked)))) (λ p. record { entries = p.0; blocks = p.1.0; additions = p.1.1.0; revoked = p.1.1.1 }) (λ _. refl)
