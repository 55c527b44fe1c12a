-- A contract's view of tables.
use Rattle.std.specs.Prelude.{refl}
use Rattle.std.specs.Coded.{Coded, code_by, coded×}
use Rattle.server_tables.specs.Contents.{Contents, contents_code}
use Rattle.server_tables.specs.Room.{Room, room_code}

-- their contents, and beside them the room, which no rule reads
pub record TablesView : Type 0 where
  pub contents : Contents
  pub room : Room

abbrev pub view_code : Coded TablesView
view_code = code_by (Contents × Room) (coded× contents_code room_code) (λ v. (v.contents, v.room)) (λ p. record { contents = p.0; room = p.1 }) (λ _. refl)
