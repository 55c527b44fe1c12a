-- The contents of a server, as a value.
use Rattle.std.specs.Prelude.{◌≡◌, ℕ, zero, suc, Bool, true, false, List, [], refl}
use Rattle.std.specs.Coded.{Coded, code_by, coded×, coded_ℕ}
use Rattle.std.specs.FinMap as map
use Rattle.std.specs.FinSet as set
use Rattle.two_level.specs.Shape.{Shape}
use Rattle.server_core.specs.declared.stage.Stage.{Stage}
use Rattle.server_core.specs.declared.stage.Stage.TheVariants.{Empty, Filling, Ready}
use Rattle.server_tables.specs.Contents.{CellMap, NumberSet, Contents, contents_code}
use Rattle.server_tables.specs.Room.{Room, room_code}

pub record ServerState : Type 0 where
  pub stage : Stage
  -- the number of the next update frame
  pub next : ℕ
  -- how many words and blocks the setup has, and how its lists are laid out
  pub words : ℕ
  pub blocks : ℕ
  pub shape : Shape
  -- from list labels to encrypted cells, and the encrypted blocks by their places
  pub dictionary : CellMap
  pub array : List (List ℕ)
  -- from addition labels to encrypted identifiers, and the numbers of what was deleted
  pub additions : CellMap
  pub revoked : NumberSet

-- a server that has taken nothing
abbrev pub at_first : ServerState
at_first = record {
  stage = Empty;
  next = 0;
  words = 0;
  blocks = 0;
  shape = record { b = 0; big = 0 };
  dictionary = map.empty;
  array = [];
  additions = map.empty;
  revoked = set.empty;
}

-- the same of a server that holds this
abbrev pub holding : Stage → (next words blocks : ℕ) → Shape → Contents → ServerState
holding stage next words blocks shape contents = record {
  stage = stage;
  next = next;
  words = words;
  blocks = blocks;
  shape = shape;
  dictionary = contents.dictionary;
  array = contents.array;
  additions = contents.additions;
  revoked = contents.revoked;
}

-- a server's state, and beside it the room of its tables, which no rule reads
pub record ServerView : Type 0 where
  pub state : ServerState
  pub room : Room

abbrev pub is_empty : Stage → Bool
is_empty Empty = true
is_empty Filling = false
is_empty Ready = false

abbrev pub is_filling : Stage → Bool
is_filling Empty = false
is_filling Filling = true
is_filling Ready = false

abbrev pub is_ready : Stage → Bool
is_ready Empty = false
is_ready Filling = false
is_ready Ready = true

-- the codes by which a proof tells these values apart

abbrev stage_number : Stage → ℕ
stage_number Empty = 0
stage_number Filling = 1
stage_number Ready = 2

abbrev stage_at : ℕ → Stage
stage_at zero = Empty
stage_at (suc zero) = Filling
stage_at (suc (suc n)) = Ready

pub stage_at-stage_number : (s : Stage) → stage_at (stage_number s) ≡ s
stage_at-stage_number Empty = refl
stage_at-stage_number Filling = refl
stage_at-stage_number Ready = refl

abbrev stage_code : Coded Stage
stage_code = code_by ℕ coded_ℕ stage_number stage_at stage_at-stage_number

abbrev shape_code : Coded Shape
shape_code = code_by (ℕ × ℕ) (coded× coded_ℕ coded_ℕ) (λ s. (s.b, s.big)) (λ p. record { b = p.0; big = p.1 }) (λ _. refl)

abbrev Numbers : Type 0
Numbers = Stage × (ℕ × (ℕ × (ℕ × Shape)))

abbrev numbers_code : Coded Numbers
numbers_code = coded× stage_code (coded× coded_ℕ (coded× coded_ℕ (coded× coded_ℕ shape_code)))

abbrev pub state_code : Coded ServerState
state_code =
    code_by (Numbers × Contents) (coded× numbers_code contents_code) (λ s. ((s.stage, (s.next, (s.words, (s.blocks, s.shape)))), record { dictionary = s.dictionary; array = s.array; additions = s.additions; revoked = s.revoked })) (λ p. record { stage = p.0.0; next = p.0.1.0; words = p.0.1.1.0; blocks = p.0.1.1.1.0; shape = p.0.1.1.1.1; dictionary = p.1.dictionary; array = p.1.array; additions = p.1.additions; revoked = p.1.revoked }) (λ _. refl)

abbrev pub view_code : Coded ServerView
view_code =
    code_by (ServerState × Room) (coded× state_code room_code) (λ v. (v.state, v.room)) (λ p. record { state = p.0; room = p.1 }) (λ _. refl)
