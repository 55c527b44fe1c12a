-- The grammar of the lines of worlds (docs/FORMATS.md).
use Rattle.std.specs.Prelude.{ℕ, ◌^◌, List, [], ◌∷◌, length, nat_lt, codes, Option, Some, None, option_map, if◌then◌else◌}
use Rattle.std.specs.Str.{bytes_eq}
use Rattle.sse_script.specs.Fields.{fields_of}
use Rattle.sse_script.specs.Lines.{Line, Empty, line_by_kind}
use Rattle.sse_script.specs.Numbers.{number_of}
use Rattle.script_world.specs.declared.world_line.Side.{Side}
use Rattle.script_world.specs.declared.world_line.Side.TheVariants.{Client, Server}

-- what one line says
pub data WorldLineText : Type 0 where
  ScriptLine : Line → WorldLineText
  NextWorld : WorldLineText
  SendLine : WorldLineText
  DeliverLine : (place : ℕ) → WorldLineText
  LoseLine : WorldLineText
  StopLine : (side : Side) (call pick : ℕ) → WorldLineText
  StartLine : (side : Side) → WorldLineText

-- `world`, `send` and `lose`: no other field
abbrev pub alone : WorldLineText → List (List ℕ) → Option WorldLineText
alone line [] = Some line
alone line _ = None

-- `deliver`: a number
abbrev pub deliver_line : List (List ℕ) → Option WorldLineText
deliver_line (place ∷ []) = option_map DeliverLine (number_of place)
deliver_line _ = None

-- a side by its name
abbrev pub side_of : List ℕ → Option Side
side_of name = if bytes_eq name (codes "client") then Some Client else if bytes_eq name (codes "server") then Some Server else None

-- a stop of this side with these numbers, if each of them is one
abbrev pub stop_parts : Option Side → (call pick : Option ℕ) → Option WorldLineText
stop_parts (Some side) (Some call) (Some pick) = Some (StopLine side call pick)
stop_parts _ _ _ = None

-- `stop`: a side and two numbers
abbrev pub stop_line : List (List ℕ) → Option WorldLineText
stop_line (side ∷ call ∷ pick ∷ []) = stop_parts (side_of side) (number_of call) (number_of pick)
stop_line _ = None

-- `start`: a side
abbrev pub start_line : List (List ℕ) → Option WorldLineText
start_line (side ∷ []) = option_map StartLine (side_of side)
start_line _ = None

-- a line by its first field; None if it isn't in the grammar
abbrev pub world_line_by_kind : List (List ℕ) → Option WorldLineText
world_line_by_kind [] = Some (ScriptLine Empty)
world_line_by_kind (kind ∷ fields) =
    if bytes_eq kind (codes "world") then alone NextWorld fields
    else if bytes_eq kind (codes "send") then alone SendLine fields
    else if bytes_eq kind (codes "deliver") then deliver_line fields
    else if bytes_eq kind (codes "lose") then alone LoseLine fields
    else if bytes_eq kind (codes "stop") then stop_line fields
    else if bytes_eq kind (codes "start") then start_line fields
    else if bytes_eq kind (codes "query") then None
    else option_map ScriptLine (line_by_kind (kind ∷ fields))

-- the line of at most 2^19 bytes that these bytes are
abbrev pub world_line_of : List ℕ → Option WorldLineText
world_line_of bytes = if nat_lt (2 ^ 19) (length bytes) then None else world_line_by_kind (fields_of bytes)
