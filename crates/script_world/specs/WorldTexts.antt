-- The text of each line that is printed of a world, in ASCII: pieces that are joined, numbers in decimal (docs/FORMATS.md).
use Rattle.std.specs.Prelude.{ℕ, List, [], ◌∷◌, ◌++◌, codes, decimal}
use Rattle.std.specs.List.{concat}
use Rattle.hex.specs.Hex.{encode_lower}
use Rattle.sse_script.specs.Texts.{ids_text}
use Rattle.script_world.specs.declared.world_shown.WorldShown.{WorldShown}
use Rattle.script_world.specs.declared.world_shown.WorldShown.TheVariants as shown

-- what a line says
pub data WorldShownText : Type 0 where
  Done : WorldShownText
  Nothing : WorldShownText
  NoMemory : WorldShownText
  Updated : (place : ℕ) → WorldShownText
  Found : (place : ℕ) (ids : List ℕ) → WorldShownText
  Sent : (bytes : List ℕ) → WorldShownText
  ClientFile : (bytes : List ℕ) → WorldShownText
  ServerFile : (bytes : List ℕ) → WorldShownText

abbrev pub world_shown_view : WorldShown → WorldShownText
world_shown_view shown.Done = Done
world_shown_view shown.Nothing = Nothing
world_shown_view shown.NoMemory = NoMemory
world_shown_view (shown.Updated place) = Updated place
world_shown_view (shown.Found place ids) = Found place ids.now
world_shown_view (shown.Sent bytes) = Sent bytes.now
world_shown_view (shown.ClientFile bytes) = ClientFile bytes.now
world_shown_view (shown.ServerFile bytes) = ServerFile bytes.now

-- a line without its end; bytes in hexadecimal digits
abbrev pub world_line_text : WorldShownText → List (List ℕ)
world_line_text Done = codes "done" ∷ []
world_line_text Nothing = codes "nothing" ∷ []
world_line_text NoMemory = codes "no memory" ∷ []
world_line_text (Updated place) = codes "updated " ∷ decimal place ∷ []
world_line_text (Found place ids) = codes "found " ∷ decimal place ∷ codes ":" ∷ ids_text ids ∷ []
world_line_text (Sent bytes) = codes "sent " ∷ encode_lower bytes ∷ []
world_line_text (ClientFile bytes) = codes "client " ∷ encode_lower bytes ∷ []
world_line_text (ServerFile bytes) = codes "server " ∷ encode_lower bytes ∷ []

-- a line as it is printed: its pieces and the end, byte 0a
abbrev pub world_text : WorldShownText → List ℕ
world_text line = concat (world_line_text line ++ (10 ∷ []) ∷ [])
