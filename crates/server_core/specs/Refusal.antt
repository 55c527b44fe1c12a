-- Why a server doesn't take a frame: the first cause that stands.
use Rattle.std.specs.Prelude.{ℕ, ◌+◌, ◌*◌, Bool, true, false, ◌&&◌, not, List, [], ◌∷◌, length, Option, Some, None, if◌then◌else◌, ◌==◌, nat_le}
use Rattle.std.specs.Option.{option_map, option_map_or}
use Rattle.std.specs.List.{position_from}
use Rattle.std.specs.FinMap as map
use Rattle.std.specs.FinSet as set
use Rattle.sse_frames.specs.Frames.{Entry, FrameText, Hello, SetupBegin, SetupDict, SetupArray, SetupEnd, AddFrame, DeleteFrame, SearchFrame, update_number}
use Rattle.sse_frames.specs.Replies.{ReplyText, Number, Clash, OutOfPlace}
use Rattle.server_tables.specs.Contents.{CellMap}
use Rattle.server_core.specs.State.{ServerState, is_filling, is_ready}

abbrev pub is_nil : {A : Type 0} → List A → Bool
is_nil [] = true
is_nil (x ∷ xs) = false

-- whether the frame fits the stage, and what the setup still lacks
abbrev pub in_place : ServerState → FrameText → Bool
in_place s Hello = true
in_place s (SetupBegin q b big m a) = not (is_filling s.stage)
in_place s (SetupDict q width entries) =
    is_filling s.stage && (width == 1 + 8 * s.shape.b) && is_nil s.array && nat_le (map.len s.dictionary + length entries) s.words
in_place s (SetupArray q width blocks) =
    is_filling s.stage && (width == 8 * s.shape.big) && (map.len s.dictionary == s.words) && nat_le (length s.array + length blocks) s.blocks
in_place s (SetupEnd q) = is_filling s.stage && (map.len s.dictionary == s.words) && (length s.array == s.blocks)
in_place s (AddFrame q entries numbers) = is_ready s.stage
in_place s (DeleteFrame q numbers) = is_ready s.stage
in_place s (SearchFrame token) = is_ready s.stage

-- the place of the first entry whose label is in the map
abbrev pub first_known : CellMap → List Entry → Option ℕ
first_known m entries = position_from (λ e. map.contains_key m e.label) 0 entries

abbrev pub clash_at : ℕ → Option ℕ → Option ReplyText
clash_at what place = option_map (λ i. Clash what i) place

abbrev pub first_of_two : {A : Type 0} → Option A → Option A → Option A
first_of_two None b = b
first_of_two (Some x) b = Some x

-- the first collision of the frame with what the server holds: a label of a list (1), a label of an
-- addition (2), or a number (3): one to be taken out that isn't there, or one to be put in that is
abbrev pub clash : ServerState → FrameText → Option ReplyText
clash s Hello = None
clash s (SetupBegin q b big m a) = None
clash s (SetupDict q width entries) = clash_at 1 (first_known s.dictionary entries)
clash s (SetupArray q width blocks) = None
clash s (SetupEnd q) = None
clash s (AddFrame q entries numbers) =
    first_of_two (clash_at 2 (first_known s.additions entries)) (clash_at 3 (position_from (λ n. not (set.contains s.revoked n)) 0 numbers))
clash s (DeleteFrame q numbers) = clash_at 3 (position_from (λ n. set.contains s.revoked n) 0 numbers)
clash s (SearchFrame token) = None

-- whether an update frame has the number that the server expects
abbrev pub is_next : ServerState → FrameText → Bool
is_next s frame = option_map_or (λ q. q == s.next) (update_number frame) true

-- why a frame isn't taken: the first cause that stands
abbrev pub refusal : ServerState → FrameText → Option ReplyText
refusal s frame =
    if is_next s frame then (if in_place s frame then clash s frame else Some OutOfPlace) else Some (Number s.next)
