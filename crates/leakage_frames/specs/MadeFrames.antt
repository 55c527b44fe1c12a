-- The same as the code makes it: bytes after those that passed before. No public clause cites this.
use Rattle.std.specs.Prelude.{◌≡◌, ℕ, ◌+◌, ◌*◌, true, false, List, [], ◌∷◌, ◌++◌, length, map, drop, take, flat_map, None, Some, Option, option_map}
use Rattle.std.specs.List.{slice_get}
use Rattle.std.specs.Option.{option_and_then}
use Rattle.list_packing.specs.Parts.{parts}
use Rattle.sse_frames.specs.Exchange.{exchange, greeting, searches}
use Rattle.sse_frames.specs.Frames.{Entry, FrameText, SetupBegin, SetupDict, SetupArray, SetupEnd}
use Rattle.sse_frames.specs.SentParts.{numbered}
use Rattle.sse_simulator.specs.Leaks.{NewEntry, Fresh, Again, WordLeak, Leak, Draw}
use Rattle.sse_simulator.specs.Simulator.{Kept, Nothing, Numbers, Token, as_entry, as_block, as_number, kept_of, is_numbered, answer_of, frames_simulated, Sim, sim_at_first, simulated_from}
use Rattle.leakage_frames.specs.Steps.{bytes_of, passed_bytes}
use Rattle.leakage_frames.specs.Views.{draw_view, leak_view}
use Rattle.leakage_frames.specs.declared.drawn.Section.{Section}
use Rattle.leakage_frames.specs.declared.drawn.Section.TheVariants as sections
use Rattle.leakage_frames.specs.declared.passed.Passing.{Passing}
use Rattle.leakage_frames.specs.declared.kept.Kept as kepts
use Rattle.leakage_frames.specs.declared.kept.Kept.TheVariants as code
use Rattle.leakage_frames.specs.declared.earlier.Earlier as earliers
use Rattle.leakage_frames.specs.declared.earlier.Earlier.TheVariants as earlier

-- the draws of a part of a setup
abbrev pub kind_of : Section → Draw → Option Entry
kind_of sections.Entries = as_entry
kind_of sections.Blocks = as_block

-- a frame of that part, still to be numbered
abbrev pub part_frame : Section → (width : ℕ) → List Entry → ℕ → FrameText
part_frame sections.Entries width entries q = SetupDict q width entries
part_frame sections.Blocks width blocks q = SetupArray q width (map (λ block. block.text) blocks)

-- the frames of that part, so many entries or blocks a frame
abbrev pub part_frames : Section → (width size : ℕ) → List Entry → List (ℕ → FrameText)
part_frames section width size entries = map (part_frame section width) (parts size entries)

-- the frames of a setup of sorted entries and blocks, still to be numbered
abbrev pub setup_makers : (b big : ℕ) → List Entry → List Entry → List (ℕ → FrameText)
setup_makers b big entries blocks =
    (λ q. SetupBegin q b big (length entries) (length blocks)) ∷ part_frames sections.Entries (1 + 8 * b) 1024 entries ++ part_frames sections.Blocks (8 * big) 256 blocks ++ (λ q. SetupEnd q) ∷ []

-- what has passed and then passes for these update frames, and the number after them
abbrev pub then_updates : Passing → List (ℕ → FrameText) → List (List ℕ) × ℕ
then_updates passing frames = (passing.texts ++ bytes_of [] (numbered passing.next frames), passing.next + length frames)

-- what is kept of a command
abbrev pub kept_view : kepts.Kept → Kept
kept_view code.Nothing = Nothing
kept_view (code.Numbers numbers) = Numbers numbers
kept_view (code.Token token) = Token token

-- what is kept of each of these commands
abbrev pub kept_each : List Leak → List (List Draw) → List Kept
kept_each [] drawn = []
kept_each (leak ∷ leaks) [] = []
kept_each (leak ∷ leaks) (draws ∷ drawn) = kept_of leak draws ∷ kept_each leaks drawn

-- what is kept of the commands before one
abbrev pub earlier_view : earliers.Earlier → List Kept
earlier_view (earlier.Stored kept) = map kept_view kept.now
earlier_view (earlier.Given leaks draws) = kept_each (map leak_view leaks.now) (map (map draw_view) draws.now)

-- the draws after a word of a deletion
abbrev pub draws_behind : WordLeak → List Draw → List Draw
draws_behind word draws = elim word.sent [ NewEntry ↦ draws | Fresh ↦ drop 1 draws | Again origin ↦ draws ]

-- the draws after words of a deletion
abbrev pub draws_left : List WordLeak → List Draw → List Draw
draws_left [] draws = draws
draws_left (word ∷ words) draws = draws_left words (draws_behind word draws)

-- the number that it draws
abbrev pub number_drawn : WordLeak → List Draw → Option (List ℕ)
number_drawn word draws = elim word.sent [ NewEntry ↦ None | Fresh ↦ option_and_then as_number (slice_get draws 0) | Again origin ↦ None ]

-- items behind others, where both are there
abbrev pub ahead : {A : Type 0} → List A → Option (List A) → Option (List A)
ahead front None = None
ahead front (Some items) = Some (front ++ items)

-- how many numbers its frames take
abbrev pub numbers_taken : Leak → List FrameText → ℕ
numbers_taken leak frames = elim (is_numbered leak) [ true ↦ length frames | false ↦ 0 ]

-- what has passed once an item's frames have, and the next number; none where the item names what isn't there
abbrev pub made_onto : List (List ℕ) → List Kept → (q : ℕ) → Leak → List Draw → Option (List (List ℕ) × ℕ)
made_onto texts kept q leak draws =
    option_map (λ frames. (texts ++ bytes_of (answer_of leak) frames, q + numbers_taken leak frames)) (frames_simulated kept q leak draws)

-- these texts passed for the greeting and the first k items, and this is the simulator after them
pub record HasRun (k : ℕ) (leaks : List Leak) (drawn : List (List Draw)) (texts : List (List ℕ)) (sim : Sim) : Type 0 where
  pub frames : List (List FrameText)
  pub goes : (rest : List Leak) (others : List (List Draw)) → simulated_from sim_at_first (take k leaks ++ rest) (take k drawn ++ others) ≡ ahead frames (simulated_from sim rest others)
  pub count : length (flat_map answer_of (take k leaks)) ≡ searches (flat_map (λ fs. fs) frames)
  pub passed : texts ≡ map passed_bytes (greeting 0) ++ map passed_bytes (exchange (flat_map answer_of (take k leaks)) (flat_map (λ fs. fs) frames))

-- something is made of each of the first k items, and so it is known what is kept of each
pub record CanRun (k : ℕ) (leaks : List Leak) (drawn : List (List Draw)) : Type 0 where
  pub texts : List (List ℕ)
  pub sim : Sim
  pub run : HasRun k leaks drawn texts sim
  pub kept : sim.kept ≡ kept_each (take k leaks) (take k drawn)
