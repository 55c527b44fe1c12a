-- The frames that a server receives, and then all traffic, made from the leakage and from drawn values only, command by command. Of each earlier
-- command a simulator keeps only the numbers that a deletion drew or the token that a search drew.
use Rattle.std.specs.Prelude.{ℕ, zero, suc, ◌+◌, Bool, true, false, List, [], ◌∷◌, ◌++◌, length, filter, drop, flat_map, Option, None, Some, option_map}
use Rattle.std.specs.List.{slice_get}
use Rattle.std.specs.Option.{option_and_then}
use Rattle.sse_frames.specs.Exchange.{Passed, exchange, greeting}
use Rattle.sse_frames.specs.Frames.{Entry, FrameText, AddFrame, DeleteFrame, SearchFrame}
use Rattle.sse_frames.specs.Order.{by_bytes}
use Rattle.sse_frames.specs.SentParts.{setup_frames}
use Rattle.sse_simulator.specs.Leaks.{Origin, NewEntry, Fresh, Again, WordLeak, Leak, SetupLeak, AddLeak, DeleteLeak, SearchLeak, Draw, EntryDraw, BlockDraw, NumberDraw, TokenDraw}

-- Draws by their kind.

-- the value of a draw, where it is one of this kind
abbrev pub as_entry : Draw → Option Entry
as_entry (EntryDraw entry) = Some entry
as_entry _ = None

abbrev pub as_block : Draw → Option Entry
as_block (BlockDraw block) = Some block
as_block _ = None

abbrev pub as_number : Draw → Option (List ℕ)
as_number (NumberDraw number) = Some number
as_number _ = None

abbrev pub as_token : Draw → Option (List ℕ)
as_token (TokenDraw token) = Some token
as_token _ = None

-- one in front of others, where both are there
abbrev pub before : {A : Type 0} → Option A → Option (List A) → Option (List A)
before None others = None
before (Some x) None = None
before (Some x) (Some xs) = Some (x ∷ xs)

-- the first n of these draws, where there are so many and each is of one kind
abbrev pub first_of : {A : Type 0} → (Draw → Option A) → ℕ → List Draw → Option (List A)
first_of kind zero draws = Some []
first_of kind (suc n) [] = None
first_of kind (suc n) (draw ∷ draws) = before (kind draw) (first_of kind n draws)

-- What is kept.

-- what is kept of a command for the later ones: the numbers that it drew, by place, or its token
pub data Kept : Type 0 where
  Nothing : Kept
  Numbers : List (Option (List ℕ)) → Kept
  Token : List ℕ → Kept

-- the number for a place
abbrev pub number_of : ℕ → Kept → Option (List ℕ)
number_of place Nothing = None
number_of place (Token token) = None
number_of place (Numbers numbers) = option_and_then (λ number. number) (slice_get numbers place)

abbrev pub token_of : Kept → Option (List ℕ)
token_of Nothing = None
token_of (Numbers numbers) = None
token_of (Token token) = Some token

-- the number that a command drew for a place
abbrev pub number_kept : List Kept → Origin → Option (List ℕ)
number_kept kept origin = option_and_then (number_of origin.place) (slice_get kept origin.command)

-- the token that a command drew
abbrev pub token_kept : List Kept → ℕ → Option (List ℕ)
token_kept kept command = option_and_then token_of (slice_get kept command)

-- Frames.

-- whether an addition sends a new entry for a word
abbrev pub is_entry : WordLeak → Bool
is_entry word = elim word.sent [ NewEntry ↦ true | Fresh ↦ false | Again origin ↦ false ]

-- the numbers of an addition's words, in their order: each was sent before
abbrev pub numbers_added : List Kept → List WordLeak → Option (List (List ℕ))
numbers_added kept [] = Some []
numbers_added kept (word ∷ words) = elim word.sent [
  | NewEntry ↦ numbers_added kept words
  | Fresh ↦ numbers_added kept words
  | Again origin ↦ before (number_kept kept origin) (numbers_added kept words)
]

-- the numbers of a deletion's words, in their order: a fresh one is the next draw
abbrev pub numbers_deleted : List Kept → List WordLeak → List Draw → Option (List (List ℕ))
numbers_deleted kept [] draws = Some []
numbers_deleted kept (word ∷ words) draws = elim word.sent [
  | NewEntry ↦ numbers_deleted kept words draws
  | Fresh ↦ before (option_and_then as_number (slice_get draws 0)) (numbers_deleted kept words (drop 1 draws))
  | Again origin ↦ before (number_kept kept origin) (numbers_deleted kept words draws)
]

-- the numbers that a deletion draws, by the places of its words
abbrev pub numbers_drawn : List WordLeak → List Draw → List (Option (List ℕ))
numbers_drawn [] draws = []
numbers_drawn (word ∷ words) draws = elim word.sent [
  | NewEntry ↦ None ∷ numbers_drawn words draws
  | Fresh ↦ option_and_then as_number (slice_get draws 0) ∷ numbers_drawn words (drop 1 draws)
  | Again origin ↦ None ∷ numbers_drawn words draws
]

-- the token of a search: the one of the first search of its word, or the next draw
abbrev pub token_shown : List Kept → Option ℕ → List Draw → Option (List ℕ)
token_shown kept None draws = option_and_then as_token (slice_get draws 0)
token_shown kept (Some earlier) draws = token_kept kept earlier

-- the frames of a command after those of which this is kept, the next update frame having the number q; None where it names
-- a command, a place or a draw that isn't there
abbrev pub frames_simulated : List Kept → (q : ℕ) → Leak → List Draw → Option (List FrameText)
frames_simulated kept q (SetupLeak shape words blocks) draws =
    option_and_then (λ entries. option_map (λ sealed. setup_frames q shape entries sealed) (first_of as_block blocks (drop words draws)))
    (first_of as_entry words draws)
frames_simulated kept q (AddLeak words) draws =
    option_and_then (λ entries. option_map (λ numbers. AddFrame q (by_bytes (λ entry. entry.label) entries) (by_bytes (λ number. number) numbers) ∷ []) (numbers_added kept words))
    (first_of as_entry (length (filter is_entry words)) draws)
frames_simulated kept q (DeleteLeak words) draws =
    option_map (λ numbers. DeleteFrame q (by_bytes (λ number. number) numbers) ∷ []) (numbers_deleted kept words draws)
frames_simulated kept q (SearchLeak earlier home listed found) draws =
    option_map (λ token. SearchFrame token ∷ []) (token_shown kept earlier draws)

-- what is kept of a command
abbrev pub kept_of : Leak → List Draw → Kept
kept_of (SetupLeak shape words blocks) draws = Nothing
kept_of (AddLeak words) draws = Nothing
kept_of (DeleteLeak words) draws = Numbers (numbers_drawn words draws)
kept_of (SearchLeak None home listed found) draws = elim (option_and_then as_token (slice_get draws 0)) [ None ↦ Nothing | Some token ↦ Token token ]
kept_of (SearchLeak (Some earlier) home listed found) draws = Nothing

-- whether its frames are updates, which are numbered
abbrev pub is_numbered : Leak → Bool
is_numbered (SetupLeak shape words blocks) = true
is_numbered (AddLeak words) = true
is_numbered (DeleteLeak words) = true
is_numbered (SearchLeak earlier home listed found) = false

-- the answer that it shows
abbrev pub answer_of : Leak → List (List ℕ)
answer_of (SetupLeak shape words blocks) = []
answer_of (AddLeak words) = []
answer_of (DeleteLeak words) = []
answer_of (SearchLeak earlier home listed found) = found ∷ []

-- Commands in a row.

-- a simulator: what is kept of each command so far, and the number of the next update frame
pub record Sim : Type 0 where
  pub kept : List Kept
  pub next : ℕ

abbrev pub sim_at_first : Sim
sim_at_first = record { kept = []; next = 0 }

-- after a command with these frames
abbrev pub sim_after : Sim → Leak → List Draw → List FrameText → Sim
sim_after sim leak draws frames = record {
  kept = sim.kept ++ kept_of leak draws ∷ [];
  next = sim.next + (elim (is_numbered leak) [ true ↦ length frames | false ↦ 0 ]);
}

-- the frames of each of these commands, from here on; None where one of them has none, or the leakage is longer than the draws
abbrev pub simulated_from : Sim → List Leak → List (List Draw) → Option (List (List FrameText))
simulated_from sim [] drawn = Some []
simulated_from sim (leak ∷ leaks) [] = None
simulated_from sim (leak ∷ leaks) (draws ∷ drawn) =
    option_and_then (λ frames. before (Some frames) (simulated_from (sim_after sim leak draws frames) leaks drawn))
    (frames_simulated sim.kept sim.next leak draws)

-- all that passes, from a server that has taken nothing: the greeting, then each frame with its replies, those to the searches being pages of the answers that the
-- leakage tells
abbrev pub simulated : List Leak → List (List Draw) → Option (List Passed)
simulated leaks drawn =
    option_map (λ frames. greeting sim_at_first.next ++ exchange (flat_map answer_of leaks) (flat_map (λ fs. fs) frames)) (simulated_from sim_at_first leaks drawn)
