-- The wire and the replies of a run: for each command its frames, and their answers.
use Rattle.std.specs.Prelude.{ℕ, ◌+◌, ◌==◌, List, [], ◌∷◌, length, map, filter, flat_map, if◌then◌else◌}
use Rattle.client_registry.specs.Document.{Document}
use Rattle.client_registry.specs.Setup.{Setup}
use Rattle.client_registry.specs.Command.{Command, Add, Delete, Search, is_update}
use Rattle.client_registry.specs.Run.{Run, Offsets}
use Rattle.client_registry.specs.Over.{over}
use Rattle.client_registry.specs.Live.{live, shown}
use Rattle.client_registry.specs.Acceptance.{frames_needed}
use Rattle.std.specs.List.{range_with_len}
use Rattle.sse_frames.specs.Frames.{FrameText, AddFrame, DeleteFrame, SearchFrame}
use Rattle.sse_frames.specs.Replies.{ReplyText, Took}
use Rattle.sse_frames.specs.Order.{by_bytes}
use Rattle.sse_frames.specs.SentParts.{setup_frames, pages}
use Rattle.sse_model.specs.Names.{name, Token, Revocation, Table}
use Rattle.sse_model.specs.Positions.{Position, sealed, ranks_of, entry_positions, block_positions, addition_positions, listed_words}

-- the values of these positions' labels
abbrev pub labels_in : Table → List Position → List (List ℕ)
labels_in t positions = map (λ p. t p.label) positions

-- setup's frames: the entries by rising label, the blocks by rising tag, in their parts
abbrev pub frames_of_setup : Table → Offsets → Setup → List FrameText
frames_of_setup t o s =
    let ranks = ranks_of (labels_in t (block_positions o.epoch s)) in
    setup_frames o.frame s.shape
    (map (sealed t ranks) (entry_positions o.epoch s))
    (map (sealed t ranks) (block_positions o.epoch s))

-- the revocation numbers of these words with one identifier, rising
abbrev pub numbers_of_words : Table → ℕ → ℕ → List (List ℕ) → List (List ℕ)
numbers_of_words t epoch id words = by_bytes (λ number. number) (map (λ word. t (name epoch word Revocation id)) words)

-- the words of the live document of this identifier
abbrev pub words_live : List Document → ℕ → List (List ℕ)
words_live docs id = flat_map (λ d. if d.id == id then d.words else []) docs

-- the frames of a command after these others, an update's having the number q
abbrev pub frames_of : Table → ℕ → Setup → ℕ → List Command → Command → List FrameText
frames_of t epoch s q past (Add d) =
    AddFrame q (by_bytes (λ entry. entry.label) (map (sealed t []) (addition_positions epoch s past d)))
    (numbers_of_words t epoch d.id (listed_words s past d)) ∷ []
frames_of t epoch s q past (Delete id) =
    DeleteFrame q (numbers_of_words t epoch id (words_live (live s.documents past) id)) ∷ []
frames_of t epoch s q past (Search word) = SearchFrame (t (name epoch word Token 0)) ∷ []

-- the number of the next update frame after these commands
abbrev pub next_number : Offsets → Setup → List Command → ℕ
next_number o s past = o.frame + frames_needed s + length (filter is_update past)

-- for each command of a run, setup first, its frames
abbrev pub wire : Table → Offsets → Run → List (List FrameText)
wire t o run =
    frames_of_setup t o run.setup
    ∷ over (λ past c. frames_of t o.epoch run.setup (next_number o run.setup past) past c) [] run.later

-- the acknowledgements of so many update frames, from this number on
abbrev pub acknowledgements : ℕ → ℕ → List ReplyText
acknowledgements first count = map Took (range_with_len first count)

-- what the frames of a command are answered
abbrev pub replies_of : Offsets → Setup → List Command → Command → List ReplyText
replies_of o s past (Add d) = Took (next_number o s past) ∷ []
replies_of o s past (Delete id) = Took (next_number o s past) ∷ []
replies_of o s past (Search word) = pages (shown s past word)

-- for each command of a run, setup first, its replies
abbrev pub replies : Offsets → Run → List (List ReplyText)
replies o run =
    acknowledgements o.frame (frames_needed run.setup)
    ∷ over (replies_of o run.setup) [] run.later
