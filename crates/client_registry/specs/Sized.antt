-- The commands that are accepted, and the runs that keep all limits (docs/FORMATS.md).
use Rattle.std.specs.Prelude.{◌≡◌, ℕ, ◌+◌, ◌^◌, ◌<◌, ◌≤◌, Bool, true, not, ◌&&◌, ◌||◌, ◌-◌, nat_lt, List, [], ◌∷◌, ◌++◌, length, filter, flat_map, All, None}
use Rattle.std.specs.List.{list_all}
use Rattle.client_registry.specs.Acceptance.{frames_needed, size_refusal}
use Rattle.client_registry.specs.Command.{Command, Add, Delete, Search, is_update}
use Rattle.client_registry.specs.DocumentRule.{IsDocument}
use Rattle.client_registry.specs.Documents.{all_words, first_seen, is_live, IsCollected}
use Rattle.client_registry.specs.Live.{live, counter, is_listed}
use Rattle.client_registry.specs.Over.{over}
use Rattle.client_registry.specs.Run.{Run}
use Rattle.client_registry.specs.Setup.{Setup}
use Rattle.client_registry.specs.WordRule.{word_refusal}

-- whether a command is accepted after those before it: an identifier that isn't live and counters that aren't full, a live one, any search
abbrev pub is_accepted : Setup → List Command → Command → Bool
is_accepted s past (Add d) = not (is_live (live s.documents past) d.id) && list_all (λ word. is_listed s past word d.id || nat_lt (counter s past word) (2 ^ 32 - 1)) d.words
is_accepted s past (Delete id) = is_live (live s.documents past) id
is_accepted s past (Search word) = true

-- how many update frames a run takes
abbrev pub update_frames : Run → ℕ
update_frames run = frames_needed run.setup + length (filter is_update run.later)

-- what a command holds keeps the limits of words, documents and identifiers
abbrev pub IsSizedCommand : Command → Type 0
IsSizedCommand (Add d) = IsDocument d
IsSizedCommand (Delete id) = (1 ≤ id) × (id < 2 ^ 64)
IsSizedCommand (Search word) = word_refusal word ≡ None

-- what is so of every history: its documents and its setup are accepted, and so is each command after those before it
pub record IsHistory (run : Run) : Type 0 where
  pub collected : IsCollected run.setup.documents
  pub setup : size_refusal run.setup ≡ None
  pub each : All IsSizedCommand run.later
  pub accepted : list_all (λ accepted. accepted) (over (is_accepted run.setup) [] run.later) ≡ true

-- the words that a command names
abbrev pub words_named : Command → List (List ℕ)
words_named (Add d) = d.words
words_named (Delete id) = []
words_named (Search word) = word ∷ []

-- the different words of a run by first appearance: setup's, then those of each addition and each search
abbrev pub run_words : Run → List (List ℕ)
run_words run = first_seen (all_words run.setup.documents ++ flat_map words_named run.later)

-- a history whose commands, update frames and words can each be numbered in 32 bits
pub record IsSized (run : Run) : Type 0 where
  pub history : IsHistory run
  pub commands : length run.later + 1 < 2 ^ 32
  pub frames : update_frames run < 2 ^ 32
  pub words : length (run_words run) < 2 ^ 32
