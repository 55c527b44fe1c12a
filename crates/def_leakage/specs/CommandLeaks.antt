-- The leakage of each command of a run, by the commands before it and itself (docs/LEAKAGE.md).
use Rattle.std.specs.Prelude.{ℕ, ◌+◌, not, List, [], ◌∷◌, ◌++◌, length, map, flat_map, take, sum_by, position, bytes_eq, Option, None, Some, option_map, if◌then◌else◌}
use Rattle.std.specs.List.{range_with_len, enumerate_from}
use Rattle.client_registry.specs.Command.{Command, Add, Delete, Search}
use Rattle.client_registry.specs.Live.{live, is_listed, is_live_with, newly_listed, shown}
use Rattle.client_registry.specs.Over.{over}
use Rattle.client_registry.specs.Run.{Run, Offsets}
use Rattle.client_registry.specs.Setup.{Setup, setup_words, setup_list}
use Rattle.def_leakage.specs.Firsts.{origin, update_words, place_of, number_origin, first_search}
use Rattle.sse_model.specs.Positions.{word_blocks, entry_positions, block_positions}
use Rattle.sse_model.specs.Wire.{words_live}
use Rattle.sse_simulator.specs.Leaks.{Origin, Sent, NewEntry, Fresh, Again, Seen, WordLeak, Home, ListedLeak, Leak, SetupLeak, AddLeak, DeleteLeak, SearchLeak}

-- Updates.

-- a revocation number that was sent before is sent again
abbrev pub sent_at : Option Origin → Sent
sent_at None = Fresh
sent_at (Some first) = Again first

-- an update of this identifier shows it with each word that was searched before
abbrev pub seen_by : ℕ → Option ℕ → Option Seen
seen_by id search = option_map (λ search. record { search = search; id = id }) search

-- what an addition of this identifier shows of a word: a new entry where their pair isn't listed, and else its number
abbrev pub word_added : Offsets → Setup → List Command → (id : ℕ) → List ℕ → WordLeak
word_added o s past id word = record {
  sent = if is_listed s past word id then sent_at (number_origin o s past word id) else NewEntry;
  seen = seen_by id (first_search o past word);
}

-- what a deletion of this identifier shows of a word: the number of their pair
abbrev pub word_deleted : Offsets → Setup → List Command → (id : ℕ) → List ℕ → WordLeak
word_deleted o s past id word = record {
  sent = sent_at (number_origin o s past word id);
  seen = seen_by id (first_search o past word);
}

-- Searches.

-- where the setup holds a word: its number among the setup's words, and as many block positions after those of the words before
abbrev pub home : Setup → List ℕ → Option Home
home s word = option_map (λ i. record {
  entry = i;
  blocks = range_with_len (sum_by (word_blocks s) (take i (setup_words s))) (word_blocks s word);
}) (position (bytes_eq word) (setup_words s))

-- the pairs of a word that the setup lists, each with its place in the list
abbrev pub listed_in_setup : Offsets → Setup → List ℕ → List (ℕ × Origin)
listed_in_setup o s word = map (λ item. (item.1, origin o.command item.0)) (enumerate_from 0 (setup_list s word))

-- the pair of the word that a command is the first to list, with the word's place in it
abbrev pub listed_by : Offsets → Setup → List ℕ → List Command → Command → List (ℕ × Origin)
listed_by o s word past c =
    map (λ id. (id, origin (o.command + 1 + length past) (place_of word (update_words s past c)))) (newly_listed s word past c)

-- all pairs of a word that are listed, in the order in which a server finds them
abbrev pub listed_pairs : Offsets → Setup → List Command → List ℕ → List (ℕ × Origin)
listed_pairs o s past word = listed_in_setup o s word ++ flat_map (λ pairs. pairs) (over (listed_by o s word) [] past)

-- what a search shows of a pair
abbrev pub pair_leak : Offsets → Setup → List Command → List ℕ → (ℕ × Origin) → ListedLeak
pair_leak o s past word pair = record {
  id = pair.0;
  origin = pair.1;
  number = number_origin o s past word pair.0;
  revoked = not (is_live_with s past word pair.0);
}

-- Commands.

-- Promise P156 (inside): A setup leaks its shape and its counts with dummies, not Q; answers are right for every Q.
--   assumes: keyed function, kept limits, no collision; not: That a server learns nothing of Q: its counts are multiples of it, or zero.
-- of a setup: its shape, how many words it has, and how many blocks all lists take
abbrev pub leak_of_setup : ℕ → Setup → Leak
leak_of_setup epoch s = SetupLeak s.shape (length (entry_positions epoch s)) (length (block_positions epoch s))

-- of a command after these others
abbrev pub leak_by : Offsets → Setup → List Command → Command → Leak
leak_by o s past (Add d) = AddLeak (map (word_added o s past d.id) d.words)
leak_by o s past (Delete id) = DeleteLeak (map (word_deleted o s past id) (words_live (live s.documents past) id))
leak_by o s past (Search word) =
    SearchLeak (first_search o past word) (home s word) (map (pair_leak o s past word) (listed_pairs o s past word)) (shown s past word)

-- for each command of a run, setup first, what it leaks
abbrev pub leak : Offsets → Run → List Leak
leak o run = leak_of_setup o.epoch run.setup ∷ over (leak_by o run.setup) [] run.later
