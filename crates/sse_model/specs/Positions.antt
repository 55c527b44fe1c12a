-- The encrypted texts: for each cell, block and new addition its label or tag, its pad, and its plaintext.
use Rattle.std.specs.Prelude.{ℕ, suc, ◌+◌, ◌&&◌, ◌||◌, not, Bool, List, [], ◌∷◌, ◌++◌, length, map, filter, take, drop, replicate, slice_index_or, bytes_eq, nat_lt, Option, None, Some}
use Rattle.std.specs.List.{range_with_len}
use Rattle.two_level.specs.Plan.{plan, block_count}
use Rattle.two_level.specs.Laid.{Laid, laid, cell_bytes, number_bytes}
use Rattle.keyed_fn.specs.Xored.{xored}
use Rattle.client_registry.specs.Acceptance.{dummy_entries, dummy_blocks}
use Rattle.client_registry.specs.Document.{Document}
use Rattle.client_registry.specs.Setup.{Setup, setup_words, setup_list}
use Rattle.client_registry.specs.Command.{Command}
use Rattle.client_registry.specs.Live.{counter, is_listed}
use Rattle.sse_frames.specs.Frames.{Entry, be64}
use Rattle.sse_frames.specs.Order.{is_below}
use Rattle.sse_model.specs.Names.{Name, name, no_word, ListLabel, ListPad, PlaceTag, PlusLabel, PlusPad, DummyLabel, DummyCell, DummyTag, DummyBlock, Table, cell_size, block_size}

-- one encrypted text: the name that it is found by, the name of its pad, and its plaintext under these ranks
pub record Position : Type 0 where
  pub label : Name
  pub pad : Name
  pub clear : List ℕ → List ℕ

-- how many blocks the list of a word takes
abbrev pub word_blocks : Setup → List ℕ → ℕ
word_blocks s word = block_count (plan s.shape (length (setup_list s word)))

-- the list of a word whose blocks begin at this position among all of setup's, under the ranks of all blocks
abbrev pub laid_at : Setup → ℕ → List ℕ → List ℕ → Option Laid
laid_at s first word ranks = laid s.shape (take (word_blocks s word) (drop first ranks)) (setup_list s word)

abbrev pub cell_text : Option Laid → List ℕ
cell_text None = []
cell_text (Some l) = cell_bytes l

abbrev pub block_text : ℕ → Option Laid → List ℕ
block_text i None = []
block_text i (Some l) = number_bytes (slice_index_or l.blocks i [])

abbrev pub entry_position : ℕ → Setup → ℕ → List ℕ → Position
entry_position epoch s first word = record {
  label = name epoch word ListLabel 0;
  pad = name epoch word ListPad 0;
  clear = λ ranks. cell_text (laid_at s first word ranks);
}

abbrev pub block_position : ℕ → Setup → ℕ → List ℕ → ℕ → Position
block_position epoch s first word i = record {
  label = name epoch word PlaceTag i;
  pad = name epoch word ListPad (suc i);
  clear = λ ranks. block_text i (laid_at s first word ranks);
}

-- the entries of these words, whose blocks begin at this position
abbrev pub entries_from : ℕ → Setup → ℕ → List (List ℕ) → List Position
entries_from epoch s first [] = []
entries_from epoch s first (word ∷ words) =
    entry_position epoch s first word ∷ entries_from epoch s (first + word_blocks s word) words

-- the blocks of these words
abbrev pub blocks_from : ℕ → Setup → ℕ → List (List ℕ) → List Position
blocks_from epoch s first [] = []
blocks_from epoch s first (word ∷ words) =
    map (block_position epoch s first word) (range_with_len 0 (word_blocks s word))
    ++ blocks_from epoch s (first + word_blocks s word) words

-- dummies: zeros under a pad of their own
abbrev pub dummy_entry : ℕ → Setup → ℕ → Position
dummy_entry epoch s i = record {
  label = name epoch no_word DummyLabel i;
  pad = name epoch no_word DummyCell i;
  clear = λ ranks. replicate (cell_size s.shape) 0;
}

abbrev pub dummy_block : ℕ → Setup → ℕ → Position
dummy_block epoch s j = record {
  label = name epoch no_word DummyTag j;
  pad = name epoch no_word DummyBlock j;
  clear = λ ranks. replicate (block_size s.shape) 0;
}

-- setup's entries, by word number, then the dummies
abbrev pub entry_positions : ℕ → Setup → List Position
entry_positions epoch s = entries_from epoch s 0 (setup_words s) ++ map (dummy_entry epoch s) (range_with_len 0 (dummy_entries s))

-- setup's blocks, by word number and then by block number, then the dummies
abbrev pub block_positions : ℕ → Setup → List Position
block_positions epoch s = blocks_from epoch s 0 (setup_words s) ++ map (dummy_block epoch s) (range_with_len 0 (dummy_blocks s))

-- the words of a document whose pair with it isn't listed, and those whose pair is, in the given order
abbrev pub fresh_words : Setup → List Command → Document → List (List ℕ)
fresh_words s past d = filter (λ word. not (is_listed s past word d.id)) d.words

abbrev pub listed_words : Setup → List Command → Document → List (List ℕ)
listed_words s past d = filter (λ word. is_listed s past word d.id) d.words

-- the new entries of an addition, in the document's order: each word's next counter, and the identifier
abbrev pub addition_positions : ℕ → Setup → List Command → Document → List Position
addition_positions epoch s past d = map (λ word. record {
  label = name epoch word PlusLabel (counter s past word);
  pad = name epoch word PlusPad (counter s past word);
  clear = λ ranks. be64 d.id;
}) (fresh_words s past d)

-- whether the tag at place i comes before the one at place j: it is smaller, or equal and earlier
abbrev pub comes_before : List (List ℕ) → ℕ → ℕ → Bool
comes_before tags j i =
    is_below (slice_index_or tags i []) (slice_index_or tags j [])
    || bytes_eq (slice_index_or tags i []) (slice_index_or tags j []) && nat_lt i j

-- the rank of each tag: how many come before it
abbrev pub ranks_of : List (List ℕ) → List ℕ
ranks_of tags =
    map (λ j. length (filter (comes_before tags j) (range_with_len 0 (length tags)))) (range_with_len 0 (length tags))

-- a position on the wire: its label, and its plaintext under its pad
abbrev pub sealed : Table → List ℕ → Position → Entry
sealed t ranks p = record { label = t p.label; text = xored (p.clear ranks) (t p.pad) }
