-- The keys, labels, pads and numbers of the store, over a keyed function and one key. There is one
-- master key. Under it each word has a key for each of six parts:
--
--   part   its key gives                       size        leaves the client
--   1      the label of the word's list        16 bytes    in the search token
--   2      the pads of the list                its text's  in the search token
--   3      the labels of the additions         16 bytes    in the search token
--   4      the pads of the additions           8 bytes     in the search token
--   5      revocation numbers                  16 bytes    in the search token
--   6      the place tags of the list's blocks 16 bytes    never
--
-- A number that is an input is written in 8 bytes, high byte first.
use Rattle.std.specs.Prelude.{ℕ, ◌+◌, List, [], ◌∷◌, ◌++◌, take}
use Rattle.std.specs.Int.{w64, to_be_bytes}
use Rattle.keyed_fn.specs.KeyedFn.{KeyedFn}

-- the 32-byte key of part p for a word: the function under the master key, at the byte p and the word's bytes
abbrev pub part_key : KeyedFn → List ℕ → ℕ → List ℕ → List ℕ
part_key f master p word = f.prf master (p ∷ word)

-- the 32-byte key of part p for no word: the function under the master key, at the byte p alone
abbrev pub plain_key : KeyedFn → List ℕ → ℕ → List ℕ
plain_key f master p = f.prf master (p ∷ [])

-- the 16-byte label of a word's list, under the key of part 1: the function at the number 0
abbrev pub list_label : KeyedFn → List ℕ → List ℕ
list_label f key = take 16 (f.prf key (to_be_bytes w64 0))

-- the pad of a list's cell of so many bytes, under the key of part 2: pad number 0
abbrev pub cell_pad : KeyedFn → List ℕ → ℕ → List ℕ
cell_pad f key len = f.pad key 0 len

-- the pad of block i of a list, of so many bytes, under the key of part 2: pad number i + 1
abbrev pub block_pad : KeyedFn → List ℕ → ℕ → ℕ → List ℕ
block_pad f key i len = f.pad key (i + 1) len

-- the 16-byte label of addition c of a word, under the key of part 3: the function at the number c
abbrev pub plus_label : KeyedFn → List ℕ → ℕ → List ℕ
plus_label f key c = take 16 (f.prf key (to_be_bytes w64 c))

-- the 8-byte pad of addition c of a word, under the key of part 4: pad number c
abbrev pub plus_pad : KeyedFn → List ℕ → ℕ → List ℕ
plus_pad f key c = f.pad key c 8

-- the 16-byte revocation number of an identifier, under the key of part 5: the function at the identifier
abbrev pub revocation : KeyedFn → List ℕ → ℕ → List ℕ
revocation f key id = take 16 (f.prf key (to_be_bytes w64 id))

-- the 16-byte place tag of block i of a list, under the key of part 6: the function at the number i
abbrev pub place_tag : KeyedFn → List ℕ → ℕ → List ℕ
place_tag f key i = take 16 (f.prf key (to_be_bytes w64 i))

-- the 160-byte search token of a word: its keys of the parts 1 to 5, in this order
abbrev pub token_of : KeyedFn → List ℕ → List ℕ → List ℕ
token_of f master word =
    part_key f master 1 word ++ part_key f master 2 word ++ part_key f master 3 word
    ++ part_key f master 4 word ++ part_key f master 5 word

-- the 16-byte key mark, by which a client knows its own key again: the front of the key of part 7 for no word
abbrev pub mark_of : KeyedFn → List ℕ → List ℕ
mark_of f master = take 16 (plain_key f master 7)
