-- The lines of the made script: docs/FORMATS.md, "The made script".
use Rattle.std.specs.Prelude.{ℕ, ◌+◌, ◌*◌, ◌/◌, List, ◌∷◌, ◌++◌, map, flat_map, replicate, codes, decimal}
use Rattle.std.specs.Int.{w64, to_be_bytes}
use Rattle.std.specs.List.{range_with_len}
use Rattle.hex.specs.Hex.{encode_lower}
use Rattle.script_made_lines.specs.Words.{made_words, searched_word}
use Rattle.script_made_lines.specs.declared.made_line.MadeLine.{MadeLine}
use Rattle.script_made_lines.specs.declared.made_line.MadeLine.TheVariants.{Key, Doc, SetUp, Delete, Add, Find}

-- behind the setup: the deletion of 10 t for t from 1 to N / 10; the addition of 20 t for t from 1 to N / 20, and of the N / 20
-- documents behind N; and 200 searches, numbered from 0
abbrev pub lines_behind_setup : ℕ → List MadeLine
lines_behind_setup n =
    map (λ t. Delete (10 * t)) (range_with_len 1 (n / 10))
    ++ (map (λ t. Add (20 * t)) (range_with_len 1 (n / 20))
    ++ (map Add (range_with_len (n + 1) (n / 20))
    ++ map Find (range_with_len 0 200)))

-- the lines for N documents: the key; the documents 1 to N and the setup; and those behind it
abbrev pub made_lines : ℕ → List MadeLine
made_lines n = Key ∷ map Doc (range_with_len 1 n) ++ SetUp ∷ lines_behind_setup n

-- the key: 24 zero bytes, and the seed in 8, high byte first
abbrev pub made_key : ℕ → List ℕ
made_key seed = replicate 24 0 ++ to_be_bytes w64 seed

-- the words of a line, each behind a space
abbrev pub words_text : List (List ℕ) → List ℕ
words_text words = flat_map (λ word. 32 ∷ word) words

-- a document's number and its words
abbrev pub document_text : (seed i : ℕ) → List ℕ
document_text seed i = decimal i ++ words_text (made_words seed i)

-- a line without its end
abbrev pub line_text : ℕ → MadeLine → List ℕ
line_text seed Key = codes "key " ++ encode_lower (made_key seed)
line_text seed (Doc id) = codes "doc " ++ document_text seed id
line_text seed SetUp = codes "setup 16 64"
line_text seed (Delete id) = codes "del " ++ decimal id
line_text seed (Add id) = codes "add " ++ document_text seed id
line_text seed (Find number) = codes "find " ++ searched_word seed number
