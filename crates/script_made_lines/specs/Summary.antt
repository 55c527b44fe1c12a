-- The line that sums up a run of the made script, by the lines that the run printed.
use Rattle.std.specs.Prelude.{ℕ, ◌-◌, Bool, ◌&&◌, List, [], ◌∷◌, length, nat_eq, filter, codes, decimal, bytes_eq, Option, None, Some, if◌then◌else◌}
use Rattle.std.specs.List.{concat, count_by, starts_with, sum_by}
use Rattle.std.specs.Option.{option_map_or}
use Rattle.sse_script.specs.Fields.{is_space, fields_of}
use Rattle.sse_script.specs.Numbers.{number_of}
use Rattle.sse_script.specs.TextLines.{lines_of}

abbrev pub begins : (kind line : List ℕ) → Bool
begins kind line = starts_with nat_eq line kind

-- how many lines begin so
abbrev pub count_with : (kind : List ℕ) → List (List ℕ) → ℕ
count_with kind lines = length (filter (begins kind) lines)

-- the words and blocks of a setup
pub record Counts : Type 0 where
  pub words : ℕ
  pub blocks : ℕ

abbrev pub counts_of : (words blocks : Option ℕ) → Option Counts
counts_of (Some words) (Some blocks) = Some (record { words = words; blocks = blocks })
counts_of _ _ = None

-- those of a line `set up <m> words <a> blocks`, by its fields
abbrev pub counts_in : List (List ℕ) → Option Counts
counts_in (set ∷ up ∷ words ∷ called ∷ blocks ∷ rest) =
    if bytes_eq set (codes "set") && bytes_eq up (codes "up") then counts_of (number_of words) (number_of blocks) else None
counts_in _ = None

-- those of the first such line
abbrev pub first_counts : List (List ℕ) → Option Counts
first_counts [] = None
first_counts (line ∷ lines) = option_map_or Some (counts_in (fields_of line)) (first_counts lines)

-- how many identifiers a line `found <n>: <id> <id> ..` shows, each of them behind a space as the number is
abbrev pub identifiers_in : List ℕ → ℕ
identifiers_in line = if begins (codes "found ") line then count_by is_space line - 1 else 0

-- how many all of the lines show
abbrev pub identifiers_shown : List (List ℕ) → ℕ
identifiers_shown lines = sum_by identifiers_in lines

-- the line for so many documents, where a run printed these lines; it tells no words and no blocks where none of them is of a setup
abbrev pub summary_of : (documents : ℕ) (lines : List (List ℕ)) → List ℕ
summary_of documents lines =
    concat (codes "gen: " ∷ decimal documents ∷ codes " documents, "
    ∷ decimal (option_map_or (λ counts. counts.words) (first_counts lines) 0) ∷ codes " words, "
    ∷ decimal (option_map_or (λ counts. counts.blocks) (first_counts lines) 0) ∷ codes " blocks, "
    ∷ decimal (count_with (codes "deleted ") lines) ∷ codes " deleted, "
    ∷ decimal (count_with (codes "added ") lines) ∷ codes " added, 200 searches, "
    ∷ decimal (identifiers_shown lines) ∷ codes " identifiers" ∷ (10 ∷ []) ∷ [])

-- the same of the bytes that a run printed
abbrev pub made_summary : (documents : ℕ) (printed : List ℕ) → List ℕ
made_summary documents printed = summary_of documents (lines_of printed)
