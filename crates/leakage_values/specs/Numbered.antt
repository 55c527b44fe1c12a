-- The names of a run as a program has them, each word by its number.
use Rattle.std.specs.Prelude.{ℕ, ◌-◌, ◌^◌, List, position, bytes_eq, unwrap_or}
use Rattle.leakage_values.specs.declared.drawn.Drawing.{Drawing}
use Rattle.leakage_values.specs.declared.drawn.Drawing.TheVariants as codes
use Rattle.leakage_names.specs.declared.name.Name as values
use Rattle.leakage_names.specs.declared.name.NameKind.{NameKind}
use Rattle.leakage_names.specs.declared.name.NameKind.TheVariants as kinds
use Rattle.def_leakage.specs.DrawnValues.{ForEntry, ForBlock, ForNumber, ForToken}
use Rattle.def_leakage.specs.DrawnValues as model
use Rattle.sse_model.specs.Names.{Name, Kind, Token, ListLabel, ListPad, PlusLabel, PlusPad, Revocation, PlaceTag, DummyLabel, DummyCell, DummyTag, DummyBlock}

abbrev pub kind_in_code : Kind → NameKind
kind_in_code Token = kinds.Token
kind_in_code ListLabel = kinds.ListLabel
kind_in_code ListPad = kinds.ListPad
kind_in_code PlusLabel = kinds.PlusLabel
kind_in_code PlusPad = kinds.PlusPad
kind_in_code Revocation = kinds.Revocation
kind_in_code PlaceTag = kinds.PlaceTag
kind_in_code DummyLabel = kinds.DummyLabel
kind_in_code DummyCell = kinds.DummyCell
kind_in_code DummyTag = kinds.DummyTag
kind_in_code DummyBlock = kinds.DummyBlock

-- what stands in the place of a word's number where there is none: 2^32-1
abbrev pub no_number : ℕ
no_number = 2 ^ 32 - 1

-- the number of a word among these, from 0
abbrev pub number_of_word : List (List ℕ) → List ℕ → ℕ
number_of_word words word = unwrap_or (position (bytes_eq word) words) no_number

-- a dummy is of no word
abbrev pub number_for : List (List ℕ) → Kind → List ℕ → ℕ
number_for words DummyLabel word = no_number
number_for words DummyCell word = no_number
number_for words DummyTag word = no_number
number_for words DummyBlock word = no_number
number_for words _ word = number_of_word words word

-- a name with its word by its number among these
abbrev pub numbered : List (List ℕ) → Name → values.Name
numbered words n = record { epoch = n.epoch; word = number_for words n.kind n.word; kind = kind_in_code n.kind; number = n.number }

-- what a value is drawn for, by the numbers of words
abbrev pub numbered_drawing : List (List ℕ) → model.Drawing → Drawing
numbered_drawing words (ForEntry p) = codes.Entry (numbered words p.label) (numbered words p.pad)
numbered_drawing words (ForBlock p) = codes.Block (numbered words p.label) (numbered words p.pad)
numbered_drawing words (ForNumber n) = codes.Number (numbered words n)
numbered_drawing words (ForToken n) = codes.Token (numbered words n)
