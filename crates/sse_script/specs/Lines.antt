-- The grammar of a script's lines (docs/FORMATS.md).
use Rattle.std.specs.Prelude.{ℕ, ◌^◌, List, [], ◌∷◌, length, nat_lt, codes, Option, Some, None, option_map, if◌then◌else◌}
use Rattle.std.specs.Str.{bytes_eq}
use Rattle.sse_script.specs.Fields.{fields_of}
use Rattle.sse_script.specs.Numbers.{number_of, key_of}

-- what one line says
pub data Line : Type 0 where
  Empty : Line
  Key : (key : List ℕ) → Line
  Doc : (id : ℕ) (words : List (List ℕ)) → Line
  SetupLine : (b big pad : ℕ) → Line
  AddLine : (id : ℕ) (words : List (List ℕ)) → Line
  Del : (id : ℕ) → Line
  Find : (word : List ℕ) → Line
  Query : (fields : List (List ℕ)) → Line
  Rebuild : (key : List ℕ) → Line

-- `key` and `rebuild`: the key alone, 64 hexadecimal digits
abbrev pub key_alone : List (List ℕ) → Option (List ℕ)
key_alone (key ∷ []) = key_of key
key_alone _ = None

-- `doc` and `add`: a number, then any count of words
abbrev pub document_line : (ℕ → List (List ℕ) → Line) → List (List ℕ) → Option Line
document_line line (id ∷ words) = option_map (λ n. line n words) (number_of id)
document_line line [] = None

-- the setup line of these numbers, where each of them is one
abbrev pub setup_numbers : (b big pad : Option ℕ) → Option Line
setup_numbers (Some b) (Some big) (Some pad) = Some (SetupLine b big pad)
setup_numbers _ _ _ = None

-- `setup`: the numbers b and B, and Q, which is 1 where it is left out
abbrev pub setup_line : List (List ℕ) → Option Line
setup_line (b ∷ big ∷ []) = setup_numbers (number_of b) (number_of big) (Some 1)
setup_line (b ∷ big ∷ pad ∷ []) = setup_numbers (number_of b) (number_of big) (number_of pad)
setup_line _ = None

-- `del`: a number
abbrev pub delete_line : List (List ℕ) → Option Line
delete_line (id ∷ []) = option_map Del (number_of id)
delete_line _ = None

-- `find`: one word
abbrev pub find_line : List (List ℕ) → Option Line
find_line (word ∷ []) = Some (Find word)
find_line _ = None

-- a line by its first field; None where it isn't in the grammar
abbrev pub line_by_kind : List (List ℕ) → Option Line
line_by_kind [] = Some Empty
line_by_kind (kind ∷ fields) =
    if bytes_eq kind (codes "key") then option_map Key (key_alone fields)
    else if bytes_eq kind (codes "doc") then document_line Doc fields
    else if bytes_eq kind (codes "setup") then setup_line fields
    else if bytes_eq kind (codes "add") then document_line AddLine fields
    else if bytes_eq kind (codes "del") then delete_line fields
    else if bytes_eq kind (codes "find") then find_line fields
    else if bytes_eq kind (codes "query") then Some (Query fields)
    else if bytes_eq kind (codes "rebuild") then option_map Rebuild (key_alone fields)
    else None

-- the line of at most 2^19 bytes that these bytes are
abbrev pub line_of : List ℕ → Option Line
line_of bytes = if nat_lt (2 ^ 19) (length bytes) then None else line_by_kind (fields_of bytes)
