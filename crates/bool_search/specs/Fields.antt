-- The fields of a query: its words, and the sign that each field is.
use Rattle.std.specs.Prelude.{ℕ, ◌&&◌, ◌==◌, nat_lt, List, [], ◌∷◌, length, map, filter_map, position, unwrap_or, codes, bytes_eq, Option, None, Some, if◌then◌else◌}
use Rattle.std.specs.List.{list_any}
use Rattle.client_registry.specs.Documents.{first_seen}
use Rattle.bool_search.specs.declared.sign.Sign.{Sign}
use Rattle.bool_search.specs.declared.sign.Sign.TheVariants.{Operand, And, Or, Not, Open, Close, Other}

-- the word of an operand, which is the byte `=` and at least one byte after it; other fields have none
abbrev pub operand_of : List ℕ → Option (List ℕ)
operand_of [] = None
operand_of (first ∷ word) = if first == 0x3d && nat_lt 0 (length word) then Some word else None

-- the operands of a query in their order, each without its `=`
abbrev pub operands : List (List ℕ) → List (List ℕ)
operands fields = filter_map operand_of fields

-- the different operands of a query in the order of their first appearance
abbrev pub words_of : List (List ℕ) → List (List ℕ)
words_of fields = first_seen (operands fields)

-- a word that is to stand after others: itself, or nothing if it is one of them
abbrev pub if_new : List (List ℕ) → List ℕ → List (List ℕ)
if_new words word = if list_any (bytes_eq word) words then [] else word ∷ []

-- the number of a word among others, from 0
abbrev pub number_in : List (List ℕ) → List ℕ → ℕ
number_in words word = unwrap_or (position (bytes_eq word) words) 0

-- a field that is no operand, as a sign
abbrev pub mark_of : List ℕ → Sign
mark_of field =
    if bytes_eq field (codes "and") then And
    else if bytes_eq field (codes "or") then Or
    else if bytes_eq field (codes "not") then Not
    else if bytes_eq field (codes "(") then Open
    else if bytes_eq field (codes ")") then Close
    else Other

-- a field with this operand, if it is one, as a sign; an operand is the number of its word
abbrev pub sign_by : List (List ℕ) → List ℕ → Option (List ℕ) → Sign
sign_by words field (Some word) = Operand (number_in words word)
sign_by words field None = mark_of field

-- a field as a sign
abbrev pub sign_in : List (List ℕ) → List ℕ → Sign
sign_in words field = sign_by words field (operand_of field)

-- the fields of a query as signs
abbrev pub signs_of : List (List ℕ) → List Sign
signs_of fields = map (sign_in (words_of fields)) fields
