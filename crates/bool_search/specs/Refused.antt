-- Why fields are no query: the first cause that applies.
use Rattle.std.specs.Prelude.{ℕ, ◌+◌, nat_lt, List, [], ◌∷◌, length, Option, None, Some, if◌then◌else◌}
use Rattle.std.specs.Option.{option_map, option_or}
use Rattle.client_registry.specs.WordRule.{word_refusal}
use Rattle.bool_search.specs.declared.fault.QueryFault.{QueryFault}
use Rattle.bool_search.specs.declared.fault.QueryFault.TheVariants.{TooManyFields, BadQuery, BadWord}
use Rattle.bool_search.specs.Fields.{operands, signs_of}
use Rattle.bool_search.specs.Places.{first_bad}

-- the first operand that is no word, by its position; the first of these has this one
abbrev pub first_bad_word : (position : ℕ) → List (List ℕ) → Option QueryFault
first_bad_word position [] = None
first_bad_word position (word ∷ words) =
    option_or (option_map (λ fault. BadWord position fault) (word_refusal word)) (first_bad_word (position + 1) words)

-- there are more than 64 fields; or there is a bad place; or some operand is no word
abbrev pub query_refusal : List (List ℕ) → Option QueryFault
query_refusal fields =
    if nat_lt 64 (length fields) then Some (TooManyFields (length fields))
    else option_or (option_map BadQuery (first_bad (signs_of fields))) (first_bad_word 0 (operands fields))
