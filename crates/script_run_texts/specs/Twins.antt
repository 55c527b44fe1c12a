-- The line between two scripts that are compared.
use Rattle.std.specs.Prelude.{ℕ, ◌^◌, Bool, false, List, [], ◌∷◌, length, nat_lt, codes, bytes_eq, if◌then◌else◌}
use Rattle.sse_script.specs.Fields.{fields_of}

-- whether these are the word `twin` alone
abbrev pub is_twin : List (List ℕ) → Bool
is_twin [] = false
is_twin (word ∷ []) = bytes_eq word (codes "twin")
is_twin (word ∷ next ∷ words) = false

-- whether a line of at most 2^19 bytes has this field alone
abbrev pub is_twin_line : List ℕ → Bool
is_twin_line bytes = if nat_lt (2 ^ 19) (length bytes) then false else is_twin (fields_of bytes)
