-- Words that clap would take for flags.
use Rattle.std.specs.Prelude.{◌==◌, ℕ, Bool, false, List, [], ◌∷◌}
use Rattle.std.specs.List.{list_any}

-- whether a word begins with a hyphen
abbrev pub begins_with_hyphen : List ℕ → Bool
begins_with_hyphen [] = false
begins_with_hyphen (x ∷ xs) = x == 45

-- whether one of the words does
abbrev pub has_hyphen : List (List ℕ) → Bool
has_hyphen words = list_any begins_with_hyphen words
