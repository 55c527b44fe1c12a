-- The words of the made script: docs/FORMATS.md, "The made script". Numbers are decimal.
use Rattle.std.specs.Prelude.{ℕ, ◌+◌, ◌*◌, ◌-◌, ◌%◌, List, ◌∷◌, ◌++◌, ◌==◌, nat_le, map, codes, decimal, if◌then◌else◌}
use Rattle.std.specs.List.{range_with_len}

-- the words w that document i has, by j from 0 to 56
abbrev pub shared_word : (seed i j : ℕ) → List ℕ
shared_word seed i j = codes "w" ++ decimal ((i + seed + 17 * j) % 1000)

-- the 60 words of document i, in their order
abbrev pub made_words : (seed i : ℕ) → List (List ℕ)
made_words seed i =
    codes "all" ∷ (codes "m" ++ decimal (i % 10)) ∷ (codes "u" ++ decimal i) ∷ map (shared_word seed i) (range_with_len 0 57)

-- the word of search s, of those from 0 to 199
abbrev pub searched_word : (seed s : ℕ) → List ℕ
searched_word seed s =
    if s == 0 then codes "all"
    else if nat_le s 10 then codes "m" ++ decimal (s - 1)
    else codes "w" ++ decimal ((seed + 5 * s) % 1000)
