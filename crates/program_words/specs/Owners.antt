-- The owners' numbers that words write.
use Rattle.std.specs.Prelude.{ℕ, ◌^◌, Bool, true, ◌&&◌, List, [], ◌∷◌, length, nat_le, nat_lt, Option, None, Some, if◌then◌else◌}
use Rattle.std.specs.Option.{option_and_then, option_map}
use Rattle.program_words.specs.Numbers.{numeral_below}

-- the number of an owner: one that fits in eight bytes
unfoldable pub owner_of : List ℕ → Option ℕ
owner_of word = numeral_below (2 ^ 64) word

-- the numbers that all of these words write; nothing if one of them writes none
abbrev pub numbers_of : List (List ℕ) → Option (List ℕ)
numbers_of [] = Some []
numbers_of (word ∷ words) = option_and_then (λ number. option_map (λ numbers. number ∷ numbers) (numbers_of words)) (owner_of word)

-- whether each number is above the one before it
abbrev pub rises_above : ℕ → List ℕ → Bool
rises_above number [] = true
rises_above number (next ∷ numbers) = nat_lt number next && rises_above next numbers

abbrev pub rises : List ℕ → Bool
rises [] = true
rises (number ∷ numbers) = rises_above number numbers

-- the numbers, if they rise
abbrev pub rising : List ℕ → Option (List ℕ)
rising numbers = if rises numbers then Some numbers else None

-- the numbers of one to 1,024 owners, which rise
abbrev pub owners_of : List (List ℕ) → Option (List ℕ)
owners_of words = if nat_le 1 (length words) && nat_le (length words) 1024 then option_and_then rising (numbers_of words) else None
