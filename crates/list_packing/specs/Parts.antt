-- A list cut into parts of one width, the last one filled with zeros.
use Rattle.std.specs.Prelude.{ℕ, ◌-◌, List, ◌++◌, length, map, replicate}
use Rattle.std.specs.Int.{div_ceil}
use Rattle.std.specs.Simd.{first_chunks}

-- a list cut into parts of `width` elements, as many as it takes; the last part may have fewer
abbrev pub parts : {X : Type 0} → ℕ → List X → List (List X)
parts width xs = first_chunks width (div_ceil (length xs) width) xs

-- numbers followed by zeros, up to `width` numbers in all
abbrev pub filled : ℕ → List ℕ → List ℕ
filled width numbers = numbers ++ replicate (width - length numbers) 0

-- numbers packed into blocks of `width`, the last one filled with zeros
abbrev pub blocks : ℕ → List ℕ → List (List ℕ)
blocks width numbers = map (filled width) (parts width numbers)
