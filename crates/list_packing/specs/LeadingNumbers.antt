-- The numbers of a block without the zeros that it was filled with.
use Rattle.std.specs.Prelude.{ℕ, ◌+◌, ◌==◌, not, List, [], ◌∷◌, Option, Some, None, option_map, if◌then◌else◌}
use Rattle.std.specs.List.{list_all, position_from, position_or_len}

-- the numbers before the first zero; none where another number follows a zero
abbrev pub leading : List ℕ → Option (List ℕ)
leading [] = Some []
leading (n ∷ ns) =
    if n == 0 then (if list_all (λ m. m == 0) ns then Some [] else None)
    else option_map (λ later. n ∷ later) (leading ns)

-- how many numbers come before the first zero
abbrev pub leading_count : List ℕ → ℕ
leading_count numbers = position_or_len (λ n. n == 0) numbers

-- the first place after a zero at which another number stands, where these numbers begin at place i
abbrev pub first_hole_from : ℕ → List ℕ → Option ℕ
first_hole_from i [] = None
first_hole_from i (n ∷ ns) =
    if n == 0 then position_from (λ m. not (m == 0)) (i + 1) ns
    else first_hole_from (i + 1) ns

-- the first place after a zero at which another number stands
abbrev pub first_hole : List ℕ → Option ℕ
first_hole numbers = first_hole_from 0 numbers
