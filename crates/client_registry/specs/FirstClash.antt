-- The first two equal values of a list.
use Rattle.std.specs.Prelude.{ℕ, List, [], Option, length, take, position, slice_get, slice_index_or, bytes_eq, option_map, filter_map}
use Rattle.std.specs.List.{range_with_len}

-- where the value at place j stands earlier: the first place that has it, and j
abbrev pub clash_at : List (List ℕ) → ℕ → Option (ℕ × ℕ)
clash_at xs j = option_map (λ i. (i, j)) (position (bytes_eq (slice_index_or xs j [])) (take j xs))

-- two places with equal values: the least second, then the least first
abbrev pub first_clash : List (List ℕ) → Option (ℕ × ℕ)
first_clash xs = slice_get (filter_map (clash_at xs) (range_with_len 0 (length xs))) 0
