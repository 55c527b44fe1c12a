-- The reading of a block's numbers: how many stand before its zeros, or the first hole.
use Rattle.std.specs.Prelude.{ℕ, List, Result, Ok, Err}
use Rattle.std.specs.Option.{option_map_or}
use Rattle.list_packing.specs.LeadingNumbers.{leading_count, first_hole}
use Rattle.list_packing.specs.declared.hole.HoleInBlock.{HoleInBlock}

-- the answer for a block of these numbers: how many come before its zeros, or its first hole
abbrev pub unpacked : List ℕ → Result ℕ HoleInBlock
unpacked numbers = option_map_or (λ place. Err (record { 0 = place })) (first_hole numbers) (Ok (leading_count numbers))
