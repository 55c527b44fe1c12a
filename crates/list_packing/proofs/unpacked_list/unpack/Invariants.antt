use Rattle.std.proofs.Common.{◌≡◌, drop}
use Rattle.std.specs.List.{position_from}
use Rattle.list_packing.specs.LeadingNumbers.{first_hole}
use Rattle.list_packing.specs.Numbers.{numbers_of}
use Rattle.list_packing.proofs.LeadingLemmas.{is_number}
use Rattle.list_packing.proofs.unpacked_list.unpack.Given as goal

-- the first hole is the first one from here on
abbrev pub invariant-loop-place : goal.invariant-loop-place
invariant-loop-place l = first_hole (numbers_of l.block) ≡ position_from is_number l.place (drop l.place (numbers_of l.block))
