use Rattle.std.proofs.Common.{◌≡◌, drop}
use Rattle.std.specs.List.{position_from}
use Rattle.std.specs.Prelude.{nat_lt}
use Rattle.list_packing.specs.Numbers.{numbers_of}
use Rattle.two_level.specs.Read.{bad_pointer}
use Rattle.two_level.proofs.cell_reader.first_bad_pointer.Given as goal

-- the first bad pointer is the first one from here on
abbrev pub invariant-loop-place : goal.invariant-loop-place
invariant-loop-place l = bad_pointer l.blocks (numbers_of l.pointers) ≡ position_from (λ pointer. nat_lt l.blocks pointer) l.place (drop l.place (numbers_of l.pointers))
