use Rattle.std.proofs.Common.{◌≡◌, ◌*◌, take}
use Rattle.list_packing.specs.Numbers.{number_bytes}
use Rattle.two_level.specs.Laid.{pointers}
use Rattle.two_level.proofs.cell_writer.write_pointers.Given as goal

-- the bytes so far are those of the pointers so far
abbrev pub invariant-loop-i : goal.invariant-loop-i
invariant-loop-i l = take (8 * l.i) l.out ≡ number_bytes (take l.i (pointers l.ranks))
