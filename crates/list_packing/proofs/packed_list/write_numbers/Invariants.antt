use Rattle.std.proofs.Common.{◌≡◌, ◌*◌, take}
use Rattle.list_packing.specs.Numbers.{number_bytes}
use Rattle.list_packing.proofs.packed_list.write_numbers.Given as goal

-- the bytes so far are those of the numbers so far
abbrev pub invariant-loop-i : goal.invariant-loop-i
invariant-loop-i l = take (8 * l.i) l.out ≡ number_bytes (take l.i l.numbers)
