use Rattle.std.proofs.Common.{◌≡◌, get_or, map}
use Rattle.std.specs.Prelude.{bit_xor}
use Rattle.std.specs.List.{range_with_len}
use Rattle.leakage_draws.proofs.bytes.masked.Given as goal

abbrev pub invariant-loop-i : goal.invariant-loop-i
invariant-loop-i l = l.text ≡ map (λ i. bit_xor (get_or l.bytes i 0) (get_or l.pad i 0)) (range_with_len 0 l.i)
