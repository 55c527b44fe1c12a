use Rattle.std.proofs.Common.{◌≡◌, ◌++◌, map, replicate}
use Rattle.std.specs.List.{range_with_len}
use Rattle.leakage_plaintexts.proofs.laid_texts.push_zeros.Given as goal

abbrev pub invariant-loop : goal.invariant-loop
invariant-loop l = l.texts ≡ l.initial.texts ++ map (λ i. replicate l.size 0) (range_with_len 0 l.counter)
