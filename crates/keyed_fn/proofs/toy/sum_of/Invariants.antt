use Rattle.std.proofs.Common.{◌≡◌, ◌<◌, ◌+◌, ◌*◌, ◌%◌, map}
use Rattle.std.specs.Prelude.{slice_index, sum}
use Rattle.std.specs.List.{range_with_len}
use Rattle.keyed_fn.proofs.toy.sum_of.Given as goal

abbrev pub invariant-loop-j : goal.invariant-loop-j
invariant-loop-j l = record {
  low : l.sum < 256;
  so_far : l.sum ≡ sum (map (λ j. (j + 1) * slice_index l.bytes j) (range_with_len 0 l.j)) % 256;
}
