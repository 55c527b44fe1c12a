use Rattle.std.proofs.Common.{◌≡◌, ◌<◌, ◌+◌, ◌%◌, ℕ, get_or}
use Rattle.std.specs.Prelude.{slice_index}
use Rattle.keyed_fn.proofs.toy.write_code.Given as goal

abbrev pub invariant-loop-i : goal.invariant-loop-i
invariant-loop-i l = (k : ℕ) → k < l.i → get_or l.out k 0 ≡ (slice_index l.key k + l.sum + k) % 256
