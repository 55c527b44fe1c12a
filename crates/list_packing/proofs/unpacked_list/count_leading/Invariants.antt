use Rattle.std.proofs.Common.{◌≡◌, ℕ, ◌==◌, ◌<◌, false, get_or}
use Rattle.list_packing.specs.Numbers.{numbers_of}
use Rattle.list_packing.proofs.unpacked_list.count_leading.Given as goal

-- none of the numbers so far is zero
abbrev pub invariant-loop-place : goal.invariant-loop-place
invariant-loop-place l = (k : ℕ) → k < l.place → (get_or (numbers_of l.numbers) k 0 == 0) ≡ false
