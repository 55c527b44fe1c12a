-- A vector whose elements were written through a slice.
use Rattle.std.proofs.Common.{◌≡◌, ℕ, ◌++◌, List, length, take, drop, arith}
use Rattle.std.proofs.lemmas.List.{take_at}

-- it holds what the slice holds
pub written_back : {X : Type 0} (new old : List X) (len : ℕ) → len ≡ length old → length new ≡ length old → take len (new ++ drop (length new) old) ≡ new
written_back new old len is same = take_at new (drop (length new) old) len (omega (arith, is, same))
