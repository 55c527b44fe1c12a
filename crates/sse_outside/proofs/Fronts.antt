-- Fronts that a sink took, and counts that rose.
use Rattle.std.proofs.Common.{◌≡◌, ◌≤◌, ℕ, List, length, take, Option, inl, inr, sym, ap, ◌∙◌, arith}
use Rattle.std.specs.Io.KnownBytes.{append_known}
use Rattle.std.proofs.Math.Seq.{take-length}
use Rattle.sse_outside.specs.Causes.{Rose}
use Rattle.sse_outside.specs.Fronts.{TookOrRose}

-- a count that rose later rose
pub Rose-later : (a b c : ℕ) → a ≤ b → Rose b c → Rose a c
Rose-later a b c before rose = omega (arith, before, rose)

-- what was taken is a front, proper or not
pub took_front : (old new : Option (List ℕ)) (bytes : List ℕ) (faults faults_now shortages shortages_now : ℕ) → TookOrRose old new bytes faults faults_now shortages shortages_now
    → (n : ℕ) × (new ≡ append_known old (take n bytes))
took_front old new bytes faults faults_now shortages shortages_now (inl whole) = (length bytes, whole.0 ∙ ap (append_known old) (sym (take-length bytes)))
took_front old new bytes faults faults_now shortages shortages_now (inr short) = (short.0.n, short.0.taken)
