-- The prefix that a sink took of bytes that it didn't take whole.
use Rattle.std.specs.Prelude.{◌≡◌, ◌⊎◌, ◌<◌, ℕ, List, Option, length, take}
use Rattle.std.specs.Io.KnownBytes.{append_known}
use Rattle.sse_outside.specs.Causes.{Rose}

-- it took a proper front of these bytes, and nothing else
pub record TookFront (old new : Option (List ℕ)) (bytes : List ℕ) : Type 0 where
  pub n : ℕ
  pub short : n < length bytes
  pub taken : new ≡ append_known old (take n bytes)

-- it took all of these bytes, and its count of faults stayed; or a proper front of them, and its count of faults or that of
-- shortages rose
abbrev pub TookOrRose : (old new : Option (List ℕ)) (bytes : List ℕ) (faults faults_now shortages shortages_now : ℕ) → Type 0
TookOrRose old new bytes faults faults_now shortages shortages_now =
    ((new ≡ append_known old bytes) × (faults_now ≡ faults)) ⊎ (TookFront old new bytes × (Rose faults faults_now ⊎ Rose shortages shortages_now))
