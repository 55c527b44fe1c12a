-- How a run of calls on a disk goes on.
use Rattle.std.proofs.Common.{inl, inr, ⊎_elim, ℕ, List, arith}
use Rattle.sse_outside.specs.Images.{Elapses}
use Rattle.sse_journal.specs.AnyMoment.{LeavesOnly}

module _ {D : Type 0} (moment : D → ℕ) (left_since : D → ℕ → List ℕ → Type 0) where
  -- no call
  pub started : (disk : D) (P : List ℕ → Type 0) → ((c : List ℕ) → left_since disk (moment disk) c → P c) → LeavesOnly moment left_since disk disk P
  started disk P begins = record { begins = begins; later = omega arith; since = λ t le c left. inl left }

  -- two runs, one after the other
  pub goes_on_to : (a b c : D) (P : List ℕ → Type 0) → LeavesOnly moment left_since a b P → LeavesOnly moment left_since b c P → LeavesOnly moment left_since a c P
  goes_on_to a b c P first second = record {
    begins = first.begins;
    later = omega (arith, first.later, second.later);
    since = λ t le f left. ⊎_elim (first.since t le f) (λ has. inr has) (second.since t (omega (arith, le, first.later)) f left);
  }

  -- a run, and one call whose images have P
  pub goes_on : (a b c : D) (P images : List ℕ → Type 0) → LeavesOnly moment left_since a b P → Elapses (moment b) (moment c) (left_since b) (left_since c) images → ((f : List ℕ) → images f → P f) → LeavesOnly moment left_since a c P
  goes_on a b c P images first call has = record {
    begins = first.begins;
    later = omega (arith, first.later, call.later);
    since = λ t le f left. ⊎_elim (first.since t le f) (λ now. inr (has f now)) (call.nothing_else t f (omega (arith, le, first.later)) left);
  }

  -- what holds of each image then
  pub weakened : (a b : D) (P Q : List ℕ → Type 0) → ((f : List ℕ) → P f → Q f) → LeavesOnly moment left_since a b P → LeavesOnly moment left_since a b Q
  weakened a b P Q to run = record {
    begins = λ f left. to f (run.begins f left);
    later = run.later;
    since = λ t le f left. ⊎_elim (λ past. inl past) (λ has. inr (to f has)) (run.since t le f left);
  }

  -- what a crash may have left since the beginning
  pub each : (a b : D) (P : List ℕ → Type 0) → LeavesOnly moment left_since a b P → (f : List ℕ) → left_since b (moment a) f → P f
  each a b P run f left = ⊎_elim (run.begins f) (λ has. has) (run.since (moment a) (omega arith) f left)
