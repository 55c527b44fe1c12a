-- The counts of a run's devices if it is never begun, and over devices with the same counts.
use Rattle.std.proofs.Common.{◌≡◌, ◌≢◌, ◌≤◌, ◌⊎◌, inl, inr, ℕ, List, Option, refl, subst, arith}
use Rattle.sse_outside.specs.Causes.{Rose}
use Rattle.sse_outside.specs.Fronts.{TookOrRose}
use Rattle.client_journal.specs.Counts.{TellsDevices}

module _ (source source' sink sink'' link link' disk disk' status : ℕ) (read : Type 0) where
  -- a run that ended before it was begun, for its disk, read, sent and received nothing
  pub devices-unopened : (status ≡ 6) ⊎ ((status ≡ 7) ⊎ ((status ≡ 10) ⊎ (status ≡ 11))) → source' ≡ source → link' ≡ link → (status ≡ 6 → Rose disk disk') → (status ≢ 6 → disk' ≡ disk)
      → TellsDevices source source' sink sink'' link link' disk disk' read status
  devices-unopened known s l failed steady =
      let least : 6 ≤ status = elim known [
        | inl e ↦ omega (arith, e)
        | inr (inl e) ↦ omega (arith, e)
        | inr (inr (inl e)) ↦ omega (arith, e)
        | inr (inr (inr e)) ↦ omega (arith, e)
      ] in
      record {
        at_end = λ most. absurd (omega (arith, most, least));
        source_failed = λ e. absurd (omega (arith, e, least));
        source_steady = λ _. s;
        sink_failed = λ e. absurd (omega (arith, e, least));
        sink_steady = λ most. absurd (omega (arith, most, least));
        link_failed = λ e. absurd (omega (arith, e, least));
        link_steady = λ _. l;
        disk_failed = failed;
        disk_steady = steady;
      }

-- other words ask nothing of a device but the last line
pub devices-idle : (source sink sink' link disk : ℕ) (read : Type 0) (status : ℕ) → status ≡ 2 → TellsDevices source source sink sink' link link disk disk read status
devices-idle source sink sink' link disk read status is = record {
  at_end = λ most. absurd (omega (arith, most, is));
  source_failed = λ e. absurd (omega (arith, e, is));
  source_steady = λ _. refl;
  sink_failed = λ e. absurd (omega (arith, e, is));
  sink_steady = λ most. absurd (omega (arith, most, is));
  link_failed = λ e. absurd (omega (arith, e, is));
  link_steady = λ _. refl;
  disk_failed = λ e. absurd (omega (arith, e, is));
  disk_steady = λ _. refl;
}

-- the same of a source and a disk whose counts were so before, and of a disk whose count is so behind
pub devices-on : (source source' sink sink' link link' disk disk' had_source had_disk has_disk status : ℕ) (read : Type 0) → source ≡ had_source → disk ≡ had_disk → disk' ≡ has_disk
    → TellsDevices source source' sink sink' link link' disk disk' read status → TellsDevices had_source source' sink sink' link link' had_disk has_disk read status
devices-on source source' sink sink' link link' disk disk' had_source had_disk has_disk status read s d d' tells =
    subst (λ n. TellsDevices had_source source' sink sink' link link' had_disk n read status) d'
    (subst (λ n. TellsDevices had_source source' sink sink' link link' n disk' read status) d (subst (λ n. TellsDevices n source' sink sink' link link' disk disk' read status) s tells))

-- what is printed in one piece leaves the sink's count, or a count of it rose
pub counts-took : (written written' : Option (List ℕ)) (bytes : List ℕ) (status f0 f2 s0 s2 : ℕ) → TookOrRose written written' bytes f0 f2 s0 s2 → (status ≢ 4 → f2 ≡ f0) ⊎ (Rose f0 f2 ⊎ Rose s0 s2)
counts-took written written' bytes status f0 f2 s0 s2 (inl whole) = inl (λ other. whole.1)
counts-took written written' bytes status f0 f2 s0 s2 (inr short) = inr short.1
