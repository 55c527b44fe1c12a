-- The last line of a run, whole or short.
use Rattle.std.proofs.Common.{◌≡◌, ◌≢◌, ◌≤◌, ◌⊎◌, ℕ, List, length, Option, inl, inr, sym, ap, ◌∙◌, arith}
use Rattle.std.specs.Io.KnownBytes.{append_known}
use Rattle.std.proofs.Math.Seq.{take-length}
use Rattle.sse_outside.proofs.Fronts.{Rose-later}
use Rattle.sse_outside.specs.Causes.{Rose}
use Rattle.sse_outside.specs.Fronts.{TookOrRose}
use Rattle.def_script_meaning.specs.Carries.{Outside}
use Rattle.def_script_meaning.specs.Runs.{Ended, Ends}
use Rattle.def_script_meaning.specs.Stops as ends
use Rattle.def_script_meaning.specs.Stops.{status_of, stop_text}
use Rattle.sse_client.specs.LastLine.{EndsLine}

-- what it and the sink's counts come to, where the count of faults stayed up to it unless the sink is what failed
pub ends_line : (stop : ends.Stop) (written written' : Option (List ℕ)) (status f0 f1 f2 s0 s1 s2 : ℕ) → status ≡ status_of stop → TookOrRose written written' (stop_text stop) f1 f2 s1 s2
    → (stop ≢ ends.SinkFault → f1 ≡ f0) → s0 ≤ s1 → EndsLine stop written written' status f0 f2 s0 s2
ends_line stop written written' status f0 f1 f2 s0 s1 s2 is (inl whole) steady fewer = inl (whole.0, λ other. whole.1 ∙ steady (λ e. other (is ∙ ap status_of e)))
ends_line stop written written' status f0 f1 f2 s0 s1 s2 is (inr (short, inl rose)) steady fewer =
    let before : f1 ≡ f0 = steady (λ e. omega (arith, short.short, ap (λ s. length (stop_text s)) e)) in
    inr (short, inl (Rose-later f0 f1 f2 (omega (arith, before)) rose))
ends_line stop written written' status f0 f1 f2 s0 s1 s2 is (inr (short, inr rose)) steady fewer = inr (short, inr (Rose-later s0 s1 s2 fewer rose))

-- what follows a run's end is a front of its last line
pub Ends-line : (end : Ended) (last : Outside) (status f0 f2 s0 s2 : ℕ) → last.told ≡ end.outside.told → last.kept ≡ end.outside.kept → EndsLine end.stop end.outside.written last.written status f0 f2 s0 s2 → Ends end last
Ends-line end last status f0 f2 s0 s2 told kept (inl whole) =
    record { told = told; kept = kept; q = length (stop_text end.stop); printed = whole.0 ∙ ap (append_known end.outside.written) (sym (take-length (stop_text end.stop))) }
Ends-line end last status f0 f2 s0 s2 told kept (inr short) = record { told = told; kept = kept; q = short.0.n; printed = short.0.taken }

-- The counts alone.

pub counts-line : (stop : ends.Stop) (written written' : Option (List ℕ)) (status f0 f2 s0 s2 : ℕ) → EndsLine stop written written' status f0 f2 s0 s2 → (status ≢ 4 → f2 ≡ f0) ⊎ (Rose f0 f2 ⊎ Rose s0 s2)
counts-line stop written written' status f0 f2 s0 s2 (inl whole) = inl whole.1
counts-line stop written written' status f0 f2 s0 s2 (inr short) = inr short.1
