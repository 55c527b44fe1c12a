-- The last line and the status behind what was done with scripts.
use Rattle.std.proofs.Common.{◌≡◌, ◌≢◌, ◌≤◌, ◌⊎◌, inl, inr, ℕ, Bool, List, [], length, Option, None, Some, refl, sym, ap, subst, ◌∙◌, arith}
use Rattle.std.specs.Option.{option_map_or}
use Rattle.std.specs.Io.KnownBytes.{append_known}
use Rattle.std.proofs.lemmas.List.{append-nil}
use Rattle.script_run_texts.specs.Causes.{SinkCause, SourceCause}
use Rattle.script_run_texts.specs.Stops.{last_line, stop_cause, stop_of_sink, stop_status}
use Rattle.script_run_texts.specs.declared.input_stop.InputStop.TheVariants as inputs
use Rattle.script_run_texts.specs.declared.stop_cause.StopCause.{StopCause}
use Rattle.script_run_texts.specs.declared.stop_cause.StopCause.TheVariants as stops
use Rattle.def_script_meaning.specs.Stops.{AtEnd, SinkFault, At, status_of, stop_text}
use Rattle.sse_outside.proofs.Fronts.{Rose-later}
use Rattle.sse_outside.specs.Fronts.{TookOrRose}
use Rattle.sse_outside.specs.declared.device_fault.DeviceFault.{DeviceFault}
use Rattle.sse_outside.specs.declared.device_fault.DeviceFault.TheVariants as devices
use Rattle.sse_script.specs.Shown.{Cause, NoMemory, Stopped}
use Rattle.sse_script.specs.Stops.{cause_status}
use Rattle.sse_script.specs.Texts.{text_of}
use Rattle.script_history.specs.Endings.{EndsIn, seen_of, stop_for}

-- nothing is printed behind what was
pub nothing_more : (written : Option (List ℕ)) → written ≡ append_known written []
nothing_more None = refl
nothing_more (Some bytes) = ap (λ b. Some b) (sym (append-nil bytes))

-- what a fault of the sink stops for
pub told-fault : (fault : DeviceFault) → (stop_for (stop_cause (stop_of_sink fault)) ≡ SinkFault) ⊎ (stop_for (stop_cause (stop_of_sink fault)) ≡ At NoMemory)
told-fault devices.Failed = inl refl
told-fault devices.NoMemory = inr refl

-- a stop for something else than the sink leaves its count
sink_same : (before now : ℕ) (stop : StopCause) → SinkCause before now stop → stop ≢ stops.Sink → now ≡ before
sink_same before now stops.Words cause other = cause
sink_same before now (stops.Input stop) cause other = cause
sink_same before now stops.Sink cause other = absurd (other refl)
sink_same before now stops.Memory cause other = cause
sink_same before now (stops.Command stop) cause other = cause

seen_status : (o : Option Cause) → option_map_or cause_status o 4 ≡ status_of (stop_for o)
seen_status None = refl
seen_status (Some cause) = refl

-- the status of a stop
pub status_told : (stop : StopCause) (status : ℕ) → status ≡ stop_status stop → status ≡ status_of (stop_for (stop_cause stop))
status_told stop status is = is ∙ seen_status (stop_cause stop)

seen_text : (o : Option Cause) → option_map_or (λ cause. text_of (Stopped cause)) o [] ≡ stop_text (stop_for o)
seen_text None = refl
seen_text (Some cause) = refl

-- what the last line and the sink's counts come to, where the count of faults stayed up to it unless the sink is what failed
pub ends_told : (stop : StopCause) (now before last : Option (List ℕ)) (f0 f1 f2 s0 s1 s2 : ℕ) → TookOrRose before last (last_line stop) f1 f2 s1 s2 → SinkCause f0 f1 stop → s0 ≤ s1
    → EndsIn (stop_for (stop_cause stop)) before (seen_of now f0 s0) (seen_of last f2 s2)
ends_told stop now before last f0 f1 f2 s0 s1 s2 took cause fewer = by (subst (λ text. TookOrRose before last text f1 f2 s1 s2) (seen_text (stop_cause stop)) took)
  where
    steady : stop_for (stop_cause stop) ≢ SinkFault → f1 ≡ f0
    steady other = sink_same f0 f1 stop cause (λ e. other (ap (λ s. stop_for (stop_cause s)) e))

    by : TookOrRose before last (stop_text (stop_for (stop_cause stop))) f1 f2 s1 s2 → EndsIn (stop_for (stop_cause stop)) before (seen_of now f0 s0) (seen_of last f2 s2)
    by (inl whole) = inl (whole.0, λ other. whole.1 ∙ steady other)
    by (inr (short, inl rose)) =
        let same : f1 ≡ f0 = steady (λ e. omega (arith, short.short, ap (λ s. length (stop_text s)) e)) in
        inr (short, inl (Rose-later f0 f1 f2 (omega (arith, same)) rose))
    by (inr (short, inr rose)) = inr (short, inr (Rose-later s0 s1 s2 fewer rose))

-- at the end nothing is printed behind the lines
pub ends_whole : (refused : Bool) (now last : Option (List ℕ)) (f0 f1 s0 s1 : ℕ) → f1 ≡ f0 → EndsIn (AtEnd refused) last (seen_of now f0 s0) (seen_of last f1 s1)
ends_whole refused now last f0 f1 s0 s1 same = inl (nothing_more last, λ other. same)

-- a stop for something else than the source leaves its count
pub source_same : (before now : ℕ) (stop : StopCause) → SourceCause before now stop → stop ≢ stops.Input inputs.Source → now ≡ before
source_same before now stops.Words cause other = cause
source_same before now (stops.Input (inputs.Line number)) cause other = cause
source_same before now (stops.Input inputs.Source) cause other = absurd (other refl)
source_same before now (stops.Input inputs.Memory) cause other = cause
source_same before now stops.Sink cause other = cause
source_same before now stops.Memory cause other = cause
source_same before now (stops.Command stop) cause other = cause
