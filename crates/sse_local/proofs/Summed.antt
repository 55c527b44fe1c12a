-- A run of a made script, and the line that is printed of it.
use Rattle.std.proofs.Common.{◌≡◌, ◌≢◌, ◌≤◌, ◌⊎◌, inl, inr, ℕ, Bool, true, false, nat_le, List, [], ◌++◌, take, Option, Some, refl, ap, subst, ◌∙◌, arith}
use Rattle.std.specs.Prelude.{IfSome, None, flat_map, map}
use Rattle.std.specs.Io.KnownBytes.{append_known}
use Rattle.std.proofs.lemmas.Bool.{leb-false, leb-true}
use Rattle.std.proofs.lemmas.List.{append-nil}
use Rattle.script_history.proofs.Ended.{ends_told, status_told, told-fault}
use Rattle.script_history.specs.Endings.{Seen, seen_of, stop_for}
use Rattle.keyed_fn.specs.KeyFormulas.{mark_of}
use Rattle.keyed_fn.specs.KeyedFn.{KeyedFn}
use Rattle.def_made_meaning.proofs.MadeOutcome.{made_text-end, made_text-ran}
use Rattle.script_made_lines.specs.Script.{made_text}
use Rattle.script_made_lines.specs.Summary.{made_summary}
use Rattle.script_run_texts.specs.Causes.{SinkCause}
use Rattle.script_run_texts.specs.Stops.{last_line, stop_cause, stop_of_sink, stop_status}
use Rattle.def_script_meaning.specs.Meaning.{meaning}
use Rattle.def_script_meaning.specs.Outcome.{said}
use Rattle.def_script_meaning.specs.Stops.{Stop, At, SinkFault, status_of, stop_text}
use Rattle.sse_client.specs.InProcess.{PrintsAsMeant, PrintsMeaning, RunsInProcess}
use Rattle.client_journal.specs.Shows.{SinkShows}
use Rattle.sse_outside.specs.Causes.{Rose}
use Rattle.sse_outside.specs.Fronts.{TookFront, TookOrRose}
use Rattle.sse_outside.specs.declared.device_fault.DeviceFault.{DeviceFault}
use Rattle.sse_outside.specs.declared.device_fault.DeviceFault.TheVariants as devices
use Rattle.sse_script.specs.Shown.{NoMemory}
use Rattle.sse_script.specs.Texts.{text_of}
use Rattle.sse_local.specs.Made.{HasMadeRun, IsSummedShort, LacksMemory, PrintsSummaryAsMeant, RunsMade, Tells}

-- The line.

-- a fault of the sink in printing it
pub sink-cause : (fault : DeviceFault) (before now : ℕ) → (fault ≡ devices.Failed → Rose before now) → (fault ≡ devices.NoMemory → now ≡ before) → SinkCause before now (stop_of_sink fault)
sink-cause devices.Failed before now failed no_memory = failed refl
sink-cause devices.NoMemory before now failed no_memory = no_memory refl

-- a summary that was printed in part
pub summed-short : (fault : DeviceFault) (documents : ℕ) (text : List ℕ) (now between last : Option (List ℕ)) (f0 f1 f2 s0 s1 s2 status : ℕ) → TookFront now between (made_summary documents text)
    → SinkCause f0 f1 (stop_of_sink fault) → s0 ≤ s1 → TookOrRose between last (last_line (stop_of_sink fault)) f1 f2 s1 s2 → status ≡ stop_status (stop_of_sink fault)
    → IsSummedShort documents text (seen_of now f0 s0) (seen_of last f2 s2) status
summed-short fault documents text now between last f0 f1 f2 s0 s1 s2 status front cause fewer took is = record {
  before = between;
  stop = stop_for (stop_cause (stop_of_sink fault));
  short = record { printed = front; stops = told-fault fault };
  ends = ends_told (stop_of_sink fault) now between last f0 f1 f2 s0 s1 s2 took cause fewer;
  status_is = status_told (stop_of_sink fault) status is;
}

-- The run.

-- what holds of what is left of a source, where that is known
pub known-is : (P : List ℕ → Type 0) (remaining : Option (List ℕ)) (script : List ℕ) → remaining ≡ Some script → IfSome remaining P → P script
known-is P None script is p = absurd (cc)
known-is P (Some bytes) script is p = let same : bytes ≡ script = cc in subst P same p

module _ (f : KeyedFn) (seed documents : ℕ) (few : documents ≤ 10000) where
  -- it came to the end of its script with nothing refused, or stopped for memory or for equal values
  pub made-status : (sink sink' : SinkShows) (status : ℕ) → RunsInProcess f (made_text seed documents) sink sink' status → status ≤ 9 → status ≢ 3 → status ≢ 4 → status ≢ 5 → status ≢ 6
      → (status ≡ 0) ⊎ ((7 ≤ status) × (status ≤ 9))
  made-status before after status run most source sink link disk = by (nat_le status 2) refl
    where
      by : (b : Bool) → nat_le status 2 ≡ b → (status ≡ 0) ⊎ ((7 ≤ status) × (status ≤ 9))
      by true e =
          let whole = run.run.run in
          let low = leb-true status 2 e in
          inl (whole.status_is ∙ ap status_of (made_text-ran f seed documents few _ whole.end whole.opens (omega (arith, low, whole.status_is))))
      by false e =
          let high = leb-false status 2 e in
          inr (omega (arith, high, source, sink, link, disk), most)

  -- what was printed is what the script means
  printed : (text : List ℕ) (status : ℕ) → PrintsMeaning (meaning (Some (mark_of f)) (made_text seed documents)) (Some []) (Some text) status
      → (status ≡ 0) × (text ≡ flat_map text_of (map said (meaning (Some (mark_of f)) (made_text seed documents)).shown))
  printed text status m =
      let at_end = made_text-end (Some (mark_of f)) seed documents few in
      let lines = flat_map text_of (map said (meaning (Some (mark_of f)) (made_text seed documents)).shown) in
      let nothing : stop_text (meaning (Some (mark_of f)) (made_text seed documents)).end ≡ [] = ap stop_text at_end in
      let same : Some text ≡ Some lines = m.printed ∙ ap (λ (rest : List ℕ). Some (lines ++ take m.q rest)) nothing ∙ ap (λ (rest : List ℕ). Some (lines ++ rest)) (none m.q) ∙ ap (λ b. Some b) (append-nil lines) in
      (m.status_is ∙ ap status_of at_end, inner same)
    where
      none : (q : ℕ) → take {A = ℕ} q [] ≡ []
      none q = grind arith

      inner : {a b : List ℕ} → Some a ≡ Some b → a ≡ b
      inner e = cc

  module _ (text : List ℕ) (run_status : ℕ) (now last : Seen) (status : ℕ) where
    pub made-run : RunsMade f seed documents (Some text) run_status → Tells documents text run_status now last status ⊎ LacksMemory now last status
        → HasMadeRun f seed documents now last status
    made-run runs (inl told) = inl (record { text = text; run_status = run_status; runs = runs; told = told })
    made-run runs (inr lacks) = inr lacks

    pub made-summary : (run_status ≢ 7 → PrintsAsMeant f (made_text seed documents) (Some []) (Some text) run_status) → Tells documents text run_status now last status ⊎ LacksMemory now last status
        → status ≢ 4 → status ≢ 7 → PrintsSummaryAsMeant f seed documents now.written last.written status
    made-summary meant (inr lacks) sink memory = absurd (memory lacks.status_is)
    made-summary meant (inl (inl (zero, inl summed))) sink memory = λ free.
        let were = printed text run_status (meant (λ e. omega (arith, e, zero)) free) in
        record { status_is = summed.status_is; printed = summed.printed ∙ ap (λ (lines : List ℕ). append_known now.written (made_summary documents lines)) were.1 }
    made-summary meant (inl (inl (zero, inr short))) sink memory = absurd (stopped short.stop short.short.stops short.status_is)
      where
        stopped : (stop : Stop) → (stop ≡ SinkFault) ⊎ (stop ≡ At NoMemory) → status ≡ status_of stop → ⊥
        stopped stop (inl is) same = sink (same ∙ ap status_of is)
        stopped stop (inr is) same = memory (same ∙ ap status_of is)
    made-summary meant (inl (inr (high, same, told))) sink memory = λ free.
        let were = printed text run_status (meant (λ e. memory (same ∙ e)) free) in
        absurd (omega (arith, high, were.0))
