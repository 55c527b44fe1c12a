-- The lines of what a history leaks, as far as they were printed, and the last line.
use Rattle.std.proofs.Common.{◌≡◌, ◌<◌, ◌≤◌, ◌⊎◌, inr, ℕ, ◌+◌, Bool, List, [], ◌∷◌, ◌++◌, length, Option, None, Some, refl, sym, subst, arith}
use Rattle.std.specs.Prelude.{flat_map, Result, Ok, Err, IsErrAnd, IfSome, decimal, codes}
use Rattle.std.specs.List.{enumerate_from, concat}
use Rattle.std.specs.Io.KnownBytes.{append_known}
use Rattle.std.proofs.lemmas.List.{length-append}
use Rattle.client_registry.proofs.OverLaws.{length-over}
use Rattle.client_registry.specs.Epochs.{next_begins}
use Rattle.client_registry.specs.Run.{History, Epochs, From, Renewed}
use Rattle.keyed_fn.specs.KeyFormulas.{mark_of}
use Rattle.keyed_fn.specs.KeyedFn.{KeyedFn}
use Rattle.script_history.proofs.Ended.{nothing_more}
use Rattle.script_history.proofs.ReadingGoesOn.{first-reading}
use Rattle.script_history.specs.Endings.{EndsIn, StopsTelling, ending, seen_of, stop_for}
use Rattle.script_history.specs.Reads.{ReadEnd, Whole, ReadsFirstFrom}
use Rattle.script_history.specs.Reads.{Stopped as NotRead}
use Rattle.leakage_texts.specs.LeakTexts.{leak_text, text_of_leak}
use Rattle.script_run_texts.specs.Stops.{stop_cause}
use Rattle.script_run_texts.specs.declared.stop_cause.StopCause.{StopCause}
use Rattle.def_script_meaning.specs.Stops.{Stop, AtEnd, At, status_of}
use Rattle.def_leakage.specs.CommandLeaks.{leak, leak_by}
use Rattle.def_leakage.specs.Histories.{leak_in}
use Rattle.sse_script.specs.Shown.{BadLine, NoMemory}
use Rattle.sse_script.specs.TextLines.{lines_left}
use Rattle.sse_simulator.specs.Leaks.{Leak}
use Rattle.sse_leaks.specs.LeakReport.{GoesOn, HasPrintedLeaks, IsPrintedSo, history_lines, leak_lines}

-- Lines.

-- a history leaks no more often than it has commands, the setups among them
pub length-leaks : (es : Epochs) → length (leak_in (Some es)) ≤ (next_begins es).command
length-leaks (From o run) = omega (arith, length-over (leak_by o run.setup) [] run.later)
length-leaks (Renewed before key run) =
    let rest = leak (next_begins before) run in
    omega (arith, length-leaks before, length-append (leak_in (Some before)) rest, length-over (leak_by (next_begins before) run.setup) [] run.later)

-- but at least once
some_leak : (es : Epochs) → 0 < length (leak_in (Some es))
some_leak (From o run) = omega (arith, length-over (leak_by o run.setup) [] run.later)
some_leak (Renewed before key run) = omega (arith, some_leak before, length-append (leak_in (Some before)) (leak (next_begins before) run))

-- so there is a line
pub some_line : (es : Epochs) → 0 < length (history_lines es)
some_line es = by (leak_in (Some es)) (some_leak es)
  where
    by : (leaks : List Leak) → 0 < length leaks → 0 < length (leak_lines leaks)
    by [] some = absurd (omega (arith, some))
    by (first ∷ others) some =
        let rest = flat_map (λ e. text_of_leak e.0 e.1) (enumerate_from 1 others) in
        let behind = concat (leak_text first ∷ (10 ∷ []) ∷ []) in
        let whole : length (leak_lines (first ∷ others)) ≡ length (text_of_leak 0 first) + length rest = length-append (text_of_leak 0 first) rest in
        let line : length (text_of_leak 0 first) ≡ length (decimal 0) + length (codes ": " ++ behind) = length-append (decimal 0) (codes ": " ++ behind) in
        let two : length (codes ": " ++ behind) ≡ 2 + length behind = length-append (codes ": ") behind in
        omega (arith, whole, line, two)

-- nothing of them was printed
pub none_told : (es : Epochs) (written : Option (List ℕ)) (stop : Stop) → stop ≡ At NoMemory → StopsTelling (history_lines es) written written stop
none_told es written stop is = record {
  printed = record { n = 0; short = some_line es; taken = nothing_more written };
  stops = inr is;
}

-- How it goes on after a reading.

-- where there is a history
pub goes_told : (key : List ℕ) (h : History) (es : Epochs) (refused : Bool) (next : ℕ) (now last : Option (List ℕ)) (stop : Stop) → h ≡ Some es
    → ((last ≡ append_known now (history_lines es)) × (stop ≡ AtEnd refused)) ⊎ StopsTelling (history_lines es) now last stop → GoesOn (Whole key h refused next) now last stop
goes_told key h es refused next now last stop is told = subst (λ o. GoesOn (Whole key o refused next) now last stop) (sym is) told

-- and where there is none
pub goes_without : (key : List ℕ) (h : History) (refused : Bool) (next : ℕ) (now last : Option (List ℕ)) (stop : Stop) → h ≡ None → (last ≡ now) × (stop ≡ At (BadLine next)) → GoesOn (Whole key h refused next) now last stop
goes_without key h refused next now last stop is none = subst (λ o. GoesOn (Whole key o refused next) now last stop) (sym is) none

-- from the start of a script
pub told_so : (f : KeyedFn) (remaining : Option (List ℕ)) (number : ℕ) (pending : List ℕ) (now between last : Option (List ℕ)) (end : ReadEnd) (stop : Stop) → number ≡ 0 → pending ≡ []
    → ReadsFirstFrom (Some (mark_of f)) (number + 1) (lines_left pending remaining) now between end → GoesOn end between last stop → IfSome remaining (λ bytes. IsPrintedSo f bytes now last stop)
told_so f None number pending now between last end stop first none reads goes = tt
told_so f (Some bytes) number pending now between last end stop first none reads goes = record {
  end = end;
  between = between;
  reads = subst (λ n. ReadsFirstFrom (Some (mark_of f)) (n + 1) (lines_left [] (Some bytes)) now between end) first (subst (λ p. ReadsFirstFrom (Some (mark_of f)) (number + 1) (lines_left p (Some bytes)) now between end) none reads);
  goes_on = goes;
}

-- there was no memory to begin with
pub none_read : (f : KeyedFn) (remaining : Option (List ℕ)) (now : Option (List ℕ)) → IfSome remaining (λ bytes. IsPrintedSo f bytes now now (At NoMemory))
none_read f None now = tt
none_read f (Some bytes) now = record {
  end = NotRead (Some NoMemory);
  between = now;
  reads = first-reading (Some (mark_of f)) 1 now (lines_left [] (Some bytes)) (NotRead (Some NoMemory)) (inr refl);
  goes_on = (refl, refl);
}

-- what holds of a stop holds of the result that tells it
pub told-stopped : (f : KeyedFn) (remaining : Option (List ℕ)) (now last : Option (List ℕ)) (r : Result Bool StopCause) (stop : StopCause) → IsErrAnd r (λ e. e ≡ stop) → IfSome remaining (λ bytes. IsPrintedSo f bytes now last (stop_for (stop_cause stop)))
    → IfSome remaining (λ bytes. IsPrintedSo f bytes now last (ending r))
told-stopped f remaining now last (Ok refused) stop is told = absurd is
told-stopped f remaining now last (Err e) stop is told = subst (λ s. IfSome remaining (λ bytes. IsPrintedSo f bytes now last (stop_for (stop_cause s)))) (sym is) told

-- all of it
pub has_told : (f : KeyedFn) (remaining : Option (List ℕ)) (now before last : Option (List ℕ)) (f0 f2 s0 s2 : ℕ) (stop : Stop) (status : ℕ) → IfSome remaining (λ bytes. IsPrintedSo f bytes now before stop)
    → EndsIn stop before (seen_of now f0 s0) (seen_of last f2 s2) → status ≡ status_of stop → IfSome remaining (λ bytes. HasPrintedLeaks f bytes (seen_of now f0 s0) (seen_of last f2 s2) status)
has_told f None now before last f0 f2 s0 s2 stop status told ends is = tt
has_told f (Some bytes) now before last f0 f2 s0 s2 stop status told ends is = record { before = before; stop = stop; told = told; ends = ends; status_is = is }
