-- What is told of a script, where no device failed and memory wasn't wanting, is what the script means.
use Rattle.std.proofs.Common.{◌≡◌, ◌≢◌, inl, inr, ℕ, ◌+◌, List, [], ◌++◌, length, Option, None, Some, refl, sym, ap, subst, ◌∙◌, append_assoc}
use Rattle.std.specs.Prelude.{filter, flat_map, map}
use Rattle.std.specs.Io.KnownBytes.{append_known}
use Rattle.std.proofs.lemmas.List.{append-nil}
use Rattle.client_registry.specs.Run.{History}
use Rattle.script_history.proofs.MeaningLaws.{reads-meaning}
use Rattle.script_history.specs.Meant.{IsCalm, end_of, is_refused_line}
use Rattle.script_history.specs.Reads.{IsCountable, ReadEnd, Whole}
use Rattle.script_history.specs.Reads.{Stopped as NotRead}
use Rattle.def_script_meaning.specs.Lines.{script_lines}
use Rattle.def_script_meaning.specs.Meaning.{meaning}
use Rattle.keyed_fn.specs.KeyFormulas.{mark_of}
use Rattle.keyed_fn.specs.KeyedFn.{KeyedFn}
use Rattle.def_script_meaning.specs.Outcome.{said}
use Rattle.def_script_meaning.specs.Stops.{Stop, AtEnd, SinkFault, At}
use Rattle.sse_script.specs.Shown.{Cause, SourceFault, NoMemory}
use Rattle.sse_script.specs.Texts.{text_of}
use Rattle.script_history.specs.Endings.{stop_for}
use Rattle.sse_leaks.specs.LeakReport.{GoesOn, IsPrintedAs, IsPrintedSo, lines_at, stop_at}

known-append : (o : Option (List ℕ)) (xs ys : List ℕ) → append_known (append_known o xs) ys ≡ append_known o (xs ++ ys)
known-append None xs ys = refl
known-append (Some zs) xs ys = ap (λ ws. Some ws) (append_assoc zs xs ys)

known-nil : (o : Option (List ℕ)) → o ≡ append_known o []
known-nil None = refl
known-nil (Some xs) = ap (λ ys. Some ys) (sym (append-nil xs))

module _ (stop : Stop) (sink : stop ≢ SinkFault) (source : stop ≢ At SourceFault) (memory : stop ≢ At NoMemory) where
  -- the reading was calm
  calm : (end : ReadEnd) (between before : Option (List ℕ)) → GoesOn end between before stop → IsCalm end
  calm (Whole key h refused next) between before goes = record { sink = λ e. cc; source = λ e. cc; memory = λ e. cc }
  calm (NotRead None) between before goes = absurd (sink goes.1)
  calm (NotRead (Some cause)) between before goes = record {
    sink = λ e. cc;
    source = λ e. source (goes.1 ∙ ap (λ c. stop_for c) (cause_of e));
    memory = λ e. memory (goes.1 ∙ ap (λ c. stop_for c) (cause_of e));
  }
    where
      caused : ReadEnd → Option Cause
      caused (Whole key h refused next) = None
      caused (NotRead c) = c

      cause_of : {c : Option Cause} → NotRead (Some cause) ≡ NotRead c → Some cause ≡ c
      cause_of e = ap caused e

  -- what follows the reading is what the meaning has
  follows : (key : Option (List ℕ)) (h : History) (next : ℕ) (end : Stop) (between before : Option (List ℕ)) → GoesOn (end_of key h next end) between before stop
      → (stop ≡ stop_at h next end) × (before ≡ append_known between (lines_at end h))
  follows (Some key) (Some es) next (AtEnd refused) between before (inl told) = (told.1, told.0)
  follows (Some key) (Some es) next (AtEnd refused) between before (inr short) = absurd (elim short.stops [ inl e ↦ sink e | inr e ↦ memory e ])
  follows (Some key) None next (AtEnd refused) between before goes = (goes.1, goes.0 ∙ known-nil between)
  follows None h next (AtEnd refused) between before goes = absurd (sink goes.1)
  follows (Some key) h next SinkFault between before goes = absurd (sink goes.1)
  follows None h next SinkFault between before goes = absurd (sink goes.1)
  follows (Some key) (Some es) next (At cause) between before goes = (goes.1, goes.0 ∙ known-nil between)
  follows (Some key) None next (At cause) between before goes = (goes.1, goes.0 ∙ known-nil between)
  follows None (Some es) next (At cause) between before goes = (goes.1, goes.0 ∙ known-nil between)
  follows None None next (At cause) between before goes = (goes.1, goes.0 ∙ known-nil between)

  -- Promise P164, also here
  pub told-meaning : (f : KeyedFn) (bytes : List ℕ) (now before : Option (List ℕ)) → IsPrintedSo f bytes now before stop → IsCountable (meaning (Some (mark_of f)) bytes).history → IsPrintedAs (meaning (Some (mark_of f)) bytes) (length (script_lines bytes) + 1) now before stop
  told-meaning f bytes now before told countable =
      let m = meaning (Some (mark_of f)) bytes in
      let next = length (script_lines bytes) + 1 in
      let read = reads-meaning (Some (mark_of f)) bytes now told.between told.end told.reads (calm told.end told.between before told.goes_on) countable in
      let rest = follows m.key m.history next m.end told.between before (subst (λ end. GoesOn end told.between before stop) read.ends told.goes_on) in
      record {
        stop_is = rest.0;
        printed = rest.1 ∙ ap (λ p. append_known p (lines_at m.end m.history)) read.printed ∙ known-append now (flat_map text_of (filter is_refused_line (map said m.shown))) (lines_at m.end m.history);
      }
