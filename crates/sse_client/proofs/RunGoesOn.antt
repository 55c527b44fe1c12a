-- A run over the lines of a script: one command, each way out of the loop over the lines, and each turn of it.
use Rattle.std.proofs.Common.{◌≡◌, ◌⊎◌, inl, inr, ℕ, ◌+◌, ◌<◌, Bool, true, false, ◌||◌, List, [], length, nat_lt, refl, sym, ap, subst, ◌∙◌}
use Rattle.std.specs.Prelude.{Option, None, Some, Result, Ok, Err, IfErr, IsErrAnd, IfSome, option_map, flat_map, map, ◌^◌, if◌then◌else◌}
use Rattle.std.specs.Io.KnownBytes.{append_known}
use Rattle.std.proofs.lemmas.Bool.{lt-ltb}
use Rattle.client_registry.specs.Histories.{empty}
use Rattle.client_registry.specs.Live.{in_order}
use Rattle.client_registry.specs.Run.{History}
use Rattle.keyed_fn.specs.KeyedFn.{KeyedFn}
use Rattle.sse_outside.specs.declared.device_fault.DeviceFault.{DeviceFault}
use Rattle.sse_outside.specs.declared.device_fault.DeviceFault.TheVariants as devices
use Rattle.sse_outside.specs.Fronts.{TookFront}
use Rattle.sse_script.specs.Lines as read
use Rattle.sse_script.specs.Lines.{line_of}
use Rattle.sse_script.specs.Shown.{BadLine, NoMemory}
use Rattle.sse_script.specs.TextLines.{TakesLine, SkipsLine}
use Rattle.sse_script.specs.Texts.{text_of}
use Rattle.sse_script.specs.Views.{line_view}
use Rattle.sse_script.specs.declared.line.Line.{Line as ReadLine}
use Rattle.sse_script.specs.declared.line.Line.TheVariants as reads
use Rattle.def_script_meaning.proofs.FollowedPlaces.{after-key}
use Rattle.def_script_meaning.proofs.Steps.{IsBad, IsBadFirst, Continues, runs-reading, runs-end, runs-bad, runs-stopped, continues-empty, continues-next, ContinuesOpening, opens-reading, opens-end, opens-bad, opening-empty}
use Rattle.def_script_meaning.specs.Carries.{Outside, with_answers, text_with}
use Rattle.def_script_meaning.specs.Lines.{Empty, Command, Request, line_read, line_in}
use Rattle.def_script_meaning.specs.Outcome.{Place, Outcome, outcome, after, shown_by}
use Rattle.def_script_meaning.specs.Runs.{Ended, ended, Moment, moment, RunsFrom, OpensFrom, OpensAtKey}
use Rattle.def_script_meaning.specs.Stops as ends
use Rattle.script_run_texts.specs.LineResultViews.{line_result_view, refuses}
use Rattle.sse_client.specs.Stands.{IsAt, Seen, Takes, outside_of, stop_view, CarriesOut, StopsRun, EndsFrom}
use Rattle.sse_client.specs.Turns.{IsThere, LeadsTo, ending}
use Rattle.sse_client.specs.declared.lines.Refusals.{Refusals}
use Rattle.sse_client.specs.declared.lines.Turn.{Turn}
use Rattle.script_run_texts.specs.Stops.{input_cause, stop_of_sink}
use Rattle.script_run_texts.specs.declared.line_result.LineResult.{LineResult}
use Rattle.sse_client.specs.declared.session.Stage.{Stage}
use Rattle.script_run_texts.specs.declared.input_stop.InputStop.{InputStop}
use Rattle.script_run_texts.specs.declared.input_stop.InputStop.TheVariants as inputs
use Rattle.script_run_texts.specs.declared.stop_cause.StopCause.{StopCause}

-- One command.

-- the text of an outcome is that of the lines with the answers that came
text_of_came : (answers : List (List ℕ)) (came : LineResult) (result : Outcome) → line_result_view came ≡ with_answers (map in_order answers) (shown_by result) → flat_map text_of (line_result_view came) ≡ text_with answers (shown_by result)
text_of_came answers came result e = ap (flat_map text_of) e

-- a fault of the sink stops a run, or want of memory in it does
pub sink_stop : (fault : DeviceFault) → (stop_view (stop_of_sink fault) ≡ ends.SinkFault) ⊎ (stop_view (stop_of_sink fault) ≡ ends.At NoMemory)
sink_stop devices.Failed = inl refl
sink_stop devices.NoMemory = inr refl

module _ (f : KeyedFn) (stage next : Stage) (came : LineResult) (request : Request) (old new : Seen) (before after_it : Option (List ℕ)) (takes : Takes f stage request old new next came) where
  -- its lines were printed
  pub carries-printed : after_it ≡ append_known before (flat_map text_of (line_result_view came)) → CarriesOut f stage request (outside_of old before) (outside_of new after_it) next (refuses came)
  carries-printed printed = λ place at.
      let g = takes place at in
      record {
        carries = record { kept = g.kept; answers = g.answers; sent = g.sent; printed = printed ∙ ap (append_known before) (text_of_came g.answers came (outcome place request) g.shown) };
        stands = g.stands;
        refuses = g.refuses;
      }

  -- or a front of them, and the run stops
  pub stops-unprinted : (fault : DeviceFault) → TookFront before after_it (flat_map text_of (line_result_view came)) → StopsRun f stage request (outside_of old before) (outside_of new after_it) (stop_view (stop_of_sink fault))
  stops-unprinted fault front = λ place at.
      let g = takes place at in
      inr (record {
        stops = sink_stop fault;
        kept = g.kept;
        answers = g.answers;
        sent = g.sent;
        printed = subst (TookFront before after_it) (text_of_came g.answers came (outcome place request) g.shown) front;
      })

-- Lines.

-- what was read of a text
pub line_in-read : (line : ReadLine) (text : List ℕ) → Some (line_view line) ≡ line_of text → line_in text ≡ Some (line_read (line_view line))
line_in-read line text e = sym (ap (option_map line_read) e)

-- a text that is no line
pub line_in-none : (text : List ℕ) → line_of text ≡ None → line_in text ≡ None
line_in-none text e = ap (option_map line_read) e

none_if : (b : Bool) (x : Option read.Line) → b ≡ true → (if b then None else x) ≡ None
none_if true x e = refl
none_if false x e = absurd (cc)

-- a line that is too long
pub line_in-long : (text : List ℕ) → 2 ^ 19 < length text → line_in text ≡ None
line_in-long text above = line_in-none text (none_if (nat_lt (2 ^ 19) (length text)) _ (lt-ltb (2 ^ 19) (length text) above))

-- a line that is neither empty nor a key line has a command
pub command_of : (line : ReadLine) → (line ≡ reads.Empty → ⊥) → ((key : List ℕ) → line ≡ reads.Key key → ⊥) → (request : Request) × (line_read (line_view line) ≡ Command request)
command_of reads.Empty not_empty not_key = absurd (not_empty refl)
command_of (reads.Key key) not_empty not_key = absurd (not_key key refl)
command_of (reads.Doc id words) not_empty not_key = (_, refl)
command_of (reads.Setup b big pad) not_empty not_key = (_, refl)
command_of (reads.Add id words) not_empty not_key = (_, refl)
command_of (reads.Del id) not_empty not_key = (_, refl)
command_of (reads.Find word) not_empty not_key = (_, refl)
command_of (reads.Query fields) not_empty not_key = (_, refl)
command_of (reads.Rebuild key) not_empty not_key = (_, refl)

-- which is bad where the key line must be
pub bad_first : (line : ReadLine) → (line ≡ reads.Empty → ⊥) → ((key : List ℕ) → line ≡ reads.Key key → ⊥) → IsBadFirst (Some (line_read (line_view line)))
bad_first reads.Empty not_empty not_key = absurd (not_empty refl)
bad_first (reads.Key key) not_empty not_key = absurd (not_key key refl)
bad_first (reads.Doc id words) not_empty not_key = tt
bad_first (reads.Setup b big pad) not_empty not_key = tt
bad_first (reads.Add id words) not_empty not_key = tt
bad_first (reads.Del id) not_empty not_key = tt
bad_first (reads.Find word) not_empty not_key = tt
bad_first (reads.Query fields) not_empty not_key = tt
bad_first (reads.Rebuild key) not_empty not_key = tt

-- the same at a key line that is told otherwise
pub key_told : (f : KeyedFn) (told key : List ℕ) (m n : ℕ) (behind : Option (List (List ℕ))) (now : Outside) (end : Ended) → told ≡ key → m ≡ n → OpensAtKey f told m behind now end → OpensAtKey f key n behind now end
key_told f told key m n behind now end e counted opens = subst (λ k. OpensAtKey f k n behind now end) e (subst (λ c. OpensAtKey f told c behind now end) counted opens)

-- what holds of a bad line holds of the result that tells it
pub IfErr-line : {T : Type 0} (r : Result T InputStop) (stop : InputStop) (m : ℕ) (Q : InputStop → Type 0) → IsErrAnd r (λ e. e ≡ stop) → stop ≡ inputs.Line m → Q (inputs.Line m) → IfErr r Q
IfErr-line (Ok x) stop m Q is line q = absurd is
IfErr-line (Err e) stop m Q is line q = subst Q (sym (is ∙ line)) q

-- The loop over the lines.

-- a place has a number that is told otherwise
at_number : (f : KeyedFn) (start : Moment) (number m : ℕ) (now : Outside) (key : Option (List ℕ)) (h : History) → number + 1 ≡ m → RunsFrom f start (ended now key h (ends.At (BadLine (number + 1)))) → RunsFrom f start (ended now key h (ends.At (BadLine m)))
at_number f start number m now key h e runs = subst (λ n. RunsFrom f start (ended now key h (ends.At (BadLine n)))) e runs

module _ (f : KeyedFn) (start : Moment) (stage : Stage) (number : ℕ) (left : Option (List (List ℕ))) (refused : Bool) (now : Outside) (s : IsThere f start stage number left refused now) where
  here : Continues f start (moment s.place (number + 1) left refused now)
  here = record { rest = s.rest }

  ends_with : (h : History) (end : Outside) (stop : ends.Stop) → RunsFrom f start (ended end (Some s.place.key) h stop) → EndsFrom f start end stop
  ends_with h end stop runs = (h, subst (λ k. RunsFrom f start (ended end (Some k) h stop)) s.key runs)

  -- a bad line
  pub ends-bad : (behind : Option (List (List ℕ))) (text : List ℕ) (m : ℕ) → TakesLine left behind text → IsBad (line_in text) → number + 1 ≡ m → EndsFrom f start now (ends.At (BadLine m))
  ends-bad behind text m taken bad counted =
      ends_with s.place.history now _
      (at_number f start number m now (Some s.place.key) s.place.history counted
      (runs-bad f start s.place (number + 1) left refused now here behind text taken (ended now (Some s.place.key) s.place.history (ends.At (BadLine (number + 1)))) bad (inl refl)))

  -- the reading stops
  pub ends-input : (behind : Option (List (List ℕ))) (stop : InputStop) → ((m : ℕ) → stop ≡ inputs.Line m → SkipsLine left behind) → ((m : ℕ) → stop ≡ inputs.Line m → number + 1 ≡ m) → EndsFrom f start now (ends.At (input_cause stop))
  ends-input behind (inputs.Line m) skips counts =
      let long = skips m refl in
      ends-bad behind long.long m long.skipped (subst IsBad (sym (line_in-long long.long long.above)) tt) (counts m refl)
  ends-input behind inputs.Source skips counts =
      ends_with s.place.history now _ (runs-reading f start s.place (number + 1) left refused now here (ended now (Some s.place.key) s.place.history (ends.At (input_cause inputs.Source))) (inl refl))
  ends-input behind inputs.Memory skips counts =
      ends_with s.place.history now _ (runs-reading f start s.place (number + 1) left refused now here (ended now (Some s.place.key) s.place.history (ends.At (input_cause inputs.Memory))) (inr refl))

  -- no line is left
  pub ends-end : IfSome left (λ lines. lines ≡ []) → EndsFrom f start now (ends.AtEnd refused)
  ends-end none = ends_with s.place.history now _ (runs-end f start s.place (number + 1) left refused now here (ended now (Some s.place.key) s.place.history (ends.AtEnd refused)) none (inl refl))

  -- the run stops within a command
  pub ends-stopped : (behind : Option (List (List ℕ))) (text : List ℕ) (request : Request) (end : Outside) (stop : ends.Stop) → TakesLine left behind text → line_in text ≡ Some (Command request) → StopsRun f stage request now end stop
      → EndsFrom f start end stop
  ends-stopped behind text request end stop taken reads stopped =
      let h = (after (outcome s.place request) s.place).history in
      ends_with h end stop
      (runs-stopped f start s.place (number + 1) left refused now here behind text taken request reads (ended end (Some s.place.key) h stop)
      (record { within = stopped s.place s.at; key = refl; history = refl }))

  -- an empty line
  pub there-empty : (behind : Option (List (List ℕ))) (text : List ℕ) (m : ℕ) → TakesLine left behind text → line_in text ≡ Some Empty → m ≡ number + 1 → IsThere f start stage m behind refused now
  there-empty behind text m taken reads counted = record {
    place = s.place;
    at = s.at;
    key = s.key;
    rest =
        (continues-empty f start s.place (number + 1) left refused now here behind text taken (moment s.place (m + 1) behind refused now) reads
        (λ i. moment s.place (counted i + 1) behind refused now)).rest;
  }

  -- a command that is carried out
  pub there-next : (behind : Option (List (List ℕ))) (text : List ℕ) (request : Request) (m : ℕ) (next : Outside) (went : Stage) (was refused' : Bool) → TakesLine left behind text → line_in text ≡ Some (Command request)
      → m ≡ number + 1 → CarriesOut f stage request now next went was → refused' ≡ refused || was → IsThere f start went m behind refused' next
  there-next behind text request m next went was refused' taken reads counted carries either =
      let done = carries s.place s.at in
      let result = outcome s.place request in
      record {
        place = after result s.place;
        at = done.stands;
        key = after-key result s.place ∙ s.key;
        rest =
            (continues-next f start s.place (number + 1) left refused now here behind text taken request reads (moment (after result s.place) (m + 1) behind refused' next) next done.carries
            (λ i. moment (after result s.place) (counted i + 1) behind ((either ∙ ap (λ b. refused || b) done.refuses) i) next)).rest;
      }

  -- what follows from where it stands follows from the start
  pub ends-joined : (end : Outside) (stop : ends.Stop) → EndsFrom f (moment s.place (number + 1) left refused now) end stop → EndsFrom f start end stop
  ends-joined end stop e = ends_with e.0 end stop (s.rest _ e.1)

  pub there-joined : (went : Stage) (m : ℕ) (behind : Option (List (List ℕ))) (refused' : Bool) (next : Outside) → IsThere f (moment s.place (number + 1) left refused now) went m behind refused' next → IsThere f start went m behind refused' next
  there-joined went m behind refused' next t = record { place = t.place; at = t.at; key = t.key ∙ s.key; rest = λ end runs. s.rest end (t.rest end runs) }

-- a session stands at its start
pub there-start : (f : KeyedFn) (place : Place) (stage : Stage) (number : ℕ) (left : Option (List (List ℕ))) (refused : Bool) (now : Outside) → IsAt f stage place → IsThere f (moment place (number + 1) left refused now) stage number left refused now
there-start f place stage number left refused now at = record { place = place; at = at; key = refl; rest = λ end runs. runs }

-- a turn that stops leads to the end
pub leads-stopped : (f : KeyedFn) (start : Moment) (remaining : Option (List ℕ)) (now : Outside) (r : Result Turn StopCause) (stop : StopCause) → IsErrAnd r (λ e. e ≡ stop) → EndsFrom f start now (stop_view stop) → LeadsTo f start remaining now r
leads-stopped f start remaining now (Ok turn) stop is e = absurd is
leads-stopped f start remaining now (Err x) stop is e = subst (λ s. EndsFrom f start now (stop_view s)) (sym is) e

-- so does the loop
pub ends-stopped_so : (f : KeyedFn) (start : Moment) (now : Outside) (r : Result Refusals StopCause) (stop : StopCause) → IsErrAnd r (λ e. e ≡ stop) → EndsFrom f start now (stop_view stop) → EndsFrom f start now (ending r)
ends-stopped_so f start now (Ok refusals) stop is e = absurd is
ends-stopped_so f start now (Err x) stop is e = subst (λ s. EndsFrom f start now (stop_view s)) (sym is) e

-- Before the key line.

module _ (f : KeyedFn) (first : ℕ) (all : Option (List (List ℕ))) (now : Outside) (number : ℕ) (left : Option (List (List ℕ))) (c : ContinuesOpening f first all now (number + 1) left) where
  -- a bad line, or another one than the key line
  pub opening-bad : (behind : Option (List (List ℕ))) (text : List ℕ) (m : ℕ) → TakesLine left behind text → IsBadFirst (line_in text) → number + 1 ≡ m → OpensFrom f first all now (ended now None empty (ends.At (BadLine m)))
  opening-bad behind text m taken bad counted =
      subst (λ n. OpensFrom f first all now (ended now None empty (ends.At (BadLine n)))) counted
      (opens-bad f first all now (number + 1) left c behind text taken (ended now None empty (ends.At (BadLine (number + 1)))) bad (inl refl))

  -- the reading stops
  pub opening-input : (behind : Option (List (List ℕ))) (stop : InputStop) → ((m : ℕ) → stop ≡ inputs.Line m → SkipsLine left behind) → ((m : ℕ) → stop ≡ inputs.Line m → number + 1 ≡ m)
      → OpensFrom f first all now (ended now None empty (ends.At (input_cause stop)))
  opening-input behind (inputs.Line m) skips counts =
      let long = skips m refl in
      opening-bad behind long.long m long.skipped (subst IsBadFirst (sym (line_in-long long.long long.above)) tt) (counts m refl)
  opening-input behind inputs.Source skips counts = opens-reading f first all now (number + 1) left c (ended now None empty (ends.At (input_cause inputs.Source))) (inl refl)
  opening-input behind inputs.Memory skips counts = opens-reading f first all now (number + 1) left c (ended now None empty (ends.At (input_cause inputs.Memory))) (inr refl)

  -- no line is left
  pub opening-end : (m : ℕ) → IfSome left (λ lines. lines ≡ []) → number + 1 ≡ m → OpensFrom f first all now (ended now None empty (ends.At (BadLine m)))
  opening-end m none counted =
      subst (λ n. OpensFrom f first all now (ended now None empty (ends.At (BadLine n)))) counted
      (opens-end f first all now (number + 1) left c (ended now None empty (ends.At (BadLine (number + 1)))) none (inl refl))

  -- an empty line
  pub opening-next : (behind : Option (List (List ℕ))) (text : List ℕ) (m : ℕ) → TakesLine left behind text → line_in text ≡ Some Empty → m ≡ number + 1 → ContinuesOpening f first all now (m + 1) behind
  opening-next behind text m taken reads counted =
      subst (λ n. ContinuesOpening f first all now (n + 1) behind) (sym counted) (opening-empty f first all now (number + 1) left c behind text taken reads)
