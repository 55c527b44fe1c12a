-- A reading over the lines of a script: one line, each way out of the loop over the lines, and each turn of it.
use Rattle.std.proofs.Common.{◌≡◌, ◌⊎◌, inl, inr, ℕ, ◌+◌, ◌<◌, Bool, true, false, ◌||◌, List, [], ◌∷◌, length, nat_lt, refl, sym, ap, subst, ◌∙◌}
use Rattle.std.specs.Prelude.{Option, None, Some, Result, Ok, Err, IfErr, IfOk, IfSome, IsErrAnd, OnOk, is_some, option_map, ◌^◌, if◌then◌else◌}
use Rattle.std.specs.Io.KnownBytes.{append_known}
use Rattle.std.proofs.lemmas.Bool.{lt-ltb}
use Rattle.script_run_texts.specs.Causes.{SourceCause}
use Rattle.script_run_texts.specs.Stops.{input_cause, stop_cause, stop_of_sink}
use Rattle.script_run_texts.specs.declared.input_stop.InputStop.{InputStop}
use Rattle.script_run_texts.specs.declared.input_stop.InputStop.TheVariants as inputs
use Rattle.script_run_texts.specs.declared.stop_cause.StopCause.{StopCause}
use Rattle.def_script_meaning.proofs.FollowedPlaces.{after-key}
use Rattle.def_script_meaning.proofs.Steps.{IsBad, IsBadFirst}
use Rattle.def_script_meaning.specs.Lines.{Line, Empty, Key, Command, Request, line_in, line_read, lines_in}
use Rattle.keyed_fn.specs.KeyedFn.{KeyedFn}
use Rattle.def_script_meaning.specs.Outcome.{Place, Outcome, after, is_refusal, opened}
use Rattle.sse_outside.specs.declared.device_fault.DeviceFault.{DeviceFault}
use Rattle.sse_outside.specs.declared.device_fault.DeviceFault.TheVariants as devices
use Rattle.sse_script.specs.Lines as read
use Rattle.sse_script.specs.Lines.{line_of}
use Rattle.sse_script.specs.Shown.{BadLine, NoMemory, SourceFault}
use Rattle.sse_script.specs.TextLines.{TakesLine, SkipsLine}
use Rattle.sse_script.specs.Views.{line_view}
use Rattle.sse_script.specs.declared.line.Line.{Line as ReadLine}
use Rattle.sse_script.specs.declared.line.Line.TheVariants as reads
use Rattle.sse_script.specs.declared.refusal.Refusal.{Refusal}
use Rattle.script_history.specs.Reads.{ReadEnd, Whole, Stopped, StopsUnread, StopsPrinting, Reads, ReadsFirst, ReadsFrom, ReadsFirstFrom, read_outcome, refusal_in, refused_text}
use Rattle.script_history.specs.Stages.{IsAt, LeadsFrom, Stands}
use Rattle.script_history.specs.Turns.{IsElsewhere, Moment, moment, ReadsOn, IsThere, ComesThrough, LeadsOn, LeadsTo, end_at, first_end, history_at}
use Rattle.script_history.specs.declared.lines.Last.{Last}
use Rattle.script_history.specs.declared.lines.Progress.{Progress}
use Rattle.script_history.specs.declared.lines.Turn.{Turn}
use Rattle.script_history.specs.declared.script_reader.FirstScript.{FirstScript}
use Rattle.script_history.specs.declared.stage.Stage.{Stage}
use Rattle.script_history.specs.declared.stage.Standing.{Standing}
use Rattle.script_history.specs.declared.stage.Stage.TheVariants.{Collecting, Built}
use Rattle.script_history.proofs.LinesTaken.{is_refusal-found}

-- Lines.

-- what was read of a text
pub line_in-read : (line : ReadLine) (text : List ℕ) → Some (line_view line) ≡ line_of text → line_in text ≡ Some (line_read (line_view line))
line_in-read line text e = sym (ap (option_map line_read) e)

-- a text that is no line
pub line_in-none : (text : List ℕ) → line_of text ≡ None → line_in text ≡ None
line_in-none text e = ap (option_map line_read) e

none_if : (b : Bool) (x : Option read.Line) → b ≡ true → (if b then None else x) ≡ None
none_if true x e = refl
none_if false x e = absurd (cc)

-- a line that is too long
line_in-long : (text : List ℕ) → 2 ^ 19 < length text → line_in text ≡ None
line_in-long text above = line_in-none text (none_if (nat_lt (2 ^ 19) (length text)) _ (lt-ltb (2 ^ 19) (length text) above))

-- a line that is neither empty nor a key line has a command
pub command_of : (line : ReadLine) → (line ≡ reads.Empty → ⊥) → ((key : List ℕ) → line ≡ reads.Key key → ⊥) → (request : Request) × (line_read (line_view line) ≡ Command request)
command_of reads.Empty not_empty not_key = absurd (not_empty refl)
command_of (reads.Key key) not_empty not_key = absurd (not_key key refl)
command_of (reads.Doc id words) not_empty not_key = (_, refl)
command_of (reads.Setup b big pad) not_empty not_key = (_, refl)
command_of (reads.Add id words) not_empty not_key = (_, refl)
command_of (reads.Del id) not_empty not_key = (_, refl)
command_of (reads.Find word) not_empty not_key = (_, refl)
command_of (reads.Query fields) not_empty not_key = (_, refl)
command_of (reads.Rebuild key) not_empty not_key = (_, refl)

-- which is bad where the key line must be
pub bad_first : (line : ReadLine) → (line ≡ reads.Empty → ⊥) → ((key : List ℕ) → line ≡ reads.Key key → ⊥) → IsBadFirst (Some (line_read (line_view line)))
bad_first reads.Empty not_empty not_key = absurd (not_empty refl)
bad_first (reads.Key key) not_empty not_key = absurd (not_key key refl)
bad_first (reads.Doc id words) not_empty not_key = tt
bad_first (reads.Setup b big pad) not_empty not_key = tt
bad_first (reads.Add id words) not_empty not_key = tt
bad_first (reads.Del id) not_empty not_key = tt
bad_first (reads.Find word) not_empty not_key = tt
bad_first (reads.Query fields) not_empty not_key = tt
bad_first (reads.Rebuild key) not_empty not_key = tt

-- One step over the lines that are left.

module _ (place : Place) (number : ℕ) (refused : Bool) (now : Option (List ℕ)) where
  -- the reading stops, for the source or for memory
  pub reads-reading : (left : Option (List (List ℕ))) (end : ReadEnd) → (end ≡ Stopped (Some SourceFault)) ⊎ (end ≡ Stopped (Some NoMemory)) → ReadsFrom place number left refused now now end
  reads-reading None end stops = tt
  reads-reading (Some texts) end stops = of (lines_in texts)
    where
      unread : StopsUnread now now end
      unread = record { printed = refl; stops = stops }

      of : (lines : List (Option Line)) → Reads place number lines refused now now end
      of [] = inr unread
      of (None ∷ lines) = inr unread
      of (Some Empty ∷ lines) = inl unread
      of (Some (Key key) ∷ lines) = inr unread
      of (Some (Command line) ∷ lines) = inl unread

  -- no line is left
  reads-end : (left : Option (List (List ℕ))) → IfSome left (λ lines. lines ≡ []) → ReadsFrom place number left refused now now (Whole place.key place.history refused number)
  reads-end None none = tt
  reads-end (Some texts) none = subst (λ texts. Reads place number (lines_in texts) refused now now (Whole place.key place.history refused number)) (sym none) (inl (refl, refl))

  module _ (text : List ℕ) where
    abbrev with_text : Option (List (List ℕ)) → Option (List (List ℕ))
    with_text behind = option_map (λ lines. text ∷ lines) behind

    -- a line that isn't in the grammar, or one more key line
    reads-bad : IsBad (line_in text) → (behind : Option (List (List ℕ))) → ReadsFrom place number (with_text behind) refused now now (Stopped (Some (BadLine number)))
    reads-bad bad None = tt
    reads-bad bad (Some texts) = of (line_in text) bad (lines_in texts)
      where
        of : (item : Option Line) → IsBad item → (lines : List (Option Line)) → Reads place number (item ∷ lines) refused now now (Stopped (Some (BadLine number)))
        of None bad lines = inl (refl, refl)
        of (Some Empty) bad lines = absurd bad
        of (Some (Key key)) bad lines = inl (refl, refl)
        of (Some (Command line)) bad lines = absurd bad

    -- an empty line
    reads-empty : line_in text ≡ Some Empty → (behind : Option (List (List ℕ))) (last : Option (List ℕ)) (end : ReadEnd) → ReadsFrom place (number + 1) behind refused now last end
        → ReadsFrom place number (with_text behind) refused now last end
    reads-empty is None last end rest = tt
    reads-empty is (Some texts) last end rest = subst (λ item. Reads place number (item ∷ lines_in texts) refused now last end) (sym is) (inr rest)

    module _ (line : Request) (is : line_in text ≡ Some (Command line)) where
      abbrev result : Outcome
      result = read_outcome place line

      -- a command in which the reading stops
      reads-stops : (behind : Option (List (List ℕ))) (last : Option (List ℕ)) (end : ReadEnd) → StopsUnread now last end ⊎ StopsPrinting (refused_text (refusal_in result)) now last end
          → ReadsFrom place number (with_text behind) refused now last end
      reads-stops None last end stops = tt
      reads-stops (Some texts) last end stops = subst (λ item. Reads place number (item ∷ lines_in texts) refused now last end) (sym is) (by stops)
        where
          by : StopsUnread now last end ⊎ StopsPrinting (refused_text (refusal_in result)) now last end → Reads place number (Some (Command line) ∷ lines_in texts) refused now last end
          by (inl unread) = inl unread
          by (inr printing) = inr (inl printing)

      -- a command that is taken or refused
      reads-next : (behind : Option (List (List ℕ))) (last : Option (List ℕ)) (end : ReadEnd)
          → ReadsFrom (after result place) (number + 1) behind (refused || is_refusal result) (append_known now (refused_text (refusal_in result))) last end
          → ReadsFrom place number (with_text behind) refused now last end
      reads-next None last end rest = tt
      reads-next (Some texts) last end rest = subst (λ item. Reads place number (item ∷ lines_in texts) refused now last end) (sym is) (inr (inr rest))

-- One command.

-- a command that was taken or refused is told, or the reading stops in that
pub comes-told : (f : KeyedFn) (place : Place) (request : Request) (standing : Standing) (found : Option Refusal) (refused : Bool) (now last : Option (List ℕ)) (r : Result Progress StopCause) → LeadsFrom f place (read_outcome place request) standing found
    → IfOk r (λ next. next.standing ≡ standing) → IfOk r (λ next. next.refused ≡ refused || is_some found) → OnOk r (last ≡ append_known now (refused_text found))
    → IfErr r (λ stop. StopsPrinting (refused_text found) now last (Stopped (stop_cause stop))) → ComesThrough f place request refused now last r
comes-told f place request standing found refused now last (Ok next) to same either printed stops = (
  subst (λ s. Stands f s (after (read_outcome place request) place)) (sym same) to.stands,
  either ∙ ap (λ b. refused || b) (ap is_some to.refusal ∙ sym (is_refusal-found (read_outcome place request))),
  printed ∙ ap (λ r. append_known now (refused_text r)) to.refusal,
)
comes-told f place request standing found refused now last (Err stop) to same either printed stops = inr (subst (λ r. StopsPrinting (refused_text r) now last (Stopped (stop_cause stop))) to.refusal stops)

-- One line.

module _ (f : KeyedFn) (place : Place) (progress : Progress) (number : ℕ) (text : List ℕ) (behind : Option (List (List ℕ))) (now : Option (List ℕ)) where
  abbrev start : Moment
  start = moment place number (option_map (λ lines. text ∷ lines) behind) progress.refused now

  pub leads-empty : Stands f progress.standing place → line_in text ≡ Some Empty → LeadsOn f start number behind now (Ok progress)
  leads-empty at is = record { place = place; at = at; key = refl; rest = λ last end rest. reads-empty place number progress.refused now text is behind last end rest }

  pub leads-bad : IsBad (line_in text) → ReadsOn start now (Stopped (Some (BadLine number)))
  leads-bad bad = reads-bad place number progress.refused now text bad behind

  pub leads-command : (request : Request) → line_in text ≡ Some (Command request) → (last : Option (List ℕ)) (r : Result Progress StopCause) → ComesThrough f place request progress.refused now last r → LeadsOn f start number behind last r
  leads-command request is last (Ok next) comes = record {
    place = after (read_outcome place request) place;
    at = comes.0;
    key = after-key (read_outcome place request) place;
    rest = λ final end rest.
        reads-next place number progress.refused now text request is behind final end
        (subst (λ b. ReadsFrom (after (read_outcome place request) place) (number + 1) behind b (append_known now (refused_text (refusal_in (read_outcome place request)))) final end) comes.1
        (subst (λ p. ReadsFrom (after (read_outcome place request) place) (number + 1) behind next.refused p final end) comes.2 rest));
  }
  leads-command request is last (Err stop) comes = reads-stops place number progress.refused now text request is behind last (Stopped (stop_cause stop)) comes

-- a line at which the reading stops
pub leads-stopped : (f : KeyedFn) (start : Moment) (number : ℕ) (left : Option (List (List ℕ))) (last : Option (List ℕ)) (r : Result Progress StopCause) (stop : StopCause) → r ≡ Err stop → ReadsOn start last (Stopped (stop_cause stop)) → LeadsOn f start number left last r
leads-stopped f start number left last r stop is reads = subst (LeadsOn f start number left last) (sym is) reads

-- One turn.

-- what holds of a moment at which a line was read holds of the one before, of which it was the first
pub at_line : (P : Moment → Type 0) (place : Place) (m number : ℕ) (text : List ℕ) (left behind : Option (List (List ℕ))) (refused : Bool) (now : Option (List ℕ)) → TakesLine left behind text → m ≡ number
    → P (moment place m (option_map (λ lines. text ∷ lines) behind) refused now) → P (moment place number left refused now)
at_line P place m number text left behind refused now taken counted p =
    subst (λ l. P (moment place number l refused now)) (sym taken) (subst (λ n. P (moment place n (option_map (λ lines. text ∷ lines) behind) refused now)) counted p)

-- no line is left
pub leads-end : (f : KeyedFn) (place : Place) (progress : Progress) (number m : ℕ) (left : Option (List (List ℕ))) (now : Option (List ℕ)) → Stands f progress.standing place → IfSome left (λ lines. lines ≡ []) → m ≡ number
    → ReadsOn (moment place number left progress.refused now) now (Whole place.key (history_at progress.standing.stage) progress.refused m)
leads-end f place progress number m left now at none counted =
    subst (λ h. ReadsOn (moment place number left progress.refused now) now (Whole place.key h progress.refused m)) (of progress.standing.stage at.at)
    (subst (λ n. ReadsOn (moment place number left progress.refused now) now (Whole place.key place.history progress.refused n)) (sym counted) (reads-end place number progress.refused now left none))
  where
    of : (stage : Stage) → IsAt stage place → place.history ≡ history_at stage
    of (Collecting docs) at = at.1
    of (Built history) at = at

-- the next line can't be read
pub leads-unread : (place : Place) (progress : Progress) (number : ℕ) (left behind : Option (List (List ℕ))) (now : Option (List ℕ)) (stop : InputStop)
    → ((m : ℕ) → stop ≡ inputs.Line m → SkipsLine left behind) → ((m : ℕ) → stop ≡ inputs.Line m → m ≡ number)
    → ReadsOn (moment place number left progress.refused now) now (Stopped (Some (input_cause stop)))
leads-unread place progress number left behind now (inputs.Line m) skips counts =
    let long = skips m refl in
    subst (λ l. ReadsOn (moment place number l progress.refused now) now (Stopped (Some (BadLine m)))) (sym long.skipped)
    (subst (λ n. ReadsOn (moment place number (option_map (λ lines. long.long ∷ lines) behind) progress.refused now) now (Stopped (Some (BadLine n)))) (sym (counts m refl))
    (reads-bad place number progress.refused now long.long (subst IsBad (sym (line_in-long long.long long.above)) tt) behind))
leads-unread place progress number left behind now inputs.Source skips counts = reads-reading place number progress.refused now left (Stopped (Some SourceFault)) (inl refl)
leads-unread place progress number left behind now inputs.Memory skips counts = reads-reading place number progress.refused now left (Stopped (Some NoMemory)) (inr refl)

-- a turn that stops tells why
pub turns-stopped : (f : KeyedFn) (start : Moment) (number : ℕ) (left : Option (List (List ℕ))) (last : Option (List ℕ)) (r : Result Turn StopCause) (stop : StopCause) → r ≡ Err stop → ReadsOn start last (Stopped (stop_cause stop)) → LeadsTo f start number left last r
turns-stopped f start number left last r stop is reads = subst (LeadsTo f start number left last) (sym is) reads

-- The loop.

-- a reading stands at its start
pub there-start : (f : KeyedFn) (place : Place) (progress : Progress) (number : ℕ) (left : Option (List (List ℕ))) (now : Option (List ℕ)) → Stands f progress.standing place → IsThere f (moment place (number + 1) left progress.refused now) progress number left now
there-start f place progress number left now at = record { place = place; at = at; key = refl; rest = λ last end rest. rest }

module _ (f : KeyedFn) (start : Moment) (progress : Progress) (number : ℕ) (left : Option (List (List ℕ))) (now : Option (List ℕ)) (s : IsThere f start progress number left now) where
  -- what follows from where it stands follows from the start
  pub there-joined : (next : Progress) (m : ℕ) (behind : Option (List (List ℕ))) (last : Option (List ℕ)) → IsThere f (moment s.place (number + 1) left progress.refused now) next m behind last → IsThere f start next m behind last
  there-joined next m behind last t = record { place = t.place; at = t.at; key = t.key ∙ s.key; rest = λ final end rest. s.rest final end (t.rest final end rest) }

  pub ends-stopped : (last : Option (List ℕ)) (stop : StopCause) → ReadsOn (moment s.place (number + 1) left progress.refused now) last (Stopped (stop_cause stop)) → ReadsOn start last (Stopped (stop_cause stop))
  ends-stopped last stop reads = s.rest last (Stopped (stop_cause stop)) reads

  pub ends-whole : (done : Progress) (m : ℕ) (last : Option (List ℕ)) → ReadsOn (moment s.place (number + 1) left progress.refused now) last (Whole s.place.key (history_at done.standing.stage) done.refused m)
      → ReadsOn start last (Whole start.place.key (history_at done.standing.stage) done.refused m)
  ends-whole done m last reads = subst (λ k. ReadsOn start last (Whole k (history_at done.standing.stage) done.refused m)) s.key (s.rest last _ reads)

-- what holds of a stop holds of the result that tells it
pub end_at-stopped : (from : Moment) (key : List ℕ) (number : ℕ) (last : Option (List ℕ)) (r : Result Last StopCause) (stop : StopCause) → IsErrAnd r (λ e. e ≡ stop) → ReadsOn from last (Stopped (stop_cause stop))
    → ReadsOn from last (end_at key number r)
end_at-stopped from key number last (Ok done) stop is reads = absurd is
end_at-stopped from key number last (Err e) stop is reads = subst (λ s. ReadsOn from last (Stopped (stop_cause s))) (sym is) reads

-- and so does what holds of the end of a script
pub first_end-stopped : (P : ReadEnd → Type 0) (r : Result FirstScript StopCause) (stop : StopCause) → IsErrAnd r (λ e. e ≡ stop) → P (Stopped (stop_cause stop)) → P (first_end r)
first_end-stopped P (Ok first) stop is p = absurd is
first_end-stopped P (Err e) stop is p = subst (λ s. P (Stopped (stop_cause s))) (sym is) p

-- Before the key line.

module _ (mark : Option (List ℕ → List ℕ)) (number : ℕ) (now : Option (List ℕ)) where
  -- the reading stops, for the source or for memory
  pub first-reading : (left : Option (List (List ℕ))) (end : ReadEnd) → (end ≡ Stopped (Some SourceFault)) ⊎ (end ≡ Stopped (Some NoMemory)) → ReadsFirstFrom mark number left now now end
  first-reading None end stops = tt
  first-reading (Some texts) end stops = of (lines_in texts)
    where
      unread : StopsUnread now now end
      unread = record { printed = refl; stops = stops }

      of : (lines : List (Option Line)) → ReadsFirst mark number lines now now end
      of [] = inr unread
      of (None ∷ lines) = inr unread
      of (Some Empty ∷ lines) = inl unread
      of (Some (Key key) ∷ lines) = inl unread
      of (Some (Command line) ∷ lines) = inr unread

  -- no line is left
  pub first-end : (left : Option (List (List ℕ))) → IfSome left (λ lines. lines ≡ []) → ReadsFirstFrom mark number left now now (Stopped (Some (BadLine number)))
  first-end None none = tt
  first-end (Some texts) none = subst (λ texts. ReadsFirst mark number (lines_in texts) now now (Stopped (Some (BadLine number)))) (sym none) (inl (refl, refl))

  module _ (text : List ℕ) where
    -- a bad line, or a command before the key line
    first-bad : IsBadFirst (line_in text) → (behind : Option (List (List ℕ))) → ReadsFirstFrom mark number (option_map (λ lines. text ∷ lines) behind) now now (Stopped (Some (BadLine number)))
    first-bad bad None = tt
    first-bad bad (Some texts) = of (line_in text) bad (lines_in texts)
      where
        of : (item : Option Line) → IsBadFirst item → (lines : List (Option Line)) → ReadsFirst mark number (item ∷ lines) now now (Stopped (Some (BadLine number)))
        of None bad lines = inl (refl, refl)
        of (Some Empty) bad lines = absurd bad
        of (Some (Key key)) bad lines = absurd bad
        of (Some (Command line)) bad lines = inl (refl, refl)

    -- an empty line
    first-empty : line_in text ≡ Some Empty → (behind : Option (List (List ℕ))) (last : Option (List ℕ)) (end : ReadEnd) → ReadsFirstFrom mark (number + 1) behind now last end
        → ReadsFirstFrom mark number (option_map (λ lines. text ∷ lines) behind) now last end
    first-empty is None last end rest = tt
    first-empty is (Some texts) last end rest = subst (λ item. ReadsFirst mark number (item ∷ lines_in texts) now last end) (sym is) (inr rest)

    -- the key line
    first-key : (key : List ℕ) → line_in text ≡ Some (Key key) → (behind : Option (List (List ℕ))) (last : Option (List ℕ)) (end : ReadEnd) → ReadsFrom (opened mark key) (number + 1) behind false now last end
        → ReadsFirstFrom mark number (option_map (λ lines. text ∷ lines) behind) now last end
    first-key key is None last end rest = tt
    first-key key is (Some texts) last end rest = subst (λ item. ReadsFirst mark number (item ∷ lines_in texts) now last end) (sym is) (inr rest)

-- The loop before it: whatever is read from here is read from the start.

pub record GoesOnFirst (mark : Option (List ℕ → List ℕ)) (first : ℕ) (all : Option (List (List ℕ))) (number : ℕ) (left : Option (List (List ℕ))) : Type 0 where
  pub rest : (now last : Option (List ℕ)) (end : ReadEnd) → ReadsFirstFrom mark number left now last end → ReadsFirstFrom mark first all now last end

module _ (mark : Option (List ℕ → List ℕ)) (first : ℕ) (all : Option (List (List ℕ))) (number : ℕ) (left : Option (List (List ℕ))) (on : GoesOnFirst mark first all (number + 1) left) where
  pub opening-end : (now : Option (List ℕ)) (m : ℕ) → IfSome left (λ lines. lines ≡ []) → m ≡ number + 1 → ReadsFirstFrom mark first all now now (Stopped (Some (BadLine m)))
  opening-end now m none counted = subst (λ n. ReadsFirstFrom mark first all now now (Stopped (Some (BadLine n)))) (sym counted) (on.rest now now _ (first-end mark (number + 1) now left none))

  module _ (behind : Option (List (List ℕ))) (text : List ℕ) (taken : TakesLine left behind text) where
    pub opening-bad : (now : Option (List ℕ)) (m : ℕ) → IsBadFirst (line_in text) → m ≡ number + 1 → ReadsFirstFrom mark first all now now (Stopped (Some (BadLine m)))
    opening-bad now m bad counted =
        subst (λ n. ReadsFirstFrom mark first all now now (Stopped (Some (BadLine n)))) (sym counted)
        (on.rest now now _ (subst (λ l. ReadsFirstFrom mark (number + 1) l now now (Stopped (Some (BadLine (number + 1))))) (sym taken) (first-bad mark (number + 1) now text bad behind)))

    pub opening-next : (m : ℕ) → line_in text ≡ Some Empty → m ≡ number + 1 → GoesOnFirst mark first all (m + 1) behind
    opening-next m is counted = record {
      rest = λ now last end rest.
          on.rest now last end
          (subst (λ l. ReadsFirstFrom mark (number + 1) l now last end) (sym taken)
          (first-empty mark (number + 1) now text is behind last end (subst (λ n. ReadsFirstFrom mark (n + 1) behind now last end) counted rest)));
    }

    pub opening-key : (m : ℕ) (told key : List ℕ) → line_in text ≡ Some (Key key) → told ≡ key → m ≡ number + 1 → (now last : Option (List ℕ)) (end : ReadEnd) → ReadsFrom (opened mark told) (m + 1) behind false now last end
        → ReadsFirstFrom mark first all now last end
    opening-key m told key is same counted now last end rest =
        on.rest now last end
        (subst (λ l. ReadsFirstFrom mark (number + 1) l now last end) (sym taken)
        (first-key mark (number + 1) now text key is behind last end
        (subst (λ n. ReadsFrom (opened mark key) (n + 1) behind false now last end) counted (subst (λ k. ReadsFrom (opened mark k) (m + 1) behind false now last end) same rest))))

  pub opening-unread : (behind : Option (List (List ℕ))) (now : Option (List ℕ)) (stop : InputStop) → ((m : ℕ) → stop ≡ inputs.Line m → SkipsLine left behind) → ((m : ℕ) → stop ≡ inputs.Line m → m ≡ number + 1)
      → ReadsFirstFrom mark first all now now (Stopped (Some (input_cause stop)))
  opening-unread behind now (inputs.Line m) skips counts =
      let long = skips m refl in
      opening-bad behind long.long long.skipped now m (subst IsBadFirst (sym (line_in-long long.long long.above)) tt) (counts m refl)
  opening-unread behind now inputs.Source skips counts = on.rest now now _ (first-reading mark (number + 1) now left (Stopped (Some SourceFault)) (inl refl))
  opening-unread behind now inputs.Memory skips counts = on.rest now now _ (first-reading mark (number + 1) now left (Stopped (Some NoMemory)) (inr refl))

-- Results.

-- what holds of a fault converted holds of the error
pub IfErr-from : {T E : Type 0} (r : Result T E) (stop : E) (Q : E → Type 0) → IsErrAnd r (λ e. e ≡ stop) → Q stop → IfErr r Q
IfErr-from (Ok x) stop Q is q = absurd is
IfErr-from (Err e) stop Q is q = subst Q (sym is) q

-- what holds of a bad line holds of the result that tells it
pub IfErr-line : {T : Type 0} (r : Result T InputStop) (stop : InputStop) (m : ℕ) (Q : InputStop → Type 0) → IsErrAnd r (λ e. e ≡ stop) → stop ≡ inputs.Line m → Q (inputs.Line m) → IfErr r Q
IfErr-line (Ok x) stop m Q is line q = absurd is
IfErr-line (Err e) stop m Q is line q = subst Q (sym (is ∙ line)) q

-- an error says nothing of good answers
pub OnOk-err : {T E : Type 0} (r : Result T E) (stop : E) → IsErrAnd r (λ e. e ≡ stop) → (P : Type 0) → OnOk r P
OnOk-err (Ok x) stop is P = absurd is
OnOk-err (Err e) stop is P = tt

-- what holds of an error holds of the result that is it
pub IfErr-is : {T E : Type 0} (r : Result T E) (stop : E) (Q : E → Type 0) → r ≡ Err stop → Q stop → IfErr r Q
IfErr-is r stop Q is q = subst (λ s. IfErr s Q) (sym is) q

-- Counts.

-- a fault of the sink is none of the source
pub printed-elsewhere : (fault : DeviceFault) → IsElsewhere (stop_of_sink fault)
printed-elsewhere devices.Failed faults = refl
printed-elsewhere devices.NoMemory faults = refl

-- a stop in a line that was read leaves the source's count
pub elsewhere-steady : (before now : ℕ) (stop : StopCause) → now ≡ before → IsElsewhere stop → SourceCause before now stop
elsewhere-steady before now stop same elsewhere = subst (λ n. SourceCause before n stop) (sym same) (elsewhere before)
