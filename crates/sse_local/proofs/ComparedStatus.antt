-- The statuses with which a comparison ends: none is that of a collision.
use Rattle.std.proofs.Common.{◌≡◌, ◌≤◌, ◌⊎◌, inl, inr, ℕ, ◌+◌, Bool, true, false, ◌||◌, List, [], ◌∷◌, Option, None, Some, refl, sym, subst, arith}
use Rattle.std.specs.Io.KnownBytes.{append_known}
use Rattle.client_registry.specs.Run.{Epochs}
use Rattle.def_script_meaning.specs.Lines.{Line, Empty, Key, Command}
use Rattle.def_script_meaning.specs.Outcome.{Place, after, is_refusal, opened}
use Rattle.def_script_meaning.specs.Stops.{Stop, At, AtEnd, SinkFault, status_of}
use Rattle.keyed_fn.specs.KeyedFn.{KeyedFn}
use Rattle.script_history.specs.Endings.{Seen, StopsTelling, stop_for}
use Rattle.script_history.specs.Reads.{ReadEnd, Reads, ReadsFirst, StopsPrinting, StopsUnread, Whole, read_outcome, refusal_in, refused_text}
use Rattle.script_history.specs.Reads.{Stopped as NotRead}
use Rattle.script_history.specs.TwoScripts.{behind_twin}
use Rattle.sse_local.specs.Compared.{GoesOnBehind, GoesOnFirst, HasCompared, IsCompared, differs, text_of_comparison}
use Rattle.sse_script.specs.Shown.{BadLine, NoMemory, SourceFault}
use Rattle.sse_script.specs.TextLines.{lines_of}

abbrev IsComparisonStatus : ℕ → Type 0
IsComparisonStatus status = (status ≤ 4) ⊎ (status ≡ 7)

-- a stop with one of these statuses, and a reading that ends with one
abbrev MayStop : Stop → Type 0
MayStop stop = IsComparisonStatus (status_of stop)

abbrev MayEnd : ReadEnd → Type 0
MayEnd (Whole key history refused next) = Unit {0}
MayEnd (NotRead cause) = MayStop (stop_for cause)

-- Readings.

no_sink : MayStop SinkFault
no_sink = inl (omega arith)

no_source : MayStop (At SourceFault)
no_source = inl (omega arith)

no_memory : MayStop (At NoMemory)
no_memory = inr refl

bad_line : (number : ℕ) → MayStop (At (BadLine number))
bad_line number = inl (omega arith)

unread-ends : (now last : Option (List ℕ)) (end : ReadEnd) → StopsUnread now last end → MayEnd end
unread-ends now last end unread = of unread.stops
  where
    of : (end ≡ NotRead (Some SourceFault)) ⊎ (end ≡ NotRead (Some NoMemory)) → MayEnd end
    of (inl is) = subst MayEnd (sym is) no_source
    of (inr is) = subst MayEnd (sym is) no_memory

printing-ends : (text : List ℕ) (now last : Option (List ℕ)) (end : ReadEnd) → StopsPrinting text now last end → MayEnd end
printing-ends text now last end short = of short.stops
  where
    of : (end ≡ NotRead None) ⊎ (end ≡ NotRead (Some NoMemory)) → MayEnd end
    of (inl is) = subst MayEnd (sym is) no_sink
    of (inr is) = subst MayEnd (sym is) no_memory

bad-ends : (number : ℕ) (now last : Option (List ℕ)) (end : ReadEnd) → ((last ≡ now) × (end ≡ NotRead (Some (BadLine number)))) ⊎ StopsUnread now last end → MayEnd end
bad-ends number now last end (inl so) = subst MayEnd (sym so.1) (bad_line number)
bad-ends number now last end (inr unread) = unread-ends now last end unread

reads-end : (place : Place) (number : ℕ) (lines : List (Option Line)) (refused : Bool) (now last : Option (List ℕ)) (end : ReadEnd) → Reads place number lines refused now last end → MayEnd end
reads-end place number [] refused now last end (inl so) = subst MayEnd (sym so.1) tt
reads-end place number [] refused now last end (inr unread) = unread-ends now last end unread
reads-end place number (None ∷ lines) refused now last end reads = bad-ends number now last end reads
reads-end place number (Some Empty ∷ lines) refused now last end (inl unread) = unread-ends now last end unread
reads-end place number (Some Empty ∷ lines) refused now last end (inr reads) = reads-end place (number + 1) lines refused now last end reads
reads-end place number (Some (Key key) ∷ lines) refused now last end reads = bad-ends number now last end reads
reads-end place number (Some (Command line) ∷ lines) refused now last end (inl unread) = unread-ends now last end unread
reads-end place number (Some (Command line) ∷ lines) refused now last end (inr (inl short)) = printing-ends (refused_text (refusal_in (read_outcome place line))) now last end short
reads-end place number (Some (Command line) ∷ lines) refused now last end (inr (inr reads)) =
    let result = read_outcome place line in
    reads-end (after result place) (number + 1) lines (refused || is_refusal result) (append_known now (refused_text (refusal_in result))) last end reads

first-ends : (mark : Option (List ℕ → List ℕ)) (number : ℕ) (lines : List (Option Line)) (now last : Option (List ℕ)) (end : ReadEnd) → ReadsFirst mark number lines now last end → MayEnd end
first-ends mark number [] now last end reads = bad-ends number now last end reads
first-ends mark number (None ∷ lines) now last end reads = bad-ends number now last end reads
first-ends mark number (Some Empty ∷ lines) now last end (inl unread) = unread-ends now last end unread
first-ends mark number (Some Empty ∷ lines) now last end (inr reads) = first-ends mark (number + 1) lines now last end reads
first-ends mark number (Some (Key key) ∷ lines) now last end (inl unread) = unread-ends now last end unread
first-ends mark number (Some (Key key) ∷ lines) now last end (inr reads) = reads-end (opened mark key) (number + 1) lines false now last end reads
first-ends mark number (Some (Command line) ∷ lines) now last end reads = bad-ends number now last end reads

-- Comparing.

at_end : (refused : Bool) → MayStop (AtEnd refused)
at_end true = inl (omega arith)
at_end false = inl (omega arith)

compared-stops : (f : KeyedFn) (key : List ℕ) (es other : Epochs) (refused : Bool) (now last : Option (List ℕ)) (stop : Stop) → IsCompared f key es other refused now last stop → MayStop stop
compared-stops f key es other refused now last stop compared = of compared.told
  where
    text : List ℕ
    text = text_of_comparison compared.comparison

    telling : (stop ≡ SinkFault) ⊎ (stop ≡ At NoMemory) → MayStop stop
    telling (inl is) = subst MayStop (sym is) no_sink
    telling (inr is) = subst MayStop (sym is) no_memory

    of : ((last ≡ append_known now text) × (stop ≡ AtEnd (refused || differs compared.comparison))) ⊎ StopsTelling text now last stop → MayStop stop
    of (inl told) = subst MayStop (sym told.1) (at_end (refused || differs compared.comparison))
    of (inr short) = telling short.stops

behind-stops : (f : KeyedFn) (key : List ℕ) (es : Epochs) (refused : Bool) (end : ReadEnd) (now last : Option (List ℕ)) (stop : Stop) → MayEnd end → GoesOnBehind f key es refused end now last stop → MayStop stop
behind-stops f key es refused (Whole own (Some other) also next) now last stop may (inl compared) = compared-stops f key es other (refused || also) now last stop compared
behind-stops f key es refused (Whole own (Some other) also next) now last stop may (inr none) = subst MayStop (sym none.1) no_memory
behind-stops f key es refused (Whole own None also next) now last stop may bad = subst MayStop (sym bad.1) (bad_line next)
behind-stops f key es refused (NotRead cause) now last stop may is = subst MayStop (sym is.1) may

goes-stops : (f : KeyedFn) (behind : Option (List (List ℕ))) (end : ReadEnd) (now last : Option (List ℕ)) (stop : Stop) → MayEnd end → GoesOnFirst f behind end now last stop → MayStop stop
goes-stops f (Some behind) (Whole key (Some es) refused next) now last stop may reads =
    behind-stops f key es refused reads.end reads.between last stop (first-ends None (next + 1) _ now reads.between reads.end reads.reads) reads.goes_on
goes-stops f (Some behind) (Whole key None refused next) now last stop may bad = subst MayStop (sym bad.1) (bad_line next)
goes-stops f None (Whole key history refused next) now last stop may bad = subst MayStop (sym bad.1) (bad_line next)
goes-stops f None (NotRead cause) now last stop may is = subst MayStop (sym is.1) may
goes-stops f (Some behind) (NotRead cause) now last stop may is = subst MayStop (sym is.1) may

-- Promise P29, also here
-- whatever collides
pub compared-status : (f : KeyedFn) (bytes : List ℕ) (now last : Seen) (status : ℕ) → HasCompared f bytes now last status → (status ≤ 4) ⊎ (status ≡ 7)
compared-status f bytes now last status did =
    let so = did.compared in
    subst IsComparisonStatus (sym did.status_is) (goes-stops f (behind_twin (lines_of bytes)) so.end so.between did.before did.stop (first-ends _ 1 _ now.written so.between so.end so.reads) so.goes_on)
