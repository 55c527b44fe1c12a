-- A reading over the lines that are left of a script, from any place: the history grows, and only refusals are printed.
use Rattle.std.specs.Prelude.{◌≡◌, ◌⊎◌, ℕ, ◌+◌, ◌-◌, ◌^◌, ◌<◌, Bool, false, ◌||◌, nat_lt, List, [], ◌∷◌, ◌++◌, flat_map, length, Option, None, Some, IfSome, if◌then◌else◌}
use Rattle.std.specs.Io.KnownBytes.{append_known}
use Rattle.client_registry.specs.Command.{Command as Meant}
use Rattle.client_registry.specs.Documents.{all_words, first_seen}
use Rattle.client_registry.specs.Epochs.{joined}
use Rattle.client_registry.specs.Histories.{IsKept, commands_in, longer, renewed}
use Rattle.client_registry.specs.Run.{History}
use Rattle.client_registry.specs.Sized.{words_named}
use Rattle.def_script_meaning.specs.Lines.{Line, Request, Empty, Key, Command, lines_in}
use Rattle.def_script_meaning.specs.Outcome.{Place, Outcome, Collects, Refuses, SetsUp, Does, Renews, opened, outcome, after, is_refusal}
use Rattle.sse_outside.specs.Fronts.{TookFront}
use Rattle.sse_script.specs.declared.refusal.Refusal.{Refusal}
use Rattle.sse_script.specs.declared.refusal.Refusal.TheVariants.{HistoryFull}
use Rattle.sse_script.specs.Shown.{Cause, BadLine, SourceFault, NoMemory, Refused}
use Rattle.sse_script.specs.Texts.{text_of}

-- how a reading ends: at the end of the script, with its key, its history, whether a command was refused, and the number that one
-- more line would have; or before it, for a cause, and for none where the sink is what failed
pub data ReadEnd : Type 0 where
  Whole : (key : List ℕ) (history : History) (refused : Bool) (next : ℕ) → ReadEnd
  Stopped : Option Cause → ReadEnd

-- the different words of a history by first appearance, over all of its epochs
abbrev pub words_in : History → List (List ℕ)
words_in None = []
words_in (Some es) = first_seen (joined (λ key o run. all_words run.setup.documents ++ flat_map words_named run.later) [] es)

-- the commands, the setup and each renewal among them, or the words can't be numbered in 32 bits
abbrev pub is_full : History → Bool
is_full None = false
is_full (Some es) = nat_lt (2 ^ 32 - 1) (commands_in (Some es) + 1) || nat_lt (2 ^ 32 - 1) (length (words_in (Some es)))

-- a history that keeps its rules, whose commands, update frames and words can each be numbered in 32 bits
pub record IsCountable (h : History) : Type 0 where
  pub kept : IsKept h
  pub commands : commands_in h + 1 < 2 ^ 32
  pub words : length (words_in h) < 2 ^ 32

-- these commands after a history are refused for that
abbrev pub number_refusal : History → List Meant → Option Refusal
number_refusal h commands = if is_full (longer commands h) then Some HistoryFull else None

-- what a line comes to where the history after it has to be numbered
abbrev pub numbered : History → Outcome → Outcome
numbered h (Collects d) = Collects d
numbered h (Refuses refusal) = Refuses refusal
numbered h (SetsUp s) = SetsUp s
numbered h (Does commands shown) = if is_full (longer commands h) then Refuses HistoryFull else Does commands shown
numbered h (Renews key s) = if is_full (renewed key h) then Refuses HistoryFull else Renews key s

-- what a line of a script that is read comes to
abbrev pub read_outcome : Place → Request → Outcome
read_outcome place line = numbered place.history (outcome place line)

-- the refusal that it is
abbrev pub refusal_in : Outcome → Option Refusal
refusal_in (Collects d) = None
refusal_in (Refuses refusal) = Some refusal
refusal_in (SetsUp s) = None
refusal_in (Does commands shown) = None
refusal_in (Renews key s) = None

-- what is printed for it
abbrev pub refused_text : Option Refusal → List ℕ
refused_text None = []
refused_text (Some refusal) = text_of (Refused refusal)

-- a reading stops with nothing printed from here, by a fault of the source or for want of memory
pub record StopsUnread (now last : Option (List ℕ)) (end : ReadEnd) : Type 0 where
  pub printed : last ≡ now
  pub stops : (end ≡ Stopped (Some SourceFault)) ⊎ (end ≡ Stopped (Some NoMemory))

-- or ends so
abbrev pub EndsSo : ReadEnd → (now last : Option (List ℕ)) → ReadEnd → Type 0
EndsSo so now last end = ((last ≡ now) × (end ≡ so)) ⊎ StopsUnread now last end

-- or stops in printing this: a proper front of it is printed, as the sink failed or memory was wanting
pub record StopsPrinting (text : List ℕ) (now last : Option (List ℕ)) (end : ReadEnd) : Type 0 where
  pub printed : TookFront now last text
  pub stops : (end ≡ Stopped None) ⊎ (end ≡ Stopped (Some NoMemory))

-- a reading of these lines, which begins at a place when this was printed and ends so when that was: the first line has this
-- number, and a command was refused before it or none
abbrev pub Reads : Place → (number : ℕ) → List (Option Line) → (refused : Bool) → (now last : Option (List ℕ)) → ReadEnd → Type 0
Reads place number [] refused now last end = EndsSo (Whole place.key place.history refused number) now last end
Reads place number (None ∷ lines) refused now last end = EndsSo (Stopped (Some (BadLine number))) now last end
Reads place number (Some Empty ∷ lines) refused now last end = StopsUnread now last end ⊎ Reads place (number + 1) lines refused now last end
Reads place number (Some (Key key) ∷ lines) refused now last end = EndsSo (Stopped (Some (BadLine number))) now last end
Reads place number (Some (Command line) ∷ lines) refused now last end =
    let result = read_outcome place line in
    StopsUnread now last end
    ⊎ StopsPrinting (refused_text (refusal_in result)) now last end
    ⊎ Reads (after result place) (number + 1) lines (refused || is_refusal result) (append_known now (refused_text (refusal_in result))) last end

-- a reading of these lines from before the key line: empty ones, the key line, and what follows. Each key has the mark that is given, or
-- none is where a new key isn't compared with those before
abbrev pub ReadsFirst : (mark : Option (List ℕ → List ℕ)) → (number : ℕ) → List (Option Line) → (now last : Option (List ℕ)) → ReadEnd → Type 0
ReadsFirst mark number (Some Empty ∷ lines) now last end = StopsUnread now last end ⊎ ReadsFirst mark (number + 1) lines now last end
ReadsFirst mark number (Some (Key key) ∷ lines) now last end = StopsUnread now last end ⊎ Reads (opened mark key) (number + 1) lines false now last end
ReadsFirst mark number _ now last end = EndsSo (Stopped (Some (BadLine number))) now last end

-- Where lines are taken from a source, of which nothing may be known.

abbrev pub ReadsFrom : Place → (number : ℕ) → Option (List (List ℕ)) → (refused : Bool) → (now last : Option (List ℕ)) → ReadEnd → Type 0
ReadsFrom place number left refused now last end = IfSome left (λ texts. Reads place number (lines_in texts) refused now last end)

abbrev pub ReadsFirstFrom : (mark : Option (List ℕ → List ℕ)) → (number : ℕ) → Option (List (List ℕ)) → (now last : Option (List ℕ)) → ReadEnd → Type 0
ReadsFirstFrom mark number left now last end = IfSome left (λ texts. ReadsFirst mark number (lines_in texts) now last end)
