-- A run over the lines that are left of its script, from any place.
use Rattle.std.specs.Prelude.{◌≡◌, ◌⊎◌, ℕ, ◌+◌, Bool, false, ◌||◌, List, [], ◌∷◌, take, Option, None, Some, IfSome}
use Rattle.std.specs.Io.KnownBytes.{append_known}
use Rattle.client_registry.specs.Histories.{empty}
use Rattle.client_registry.specs.Run.{History}
use Rattle.keyed_fn.specs.KeyFormulas.{mark_of}
use Rattle.keyed_fn.specs.KeyedFn.{KeyedFn}
use Rattle.sse_script.specs.Shown.{Cause, BadLine, SourceFault, NoMemory}
use Rattle.def_script_meaning.specs.Carries.{Outside, Carries, StopsIn, IsUnprinted}
use Rattle.def_script_meaning.specs.HelloExchange.{Greets, TurnsAway}
use Rattle.def_script_meaning.specs.Lines.{Line, Empty, Key, Command, lines_in}
use Rattle.def_script_meaning.specs.Outcome.{Place, Outcome, opened, outcome, after, is_refusal}
use Rattle.def_script_meaning.specs.Stops.{Stop, AtEnd, At, stop_text}

-- where a run stopped: what is seen then, the key where its key line was read, the history up to there with the command in
-- hand, and why. The last line isn't printed yet
pub record Ended : Type 0 where
  pub outside : Outside
  pub key : Option (List ℕ)
  pub history : History
  pub stop : Stop

abbrev pub ended : Outside → Option (List ℕ) → History → Stop → Ended
ended outside key history stop = record { outside = outside; key = key; history = history; stop = stop }

-- a run stops here, as nothing more passes and nothing is printed: as the reading of its script stops, by a fault of the
-- source or for want of memory
abbrev pub StopsReading : Outside → Option (List ℕ) → History → Ended → Type 0
StopsReading now key history end = (end ≡ ended now key history (At SourceFault)) ⊎ (end ≡ ended now key history (At NoMemory))

-- or for this
abbrev pub StopsHere : Outside → Option (List ℕ) → History → Stop → Ended → Type 0
StopsHere now key history stop end = (end ≡ ended now key history stop) ⊎ StopsReading now key history end

-- a run stops in the line in hand, before its printing or in it
pub record Stops (f : KeyedFn) (place : Place) (result : Outcome) (now : Outside) (end : Ended) : Type 0 where
  pub within : StopsIn f place result now end.outside end.stop ⊎ IsUnprinted f place result now end.outside end.stop
  pub key : end.key ≡ Some place.key
  pub history : end.history ≡ (after result place).history

-- a run over these lines, which begins at a place and at this moment and ends there: the first line has this number, and a
-- command was refused before it or none
abbrev pub Runs : KeyedFn → Place → (number : ℕ) → List (Option Line) → (refused : Bool) → Outside → Ended → Type 0
Runs f place number [] refused now end = StopsHere now (Some place.key) place.history (AtEnd refused) end
Runs f place number (None ∷ lines) refused now end = StopsHere now (Some place.key) place.history (At (BadLine number)) end
Runs f place number (Some Empty ∷ lines) refused now end =
    StopsReading now (Some place.key) place.history end ⊎ Runs f place (number + 1) lines refused now end
Runs f place number (Some (Key key) ∷ lines) refused now end = StopsHere now (Some place.key) place.history (At (BadLine number)) end
Runs f place number (Some (Command line) ∷ lines) refused now end =
    let result = outcome place line in
    StopsReading now (Some place.key) place.history end
    ⊎ Stops f place result now end
    ⊎ ((next : Outside) × Carries f place result now next × Runs f (after result place) (number + 1) lines (refused || is_refusal result) next end)

-- a session is opened with a server that expects an update from low to high, which keeps nothing and prints nothing
pub record IsGreeted (low high : ℕ) (now next : Outside) : Type 0 where
  pub greets : Greets low high now.told next.told
  pub unkept : next.kept ≡ now.kept
  pub unprinted : next.written ≡ now.written

-- or a run with this key and history stops before it is opened
pub record IsTurnedAway (low high : ℕ) (key : List ℕ) (before : History) (now : Outside) (end : Ended) : Type 0 where
  pub cause : Cause
  pub stops : end.stop ≡ At cause
  pub away : TurnsAway low high now.told end.outside.told cause
  pub unkept : end.outside.kept ≡ now.kept
  pub unprinted : end.outside.written ≡ now.written
  pub same_key : end.key ≡ Some key
  pub history : end.history ≡ before

-- a run over these lines from before its key line, with a server that has taken nothing: empty ones, the key line, the
-- greeting, and what follows
abbrev pub Opens : KeyedFn → (number : ℕ) → List (Option Line) → Outside → Ended → Type 0
Opens f number (Some Empty ∷ lines) now end = StopsReading now None empty end ⊎ Opens f (number + 1) lines now end
Opens f number (Some (Key key) ∷ lines) now end =
    StopsReading now None empty end
    ⊎ IsTurnedAway 0 0 key empty now end
    ⊎ ((next : Outside) × IsGreeted 0 0 now next × Runs f (opened (Some (mark_of f)) key) (number + 1) lines false next end)
Opens f number _ now end = StopsHere now None empty (At (BadLine number)) end

-- what follows the stop: a front of the last line is printed, and nothing else passes or is kept
pub record Ends (end : Ended) (last : Outside) : Type 0 where
  pub told : last.told ≡ end.outside.told
  pub kept : last.kept ≡ end.outside.kept
  pub q : ℕ
  pub printed : last.written ≡ append_known end.outside.written (take q (stop_text end.stop))

-- Where lines are taken from a source, of which nothing may be known.

-- a moment of a run: where it stands in its script, the number of the next line, the texts of those that are left, whether a
-- command was refused, and what is seen
pub record Moment : Type 0 where
  pub place : Place
  pub number : ℕ
  pub left : Option (List (List ℕ))
  pub refused : Bool
  pub outside : Outside

abbrev pub moment : Place → ℕ → Option (List (List ℕ)) → Bool → Outside → Moment
moment place number left refused outside = record { place = place; number = number; left = left; refused = refused; outside = outside }

-- a run from this moment ends there, where the lines that are left are known
abbrev pub RunsFrom : KeyedFn → Moment → Ended → Type 0
RunsFrom f now end = IfSome now.left (λ texts. Runs f now.place now.number (lines_in texts) now.refused now.outside end)

-- the same before the key line
abbrev pub OpensFrom : KeyedFn → (number : ℕ) → Option (List (List ℕ)) → Outside → Ended → Type 0
OpensFrom f number left now end = IfSome left (λ texts. Opens f number (lines_in texts) now end)

-- the same at a key line, with these texts after it
abbrev pub OpensAtKey : KeyedFn → (key : List ℕ) (number : ℕ) → Option (List (List ℕ)) → Outside → Ended → Type 0
OpensAtKey f key number behind now end = IfSome behind (λ texts. Opens f number (Some (Key key) ∷ lines_in texts) now end)
