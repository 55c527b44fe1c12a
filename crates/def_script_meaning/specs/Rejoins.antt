-- A session that continues after a run with a server that may be missing the last of its frames: these are sent first, and a line says how many
-- they were.
use Rattle.std.specs.Prelude.{◌≡◌, ◌≢◌, ◌⊎◌, ◌<◌, ◌≤◌, ℕ, ◌+◌, ◌-◌, false, List, [], ◌∷◌, ◌++◌, drop, flat_map, fold, length, map, take, Option, Some}
use Rattle.std.specs.Io.KnownBytes.{append_known}
use Rattle.client_registry.specs.Histories.{IsFirstOf, frames_in}
use Rattle.client_registry.specs.Epochs.{Step, first_begins, step_after}
use Rattle.client_registry.specs.Run.{History, Epochs}
use Rattle.keyed_fn.specs.KeyedFn.{KeyedFn}
use Rattle.server_core.specs.State.{ServerState}
use Rattle.server_core.specs.Step.{steps}
use Rattle.def_agreement.specs.TakenFrames.{Expects}
use Rattle.sse_frames.specs.Exchange.{greeting, exchange}
use Rattle.sse_frames.specs.Frames.{FrameText, Hello, frame_bytes}
use Rattle.def_link_events.specs.Events.{Event}
use Rattle.sse_model.specs.Compared.{Collision}
use Rattle.sse_model.specs.Histories.{frames_sent}
use Rattle.sse_script.specs.Shown.{Cause, NoMemory, Resumed}
use Rattle.sse_script.specs.Texts.{text_of}
use Rattle.sse_outside.specs.Fronts.{TookFront}
use Rattle.def_script_meaning.specs.Carries.{Keeps, Outside, collision_cause}
use Rattle.def_script_meaning.specs.Continues.{at_epochs}
use Rattle.def_script_meaning.specs.Exchange.{Told, Adds, AreCut, AreExchanged, as_event, bare, sent_in}
use Rattle.def_script_meaning.specs.Lines.{Line}
use Rattle.def_script_meaning.specs.Meaning.{Meaning}
use Rattle.def_script_meaning.specs.Outcome.{said}
use Rattle.def_script_meaning.specs.Recorded.{KeepsFirst, records_in}
use Rattle.def_script_meaning.specs.Runs.{Ended, IsGreeted, IsTurnedAway, Runs}
use Rattle.def_script_meaning.specs.Session.{IsFree}
use Rattle.def_script_meaning.specs.SimulatedAfter.{HasUpdates, IsSimulatedAfter}
use Rattle.def_script_meaning.specs.Since.{shown_since, records_since}
use Rattle.def_script_meaning.specs.Stops.{At, SinkFault, status_of, stop_text}

-- The server.

-- the frames of a history under this key
abbrev pub frames_under : KeyedFn → (key : List ℕ) → History → List FrameText
frames_under f key h = frames_sent f key h

-- a server that was sent the first frames of these epochs' updates, from any state on in which it expected the first of them, and that expects
-- the update of this number next
pub record HasTaken (f : KeyedFn) (key : List ℕ) (es : Epochs) (next : ℕ) (state : ServerState) : Type 0 where
  pub start : ServerState
  pub expects : Expects (first_begins es).frame start
  pub from : (first_begins es).frame ≤ next
  pub within : next ≤ frames_in (Some es)
  pub sent : state ≡ (steps f start (take (next - (first_begins es).frame) (frames_under f key (Some es)))).0
  pub number : state.next ≡ next

-- the frames of these epochs that a server lacks which expects this one
abbrev pub lacking : KeyedFn → (key : List ℕ) → Epochs → (next : ℕ) → List FrameText
lacking f key es next = drop (next - (first_begins es).frame) (frames_under f key (Some es))

-- The session.

-- it stops in these frames: the exchange of them is cut; or before the first of them, out of memory, or as two values of the history are
-- equal that have to differ
abbrev pub IsShort : KeyedFn → List FrameText → (key : List ℕ) → Epochs → (old new : Told) → Cause → Type 0
IsShort f frames key es old new cause =
    ((events : List Event) × Adds old new events × AreCut frames events cause)
    ⊎ ((new ≡ old) × (cause ≡ NoMemory))
    ⊎ ((new ≡ old) × ((c : Collision) × (cause ≡ collision_cause c)) × (IsFree f (Some key) (Some es) → ⊥))

-- it ends there: nothing is printed, and no record is kept
pub record StopsShort (f : KeyedFn) (frames : List FrameText) (key : List ℕ) (es : Epochs) (now : Outside) (end : Ended) : Type 0 where
  pub cause : Cause
  pub stops : end.stop ≡ At cause
  pub short : IsShort f frames key es now.told end.outside.told cause
  pub unkept : end.outside.kept ≡ now.kept
  pub unprinted : end.outside.written ≡ now.written
  pub same_key : end.key ≡ Some key
  pub history : end.history ≡ Some es

-- all of them were exchanged
pub record HasSent (frames : List FrameText) (old new : Told) : Type 0 where
  pub events : List Event
  pub adds : Adds old new events
  pub exchanged : AreExchanged [] frames events

-- and a fault of the sink ends it in the line that says so, or want of memory does: a proper front of it is printed
pub record StopsUntold (frames : List FrameText) (key : List ℕ) (es : Epochs) (now : Outside) (end : Ended) : Type 0 where
  pub sent : HasSent frames now.told end.outside.told
  pub stops : (end.stop ≡ SinkFault) ⊎ (end.stop ≡ At NoMemory)
  pub printed : TookFront now.written end.outside.written (text_of (Resumed (length frames)))
  pub unkept : end.outside.kept ≡ now.kept
  pub same_key : end.key ≡ Some key
  pub history : end.history ≡ Some es

-- or the line is printed
pub record HasCaughtUp (frames : List FrameText) (now next : Outside) : Type 0 where
  pub sent : HasSent frames now.told next.told
  pub printed : next.written ≡ append_known now.written (text_of (Resumed (length frames)))
  pub unkept : next.kept ≡ now.kept

-- a session that is open sends these frames, and goes on over these lines, the first of which has this number
abbrev pub CatchesUp : KeyedFn → List FrameText → (mark : List ℕ → List ℕ) (used : List (List ℕ)) (key : List ℕ) → Epochs → (number : ℕ) → List (Option Line) → Outside → Ended → Type 0
CatchesUp f frames mark used key es number lines now end =
    StopsShort f frames key es now end
    ⊎ StopsUntold frames key es now end
    ⊎ ((next : Outside) × HasCaughtUp frames now next × Runs f (at_epochs mark used key [] es) number lines false next end)

-- a session with a server that may expect an update from low to high: it isn't opened; or the number that the server says tells the
-- frames that it lacks
abbrev pub Rejoins : KeyedFn → (low high : ℕ) → (mark : List ℕ → List ℕ) (used : List (List ℕ)) (key : List ℕ) → Epochs → (number : ℕ) → List (Option Line) → Outside → Ended → Type 0
Rejoins f low high mark used key es number lines now end =
    IsTurnedAway low high key (Some es) now end
    ⊎ ((greeted : Outside) × (g : IsGreeted low high now greeted) × CatchesUp f (lacking f key es g.greets.next) mark used key es number lines greeted end)

-- between these two moments lines of this meaning were carried out after these epochs, of whose frames the server had those before this
-- number, with this status. As in a whole run (Headline), but that the line before all others says how many frames the server lacked;
-- that what passed is the greeting and the exchange of the history's frames from that number on, which is what the simulator makes after any
-- earlier history whose last epoch has these updates; that what is kept are the records after theirs. The server is one that was sent all
-- frames of the history, from this state on
pub record Rejoined (f : KeyedFn) (start : ServerState) (key : List ℕ) (es : Epochs) (next : ℕ) (m : Meaning) (now last : Outside) (status : ℕ) (behind : ServerState) : Type 0 where
  pub status_is : status ≡ status_of m.end
  pub q : ℕ
  pub printed : last.written ≡ append_known now.written (text_of (Resumed (length (lacking f key es next))) ++ flat_map text_of (map said m.shown) ++ take q (stop_text m.end))
  pub more : List Step
  pub history : m.history ≡ Some (fold step_after es more)
  pub events : List Event
  pub adds : Adds now.told last.told events
  pub passed : map bare events ≡ map as_event (greeting next ++ exchange (shown_since es more) (drop (next - (first_begins es).frame) (frames_under f key m.history)))
  pub simulated : (first : List ℕ) (earlier : Epochs) → HasUpdates key es first earlier → IsSimulatedAfter f first earlier more next events
  pub kept : Keeps now.kept last.kept (records_since f more)
  pub stored : behind ≡ (steps f start (frames_under f key m.history)).0

-- between these two moments a run that goes on after a history took the records of one after it, behind those of that history: of the one
-- up to its stop, or of the one before the command in hand, which has at most one record less, and that one may have been refused; and the
-- frames that were sent are Hello and the first of the frames, from a number on, of the history whose records are there: after Hello none was
-- sent unless the server had replied that it expects this number
pub record IsRecordedBehind (f : KeyedFn) (key : List ℕ) (es : Epochs) (now : Outside) (end : Ended) : Type 0 where
  pub same_key : end.key ≡ Some key
  pub held : History
  pub since : IsFirstOf (Some es) held
  pub first : IsFirstOf held end.history
  pub taken : List (List ℕ)
  pub taken_are : records_in f key held ≡ records_in f key (Some es) ++ taken
  pub all : List (List ℕ)
  pub all_are : records_in f key end.history ≡ records_in f key (Some es) ++ all
  pub kept : KeepsFirst all taken (status_of end.stop) now.kept end.outside.kept
  pub most : length all ≤ length taken + 1
  pub next : ℕ
  pub from : (first_begins es).frame ≤ next
  pub within : next ≤ (first_begins es).frame + length (frames_under f key (Some es))
  pub events : List Event
  pub adds : Adds now.told end.outside.told events
  pub replied : 1 < length (sent_in events) → map bare (take 2 events) ≡ map as_event (greeting next)
  pub count : ℕ
  pub sent : sent_in events ≡ map frame_bytes (take count (Hello ∷ drop (next - (first_begins es).frame) (frames_under f key held)))
  -- it lacks the command in hand only where values collided, the disk failed or memory was wanting
  pub whole : status_of end.stop ≢ 6 → status_of end.stop ≢ 7 → status_of end.stop ≢ 8 → held ≡ end.history
