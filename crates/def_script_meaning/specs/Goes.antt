-- The consequences of a run over any link, by the meaning of its script. The traffic is a prefix of the session of the history up to the stop, and
-- the printed text is a prefix of the meaning's lines with the answers that came.
use Rattle.std.specs.Prelude.{◌≡◌, ◌⊎◌, ◌≤◌, ℕ, List, [], ◌∷◌, ◌++◌, length, filter, take, drop, None, Some, Option}
use Rattle.std.specs.Io.KnownBytes.{append_known}
use Rattle.client_registry.specs.Acceptance.{frames_needed}
use Rattle.client_registry.specs.Command.{Command}
use Rattle.client_registry.specs.Histories.{IsFirstOf}
use Rattle.client_registry.specs.Run.{History, last_run}
use Rattle.client_registry.specs.Setup.{Setup}
use Rattle.keyed_fn.specs.KeyedFn.{KeyedFn}
use Rattle.sse_frames.specs.Frames.{FrameText}
use Rattle.def_link_events.specs.Events.{Event}
use Rattle.sse_model.proofs.Updates.{is_no_search}
use Rattle.sse_script.specs.Shown.{Cause, DiskFault}
use Rattle.def_script_meaning.specs.Carries.{Outside, text_with}
use Rattle.def_script_meaning.specs.Exchange.{Told, Adds, AreExchanged, IsCut}
use Rattle.def_script_meaning.specs.HelloExchange.{Greets, TurnsAway}
use Rattle.def_script_meaning.specs.Meaning.{Meaning}
use Rattle.def_script_meaning.specs.Runs.{Ended}
use Rattle.def_script_meaning.specs.Session.{frames_with, IsFree}
use Rattle.def_script_meaning.specs.Stops.{At, status_of}

-- why a run sent no more than it did: no frame is left, where neither a collision nor a reply stopped it; of the first frame
-- that is left a part passed; the disk refused its records; or a collision was found, of a history that is to have none
abbrev pub IsLeft : KeyedFn → Ended → List FrameText → (cut : List Event) → Type 0
IsLeft f end left cut =
    ((left ≡ []) × (cut ≡ []) × (status_of end.stop ≤ 7))
    ⊎ ((cause : Cause) × (end.stop ≡ At cause) × IsCut left cut cause)
    ⊎ ((cut ≡ []) × (end.stop ≡ At DiskFault))
    ⊎ ((cut ≡ []) × (IsFree f end.key end.history → ⊥))

-- how many frames the last command of a history has: those of its setup, or one
abbrev pub frames_of_last : Setup → List Command → ℕ
frames_of_last s [] = frames_needed s
frames_of_last s (c ∷ later) = 1

abbrev pub frames_in_hand : History → ℕ
frames_in_hand None = 0
frames_in_hand (Some es) = frames_of_last (last_run es).setup (last_run es).later

-- how many of these frames are no searches: only they change a server
abbrev pub updates_count : List FrameText → ℕ
updates_count frames = length (filter is_no_search frames)

-- the first n of these frames were exchanged, with these answers, and at most a part of the next. Of the update frames all were, but for some of
-- the last command of the history up to the stop; and all frames, where the run came to the end of its script or to a bad line
pub record Passes (f : KeyedFn) (frames : List FrameText) (answers : List (List ℕ)) (now : Told) (end : Ended) : Type 0 where
  pub events : List Event
  pub adds : Adds now end.outside.told events
  pub n : ℕ
  pub before : List Event
  pub cut : List Event
  pub parts : events ≡ before ++ cut
  pub exchanged : AreExchanged answers (take n frames) before
  pub left : IsLeft f end (drop n frames) cut
  pub most : updates_count (drop n frames) ≤ frames_in_hand end.history
  pub whole : status_of end.stop ≤ 2 → AreExchanged answers frames events

-- After the greeting.

-- no session was opened, as no key line was read
pub record IsUnopened (answers : List (List ℕ)) (now : Told) (end : Ended) : Type 0 where
  pub key : end.key ≡ None
  pub nothing : end.outside.told ≡ now
  pub stops : status_of end.stop ≤ 7
  pub none : answers ≡ []

-- it wasn't opened, since it was turned away: none of the frames was sent, and the update frames are at most those of the last command
pub record IsUngreeted (low high : ℕ) (frames : (next : ℕ) → List FrameText) (answers : List (List ℕ)) (now : Told) (end : Ended) : Type 0 where
  pub key : List ℕ
  pub same_key : end.key ≡ Some key
  pub cause : Cause
  pub stops : end.stop ≡ At cause
  pub away : TurnsAway low high now end.outside.told cause
  pub none : answers ≡ []
  pub most : (next : ℕ) → low ≤ next → next ≤ high → updates_count (frames next) ≤ frames_in_hand end.history

-- it was opened, and then of the frames that are sent to a server that expects this update a front passed
pub record IsOpened (f : KeyedFn) (low high : ℕ) (frames : (next : ℕ) → List FrameText) (answers : List (List ℕ)) (now : Told) (end : Ended) : Type 0 where
  pub key : List ℕ
  pub same_key : end.key ≡ Some key
  pub greeted : Told
  pub greets : Greets low high now greeted
  pub passes : Passes f (frames greets.next) answers greeted end

abbrev pub HasPassed : KeyedFn → (low high : ℕ) → (frames : (next : ℕ) → List FrameText) → List (List ℕ) → Told → Ended → Type 0
HasPassed f low high frames answers now end = IsUnopened answers now end ⊎ IsUngreeted low high frames answers now end ⊎ IsOpened f low high frames answers now end

-- a front of the meaning's lines is printed, with these answers
pub record Prints (m : Meaning) (answers : List (List ℕ)) (now end : Option (List ℕ)) : Type 0 where
  pub p : ℕ
  pub written : end ≡ append_known now (take p (text_with answers m.shown))

-- a run goes as this meaning, with a server that may expect an update from low to high, to which these frames are sent then
pub record Goes (f : KeyedFn) (m : Meaning) (low high : ℕ) (frames : (next : ℕ) → List FrameText) (now : Outside) (end : Ended) : Type 0 where
  pub key : (end.key ≡ None) ⊎ (end.key ≡ m.key)
  pub history : IsFirstOf end.history m.history
  pub answers : List (List ℕ)
  pub passes : HasPassed f low high frames answers now.told end
  pub prints : Prints m answers now.written end.outside.written
  -- at the end of the script or at a bad line that is all that it means
  pub ended : status_of end.stop ≤ 2
      → (end.stop ≡ m.end) × (end.key ≡ m.key) × (end.history ≡ m.history) × (end.outside.written ≡ append_known now.written (text_with answers m.shown))

-- the same from the beginning of a script, with a server that has taken nothing: all frames of the history are sent to it
abbrev pub GoesFirst : KeyedFn → Meaning → Outside → Ended → Type 0
GoesFirst f m now end = Goes f m 0 0 (λ next. frames_with f end.key end.history) now end
