-- A session that resumes after an earlier history, as the simulator makes it: from the leakage of that history, its searches included, and then of
-- the session's own commands and renewals.
use Rattle.std.specs.Prelude.{◌≡◌, ◌<◌, ◌≤◌, ℕ, List, [], ◌∷◌, ◌++◌, drop, fold, length, map, take, Some}
use Rattle.client_records.specs.Recorded.{as_recorded}
use Rattle.client_registry.specs.Epochs.{Step, key_now, step_after}
use Rattle.client_registry.specs.Histories.{IsKept, IsWhole}
use Rattle.client_registry.specs.Run.{Epochs}
use Rattle.keyed_fn.specs.KeyedFn.{KeyedFn}
use Rattle.def_link_events.specs.Events.{Event}
use Rattle.def_link_events.specs.Taken.{updates_among}
use Rattle.sse_frames.specs.Exchange.{Passed, exchange, greeting, sent_among}
use Rattle.sse_frames.specs.Frames.{FrameText, Hello, frame_bytes}
use Rattle.def_script_meaning.specs.Carries.{Outside}
use Rattle.def_script_meaning.specs.Exchange.{Told, Adds, as_event, bare, sent_in}
use Rattle.def_script_meaning.specs.Runs.{Ended}
use Rattle.def_script_meaning.specs.Session.{simulated_with}
use Rattle.def_script_meaning.specs.Since.{last_epoch}

-- a whole history under this first key, that keeps all limits; its last epoch has this key and these updates, whatever the searches: records
-- tell of no search, so a session that resumes can't know which of these the earlier history was
pub record HasUpdates (key : List ℕ) (updates : Epochs) (first : List ℕ) (earlier : Epochs) : Type 0 where
  pub whole : IsWhole (Some earlier)
  pub kept : IsKept (Some earlier)
  pub same_key : key_now first earlier ≡ key
  pub same : last_epoch (as_recorded (λ own. own) earlier) ≡ updates

-- the simulator makes this of an earlier history under this key, and of these steps after it
pub record MakesAfter (f : KeyedFn) (key : List ℕ) (earlier : Epochs) (more : List Step) : Type 0 where
  pub before : List Passed
  pub made_before : simulated_with f (Some key) (Some earlier) ≡ Some before
  pub own : List Passed
  pub made : simulated_with f (Some key) (Some (fold step_after earlier more)) ≡ Some (before ++ own)

-- between these two moments a session sent the first of these frames: Hello, the updates from a number on, and then its own. More than Hello
-- it sent only if the server had replied that it expects the update of this number
pub record SendsFrom (updates own : List FrameText) (old new : Told) : Type 0 where
  pub events : List Event
  pub adds : Adds old new events
  pub next : ℕ
  pub within : next ≤ length updates
  pub replied : 1 < length (sent_in events) → map bare (take 2 events) ≡ map as_event (greeting next)
  pub n : ℕ
  pub sent : sent_in events ≡ take n (map frame_bytes (Hello ∷ drop next updates ++ own))

-- the frames that were sent between these two moments are the first of those that the simulator makes of these steps after an earlier history,
-- the updates of that history that the server was missing before them
pub record SendsSimulatedAfter (f : KeyedFn) (key : List ℕ) (earlier : Epochs) (more : List Step) (old new : Told) : Type 0 where
  pub makes : MakesAfter f key earlier more
  pub sends : SendsFrom (updates_among (sent_among makes.before)) (sent_among makes.own) old new

-- these events are the greeting, the updates of an earlier history that the server was missing, each acknowledged, and what the simulator makes
-- of these steps after that history
pub record IsSimulatedAfter (f : KeyedFn) (key : List ℕ) (earlier : Epochs) (more : List Step) (next : ℕ) (events : List Event) : Type 0 where
  pub makes : MakesAfter f key earlier more
  pub same : map bare events ≡ map as_event (greeting next ++ exchange [] (drop next (updates_among (sent_among makes.before))) ++ makes.own)

-- between these two moments a run that resumed after these updates sent what the simulator makes, of each earlier history that has them in its
-- last epoch and of the run's commands and renewals up to its stop, the command in hand included
pub record ResumesSimulated (f : KeyedFn) (key : List ℕ) (updates : Epochs) (now : Outside) (end : Ended) : Type 0 where
  pub same_key : end.key ≡ Some key
  pub more : List Step
  pub history : end.history ≡ Some (fold step_after updates more)
  pub sends : (first : List ℕ) (earlier : Epochs) → HasUpdates key updates first earlier → SendsSimulatedAfter f first earlier more now.told end.outside.told
