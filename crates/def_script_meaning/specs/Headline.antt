-- An undisturbed run, and its effects.
use Rattle.std.specs.Prelude.{◌≡◌, ◌≢◌, ℕ, List, ◌++◌, flat_map, map, take, Option, Some}
use Rattle.std.specs.Io.KnownBytes.{append_known}
use Rattle.client_registry.specs.Run.{History}
use Rattle.keyed_fn.specs.KeyedFn.{KeyedFn}
use Rattle.server_core.specs.State.{ServerState}
use Rattle.server_core.specs.Step.{steps}
use Rattle.sse_frames.specs.Exchange.{Passed, sent_among}
use Rattle.sse_frames.specs.Frames.{frame_bytes}
use Rattle.def_link_events.specs.Events.{Event}
use Rattle.def_link_events.specs.Served.{IsHonest}
use Rattle.sse_script.specs.Texts.{text_of}
use Rattle.def_script_meaning.specs.Carries.{Keeps, Outside}
use Rattle.def_script_meaning.specs.Exchange.{Told, Adds, as_event, bare, sent_in}
use Rattle.def_script_meaning.specs.Outcome.{said}
use Rattle.def_script_meaning.specs.Meaning.{Meaning}
use Rattle.def_script_meaning.specs.Outcome.{said}
use Rattle.def_script_meaning.specs.Recorded.{records_with}
use Rattle.def_script_meaning.specs.Session.{frames_of, session_of, simulated_with}
use Rattle.def_script_meaning.specs.Stops.{stop_text, status_of}

-- what passed between these two moments is told, and is an honest transcript from a server in the first state, which it left in
-- the second
pub record IsOverHonest (f : KeyedFn) (before : ServerState) (now end : Told) (behind : ServerState) : Type 0 where
  pub past : List Event
  pub told : now ≡ Some past
  pub events : List Event
  pub adds : Adds now end events
  pub honest : IsHonest f before events behind

-- no device stopped the run, and memory wasn't wanting
pub record IsUndisturbed (status : ℕ) : Type 0 where
  pub source : status ≢ 3
  pub sink : status ≢ 4
  pub link : status ≢ 5
  pub disk : status ≢ 6
  pub memory : status ≢ 7

-- these events are what the simulator makes of the history's leakage and of the values drawn for it under this key
pub record IsSimulated (f : KeyedFn) (key : Option (List ℕ)) (h : History) (events : List Event) : Type 0 where
  pub passed : List Passed
  pub made : simulated_with f key h ≡ Some passed
  pub same : map bare events ≡ map as_event passed

-- the frames that were sent between these two moments are the first of those that the simulator makes of this history
pub record SendsSimulated (f : KeyedFn) (key : Option (List ℕ)) (h : History) (now end : Told) : Type 0 where
  pub events : List Event
  pub adds : Adds now end events
  pub passed : List Passed
  pub made : simulated_with f key h ≡ Some passed
  pub n : ℕ
  pub sent : sent_in events ≡ take n (map frame_bytes (sent_among passed))

-- between these two moments a script of this meaning was carried out, with this status: its lines were printed, each search
-- with the identifiers of the live documents that hold its word, and a front of the line that says why it stopped; all that
-- passed is what the meaning's history makes, which is what the simulator makes of its leakage and its draws; the client keeps
-- the history's records, and the server at the other end is one that was sent its frames from its first state on
pub record Headline (f : KeyedFn) (before : ServerState) (m : Meaning) (now end : Outside) (status : ℕ) (behind : ServerState) : Type 0 where
  pub status_is : status ≡ status_of m.end
  pub q : ℕ
  pub printed : end.written ≡ append_known now.written (flat_map text_of (map said m.shown) ++ take q (stop_text m.end))
  pub events : List Event
  pub adds : Adds now.told end.told events
  pub session : map bare events ≡ map as_event (session_of f m)
  pub simulated : IsSimulated f m.key m.history events
  pub kept : Keeps now.kept end.kept (records_with f m.key m.history)
  pub stored : behind ≡ (steps f before (frames_of f m)).0
