-- Two sessions of one history: a whole run over a script, and one that continues from its end.
use Rattle.std.specs.Prelude.{◌≡◌, ◌≤◌, ℕ, ◌+◌, List, ◌++◌, drop, fold, map, Option, Some}
use Rattle.client_records.specs.Recorded.{as_recorded}
use Rattle.client_registry.specs.Epochs.{Step, step_after}
use Rattle.client_registry.specs.Histories.{frames_in}
use Rattle.client_registry.specs.Run.{History, Epochs}
use Rattle.keyed_fn.specs.KeyedFn.{KeyedFn}
use Rattle.def_link_events.specs.Events.{Event}
use Rattle.server_core.specs.State.{ServerState}
use Rattle.server_core.specs.Step.{steps}
use Rattle.sse_frames.specs.Exchange.{Passed}
use Rattle.def_script_meaning.specs.Exchange.{as_event, bare}
use Rattle.def_script_meaning.specs.Goes.{frames_in_hand}
use Rattle.def_script_meaning.specs.Rejoins.{frames_under, HasTaken}
use Rattle.def_script_meaning.specs.Session.{session_with, simulated_with}

-- epochs without their searches, of which no record tells, their keys being known
abbrev pub updates_of : Epochs → Epochs
updates_of es = as_recorded (λ key. key) es

-- what a run of this history may leave at the other end: a server that was sent the first frames of its updates, all but at most some of the
-- last command's, so that a session can go on after the last epoch with it
pub record LeavesTaken (f : KeyedFn) (key : List ℕ) (es : Epochs) (state : ServerState) : Type 0 where
  pub next : ℕ
  pub taken : HasTaken f key (updates_of es) next state
  pub most : frames_in (Some (updates_of es)) ≤ next + frames_in_hand (Some (updates_of es))

-- the same where there may be no key, or no setup yet
abbrev pub LeavesServer : KeyedFn → (key : Option (List ℕ)) → History → ServerState → Type 0
LeavesServer f (Some key) (Some es) state = LeavesTaken f key es state
LeavesServer f _ _ state = Unit {0}

-- what passed in the first session, of these epochs, and behind the greeting of the second, of the steps after them, is the session of one history,
-- with the searches of the first one in their places, which is what the simulator makes of it; the server at the end is one that was sent all of
-- that history's frames
pub record IsOneSession (f : KeyedFn) (start : ServerState) (key : List ℕ) (es : Epochs) (more : List Step) (first second : List Event) (behind : ServerState) : Type 0 where
  pub session : map bare (first ++ drop 2 second) ≡ map as_event (session_with f (Some key) (Some (fold step_after es more)))
  pub passed : List Passed
  pub made : simulated_with f (Some key) (Some (fold step_after es more)) ≡ Some passed
  pub same : map bare (first ++ drop 2 second) ≡ map as_event passed
  pub stored : behind ≡ (steps f start (frames_under f key (Some (fold step_after es more)))).0
