-- A session that continues from a place of a script after the setup, with a server that holds the results of its frames: any run of it, and an
-- undisturbed one.
use Rattle.std.specs.Prelude.{◌≡◌, ◌⊎◌, ℕ, Bool, List, ◌++◌, flat_map, fold, map, take, Option, Some}
use Rattle.std.specs.Io.KnownBytes.{append_known}
use Rattle.client_registry.specs.Document.{Document}
use Rattle.client_registry.specs.Epochs.{Step, step_after}
use Rattle.client_registry.specs.Run.{Epochs}
use Rattle.keyed_fn.specs.KeyedFn.{KeyedFn}
use Rattle.server_core.specs.State.{ServerState}
use Rattle.server_core.specs.Step.{steps}
use Rattle.sse_frames.specs.Exchange.{greeting, exchange}
use Rattle.def_link_events.specs.Events.{Event}
use Rattle.sse_script.specs.Texts.{text_of}
use Rattle.def_script_meaning.specs.Carries.{Keeps, Outside}
use Rattle.def_script_meaning.specs.Exchange.{Adds, as_event, bare}
use Rattle.def_script_meaning.specs.Lines.{Line}
use Rattle.def_script_meaning.specs.Meaning.{Meaning}
use Rattle.def_script_meaning.specs.Outcome.{Place, said}
use Rattle.def_script_meaning.specs.Runs.{Ended, IsGreeted, IsTurnedAway, Runs}
use Rattle.def_script_meaning.specs.Since.{frames_since, shown_since, records_since}
use Rattle.def_script_meaning.specs.Stops.{status_of, stop_text}

-- a place after these epochs, the first of which has this key; those before it, of which nothing else is known, had these marks
abbrev pub at_epochs : (mark : List ℕ → List ℕ) (used : List (List ℕ)) (key : List ℕ) → List Document → Epochs → Place
at_epochs mark used key docs es = record { key = key; mark = Some mark; used = used; documents = docs; history = Some es }

-- a session with a server that may expect an update from low to high, over these lines: the greeting, and what follows
abbrev pub GoesOn : KeyedFn → (low high : ℕ) → Place → (number : ℕ) → List (Option Line) → (refused : Bool) → Outside → Ended → Type 0
GoesOn f low high place number lines refused now end =
    IsTurnedAway low high place.key place.history now end
    ⊎ ((next : Outside) × IsGreeted low high now next × Runs f place number lines refused next end)

-- between these two moments lines of this meaning were carried out after these epochs, with this status: as in a whole run (Headline),
-- what passed being the greeting and the exchange of the frames after them alone, and what is kept the records after theirs
pub record Continued (f : KeyedFn) (before : ServerState) (key : List ℕ) (es : Epochs) (m : Meaning) (now last : Outside) (status : ℕ) (behind : ServerState) : Type 0 where
  pub status_is : status ≡ status_of m.end
  pub q : ℕ
  pub printed : last.written ≡ append_known now.written (flat_map text_of (map said m.shown) ++ take q (stop_text m.end))
  pub more : List Step
  pub history : m.history ≡ Some (fold step_after es more)
  pub events : List Event
  pub adds : Adds now.told last.told events
  pub kept : Keeps now.kept last.kept (records_since f more)
  pub passed : map bare events ≡ map as_event (greeting before.next ++ exchange (shown_since es more) (frames_since f key es more))
  pub stored : behind ≡ (steps f before (frames_since f key es more)).0
