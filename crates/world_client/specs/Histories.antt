-- The history of a client of a world: its epochs have keys, the first of which is given apart; before a setup it has none.
use Rattle.std.specs.Prelude.{◌≡◌, ◌==◌, ℕ, List, None, Some, filter, if◌then◌else◌}
use Rattle.client_core.specs.Resumes.{IsWithin, last_collision}
use Rattle.client_records.specs.Openings.{MarksDiffer, marks_of}
use Rattle.client_records.specs.Recorded.{as_recorded, records_of_history}
use Rattle.client_registry.specs.Command.{is_update}
use Rattle.client_registry.specs.Epochs.{Each, begins, key_now}
use Rattle.client_registry.specs.Histories.{IsKept, IsWhole, frames_in}
use Rattle.client_registry.specs.Run.{Epochs, History, last_run}
use Rattle.keyed_fn.specs.KeyFormulas.{mark_of}
use Rattle.keyed_fn.specs.KeyedFn.{KeyedFn}
use Rattle.world_model.specs.World.{Phase, Rests, Sends}

-- the marks of its keys
abbrev pub key_marks : KeyedFn → List ℕ → Epochs → List (List ℕ)
key_marks f first es = marks_of (mark_of f first) (as_recorded (mark_of f) es)

-- the records of it
abbrev pub records_under : KeyedFn → List ℕ → History → List (List ℕ)
records_under f first h = records_of_history (mark_of f) first h

-- it has no searches, of which no record tells
abbrev pub HasNoSearch : List ℕ → History → Type 0
HasNoSearch first None = Unit {0}
HasNoSearch first (Some es) = Each (λ key o run. filter is_update run.later ≡ run.later) first es

-- no two values of its last command that have to differ are equal
abbrev pub IsClear : KeyedFn → List ℕ → History → Type 0
IsClear f first None = Unit {0}
IsClear f first (Some es) = last_collision f (λ epoch. key_now first es) (begins es) (last_run es) ≡ None

-- what is so of the history of every client: it is whole and keeps all limits, its keys have different marks, and its commands were
-- accepted
pub record IsOfClient (f : KeyedFn) (first : List ℕ) (h : History) : Type 0 where
  pub whole : IsWhole h
  pub kept : IsKept h
  pub differ : MarksDiffer (mark_of f) first h
  pub updates : HasNoSearch first h
  pub clear : IsClear f first h

-- a server that expects the update frame of this number lacks none but frames of the last command, and has none that isn't of the history
abbrev pub CanExpect : KeyedFn → List ℕ → History → ℕ → Type 0
CanExpect f first None next = next ≡ 0
CanExpect f first (Some es) next = IsWithin f (key_now first es) (begins es) (last_run es) next

-- the phase of a client whose server expects it
abbrev pub phase_at : {W : Type 0} → History → ℕ → Phase W
phase_at h next = if next == frames_in h then Rests else Sends next
