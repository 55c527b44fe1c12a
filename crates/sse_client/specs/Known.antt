-- What a client knows of a history by its records: the last epoch, and of those before it the marks of their keys.
use Rattle.std.specs.Prelude.{◌≡◌, ℕ, List, [], ◌∷◌, ◌++◌}
use Rattle.client_core.specs.Restores.{Remembers}
use Rattle.client_core.specs.States.{RecordedState}
use Rattle.client_records.specs.Openings.{Opens, marks_of}
use Rattle.client_registry.specs.Epochs.{begins, key_now}
use Rattle.client_registry.specs.Run.{Epochs, From, Offsets, Renewed, Run, last_run}
use Rattle.keyed_fn.specs.KeyFormulas.{mark_of}
use Rattle.keyed_fn.specs.KeyedFn.{KeyedFn}
use Rattle.def_script_meaning.specs.Continues.{at_epochs}
use Rattle.def_script_meaning.specs.Outcome.{Place}

-- the marks of the epochs before the last, where the last one begins, and its run
pub record Known : Type 0 where
  pub used : List (List ℕ)
  pub begins : Offsets
  pub run : Run

-- the last epoch by itself
abbrev pub epochs_known : Known → Epochs
epochs_known known = From known.begins known.run

-- the place of a script that goes on there under this key
abbrev pub place_known : KeyedFn → (key : List ℕ) → Known → Place
place_known f key known = at_epochs (mark_of f) known.used key [] (epochs_known known)

-- the marks of all epochs but the last, in epochs as records say them
abbrev pub marks_before : (first : List ℕ) → Epochs → List (List ℕ)
marks_before first (From o run) = []
marks_before first (Renewed before own run) = marks_of first before

-- what is known of such epochs
abbrev pub known_of : (first : List ℕ) → Epochs → Known
known_of first es = record { used = marks_before first es; begins = begins es; run = last_run es }

-- records open to a history of which this is known, the last epoch under the key of this mark
pub record OpensUnder (mark : List ℕ) (records : List (List ℕ)) (known : Known) : Type 0 where
  pub first : List ℕ
  pub es : Epochs
  pub opened : Opens first records es
  pub last : key_now first es ≡ mark
  pub is : known ≡ known_of first es

-- a client that was made from records knows this of its history, under this key
pub record Knows (f : KeyedFn) (key : List ℕ) (known : Known) (state : RecordedState) : Type 0 where
  pub remembers : Remembers known.begins known.run state
  pub marks : state.past.marks.items ≡ known.used ++ mark_of f key ∷ []
