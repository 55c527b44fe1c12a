-- The history that a client stands for, and the effect of a command after it. A history begins at its offsets, and has a key for each epoch.
use Rattle.std.specs.Prelude.{◌≡◌, ◌+◌, ◌-◌, ◌<◌, ◌^◌, ℕ, Bool, not, nat_le, true, false, List, [], ◌∷◌, ◌++◌, All, length, position, Option, None, Some, is_some, option_map, IsSome, if◌then◌else◌}
use Rattle.std.specs.Option.{option_or}
use Rattle.client_registry.specs.Command.{Command as Meant, Add, Delete}
use Rattle.client_registry.specs.Document.{Document}
use Rattle.client_registry.specs.Facts.{Facts, facts_of, has_counter, has_counters}
use Rattle.client_registry.specs.Histories.{IsKept}
use Rattle.client_registry.specs.Numbered.{words_by_number}
use Rattle.client_registry.specs.IdNumber.{id_number}
use Rattle.client_registry.specs.Registered.{Registered, HasRoom, Represents, facts, known_words}
use Rattle.client_registry.specs.Run.{Run, Offsets, From}
use Rattle.client_registry.specs.Sized.{IsSizedCommand}
use Rattle.client_renewal.specs.declared.past.Past.{Past}
use Rattle.keyed_fn.specs.KeyedFn.{KeyedFn}
use Rattle.sse_frames.specs.Frames.{FrameText}
use Rattle.sse_model.specs.Compared.{Collision, collision_of}
use Rattle.sse_model.specs.Names.{table}
use Rattle.sse_model.specs.Wire.{frames_of, next_number}
use Rattle.client_core.specs.Keys.{Keeps}
use Rattle.client_core.specs.Plans.{UpdatePlan}
use Rattle.client_core.specs.States.{ReadyState}
use Rattle.client_core.specs.UpdateFaults.{clash_fault}
use Rattle.client_core.specs.Updates.{command_of_update}
use Rattle.client_core.specs.declared.command_fault.CommandFault.{CommandFault}
use Rattle.client_core.specs.declared.command_fault.CommandFault.TheVariants as faults
use Rattle.client_core.specs.declared.update.Update.{Update}
use Rattle.client_core.specs.declared.update.Update.TheVariants as updates

-- what is taken over are the parameters of a run's index
pub record IsPastOf (past : Past) (run : Run) : Type 0 where
  pub shape : run.setup.shape ≡ record { b = past.b; big = past.big }
  pub pad : run.setup.pad ≡ past.pad

-- the client stands for a history that keeps all limits: its registry tells the facts of it, its next frame has the next
-- number, the keys that it keeps are those of the words under the key of the history's epoch, and a renewal takes over its parameters
pub record StandsFor (f : KeyedFn) (keys : ℕ → List ℕ) (o : Offsets) (run : Run) (state : ReadyState) : Type 0 where
  pub kept : IsKept (Some (From o run))
  pub registry : Represents state.registry run.setup run.later
  pub number : state.frames ≡ next_number o run.setup run.later
  pub word_keys : Keeps f (keys o.epoch) (known_words state.registry) state.keys
  pub past : IsPastOf state.past run

-- one command more
abbrev pub with_command : Run → Meant → Run
with_command run c = record { setup = run.setup; later = run.later ++ c ∷ [] }

-- the frames of a command after a history, and two of its values that have to differ and are equal
abbrev pub frames_next : KeyedFn → (ℕ → List ℕ) → Offsets → Run → Meant → List FrameText
frames_next f keys o run c = frames_of (table f run.setup.shape keys) o.epoch run.setup (next_number o run.setup run.later) run.later c

abbrev pub collision_next : KeyedFn → (ℕ → List ℕ) → Offsets → Run → Meant → Option Collision
collision_next f keys o run c = collision_of (table f run.setup.shape keys) o.epoch run.setup run.later c

-- why there is no number for one update frame more
abbrev pub full_refusal : ℕ → Option CommandFault
full_refusal n = if nat_le (2 ^ 32 - 1) n then Some faults.HistoryFull else None

-- why an addition or a deletion isn't accepted, by the facts of a history and the number of its next frame: the first cause
-- that stands
abbrev pub refusal_to_add : Facts → ℕ → Document → Option CommandFault
refusal_to_add facts n d =
    if is_some (facts.live d.id) then Some (faults.AlreadyLive d.id)
    else option_or (option_map (λ p. faults.CounterFull p) (position (λ word. not (has_counter facts d.id word)) d.words)) (full_refusal n)

abbrev pub refusal_to_delete : Facts → ℕ → ℕ → Option CommandFault
refusal_to_delete facts n id = if is_some (facts.live id) then full_refusal n else Some (faults.UnknownDocument id)

-- the same after a history
abbrev pub add_refusal : Offsets → Run → Document → Option CommandFault
add_refusal o run d = refusal_to_add (facts_of run.setup run.later) (next_number o run.setup run.later) d

abbrev pub delete_refusal : Offsets → Run → ℕ → Option CommandFault
delete_refusal o run id = refusal_to_delete (facts_of run.setup run.later) (next_number o run.setup run.later) id

-- the same, and after those causes two equal values
abbrev pub add_fault : KeyedFn → (ℕ → List ℕ) → Offsets → Run → Document → Option CommandFault
add_fault f keys o run d = option_or (add_refusal o run d) (option_map clash_fault (collision_next f keys o run (Add d)))

abbrev pub delete_fault : KeyedFn → (ℕ → List ℕ) → Offsets → Run → ℕ → Option CommandFault
delete_fault f keys o run id = option_or (delete_refusal o run id) (option_map clash_fault (collision_next f keys o run (Delete id)))

-- whether a fault can come of an addition, and of a deletion
abbrev pub comes_of_add : CommandFault → Bool
comes_of_add (faults.UnknownDocument id) = false
comes_of_add _ = true

abbrev pub comes_of_delete : CommandFault → Bool
comes_of_delete (faults.UnknownDocument id) = true
comes_of_delete faults.HistoryFull = true
comes_of_delete (faults.NumberClash first second) = true
comes_of_delete faults.NoMemory = true
comes_of_delete _ = false

-- these are the numbers of the words
pub record AreNumbersOf (r : Registered) (words : List (List ℕ)) (numbers : List ℕ) : Type 0 where
  pub words_are : words_by_number (known_words r) numbers ≡ words
  pub within : All (λ n. n < length (known_words r)) numbers

-- an update that is accepted, and that takes no memory; an added document's words have these numbers
abbrev pub Fits : Registered → Update → List ℕ → Type 0
Fits r (updates.Add doc) numbers = ((facts r).live doc.id ≡ None) × (has_counters (facts r) doc ≡ true) × HasRoom r doc × AreNumbersOf r doc.words numbers
Fits r (updates.Delete id) numbers = IsSome ((facts r).live (id_number id))

-- the client can take the plan as done: it was made with the number that the client's next frame has
pub record CanCommit (state : ReadyState) (planned : UpdatePlan) : Type 0 where
  pub next : planned.number ≡ state.frames
  pub number : state.frames + 1 < 2 ^ 32
  pub sized : IsSizedCommand (command_of_update planned.update)
  pub fits : Fits state.registry planned.update planned.words
