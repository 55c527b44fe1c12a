-- The clients that a world runs, by their history and phase.
use Rattle.std.specs.Prelude.{◌≡◌, ◌-◌, ◌≤◌, ℕ, List, None, Some}
use Rattle.client_core.specs.Owes.{Owes}
use Rattle.client_core.specs.Restores.{Remembers}
use Rattle.client_core.specs.Resumes.{first_of_last}
use Rattle.client_core.specs.StandsFor.{StandsFor}
use Rattle.client_core.specs.States.{BehindState, ClientOf, ReadyState, RecordedState}
use Rattle.client_core.specs.TakenViews.{first_number}
use Rattle.client_core.specs.declared.restored.Restored.{Restored}
use Rattle.client_core.specs.declared.restored.Restored.TheVariants as restored
use Rattle.client_registry.specs.Epochs.{begins, key_now}
use Rattle.client_registry.specs.Run.{Epochs, History, last_run}
use Rattle.client_registry.specs.WordBytes.{word_bytes}
use Rattle.keyed_fn.specs.KeyedFn.{KeyedFn}
use Rattle.world_model.specs.World.{Phase, Greets, Rests, Sends, Asks}
use Rattle.world_client.specs.Histories.{key_marks}
use Rattle.world_client.specs.declared.state.State.{State}
use Rattle.world_client.specs.declared.state.State.TheVariants as states

-- its key is the last of these epochs, it remembers the last of them by its record, and a renewal takes over the marks of their keys
pub record IsRestoredOf (f : KeyedFn) (first : List ℕ) (es : Epochs) (client : ClientOf RecordedState) : Type 0 where
  pub key : client.key ≡ key_now first es
  pub remembers : Remembers (begins es) (last_run es) client.state
  pub marks : client.state.past.marks.items ≡ key_marks f first es

-- the same, and it stands for the last of them, with no frame to send
pub record IsResting (f : KeyedFn) (first : List ℕ) (es : Epochs) (client : ClientOf ReadyState) : Type 0 where
  pub key : client.key ≡ key_now first es
  pub stands : StandsFor f (λ epoch. key_now first es) (begins es) (last_run es) client.state
  pub marks : client.state.past.marks.items ≡ key_marks f first es

-- the same, and it has the frames of the last command to send from the frame of this number on, counted through all epochs
pub record IsSending (f : KeyedFn) (first : List ℕ) (es : Epochs) (next : ℕ) (client : ClientOf BehindState) : Type 0 where
  pub key : client.key ≡ key_now first es
  pub low : first_of_last f (key_now first es) (begins es) (last_run es) ≤ next
  pub owes : Owes f (λ epoch. key_now first es) (begins es) (last_run es) (next - first_of_last f (key_now first es) (begins es) (last_run es)) client.state
  pub number : first_number client.state ≡ next
  pub marks : client.state.ready.past.marks.items ≡ key_marks f first es

-- a client that is to be told which frames the server lacks: that of the records of this history
abbrev pub IsGreeting : KeyedFn → List ℕ → History → Restored → Type 0
IsGreeting f first None (restored.Fresh client) = client.key ≡ first
IsGreeting f first None (restored.Recorded client) = ⊥
IsGreeting f first (Some es) (restored.Fresh client) = ⊥
IsGreeting f first (Some es) (restored.Recorded client) = IsRestoredOf f first es client

-- a client in this phase, after this history
abbrev pub IsClientIn : KeyedFn → List ℕ → History → Phase (List ℕ) → State → Type 0
IsClientIn f first h Greets (states.Greeting client) = IsGreeting f first h client
IsClientIn f first None Rests (states.Fresh client) = client.key ≡ first
IsClientIn f first (Some es) Rests (states.Resting client) = IsResting f first es client
IsClientIn f first (Some es) (Sends next) (states.Sending client) = IsSending f first es next client
IsClientIn f first (Some es) (Asks word) (states.Asking client asked) = IsResting f first es client × (word_bytes asked ≡ word)
IsClientIn f first h phase state = ⊥

-- this master key is that of a client that asks for a word
abbrev pub IsPreparedFor : List ℕ → State → Type 0
IsPreparedFor master (states.Asking client asked) = master ≡ client.key
IsPreparedFor master _ = Unit {0}
