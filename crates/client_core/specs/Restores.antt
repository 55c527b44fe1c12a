-- The history of a client that was made from records.
use Rattle.std.specs.Prelude.{◌≡◌, ℕ, List, [], Some}
use Rattle.client_registry.specs.Epochs.{begins, key_now}
use Rattle.client_registry.specs.Histories.{IsKept}
use Rattle.client_registry.specs.Run.{Epochs, From, Offsets, Run, last_run}
use Rattle.client_records.specs.Openings.{Opens, marks_of}
use Rattle.client_rebuild.specs.Recalls.{Recalls, hash_keys_of}
use Rattle.client_core.specs.StandsFor.{IsPastOf}
use Rattle.client_core.specs.States.{RecordedState}
use Rattle.client_core.specs.declared.restored.Restored.{Restored}
use Rattle.client_core.specs.declared.restored.Restored.TheVariants as restored

-- the last record's command is the last of this run, which begins at these offsets and keeps the rules of every history; a renewal takes
-- over its parameters
pub record Remembers (o : Offsets) (run : Run) (state : RecordedState) : Type 0 where
  pub kept : IsKept (Some (From o run))
  pub recalls : Recalls o run state.last
  pub past : IsPastOf state.past run

-- these records open to epochs whose keys have these marks, the first of them this one and the last the other; the client is that of
-- the last epoch
pub record IsRecordedIn (mark : List ℕ) (payloads : List (List ℕ)) (first : List ℕ) (es : Epochs) (state : RecordedState) : Type 0 where
  pub opened : Opens first payloads es
  pub under : key_now first es ≡ mark
  pub marks : state.past.marks.items ≡ marks_of first es
  pub remembers : Remembers (begins es) (last_run es) state

-- the client of these records under the key of this mark: with no setup where there is none, else that of the epochs to which they open
abbrev pub IsRestored : List ℕ → List (List ℕ) → Restored → Type 0
IsRestored mark payloads (restored.Fresh client) = payloads ≡ []
IsRestored mark payloads (restored.Recorded client) = (first : List ℕ) × (es : Epochs) × IsRecordedIn mark payloads first es client.state

-- its master key
abbrev pub restored_key : Restored → List ℕ
restored_key (restored.Fresh client) = client.key
restored_key (restored.Recorded client) = client.key

-- it hashes identifiers and words under these two numbers
abbrev pub HashesUnder : ℕ × ℕ → Restored → Type 0
HashesUnder keys (restored.Fresh client) = Unit {0}
HashesUnder keys (restored.Recorded client) = hash_keys_of client.state.last ≡ keys
