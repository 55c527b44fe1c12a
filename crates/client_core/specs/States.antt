-- A contract's view of a client and of its states.
use Rattle.std.specs.Prelude.{ℕ, List}
use Rattle.client_rebuild.specs.declared.last.Last.{Last}
use Rattle.client_registry.specs.Registered.{Registered}
use Rattle.client_renewal.specs.declared.past.Past.{Past}
use Rattle.client_core.specs.Keys.{WordKeys}

-- its master key and its state
pub record ClientOf (S : Type 0) : Type 0 where
  pub key : List ℕ
  pub state : S

-- of one with nothing that the server may lack: what its registry tells, the keys of words that it keeps, how many update
-- frames were planned, which is the number of the next one, and what a renewal of its key takes over
pub record ReadyState : Type 0 where
  pub registry : Registered
  pub keys : WordKeys
  pub frames : ℕ
  pub past : Past

-- of one with frames that the server may lack: its state once they are acknowledged, their bytes in the order in which they
-- are sent, and the number of the first
pub record BehindState : Type 0 where
  pub ready : ReadyState
  pub frames : List (List ℕ)
  pub number : ℕ

-- of one that was rebuilt from records: the last one, and what a renewal of its key takes over
pub record RecordedState : Type 0 where
  pub last : Last
  pub past : Past
