-- A renewal of the key behind the last record taken.
use Rattle.std.specs.Prelude.{◌≡◌, ℕ, ◌+◌, ◌^◌, ◌<◌, false, List, [], bytes_eq, None}
use Rattle.std.specs.List.{list_any}
use Rattle.client_live_docs.specs.AreLive.{AreLive}
use Rattle.client_registry.specs.Acceptance.{frames_needed, size_refusal}
use Rattle.client_registry.specs.Document.{Document}
use Rattle.client_registry.specs.Documents.{IsCollected}
use Rattle.client_registry.specs.Epochs.{behind, setup_renewed}
use Rattle.client_registry.specs.Run.{Offsets, Run}
use Rattle.client_registry.specs.Setup.{Setup}
use Rattle.client_registry.specs.Sized.{IsHistory}
use Rattle.client_registry.specs.declared.faults.DocsFault.{DocsFault}
use Rattle.client_registry.specs.declared.faults.DocsFault.TheVariants as documents
use Rattle.client_rebuild.specs.Recalls.{Recalls, facts_of_last, frames_of_last, hash_keys_of, pad_of_last, records_of_last, shape_of_last}
use Rattle.client_rebuild.specs.declared.fault.RebuildFault.{RebuildFault}
use Rattle.client_rebuild.specs.declared.fault.RebuildFault.TheVariants as faults
use Rattle.client_rebuild.specs.declared.last.Last.{Last}

-- the setup of these documents in the shape of the epochs before
abbrev pub setup_behind : Last → List Document → Setup
setup_behind l docs = record { documents = docs; shape = shape_of_last l; pad = pad_of_last l }

-- a key of this mark can be the next one's behind epochs whose keys have these marks: it is that of none, the live documents make an
-- accepted setup, and there is a number for each of its frames
pub record AcceptsRenewal (marks : List (List ℕ)) (l : Last) (own : List ℕ) : Type 0 where
  pub fresh : list_any (bytes_eq own) marks ≡ false
  pub docs : List Document
  pub live : AreLive (facts_of_last l).live docs
  pub collected : IsCollected docs
  pub accepted : size_refusal (setup_behind l docs) ≡ None
  pub numbered : frames_of_last l + frames_needed (setup_behind l docs) < 2 ^ 32

-- the history with a renewal more, recorded behind it, whose documents are hashed under these two numbers
pub record IsRenewed (keys : ℕ × ℕ) (l next : Last) : Type 0 where
  pub recalls : (o : Offsets) (run : Run) → IsHistory run → Recalls o run l → Recalls (behind o run) (record { setup = setup_renewed run; later = [] }) next
  pub records : records_of_last next ≡ records_of_last l + 1
  pub hashed : hash_keys_of next ≡ keys

-- the fault of the record of this number where the live documents are refused
abbrev pub fault_of_docs : ℕ → DocsFault → RebuildFault
fault_of_docs n (documents.AlreadyLive id) = faults.BadRecord n
fault_of_docs n (documents.TooManyDocuments count) = faults.BadRecord n
fault_of_docs n (documents.TooManyPairs count) = faults.BadRecord n
fault_of_docs n documents.NoMemory = faults.NoMemory
