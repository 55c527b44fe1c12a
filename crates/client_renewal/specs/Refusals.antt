-- Why a renewal of the master key isn't planned, by what is live, by the marks of the epochs' keys, and by the number of its first frame.
use Rattle.std.specs.Prelude.{ℕ, ◌+◌, ◌^◌, nat_le, List, position, bytes_eq, Option, None, Some, option_map, if◌then◌else◌}
use Rattle.std.specs.Option.{option_and_then, option_or}
use Rattle.client_registry.specs.Acceptance.{frames_needed, size_refusal}
use Rattle.client_registry.specs.Document.{Document}
use Rattle.client_registry.specs.Setup.{Setup}
use Rattle.client_live_docs.specs.LiveAfter as live
use Rattle.client_registry.specs.declared.faults.DocsFault.{DocsFault}
use Rattle.client_registry.specs.declared.faults.DocsFault.TheVariants as documents
use Rattle.client_registry.specs.declared.faults.SizeFault.{SizeFault}
use Rattle.client_registry.specs.declared.faults.SizeFault.TheVariants as sizes
use Rattle.client_renewal.specs.declared.renewal_fault.RenewalFault.{RenewalFault}
use Rattle.client_renewal.specs.declared.renewal_fault.RenewalFault.TheVariants as faults

-- the key of this mark isn't taken after epochs whose keys have these marks: it is that of an epoch, from 0
abbrev pub key_refusal : List (List ℕ) → List ℕ → Option RenewalFault
key_refusal marks mark = option_map (λ epoch. faults.KeyUsed epoch) (position (bytes_eq mark) marks)

-- the fault of documents that aren't set up again; no identifier is live twice
abbrev pub fault_of_docs : DocsFault → Option RenewalFault
fault_of_docs (documents.AlreadyLive id) = None
fault_of_docs (documents.TooManyDocuments n) = Some (faults.TooManyDocuments n)
fault_of_docs (documents.TooManyPairs n) = Some (faults.TooManyPairs n)
fault_of_docs documents.NoMemory = Some faults.NoMemory

-- these documents are too many for a setup, or their pairs of a word and a document are
abbrev pub live_refusal : List Document → Option RenewalFault
live_refusal docs = option_and_then fault_of_docs (live.live_refusal docs)

-- the fault of a refused size; parameters that an epoch had aren't refused
abbrev pub fault_of_size : SizeFault → Option RenewalFault
fault_of_size (sizes.BadParameter which value) = None
fault_of_size (sizes.ListTooLong word n) = Some (faults.ListTooLong word n)
fault_of_size (sizes.TooManyBytes n) = Some (faults.TooManyBytes n)

-- there is no number for each of so many frames after the first n
abbrev pub full_refusal : (n more : ℕ) → Option RenewalFault
full_refusal n more = if nat_le (2 ^ 32) (n + more) then Some faults.HistoryFull else None

-- a setup isn't sent after n update frames: for its size, or for the numbers of its frames
abbrev pub refusal_to_send : ℕ → Setup → Option RenewalFault
refusal_to_send n s = option_or (option_and_then fault_of_size (size_refusal s)) (full_refusal n (frames_needed s))

-- why a renewal isn't planned that makes this setup, before its values are made: the first of these causes that applies
abbrev pub renewal_refusal : List (List ℕ) → List ℕ → ℕ → Setup → Option RenewalFault
renewal_refusal marks mark n s = option_or (key_refusal marks mark) (option_or (live_refusal s.documents) (refusal_to_send n s))
