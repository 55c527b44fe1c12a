-- Why a renewal of the key isn't taken after a history.
use Rattle.std.specs.Prelude.{◌≡◌, ℕ, nat_lt, length, Option, None, Some, if◌then◌else◌}
use Rattle.std.specs.Option.{option_and_then, option_or}
use Rattle.client_live_docs.specs.LiveAfter.{live_refusal}
use Rattle.client_registry.specs.Acceptance as counts
use Rattle.client_registry.specs.Acceptance.{frames_needed, size_refusal}
use Rattle.client_registry.specs.Setup.{Setup, setup_words}
use Rattle.client_registry.specs.declared.faults.DocsFault.{DocsFault}
use Rattle.client_registry.specs.declared.faults.DocsFault.TheVariants as documents
use Rattle.client_registry.specs.declared.faults.SizeFault.{SizeFault}
use Rattle.client_registry.specs.declared.faults.SizeFault.TheVariants as sizes
use Rattle.client_registry.specs.declared.size.Size.{Size}
use Rattle.leakage_history.specs.declared.renewal_fault.RenewalFault.{RenewalFault}
use Rattle.leakage_history.specs.declared.renewal_fault.RenewalFault.TheVariants as faults

-- the fault of documents that aren't set up again; no identifier is live twice
abbrev pub fault_of_docs : DocsFault → Option RenewalFault
fault_of_docs (documents.AlreadyLive id) = None
fault_of_docs (documents.TooManyDocuments n) = Some (faults.TooManyDocuments n)
fault_of_docs (documents.TooManyPairs n) = Some (faults.TooManyPairs n)
fault_of_docs documents.NoMemory = Some faults.NoMemory

-- the fault of a refused size; parameters that an epoch had aren't refused
abbrev pub fault_of_size : SizeFault → Option RenewalFault
fault_of_size (sizes.BadParameter which value) = None
fault_of_size (sizes.ListTooLong word n) = Some (faults.ListTooLong word n)
fault_of_size (sizes.TooManyBytes n) = Some (faults.TooManyBytes n)

-- its documents are too many for a setup, or their pairs of a word and a document are
abbrev pub docs_refusal : Setup → Option RenewalFault
docs_refusal s = option_and_then fault_of_docs (live_refusal s.documents)

-- it takes more update frames than this
abbrev pub frames_refusal : (most : ℕ) → Setup → Option RenewalFault
frames_refusal most s = if nat_lt most (frames_needed s) then Some faults.HistoryFull else None

-- a list of its index is too long, or the index too large, or it takes more frames
abbrev pub index_refusal : (most : ℕ) → Setup → Option RenewalFault
index_refusal most s = option_or (option_and_then fault_of_size (size_refusal s)) (frames_refusal most s)

-- why a renewal isn't taken that makes this setup, where there are numbers for so many update frames: the first of these
-- causes that applies
abbrev pub renewal_refusal : (most : ℕ) → Setup → Option RenewalFault
renewal_refusal most s = option_or (docs_refusal s) (index_refusal most s)

-- the counts of the index of a setup
pub record IsIndexSize (size : Size) (s : Setup) : Type 0 where
  pub words : size.words ≡ length (setup_words s)
  pub padded_words : size.padded_words ≡ counts.padded_words s
  pub padded_blocks : size.padded_blocks ≡ counts.padded_blocks s
