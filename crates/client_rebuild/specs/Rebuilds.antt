-- The records that a rebuild took, and its answer to one more.
use Rattle.std.specs.Prelude.{◌≡◌, ◌⊎◌, ℕ, ◌-◌, Bool, true, false, not, List, [], ◌∷◌, ◌++◌, length, slice_get, bytes_eq, None, Some, Option, Result, Ok, Err}
use Rattle.std.specs.Option.{option_map_or}
use Rattle.client_registry.specs.Acceptance.{size_refusal}
use Rattle.client_registry.specs.Command.{Add, Delete}
use Rattle.client_registry.specs.Epochs.{Step, Does, Renews, key_now}
use Rattle.client_registry.specs.HashNumbers.{hash_numbers}
use Rattle.client_registry.specs.Run.{History, at_first}
use Rattle.client_registry.specs.Setup.{Setup}
use Rattle.client_records.specs.Openings.{OpensNowhere, OpensTo, marks_of}
use Rattle.client_records.specs.Records.{RecordText, Adds, Deletes, Rekeys, SetsUp, IsRecordOf}
use Rattle.client_records.specs.TakenMemory.{TakesMemory}
use Rattle.client_rebuild.specs.Recalls.{IsFollowed, IsSameLast, Recalls, RecallsIn, accepts_after, hash_keys_of, records_of_last}
use Rattle.client_rebuild.specs.Renewals.{AcceptsRenewal, IsRenewed}
use Rattle.client_rebuild.specs.declared.fault.RebuildFault.{RebuildFault}
use Rattle.client_rebuild.specs.declared.fault.RebuildFault.TheVariants.{BadRecord, NoMemory}
use Rattle.client_rebuild.specs.declared.last.Last.{Last}
use Rattle.client_rebuild.specs.declared.rebuild.Rebuild.{Rebuild}
use Rattle.client_rebuild.specs.declared.rebuilt.Rebuilt.{Rebuilt}

-- how many records there are, and the two numbers under which words are hashed: any before the first record
abbrev pub records_in : Option Last → ℕ
records_in None = 0
records_in (Some l) = records_of_last l

abbrev pub AreHashKeys : ℕ × ℕ → Option Last → Type 0
AreHashKeys keys None = Unit {0}
AreHashKeys keys (Some l) = hash_keys_of l ≡ keys

-- the marks of a history's epochs, of which the first has this one; before a setup there is none
abbrev pub marks_in : List ℕ → History → List (List ℕ)
marks_in first None = []
marks_in first (Some es) = marks_of first es

-- these records open to a history, its epochs have these marks, and its last command is kept
pub record IsTaken (keys : ℕ × ℕ) (marks : List (List ℕ)) (payloads : List (List ℕ)) (last : Option Last) : Type 0 where
  pub first : List ℕ
  pub history : History
  pub opened : OpensTo first payloads history
  pub marked : marks ≡ marks_in first history
  pub recalls : RecallsIn history last
  pub records : records_in last ≡ length payloads
  pub hashed : AreHashKeys keys last

-- a rebuild took these records
abbrev pub Rebuilds : List (List ℕ) → Rebuild → Type 0
Rebuilds payloads r = IsTaken (hash_numbers r.hash_keys) r.marks.items payloads r.last

-- the last epoch of a history, whose first has one mark, has another; before a setup there is none
abbrev pub EndsUnder : (mark first : List ℕ) → History → Type 0
EndsUnder mark first None = Unit {0}
EndsUnder mark first (Some es) = key_now first es ≡ mark

-- there are marks, and the last one isn't this
abbrev pub ends_otherwise : (marks : List (List ℕ)) (mark : List ℕ) → Bool
ends_otherwise marks mark = option_map_or (λ last. not (bytes_eq last mark)) (slice_get marks (length marks - 1)) false

-- a rebuild that took these records is finished under the key of this mark, which is that of the last epoch
pub record IsFinished (mark : List ℕ) (payloads : List (List ℕ)) (r : Rebuilt) : Type 0 where
  pub taken : IsTaken (hash_numbers r.hash_keys) r.marks.items payloads r.last
  pub under : EndsUnder mark taken.first taken.history

-- memory is taken for one record more: to read it; or to carry out what stands before it, since it is accepted; or to collect the
-- live documents, since it is that of a renewal
abbrev pub TakesMemoryAfter : List (List ℕ) → List ℕ → Type 0
TakesMemoryAfter payloads payload =
    TakesMemory payload
    ⊎ ((first : List ℕ) × (h : History) × OpensTo first (payloads ++ payload ∷ []) h)
    ⊎ ((own : List ℕ) × IsRecordOf payload (Rekeys own))

-- what one record more makes of those taken: it is taken; or it opens nowhere after them, or is out of memory, and they are as before
abbrev pub Takes : {A : Type 0} → (keys : ℕ × ℕ) (payloads : List (List ℕ)) (payload : List ℕ) (marks : List (List ℕ)) (next : Option Last) → Result A RebuildFault → Type 0
Takes keys payloads payload marks next (Ok done) = IsTaken keys marks (payloads ++ payload ∷ []) next
Takes keys payloads payload marks next (Err (BadRecord n)) = (n ≡ length payloads) × OpensNowhere (payloads ++ payload ∷ []) × IsTaken keys marks payloads next
Takes keys payloads payload marks next (Err NoMemory) = TakesMemoryAfter payloads payload × IsTaken keys marks payloads next

-- the step that a record says, but for a setup's
abbrev pub said : RecordText → Option Step
said (SetsUp mark s) = None
said (Adds d) = Some (Does (Add d))
said (Deletes id) = Some (Does (Delete id))
said (Rekeys mark) = Some (Renews mark)

-- a record says a setup of accepted size under a mark
pub record IsAcceptedSetup (text : RecordText) (mark : List ℕ) (s : Setup) : Type 0 where
  pub says : text ≡ SetsUp mark s
  pub accepted : size_refusal s ≡ None

-- what a first record makes that says this; memory is taken for one that is accepted, and for no other
abbrev pub TakesFirst : (keys : ℕ × ℕ) → RecordText → Result (List ℕ × Last) RebuildFault → Type 0
TakesFirst keys text (Ok x) =
    (s : Setup) × IsAcceptedSetup text x.0 s × Recalls at_first (record { setup = s; later = [] }) x.1 × (records_of_last x.1 ≡ 1) × (hash_keys_of x.1 ≡ keys)
TakesFirst keys text (Err (BadRecord n)) = (n ≡ 0) × ((m : List ℕ) (s : Setup) → IsAcceptedSetup text m s → ⊥)
TakesFirst keys text (Err NoMemory) = ⊥

-- a step is accepted behind the last record, where the keys of the epochs have these marks
abbrev pub AcceptsAfter : (marks : List (List ℕ)) → Last → Step → Type 0
AcceptsAfter marks l (Does c) = accepts_after l c ≡ true
AcceptsAfter marks l (Renews own) = AcceptsRenewal marks l own

-- what is kept of it, and the marks with its own
abbrev pub IsStepped : (keys : ℕ × ℕ) → Last → Step → Last → Type 0
IsStepped keys l (Does c) next = IsFollowed l c next
IsStepped keys l (Renews own) next = IsRenewed keys l next

abbrev pub marks_with : List (List ℕ) → Step → List (List ℕ)
marks_with marks (Does c) = marks
marks_with marks (Renews own) = marks ++ own ∷ []

-- memory is taken for a step: to carry out what stands before one that is accepted, or for any renewal
abbrev pub TakesMemoryFor : (marks : List (List ℕ)) → Last → Step → Type 0
TakesMemoryFor marks l (Does c) = accepts_after l c ≡ true
TakesMemoryFor marks l (Renews own) = Unit {0}

-- what a later record makes
abbrev pub TakesLater : {A : Type 0} → (keys : ℕ × ℕ) (marks : List (List ℕ)) (l : Last) → RecordText → (marks_next : List (List ℕ)) (next : Last) → Result A RebuildFault → Type 0
TakesLater keys marks l text marks_next next (Ok done) =
    (step : Step) × (said text ≡ Some step) × AcceptsAfter marks l step × IsStepped keys l step next × (marks_next ≡ marks_with marks step)
TakesLater keys marks l text marks_next next (Err (BadRecord n)) =
    (n ≡ records_of_last l) × ((step : Step) → said text ≡ Some step → AcceptsAfter marks l step → ⊥) × IsSameLast l next × (marks_next ≡ marks)
TakesLater keys marks l text marks_next next (Err NoMemory) =
    (step : Step) × (said text ≡ Some step) × TakesMemoryFor marks l step × IsSameLast l next × (marks_next ≡ marks)
