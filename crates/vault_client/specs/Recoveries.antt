-- What the records of a journal make of a shelf, one after another, under the mark of a key.
use Rattle.std.specs.Prelude.{◌≡◌, ◌⊎◌, ℕ, ◌+◌, ◌<◌, List, [], ◌∷◌, ◌++◌, length, take, Result, Ok, Err}
use Rattle.client_journal.specs.Recordings.{AreFirst}
use Rattle.vault_shelf.specs.ClientRecords.{VaultOpens, VaultOpensElsewhere, VaultOpensNowhere}
use Rattle.vault_shelf.specs.Shelves.{VaultCommand}
use Rattle.script_run_texts.specs.declared.journal_stop.JournalStop.{JournalStop}
use Rattle.script_run_texts.specs.declared.journal_stop.JournalStop.TheVariants.{NoJournal, HasRecords, BadRecord, WrongKey, Disk, Memory}
use Rattle.vault_shelf.specs.Rebuilds.{Rebuilds}
use Rattle.vault_shelf.specs.declared.rebuild.ShelfRebuild.{ShelfRebuild}
use Rattle.vault_shelf.specs.declared.record_fault.RecordFault.{RecordFault}
use Rattle.vault_shelf.specs.declared.record_fault.RecordFault.TheVariants as faults
use Rattle.vault_client.specs.declared.recovery.Step.{Step}
use Rattle.vault_client.specs.declared.recovery.Step.TheVariants.{All, Next}

-- there are no records, or they open under this mark
abbrev pub OpensUnder : (mark : List ℕ) (payloads : List (List ℕ)) → Type 0
OpensUnder mark payloads = (payloads ≡ []) ⊎ ((cs : List VaultCommand) × VaultOpens mark payloads cs)

-- the record of this number, from 0, is the first that isn't one, or isn't accepted after those before it, which open under this mark
pub record IsBadUnder (mark : List ℕ) (payloads : List (List ℕ)) (number : ℕ) : Type 0 where
  pub within : number < length payloads
  pub before : OpensUnder mark (take number payloads)
  pub refused : VaultOpensNowhere (take (number + 1) payloads)

-- a rebuild took records, and they are those that are told
pub record IsRebuiltFrom (told : List (List ℕ) → Type 0) (r : ShelfRebuild) : Type 0 where
  pub payloads : List (List ℕ)
  pub taken : Rebuilds payloads r
  pub all : (payloads' : List (List ℕ)) → told payloads' → payloads ≡ payloads'

-- the stop of a record that isn't taken
abbrev pub stop_of_take : RecordFault → JournalStop
stop_of_take (faults.BadRecord number) = BadRecord number
stop_of_take faults.WrongKey = WrongKey
stop_of_take faults.NoMemory = Memory

-- the rebuild after a step, and where that leads
abbrev pub rebuilt_in : Step → ShelfRebuild
rebuilt_in (All r) = r
rebuilt_in (Next r at) = r

-- a next place is further on, and the one before it was within the journal
abbrev pub GoesFurther : (at end : ℕ) → Step → Type 0
GoesFurther at end (All r) = Unit {0}
GoesFurther at end (Next r place) = (at < place) × (at < end)

-- after these records the one at a place is read and taken: there is none, and they are all; it is taken, and the next place is told; it
-- can't follow them; it is the mark of another key; or the disk failed or it is out of memory. What is read is no record only where
-- the records aren't told
abbrev pub TakesNext : (told : List (List ℕ) → Type 0) (mark : List ℕ) (payloads : List (List ℕ)) (at : ℕ) → Result Step JournalStop → Type 0
TakesNext told mark payloads at (Ok (All r)) =
    Rebuilds payloads r × ((all : List (List ℕ)) → told all → AreFirst all payloads at → length payloads ≡ length all)
TakesNext told mark payloads at (Ok (Next r next)) =
    (payload : List ℕ) × Rebuilds (payloads ++ payload ∷ []) r × ((all : List (List ℕ)) → told all → AreFirst all payloads at → AreFirst all (payloads ++ payload ∷ []) next)
TakesNext told mark payloads at (Err (BadRecord n)) =
    (all : List (List ℕ)) → told all → AreFirst all payloads at → (n ≡ length payloads) × (n < length all) × VaultOpensNowhere (take (length payloads + 1) all)
TakesNext told mark payloads at (Err WrongKey) =
    (all : List (List ℕ)) → told all → AreFirst all payloads at → VaultOpensElsewhere mark (take (length payloads + 1) all)
TakesNext told mark payloads at (Err NoJournal) = (all : List (List ℕ)) → told all → AreFirst all payloads at → ⊥
TakesNext told mark payloads at (Err HasRecords) = ⊥
TakesNext told mark payloads at (Err Disk) = Unit {0}
TakesNext told mark payloads at (Err Memory) = Unit {0}

-- all records are read and taken, from the first on, or this is why not
abbrev pub Recovers : (told : List (List ℕ) → Type 0) (mark : List ℕ) → Result ShelfRebuild JournalStop → Type 0
Recovers told mark (Ok r) = IsRebuiltFrom told r
Recovers told mark (Err (BadRecord n)) = (all : List (List ℕ)) → told all → IsBadUnder mark all n
Recovers told mark (Err WrongKey) = (all : List (List ℕ)) → told all → VaultOpensElsewhere mark (take 1 all)
Recovers told mark (Err NoJournal) = (all : List (List ℕ)) → told all → ⊥
Recovers told mark (Err HasRecords) = ⊥
Recovers told mark (Err Disk) = Unit {0}
Recovers told mark (Err Memory) = Unit {0}

-- why the records are no client's of this mark: one is bad, or the first is another mark
abbrev pub AreNone : (mark : List ℕ) (payloads : List (List ℕ)) → JournalStop → Type 0
AreNone mark payloads (BadRecord n) = IsBadUnder mark payloads n
AreNone mark payloads WrongKey = VaultOpensElsewhere mark (take 1 payloads)
AreNone mark payloads _ = ⊥
