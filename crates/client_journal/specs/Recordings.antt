-- The history that a journal's records lead to, one record after another.
use Rattle.std.specs.Prelude.{◌≡◌, ℕ, ◌≤◌, List, [], ◌∷◌, ◌++◌, length, take, Option, None, Some, Result, Ok, Err}
use Rattle.client_records.specs.Openings.{IsBadRecord}
use Rattle.client_rebuild.specs.Rebuilds.{IsFinished, Rebuilds}
use Rattle.client_rebuild.specs.declared.rebuild.Rebuild.{Rebuild}
use Rattle.client_rebuild.specs.declared.rebuilt.Rebuilt.{Rebuilt}
use Rattle.script_run_texts.specs.declared.journal_stop.JournalStop.{JournalStop}
use Rattle.script_run_texts.specs.declared.journal_stop.JournalStop.TheVariants.{NoJournal, HasRecords, BadRecord, WrongKey, Disk, Memory}
use Rattle.sse_journal.specs.Reads.{place_of}

-- a rebuild took records, and they are those that are told
pub record IsTakenFrom (told : List (List ℕ) → Type 0) (r : Rebuild) : Type 0 where
  pub payloads : List (List ℕ)
  pub taken : Rebuilds payloads r
  pub all : (payloads' : List (List ℕ)) → told payloads' → payloads ≡ payloads'

-- it was finished behind them, and their last epoch has the key of this mark
pub record IsRebuiltFrom (told : List (List ℕ) → Type 0) (mark : List ℕ) (r : Rebuilt) : Type 0 where
  pub payloads : List (List ℕ)
  pub finished : IsFinished mark payloads r
  pub all : (payloads' : List (List ℕ)) → told payloads' → payloads ≡ payloads'

-- these records are the first of all, and the next one stands at this place
pub record AreFirst (all payloads : List (List ℕ)) (at : ℕ) : Type 0 where
  pub within : length payloads ≤ length all
  pub are : payloads ≡ take (length payloads) all
  pub place : at ≡ place_of all (length payloads)

-- after these records the one at a place is read and taken: there is none, and they are all; it is taken, and the next place is told;
-- it can't stand there; or the disk failed or it is out of memory. What is read is no record only where the records aren't told
abbrev pub TakesNext : (told : List (List ℕ) → Type 0) (payloads : List (List ℕ)) (at : ℕ) → Result (Option ℕ) JournalStop → Rebuild → Type 0
TakesNext told payloads at (Ok None) r =
    Rebuilds payloads r × ((all : List (List ℕ)) → told all → AreFirst all payloads at → length payloads ≡ length all)
TakesNext told payloads at (Ok (Some next)) r =
    (payload : List ℕ) × Rebuilds (payloads ++ payload ∷ []) r × ((all : List (List ℕ)) → told all → AreFirst all payloads at → AreFirst all (payloads ++ payload ∷ []) next)
TakesNext told payloads at (Err (BadRecord n)) r =
    (all : List (List ℕ)) → told all → AreFirst all payloads at → IsBadRecord all n
TakesNext told payloads at (Err WrongKey) r = ⊥
TakesNext told payloads at (Err NoJournal) r = (all : List (List ℕ)) → told all → AreFirst all payloads at → ⊥
TakesNext told payloads at (Err HasRecords) r = ⊥
TakesNext told payloads at (Err Disk) r = Unit {0}
TakesNext told payloads at (Err Memory) r = Unit {0}

-- why not all records that are told are taken: this one can't stand where it does; or the disk failed or it is out of memory. What
-- was read is no record only where none are told
abbrev pub StopsFor : (told : List (List ℕ) → Type 0) → JournalStop → Type 0
StopsFor told (BadRecord n) = (all : List (List ℕ)) → told all → IsBadRecord all n
StopsFor told WrongKey = ⊥
StopsFor told NoJournal = (all : List (List ℕ)) → told all → ⊥
StopsFor told HasRecords = ⊥
StopsFor told Disk = Unit {0}
StopsFor told Memory = Unit {0}

-- all records are read and taken, from the first on, or this is why not
abbrev pub TakesAll : {T : Type 0} (told : List (List ℕ) → Type 0) → Result T JournalStop → Rebuild → Type 0
TakesAll told (Ok done) r = IsTakenFrom told r
TakesAll told (Err stop) r = StopsFor told stop
