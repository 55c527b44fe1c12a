-- A run that keeps its records in a journal on a disk: what it leaves there, and why its journal isn't opened.
use Rattle.std.specs.Prelude.{◌≡◌, ◌≢◌, ◌⊎◌, ℕ, List, [], ◌++◌, All, Option, IfSome, option_map}
use Rattle.client_journal.specs.Openings.{GivesSome, HasNoRecord, IsNoJournal}
use Rattle.client_recorder.specs.KeepsOn.{GivesFront, LeavesKept}
use Rattle.script_run_texts.specs.declared.journal_stop.JournalStop.{JournalStop}
use Rattle.script_run_texts.specs.declared.journal_stop.JournalStop.TheVariants as journals
use Rattle.sse_journal.specs.AnyMoment.{HasSynced, LeavesOnly}
use Rattle.sse_journal.specs.FileRecords.{records_in_file}
use Rattle.sse_journal.specs.Files.{GivesAs, IsPayload, file}
use Rattle.sse_outside.specs.Images.{Only}
use Rattle.sse_outside.specs.Kept.{Kept}

-- the records of the file that a disk holds, if it tells that
abbrev pub records_on : (content : Option (List ℕ)) → Option (List (List ℕ))
records_on content = option_map records_in_file content

-- what is kept there when a run begins
abbrev pub kept_on : (content : Option (List ℕ)) → Kept
kept_on content = record { records = records_on content; refused = [] }

-- these bytes are exactly the file of the records that they give, and a crash at this moment leaves no others
pub record IsExactly (bytes : List ℕ) (images : List ℕ → Type 0) : Type 0 where
  pub payloads_are : All IsPayload (records_in_file bytes)
  pub are : bytes ≡ file (records_in_file bytes)
  pub durable : Only bytes images

-- so are those of the file on a disk, if it tells that
abbrev pub IsExact : (content : Option (List ℕ)) (images : List ℕ → Type 0) → Type 0
IsExact content images = IfSome content (λ bytes. IsExactly bytes images)

-- what a run of this status keeps has P: records were taken after those of before; a crash meanwhile leaves what this says of the records that
-- were taken and of one that was refused after them; and a crash at its end leaves all that were taken, with the one that was refused or
-- without it. Unless the disk failed or memory ran out, none was refused, and the file is exactly that of those that were taken
pub record KeepsWhat (before : Option (List (List ℕ))) (Meanwhile : List (List ℕ) → Type 0) (content : Option (List ℕ)) (left : List ℕ → Type 0) (status : ℕ) (P : Kept → Type 0) : Type 0 where
  pub kept : Kept
  pub has : P kept
  pub more : List (List ℕ)
  pub grows : kept.records ≡ option_map (λ all. all ++ more) before
  pub meanwhile : Meanwhile (more ++ kept.refused)
  pub leaves : LeavesKept kept left
  pub exact : status ≢ 6 → status ≢ 7 → (kept ≡ kept_on content) × IsExact content left

-- a run of this status over a disk keeps what has P: from the first sync that succeeded on, a crash at any moment leaves a file that gives the records
-- of the file as it was, and then the first of those that the run was to keep, in order
abbrev pub KeepsOnDisk : {D : Type 0} (content : D → Option (List ℕ)) (images : D → List ℕ → Type 0) (moment : D → ℕ) (left_since : D → ℕ → List ℕ → Type 0) (old new : D) (status : ℕ) (P : Kept → Type 0) → Type 0
KeepsOnDisk content images moment left_since old new status P =
    KeepsWhat (records_on (content old)) (λ more. HasSynced content images moment left_since old new (λ file. GivesFront (records_in_file file) more)) (content new) (images new) status P

-- the same from the moment at which its journal is started
abbrev pub KeepsOnStarted : {D : Type 0} (content : D → Option (List ℕ)) (images : D → List ℕ → Type 0) (moment : D → ℕ) (left_since : D → ℕ → List ℕ → Type 0) (old new : D) (status : ℕ) (P : Kept → Type 0) → Type 0
KeepsOnStarted content images moment left_since old new status P =
    KeepsWhat (records_on (content old)) (λ more. IfSome (content old) (λ file. LeavesOnly moment left_since old new (GivesFront (records_in_file file) more))) (content new) (images new) status P

-- a run that isn't begun keeps nothing: from a first sync that succeeded on, a crash leaves a file that gives what the file gave; or it
-- leaves at each moment one that it might have left before
abbrev pub LeavesAsBefore : {D : Type 0} (content : D → Option (List ℕ)) (images : D → List ℕ → Type 0) (moment : D → ℕ) (left_since : D → ℕ → List ℕ → Type 0) (old new : D) → Type 0
LeavesAsBefore content images moment left_since old new = HasSynced content images moment left_since old new GivesAs ⊎ LeavesOnly moment left_since old new (images old)

-- What the file of a journal is that isn't begun, or not reopened.

abbrev pub IsNotBegun : JournalStop → (file : List ℕ) → Type 0
IsNotBegun journals.HasRecords file = GivesSome file
IsNotBegun journals.NoJournal file = IsNoJournal file
IsNotBegun journals.Disk file = Unit {0}
IsNotBegun journals.Memory file = Unit {0}
IsNotBegun _ file = ⊥

abbrev pub IsNotReopened : JournalStop → (file : List ℕ) → Type 0
IsNotReopened journals.NoJournal file = HasNoRecord file
IsNotReopened journals.Disk file = Unit {0}
IsNotReopened journals.Memory file = Unit {0}
IsNotReopened _ file = ⊥
