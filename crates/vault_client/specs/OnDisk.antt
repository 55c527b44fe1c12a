-- A vault's run that keeps its records in a journal on a disk.
use Rattle.std.specs.Prelude.{◌≡◌, ◌≢◌, ◌⊎◌, ℕ, List, [], Option, IfSome}
use Rattle.client_journal.specs.Openings.{GivesSome, HasNoRecord, IsNoJournal}
use Rattle.keyed_fn.specs.KeyedFn.{KeyedFn}
use Rattle.script_run_texts.specs.Stops.{journal_line, journal_status}
use Rattle.script_run_texts.specs.declared.journal_stop.JournalStop.{JournalStop}
use Rattle.script_run_texts.specs.declared.journal_stop.JournalStop.TheVariants as journals
use Rattle.client_journal.specs.Counts.{TellsDevices}
use Rattle.client_journal.specs.DiskRuns.{IsExact, IsNotBegun, IsNotReopened, KeepsOnDisk, LeavesAsBefore, kept_on, records_on}
use Rattle.client_journal.specs.Shows.{SaysWords, SinkShows, SourceShows}
use Rattle.sse_journal.specs.Files.{Gives}
use Rattle.sse_outside.specs.Causes.{Rose}
use Rattle.sse_outside.specs.Kept.{Kept}
use Rattle.std.specs.Io.KnownBytes.{IsAtEnd}
use Rattle.doc_vault.specs.Sights.{LinkSight, Sight}
use Rattle.vault_client.specs.Endings.{EndsLine}
use Rattle.vault_client.specs.ResumedRuns.{IsResumedRun}
use Rattle.vault_client.specs.WholeRuns.{IsVaultRun}

-- what is seen of a run over a link, records and a sink
abbrev pub sight : (link : LinkSight) (kept : Kept) (sink : SinkShows) → Sight
sight link kept sink = record { link = link; kept = kept; written = sink.written }

-- words that ask for no run: nothing is read, sent, received or kept, and the last line says so
pub record DoesNothing {S L D : Type 0} (source source' : S) (link link' : L) (disk disk' : D) (sink sink' : SinkShows) (status : ℕ) : Type 0 where
  pub says : SaysWords source source' sink sink' status
  pub unsent : link' ≡ link
  pub unkept : disk' ≡ disk

-- a run ended before it read a line, for its journal, as its file is like this: nothing passed, and of the file's records none is gone
-- unless the disk failed or was out of memory
pub record IsUnopened (Why : JournalStop → List ℕ → Type 0) (link link' : LinkSight) (content content' : Option (List ℕ)) (sink sink' : SinkShows) (status : ℕ) : Type 0 where
  pub stop : JournalStop
  pub why : IfSome content (Why stop)
  pub unsent : link' ≡ link
  pub unkept : stop ≢ journals.Disk → stop ≢ journals.Memory → records_on content' ≡ records_on content
  pub line : EndsLine (journal_line stop) sink.written sink sink' status
  pub status_is : status ≡ journal_status stop

-- what a first run over these lines keeps on a disk, from the records that its file has
abbrev pub KeepsRun : {D : Type 0} (content : D → Option (List ℕ)) (images : D → List ℕ → Type 0) (moment : D → ℕ) (left_since : D → ℕ → List ℕ → Type 0) (old new : D)
    (f : KeyedFn) (left : Option (List (List ℕ))) (link link' : LinkSight) (sink sink' : SinkShows) (status : ℕ) → Type 0
KeepsRun content images moment left_since old new f left link link' sink sink' status =
    KeepsOnDisk content images moment left_since old new status (λ kept. IsVaultRun f left (sight link (kept_on (content old)) sink) (sight link' kept sink') sink sink' status)

-- the run is whole, and keeps its records; or its journal isn't begun
abbrev pub BeginsOrNot : {D : Type 0} (content : D → Option (List ℕ)) (images : D → List ℕ → Type 0) (moment : D → ℕ) (left_since : D → ℕ → List ℕ → Type 0) (old new : D)
    (f : KeyedFn) (left : Option (List (List ℕ))) (link link' : LinkSight) (sink sink' : SinkShows) (status : ℕ) → Type 0
BeginsOrNot content images moment left_since old new f left link link' sink sink' status =
    (IsUnopened IsNotBegun link link' (content old) (content new) sink sink' status × LeavesAsBefore content images moment left_since old new)
    ⊎ KeepsRun content images moment left_since old new f left link link' sink sink' status

-- all of `run`: it is refused for a file that has records or is no journal, unless the disk fails or memory runs out, and never for a file
-- without a record; and if neither happened and the journal was begun, the file at the end is exactly that of its records
pub record BeginsOnDisk {D : Type 0} (content : D → Option (List ℕ)) (images : D → List ℕ → Type 0) (moment : D → ℕ) (left_since : D → ℕ → List ℕ → Type 0) (old new : D)
    (f : KeyedFn) (left : Option (List (List ℕ))) (link link' : LinkSight) (sink sink' : SinkShows) (status : ℕ) : Type 0 where
  pub begun : BeginsOrNot content images moment left_since old new f left link link' sink sink' status
  pub refused : IfSome (content old) (λ file. GivesSome file ⊎ IsNoJournal file → status ≢ 6 → status ≢ 7 → status ≡ 10)
  pub accepted : IfSome (content old) (λ file. Gives [] file → status ≢ 10)
  pub exact : status ≢ 6 → status ≢ 7 → status ≢ 10 → IsExact (content new) (images new)

-- what a resuming run over these lines keeps on a disk, after the records that its file has
abbrev pub KeepsResumed : {D : Type 0} (content : D → Option (List ℕ)) (images : D → List ℕ → Type 0) (moment : D → ℕ) (left_since : D → ℕ → List ℕ → Type 0) (old new : D)
    (f : KeyedFn) (left : Option (List (List ℕ))) (link link' : LinkSight) (sink sink' : SinkShows) (status : ℕ) → Type 0
KeepsResumed content images moment left_since old new f left link link' sink sink' status =
    KeepsOnDisk content images moment left_since old new status (λ kept. IsResumedRun f left (sight link (kept_on (content old)) sink) (sight link' kept sink') sink sink' status)

-- the run resumes from the journal's records, and keeps its own; or its journal isn't reopened
abbrev pub ResumesOrNot : {D : Type 0} (content : D → Option (List ℕ)) (images : D → List ℕ → Type 0) (moment : D → ℕ) (left_since : D → ℕ → List ℕ → Type 0) (old new : D)
    (f : KeyedFn) (left : Option (List (List ℕ))) (link link' : LinkSight) (sink sink' : SinkShows) (status : ℕ) → Type 0
ResumesOrNot content images moment left_since old new f left link link' sink sink' status =
    (IsUnopened IsNotReopened link link' (content old) (content new) sink sink' status × LeavesAsBefore content images moment left_since old new)
    ⊎ KeepsResumed content images moment left_since old new f left link link' sink sink' status

-- all of `more`: it resumes over a file that gives records, and is refused for one that gives none, unless the disk fails or memory runs out; and
-- if neither happened and the journal was reopened, the file at the end is exactly that of its records
pub record ResumesOnDisk {D : Type 0} (content : D → Option (List ℕ)) (images : D → List ℕ → Type 0) (moment : D → ℕ) (left_since : D → ℕ → List ℕ → Type 0) (old new : D)
    (f : KeyedFn) (left : Option (List (List ℕ))) (link link' : LinkSight) (sink sink' : SinkShows) (status : ℕ) : Type 0 where
  pub gone_on : ResumesOrNot content images moment left_since old new f left link link' sink sink' status
  pub accepted : IfSome (content old) (λ file. GivesSome file → status ≢ 6 → status ≢ 7 → KeepsResumed content images moment left_since old new f left link link' sink sink' status)
  pub refused : IfSome (content old) (λ file. HasNoRecord file → status ≢ 6 → status ≢ 7 → status ≡ 10)
  pub exact : status ≢ 6 → status ≢ 7 → status ≢ 10 → IsExact (content new) (images new)

-- the counts of the devices are as the status says; the sink's count of faults is as before unless the status says that the sink failed, or
-- in the last line it rose, or the count of shortages
pub record LeavesDevices (source source' : SourceShows) (sink sink' : SinkShows) (link link' disk disk' status : ℕ) : Type 0 where
  pub tells : TellsDevices source.faults source'.faults sink.faults sink'.faults link link' disk disk' (IsAtEnd source'.remaining) status
  pub line : (status ≢ 4 → sink'.faults ≡ sink.faults) ⊎ (Rose sink.faults sink'.faults ⊎ Rose sink.shortages sink'.shortages)
