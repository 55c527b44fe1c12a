-- A run that keeps its records in a journal on a disk.
use Rattle.std.specs.Prelude.{◌≡◌, ◌≢◌, ◌⊎◌, ℕ, List, Option, IfSome}
use Rattle.client_journal.specs.Openings.{GivesSome, HasNoRecord, IsNoJournal}
use Rattle.keyed_fn.specs.KeyedFn.{KeyedFn}
use Rattle.script_run_texts.specs.Causes.{InputCause}
use Rattle.script_run_texts.specs.Stops.{input_cause, journal_cause, journal_status}
use Rattle.script_run_texts.specs.declared.journal_stop.JournalStop.{JournalStop}
use Rattle.script_run_texts.specs.declared.journal_stop.JournalStop.TheVariants as journals
use Rattle.def_script_meaning.specs.Carries.{Outside}
use Rattle.def_script_meaning.specs.Exchange.{Told}
use Rattle.def_script_meaning.specs.Lines.{script_lines}
use Rattle.def_script_meaning.specs.Runs.{Ended}
use Rattle.def_script_meaning.specs.Stops as ends
use Rattle.def_script_meaning.specs.Stops.{status_of}
use Rattle.sse_outside.specs.Causes.{Rose}
use Rattle.sse_client.specs.CanGoOn.{IsRecordedAfter, SendsSimulatedFrom, StopsUnsent, IsHonestAfter, LeavesServerAfter, HasHeadlineAfter}
use Rattle.sse_client.specs.LastLine.{EndsLine}
use Rattle.sse_client.specs.ResumedRun.{GoesOnOver}
use Rattle.sse_client.specs.Stands.{seen, outside_of}
use Rattle.client_journal.specs.Shows.{SinkShows}
use Rattle.sse_client.specs.WholeRuns.{IsRun, outside}
use Rattle.sse_client.specs.declared.on_disk.HeldUp.{HeldUp}
use Rattle.sse_client.specs.declared.on_disk.HeldUp.TheVariants as held
use Rattle.client_journal.specs.DiskRuns.{records_on, kept_on, IsExact, KeepsOnDisk, LeavesAsBefore, IsNotBegun, IsNotReopened}

-- what is seen of a run over a link, a disk and a sink
abbrev pub seen_with : Told → (content written : Option (List ℕ)) → Outside
seen_with told content written = outside_of (seen told (kept_on content)) written

-- Why a run that goes on doesn't come to its lines.

abbrev pub held_stop : HeldUp → ends.Stop
held_stop (held.Records stop) = ends.At (journal_cause stop)
held_stop (held.Input stop) = ends.At (input_cause stop)

-- what the count of a disk's faults shows of it, and what that of the source's
abbrev pub RecordsCause : ℕ → ℕ → JournalStop → Type 0
RecordsCause before now journals.Disk = Rose before now
RecordsCause before now _ = now ≡ before

abbrev pub HeldCause : ℕ → ℕ → HeldUp → Type 0
HeldCause before now (held.Records stop) = RecordsCause before now stop
HeldCause before now (held.Input stop) = now ≡ before

abbrev pub HeldSource : ℕ → ℕ → HeldUp → Type 0
HeldSource before now (held.Records stop) = now ≡ before
HeldSource before now (held.Input stop) = InputCause before now stop

-- A journal that isn't begun, or not gone on with.

-- a run ended before it read a line, for its journal, as its file is like this: nothing passed, and of the file's records none is gone but
-- where the disk failed or had no memory
pub record IsUnopened (Why : JournalStop → List ℕ → Type 0) (told told' : Told) (content content' written written' : Option (List ℕ)) (status faults faults_now shortages shortages_now : ℕ) : Type 0 where
  pub stop : JournalStop
  pub why : IfSome content (Why stop)
  pub unsent : told' ≡ told
  pub unkept : stop ≢ journals.Disk → stop ≢ journals.Memory → records_on content' ≡ records_on content
  pub line : EndsLine (ends.At (journal_cause stop)) written written' status faults faults_now shortages shortages_now
  pub status_is : status ≡ journal_status stop

-- A run that went on with a history, over a script of these bytes, with its last line and this status.
pub record HasGoneOn (f : KeyedFn) (bytes : List ℕ) (now last : Outside) (status faults faults_now shortages shortages_now : ℕ) : Type 0 where
  pub end : Ended
  pub goes_on : GoesOnOver f (script_lines bytes) now end
  pub told : last.told ≡ end.outside.told
  pub kept : last.kept ≡ end.outside.kept
  pub line : EndsLine end.stop end.outside.written last.written status faults faults_now shortages shortages_now
  pub status_is : status ≡ status_of end.stop
  pub unsent : StopsUnsent f bytes now end status
  pub recorded : IfSome now.kept.records (λ payloads. IsRecordedAfter f payloads now end)
  -- the frames that were sent are the first that the simulator makes of the earlier history and of this run's, whatever the link replied
  pub simulated : IfSome now.kept.records (λ payloads. SendsSimulatedFrom f payloads now end)
  pub honest : IsHonestAfter f bytes now last end status
  pub left : LeavesServerAfter f bytes now last end
  pub headline : HasHeadlineAfter f bytes now last status

-- `run` and `more` on a disk: by the bytes that the source has left, what the link told, and the sink, before and after.

-- the run is whole, and keeps its records; or its journal isn't begun
abbrev pub BeginsOrNot : {D : Type 0} (content : D → Option (List ℕ)) (images : D → List ℕ → Type 0) (moment : D → ℕ) (left_since : D → ℕ → List ℕ → Type 0) (old new : D)
    (f : KeyedFn) (remaining : Option (List ℕ)) (told told' : Told) (sink sink' : SinkShows) (status : ℕ) → Type 0
BeginsOrNot content images moment left_since old new f remaining told told' sink sink' status =
    (IsUnopened IsNotBegun told told' (content old) (content new) sink.written sink'.written status sink.faults sink'.faults sink.shortages sink'.shortages × LeavesAsBefore content images moment left_since old new)
    ⊎ KeepsOnDisk content images moment left_since old new status (λ kept. IfSome remaining (λ bytes. IsRun f bytes (seen_with told (content old) sink.written) (outside told' kept sink'.written) sink sink' status))

-- a run goes on with the history of the journal's records, and keeps its own
abbrev pub ResumesJournal : {D : Type 0} (content : D → Option (List ℕ)) (images : D → List ℕ → Type 0) (moment : D → ℕ) (left_since : D → ℕ → List ℕ → Type 0) (old new : D)
    (f : KeyedFn) (remaining : Option (List ℕ)) (told told' : Told) (sink sink' : SinkShows) (status : ℕ) → Type 0
ResumesJournal content images moment left_since old new f remaining told told' sink sink' status =
    KeepsOnDisk content images moment left_since old new status (λ kept. IfSome remaining (λ bytes.
    HasGoneOn f bytes (seen_with told (content old) sink.written) (outside told' kept sink'.written) status sink.faults sink'.faults sink.shortages sink'.shortages))

-- or the journal isn't opened
abbrev pub ResumesOrNot : {D : Type 0} (content : D → Option (List ℕ)) (images : D → List ℕ → Type 0) (moment : D → ℕ) (left_since : D → ℕ → List ℕ → Type 0) (old new : D)
    (f : KeyedFn) (remaining : Option (List ℕ)) (told told' : Told) (sink sink' : SinkShows) (status : ℕ) → Type 0
ResumesOrNot content images moment left_since old new f remaining told told' sink sink' status =
    (IsUnopened IsNotReopened told told' (content old) (content new) sink.written sink'.written status sink.faults sink'.faults sink.shortages sink'.shortages × LeavesAsBefore content images moment left_since old new)
    ⊎ ResumesJournal content images moment left_since old new f remaining told told' sink sink' status

-- all of `run`: it is refused for a file that has records or is no journal, unless the disk fails or memory is out; and if neither
-- happened and the journal was opened, the file at the end is exactly that of its records
pub record BeginsOnDisk {D : Type 0} (content : D → Option (List ℕ)) (images : D → List ℕ → Type 0) (moment : D → ℕ) (left_since : D → ℕ → List ℕ → Type 0) (old new : D)
    (f : KeyedFn) (remaining : Option (List ℕ)) (told told' : Told) (sink sink' : SinkShows) (status : ℕ) : Type 0 where
  pub begun : BeginsOrNot content images moment left_since old new f remaining told told' sink sink' status
  pub refused : IfSome (content old) (λ file. GivesSome file ⊎ IsNoJournal file → status ≢ 6 → status ≢ 7 → status ≡ 10)
  pub exact : status ≢ 6 → status ≢ 7 → status ≢ 10 → IsExact (content new) (images new)

-- all of `more`: likewise it goes on for a file that gives a record, and is refused for one that gives none
pub record ResumesOnDisk {D : Type 0} (content : D → Option (List ℕ)) (images : D → List ℕ → Type 0) (moment : D → ℕ) (left_since : D → ℕ → List ℕ → Type 0) (old new : D)
    (f : KeyedFn) (remaining : Option (List ℕ)) (told told' : Told) (sink sink' : SinkShows) (status : ℕ) : Type 0 where
  pub gone_on : ResumesOrNot content images moment left_since old new f remaining told told' sink sink' status
  pub accepted : IfSome (content old) (λ file. GivesSome file → status ≢ 6 → status ≢ 7 → ResumesJournal content images moment left_since old new f remaining told told' sink sink' status)
  pub refused : IfSome (content old) (λ file. HasNoRecord file → status ≢ 6 → status ≢ 7 → status ≡ 10)
  pub exact : status ≢ 6 → status ≢ 7 → status ≢ 10 → IsExact (content new) (images new)
