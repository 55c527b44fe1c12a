-- All that the program does, by what its words ask for: with the script of its source, with its two streams, and with its status.
use Rattle.std.specs.Prelude.{◌≡◌, ◌≢◌, ◌≤◌, ◌⊎◌, ℕ, List, Option, Result, Ok, Err, IfSome}
use Rattle.std.specs.Io.KnownBytes.{IsAtEnd}
use Rattle.keyed_fn.specs.KeyedFn.{KeyedFn}
use Rattle.program_words.specs.Modes.{LocalMode, Made, More, RunOn, Script, Twin}
use Rattle.script_history.specs.Endings.{Seen, seen_of}
use Rattle.sse_client.specs.InProcess.{HasNoJournal, RunsInProcess}
use Rattle.client_journal.specs.Shows.{SinkShows, SourceShows}
use Rattle.sse_local.specs.Compared.{HasCompared}
use Rattle.sse_local.specs.Made.{HasMadeRun, PrintsSummaryAsMeant}
use Rattle.sse_outside.specs.Causes.{Rose}
use Rattle.sse_outside.specs.Fronts.{TookOrRose}
use Rattle.sse_script.specs.Shown.{Cause, NoMemory, Stopped}
use Rattle.sse_script.specs.Stops.{cause_status}
use Rattle.sse_script.specs.Texts.{text_of}

-- the same of a sink, as those say it who compare scripts and make them
abbrev pub seen_in : SinkShows → Seen
seen_in sink = seen_of sink.written sink.faults sink.shortages

-- nothing is read, and the program ends for this cause
pub record EndsUnread {S : Type 0} (cause : Cause) (source source' : S) (sink sink' : SinkShows) (status : ℕ) : Type 0 where
  pub unread : source' ≡ source
  pub status_is : status ≡ cause_status cause
  pub line : TookOrRose sink.written sink'.written (text_of (Stopped cause)) sink.faults sink'.faults sink.shortages sink'.shortages

-- the made script is run, and one line is printed of it; where its history has no collision, that is the summary of what it means
pub record RunsMadeScript {S : Type 0} (f : KeyedFn) (seed documents : ℕ) (source source' : S) (sink sink' : SinkShows) (status : ℕ) : Type 0 where
  pub unread : source' ≡ source
  pub sums_up : HasMadeRun f seed documents (seen_in sink) (seen_in sink') status
  pub summary : status ≢ 4 → status ≢ 7 → PrintsSummaryAsMeant f seed documents sink.written sink'.written status

-- what is done, from the bytes that the source has left: a run, a run that is to go on, a comparison, a run of the made script; or nothing, as
-- the words aren't right. There may be no memory to read words in, whatever they are
abbrev pub Does : {S : Type 0} → KeyedFn → Result LocalMode Cause → (remaining : Option (List ℕ)) → (source source' : S) → (sink sink' : SinkShows) → (status : ℕ) → Type 0
Does f (Ok (Script RunOn)) remaining source source' sink sink' status = IfSome remaining (λ bytes. RunsInProcess f bytes sink sink' status)
Does f (Ok (Script More)) remaining source source' sink sink' status = HasNoJournal source source' sink sink' status
Does f (Ok Twin) remaining source source' sink sink' status = IfSome remaining (λ bytes. HasCompared f bytes (seen_in sink) (seen_in sink') status)
Does f (Ok (Made seed documents)) remaining source source' sink sink' status = RunsMadeScript f seed documents source source' sink sink' status
Does f (Err cause) remaining source source' sink sink' status =
    EndsUnread cause source source' sink sink' status ⊎ EndsUnread NoMemory source source' sink sink' status

-- the streams' counts are as the status tells: a count of faults rose where the status is that of its stream, and the source's stayed where it
-- isn't. A sink may also fail in the last line, which then is short
pub record TellsStreams (read : Type 0) (source source' : SourceShows) (sink sink' : SinkShows) (status : ℕ) : Type 0 where
  pub at_end : status ≤ 1 → read
  pub source_failed : status ≡ 3 → Rose source.faults source'.faults
  pub source_steady : status ≢ 3 → source'.faults ≡ source.faults
  pub sink_failed : status ≡ 4 → Rose sink.faults sink'.faults
  pub sink_steady : status ≤ 1 → sink'.faults ≡ sink.faults
  pub line : (status ≢ 4 → sink'.faults ≡ sink.faults) ⊎ (Rose sink.faults sink'.faults ⊎ Rose sink.shortages sink'.shortages)

-- with 0 or 1 the source was read to its end, but for the made script, which no source gives
abbrev pub IsReadFor : Result LocalMode Cause → (remaining : Option (List ℕ)) → Type 0
IsReadFor (Ok (Made seed documents)) remaining = Unit {0}
IsReadFor (Ok (Script _)) remaining = IsAtEnd remaining
IsReadFor (Ok Twin) remaining = IsAtEnd remaining
IsReadFor (Err cause) remaining = IsAtEnd remaining

-- the statuses that there can be, whatever the streams show
abbrev pub MayEndWith : Result LocalMode Cause → (status : ℕ) → Type 0
MayEndWith (Ok (Script RunOn)) status = (status ≤ 9) × (status ≢ 5) × (status ≢ 6)
MayEndWith (Ok (Script More)) status = (status ≡ 7) ⊎ (status ≡ 10)
MayEndWith (Ok Twin) status = status ≤ 9
MayEndWith (Ok (Made seed documents)) status = (status ≡ 0) ⊎ ((status ≡ 4) ⊎ ((7 ≤ status) × (status ≤ 9)))
MayEndWith (Err cause) status = (status ≡ cause_status cause) ⊎ (status ≡ 7)
