-- The program's work on a made script: a run of it prints into memory, and one line of that is printed.
use Rattle.std.specs.Prelude.{◌≡◌, ◌≤◌, ◌⊎◌, ◌-◌, ℕ, true, List, [], ◌∷◌, drop, flat_map, map, nat_eq, slice_get, codes, Option, Some}
use Rattle.std.specs.Io.KnownBytes.{append_known}
use Rattle.std.specs.List.{ends_with, starts_with}
use Rattle.script_history.specs.Endings.{EndsIn, Seen, StopsTelling}
use Rattle.keyed_fn.specs.KeyFormulas.{mark_of}
use Rattle.keyed_fn.specs.KeyedFn.{KeyedFn}
use Rattle.script_made_lines.specs.Script.{made_text}
use Rattle.script_made_lines.specs.Summary.{made_summary}
use Rattle.def_script_meaning.specs.Meaning.{Meaning, meaning}
use Rattle.def_script_meaning.specs.Outcome.{said}
use Rattle.def_script_meaning.specs.Session.{IsFree}
use Rattle.def_script_meaning.specs.Stops.{Stop, status_of}
use Rattle.sse_client.specs.InProcess.{RunsInProcess}
use Rattle.client_journal.specs.Shows.{SinkShows}
use Rattle.sse_outside.specs.Causes.{Rose}
use Rattle.sse_outside.specs.Fronts.{TookOrRose}
use Rattle.sse_script.specs.Shown.{Stopped, NoMemory}
use Rattle.sse_script.specs.Texts.{text_of}

-- the line of a printed text that says why a run stopped: what stands from a beginning of a line on that is followed by `stopped: `, up
-- to the end of the text, where a line ends (byte 0a)
pub record IsStopLine (line text : List ℕ) : Type 0 where
  pub start : ℕ
  pub is : line ≡ drop start text
  pub behind : (start ≡ 0) ⊎ (slice_get text (start - 1) ≡ Some 10)
  pub begins : starts_with nat_eq line (codes "stopped: ") ≡ true
  pub ends : ends_with nat_eq text (10 ∷ []) ≡ true

-- the summary of a run that printed this text is printed, and nothing else, with status 0
pub record IsSummed (documents : ℕ) (text : List ℕ) (now last : Seen) (status : ℕ) : Type 0 where
  pub status_is : status ≡ 0
  pub printed : last.written ≡ append_known now.written (made_summary documents text)
  pub steady : last.faults ≡ now.faults

-- or a proper front of it, for the sink or for want of memory, and the last line that tells this
pub record IsSummedShort (documents : ℕ) (text : List ℕ) (now last : Seen) (status : ℕ) : Type 0 where
  pub before : Option (List ℕ)
  pub stop : Stop
  pub short : StopsTelling (made_summary documents text) now.written before stop
  pub ends : EndsIn stop before now last
  pub status_is : status ≡ status_of stop

-- of a run that stopped the line that says why is printed, or a front of it as a count of the sink rose, with the run's status
pub record TellsStop (text : List ℕ) (now last : Seen) (status : ℕ) : Type 0 where
  pub line : List ℕ
  pub is : IsStopLine line text
  pub printed : TookOrRose now.written last.written line now.faults last.faults now.shortages last.shortages

-- what is told of a run that printed this text and had this status: of one that came to the end of its script the summary, and of
-- one that stopped why
abbrev pub Tells : (documents : ℕ) (text : List ℕ) (run_status : ℕ) (now last : Seen) (status : ℕ) → Type 0
Tells documents text run_status now last status =
    ((run_status ≡ 0) × (IsSummed documents text now last status ⊎ IsSummedShort documents text now last status))
    ⊎ ((7 ≤ run_status) × (status ≡ run_status) × TellsStop text now last status)

-- or that memory was wanting, with status 7
pub record LacksMemory (now last : Seen) (status : ℕ) : Type 0 where
  pub status_is : status ≡ 7
  pub printed : TookOrRose now.written last.written (text_of (Stopped NoMemory)) now.faults last.faults now.shortages last.shortages

-- a made script was run as any script is, into an empty memory, which had this afterwards
pub record RunsMade (f : KeyedFn) (seed documents : ℕ) (written : Option (List ℕ)) (status : ℕ) : Type 0 where
  pub sink : SinkShows
  pub sink' : SinkShows
  pub empty : sink.written ≡ Some []
  pub has : sink'.written ≡ written
  pub runs : RunsInProcess f (made_text seed documents) sink sink' status

-- and this is told of the run
pub record HasSummed (f : KeyedFn) (seed documents : ℕ) (now last : Seen) (status : ℕ) : Type 0 where
  pub text : List ℕ
  pub run_status : ℕ
  pub runs : RunsMade f seed documents (Some text) run_status
  pub told : Tells documents text run_status now last status

abbrev pub HasMadeRun : KeyedFn → (seed documents : ℕ) → (now last : Seen) → (status : ℕ) → Type 0
HasMadeRun f seed documents now last status = HasSummed f seed documents now last status ⊎ LacksMemory now last status

-- the status: 0; 4, where the sink's count of faults rose; or 7, 8 or 9
abbrev pub IsMadeStatus : (status faults faults_now : ℕ) → Type 0
IsMadeStatus status faults faults_now = ((status ≡ 0) ⊎ ((status ≡ 4) × Rose faults faults_now)) ⊎ ((7 ≤ status) × (status ≤ 9))

-- the summary of the lines that a made script means is printed, with status 0
pub record PrintsSummary (documents : ℕ) (m : Meaning) (old new : Option (List ℕ)) (status : ℕ) : Type 0 where
  pub status_is : status ≡ 0
  pub printed : new ≡ append_known old (made_summary documents (flat_map text_of (map said m.shown)))

-- where its history has no collision
abbrev pub PrintsSummaryAsMeant : KeyedFn → (seed documents : ℕ) → (old new : Option (List ℕ)) → (status : ℕ) → Type 0
PrintsSummaryAsMeant f seed documents old new status =
    let m = meaning (Some (mark_of f)) (made_text seed documents) in
    IsFree f m.key m.history → PrintsSummary documents m old new status
