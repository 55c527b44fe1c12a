-- A call with the words of a command line: the run that they ask for, or the line that says that they ask for none; and the devices after it.
use Rattle.std.specs.Prelude.{◌≡◌, ◌≢◌, ◌⊎◌, ◌≤◌, ℕ, List, Option, None, Some}
use Rattle.std.specs.Io.KnownBytes.{IsAtEnd}
use Rattle.def_agreement.specs.TakenFrames.{Expects}
use Rattle.def_script_meaning.specs.Carries.{Outside}
use Rattle.def_script_meaning.specs.Exchange.{Told}
use Rattle.def_script_meaning.specs.Headline.{Headline, IsOverHonest, IsUndisturbed, SendsSimulated}
use Rattle.def_script_meaning.specs.Joined.{LeavesServer}
use Rattle.def_script_meaning.specs.Lines.{script_lines}
use Rattle.def_script_meaning.specs.Meaning.{meaning}
use Rattle.def_script_meaning.specs.Recorded.{IsRecorded}
use Rattle.def_script_meaning.specs.Runs.{Ended, Opens}
use Rattle.def_script_meaning.specs.Session.{IsFree}
use Rattle.def_script_meaning.specs.Stops.{status_of}
use Rattle.keyed_fn.specs.KeyFormulas.{mark_of}
use Rattle.keyed_fn.specs.KeyedFn.{KeyedFn}
use Rattle.server_core.specs.State.{ServerState}
use Rattle.sse_client.specs.Calls.{LinkShows, shows}
use Rattle.client_journal.specs.Counts.{TellsDevices}
use Rattle.sse_client.specs.LastLine.{EndsLine}
use Rattle.sse_client.specs.Stands.{seen, outside_of}
use Rattle.sse_outside.specs.Causes.{Rose}
use Rattle.sse_outside.specs.Kept.{Kept}
use Rattle.client_journal.specs.Shows.{SinkShows, SourceShows, SaysWords}

-- a link that is made by the call and dropped: nothing is seen of it
abbrev pub unseen_link : LinkShows
unseen_link = shows None 0 None

-- what is seen of a run: what the link told, the records that are kept, and what the sink took
abbrev pub outside : Told → Kept → (written : Option (List ℕ)) → Outside
outside told kept written = outside_of (seen told kept) written

-- P, if what passed is honest from a server that expects a setup's first frame, whatever else that holds, and that is left in this state
abbrev pub IfHonest : KeyedFn → (told told' : Told) → (P : (before state : ServerState) → Type 0) → Type 0
IfHonest f told told' P = (before state : ServerState) → Expects 0 before → IsOverHonest f before told told' state → P before state

-- A whole run over a script of these bytes. All is said of one end: where it stopped, its key, and its history up to there, the command in
-- hand included.
pub record IsRun (f : KeyedFn) (bytes : List ℕ) (now last : Outside) (sink sink' : SinkShows) (status : ℕ) : Type 0 where
  pub end : Ended
  -- it did line after line what its script says, up to that end; then only the last line was printed
  pub opens : Opens f 1 (script_lines bytes) now end
  pub told : last.told ≡ end.outside.told
  pub kept : last.kept ≡ end.outside.kept
  pub line : EndsLine end.stop end.outside.written last.written status sink.faults sink'.faults sink.shortages sink'.shortages
  pub status_is : status ≡ status_of end.stop
  -- the frames that were sent are the first that the simulator makes of the history, whatever the link replied
  pub simulated : SendsSimulated f end.key end.history now.told last.told
  -- the history's records were taken, but for that of the command in hand at most, and no frame was sent before its command's record
  pub recorded : IsRecorded f end.key end.history status now last
  -- over an honest link, and if the history has no collision: no collision and no reply stopped the run, and it left a server with which a
  -- run can go on
  pub honest : IfHonest f now.told last.told (λ before state. IsFree f end.key end.history → status ≤ 7)
  pub left : IfHonest f now.told last.told (λ before state. IsFree f end.key end.history → LeavesServer f end.key end.history state)
  -- and if nothing disturbed it either, it did what its script means
  pub headline : IfHonest f now.told last.told (λ before state. IsFree f (meaning (Some (mark_of f)) bytes).key (meaning (Some (mark_of f)) bytes).history → IsUndisturbed status → Headline f before (meaning (Some (mark_of f)) bytes) now last status state)

-- and nothing is sent, received or kept
pub record DoesNothing {S L R : Type 0} (source source' : S) (link link' : L) (records records' : R) (sink sink' : SinkShows) (status : ℕ) : Type 0 where
  pub says : SaysWords source source' sink sink' status
  pub unsent : link' ≡ link
  pub unkept : records' ≡ records

-- The devices after a run, and after other words.

-- their counts are as the status tells, and the link is one to the same server. The sink's count of faults stayed but where the status tells
-- a fault of the sink; or in the last line it rose, or the count of shortages
pub record LeavesDevices (source source' : SourceShows) (sink sink' : SinkShows) (link link' : LinkShows) (disk disk' status : ℕ) : Type 0 where
  pub tells : TellsDevices source.faults source'.faults sink.faults sink'.faults link.faults link'.faults disk disk' (IsAtEnd source'.remaining) status
  pub began : link'.began ≡ link.began
  pub line : (status ≢ 4 → sink'.faults ≡ sink.faults) ⊎ (Rose sink.faults sink'.faults ⊎ Rose sink.shortages sink'.shortages)
