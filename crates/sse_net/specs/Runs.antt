-- What the program does over a disk and a link: a run, as an owner or as none.
use Rattle.std.specs.Prelude.{◌≡◌, ◌≢◌, ◌⊎◌, ◌≤◌, ℕ, List, Option, None, Some}
use Rattle.std.specs.Int.{w64, to_be_bytes}
use Rattle.std.specs.Io.KnownBytes.{append_known}
use Rattle.keyed_fn.specs.KeyedFn.{KeyedFn}
use Rattle.program_words.specs.Modes.{RunOn, More, disk_mode_of}
use Rattle.sse_outside.specs.Causes.{Rose}
use Rattle.sse_outside.specs.Fronts.{TookFront}
use Rattle.def_link_events.specs.Events.{Remote}
use Rattle.def_script_meaning.specs.Exchange.{Told}
use Rattle.sse_client.specs.Calls.{shows}
use Rattle.sse_client.specs.OnDisk.{BeginsOnDisk, ResumesOnDisk}
use Rattle.client_journal.specs.Shows.{SinkShows, SourceShows}
use Rattle.sse_client.specs.WholeRuns.{LeavesDevices}

-- By the counts of faults of source and sink: the status is one of the table, the script was read to its end where no fault is told, and a
-- device's count rose where the status tells its fault. The sink's may rise behind that, in the last line.
pub record TellsStreams (source source' sink sink' : ℕ) (read : Type 0) (status : ℕ) : Type 0 where
  pub known : status ≤ 11
  pub at_end : status ≤ 1 → read
  pub source_failed : status ≡ 3 → Rose source source'
  pub source_steady : status ≢ 3 → source' ≡ source
  pub sink_failed : status ≡ 4 → Rose sink sink'
  pub sink_steady : status ≤ 1 → sink' ≡ sink

-- over a disk and a link, from where they were to where they are, these words' run did all that `run_on_disk` says of it
pub record HasRunOnDisk {D L : Type 0} (content : D → Option (List ℕ)) (images : D → List ℕ → Type 0) (moment : D → ℕ) (left_since : D → ℕ → List ℕ → Type 0) (disk_faults : D → ℕ)
    (transcript : L → Told) (link_faults : L → ℕ) (began : L → Option Remote) (f : KeyedFn) (words : List (List ℕ)) (source source' : SourceShows) (sink sink' : SinkShows) (status : ℕ)
    (disk : D) (link : L) (disk2 : D) (link2 : L) : Type 0 where
  pub begun : disk_mode_of words ≡ Some RunOn → BeginsOnDisk content images moment left_since disk disk2 f source.remaining (transcript link) (transcript link2) sink sink' status
  pub resumed : disk_mode_of words ≡ Some More → ResumesOnDisk content images moment left_since disk disk2 f source.remaining (transcript link) (transcript link2) sink sink' status
  pub devices : LeavesDevices source source' sink sink' (shows (transcript link) (link_faults link) (began link)) (shows (transcript link2) (link_faults link2) (began link2))
      (disk_faults disk) (disk_faults disk2) status

module _ {D L : Type 0} (sent : L → Option (List ℕ)) (transcript : L → Told) (link_faults : L → ℕ) (began : L → Option Remote) (owner : ℕ) where
  -- the owner's number went out over the link, in eight bytes, and nothing else passed; then the run went on from there
  pub record HasRunAfterNumber (Ran : D → L → D → L → Type 0) (disk : D) (link : L) (disk2 : D) (link2 : L) : Type 0 where
    pub begun : L
    pub head : sent begun ≡ append_known (sent link) (to_be_bytes w64 owner)
    pub unanswered : shows (transcript begun) (link_faults begun) (began begun) ≡ shows (transcript link) (link_faults link) (began link)
    pub ran : Ran disk begun disk2 link2

  -- the number didn't go out whole: the program ended as without a server, and nothing was kept
  pub record HasNotBegun (WithoutServer : Type 0) (disk : D) (link : L) (disk2 : D) (link2 : L) : Type 0 where
    pub front : TookFront (sent link) (sent link2) (to_be_bytes w64 owner)
    pub nothing_passed : transcript link2 ≡ transcript link
    pub cause : Rose (link_faults link) (link_faults link2)
    pub unkept : disk2 ≡ disk
    pub end : WithoutServer

-- the same run, as an owner if there is one
abbrev pub RunsAs : {D L : Type 0} (sent : L → Option (List ℕ)) (transcript : L → Told) (link_faults : L → ℕ) (began : L → Option Remote) (owner : Option ℕ)
    (WithoutServer : Type 0) (Ran : D → L → D → L → Type 0) (disk : D) (link : L) (disk2 : D) (link2 : L) → Type 0
RunsAs sent transcript link_faults began None WithoutServer Ran disk link disk2 link2 = Ran disk link disk2 link2
RunsAs sent transcript link_faults began (Some owner) WithoutServer Ran disk link disk2 link2 =
    HasRunAfterNumber sent transcript link_faults began owner Ran disk link disk2 link2
    ⊎ HasNotBegun sent transcript link_faults began owner WithoutServer disk link disk2 link2
