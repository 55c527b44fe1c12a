-- A run on a disk whose file gives no record: `run` is never refused for that file, and `more` always is.
use Rattle.std.specs.Prelude.{◌≡◌, ◌≤◌, ℕ, List, Option, Some}
use Rattle.def_script_meaning.specs.Exchange.{Told}
use Rattle.script_run_texts.specs.Words.{DiskMode, RunOn, More}
use Rattle.client_journal.specs.DiskRuns.{IsNotReopened}
use Rattle.sse_client.specs.OnDisk.{IsUnopened}
use Rattle.client_journal.specs.Shows.{SinkShows}

-- a run that is to go on reads nothing: its last line says why its journal isn't opened
pub record IsRefusedMore {S : Type 0} (source source' : S) (told told' : Told) (content content' : Option (List ℕ)) (sink sink' : SinkShows) (status : ℕ) : Type 0 where
  pub unread : source' ≡ source
  pub unopened : IsUnopened IsNotReopened told told' content content' sink.written sink'.written status sink.faults sink'.faults sink.shortages sink'.shortages

-- either mode over such a file
pub record OverNoRecord {S : Type 0} (mode : Option DiskMode) (source source' : S) (told told' : Told) (content content' : Option (List ℕ)) (sink sink' : SinkShows) (status : ℕ) : Type 0 where
  pub begun : mode ≡ Some RunOn → status ≤ 9
  pub refused : mode ≡ Some More → IsRefusedMore source source' told told' content content' sink sink' status
