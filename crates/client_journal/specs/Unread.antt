-- How a client's program ends before it has read anything.
use Rattle.std.specs.Prelude.{◌≡◌, ℕ}
use Rattle.client_journal.specs.Shows.{SinkShows}
use Rattle.script_run_texts.specs.Stops.{last_line, stop_status}
use Rattle.script_run_texts.specs.declared.command_stop.CommandStop.TheVariants as commands
use Rattle.script_run_texts.specs.declared.peer_stop.PeerStop.TheVariants as peers
use Rattle.script_run_texts.specs.declared.stop_cause.StopCause.{StopCause}
use Rattle.script_run_texts.specs.declared.stop_cause.StopCause.TheVariants as stops
use Rattle.sse_outside.specs.Fronts.{TookOrRose}
use Rattle.sse_outside.specs.declared.device_fault.DeviceFault.TheVariants as devices

-- the file can't be opened
abbrev pub no_file : StopCause
no_file = stops.Command (commands.Keeping devices.Failed)

-- the address can't be reached
abbrev pub no_server : StopCause
no_server = stops.Command (commands.Exchange peers.Link)

-- the program ended for this cause, and read nothing: its status, and its line, or a strict prefix of it if a count of the sink rose
pub record EndsUnread {S : Type 0} (stop : StopCause) (source source' : S) (sink sink' : SinkShows) (status : ℕ) : Type 0 where
  pub unread : source' ≡ source
  pub status_is : status ≡ stop_status stop
  pub line : TookOrRose sink.written sink'.written (last_line stop) sink.faults sink'.faults sink.shortages sink'.shortages

-- it opened nothing and called nobody either
pub record EndsUnopened {P S : Type 0} (stop : StopCause) (places places' : P) (source source' : S) (sink sink' : SinkShows) (status : ℕ) : Type 0 where
  pub unopened : places' ≡ places
  pub end : EndsUnread stop source source' sink sink' status
