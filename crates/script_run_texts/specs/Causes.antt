-- The fault counts of devices at a stop: a device's count rose if the run stops for it, and stays at every other stop.
use Rattle.std.specs.Prelude.{◌≡◌, ◌≤◌, ℕ, Result, IfErr, OnOk}
use Rattle.sse_outside.specs.Causes.{Rose}
use Rattle.sse_outside.specs.declared.device_fault.DeviceFault.{DeviceFault}
use Rattle.sse_outside.specs.declared.device_fault.DeviceFault.TheVariants as devices
use Rattle.script_run_texts.specs.declared.command_stop.CommandStop.{CommandStop}
use Rattle.script_run_texts.specs.declared.command_stop.CommandStop.TheVariants as commands
use Rattle.script_run_texts.specs.declared.input_stop.InputStop.{InputStop}
use Rattle.script_run_texts.specs.declared.input_stop.InputStop.TheVariants as inputs
use Rattle.script_run_texts.specs.declared.peer_stop.PeerStop.{PeerStop}
use Rattle.script_run_texts.specs.declared.peer_stop.PeerStop.TheVariants as peers
use Rattle.script_run_texts.specs.declared.stop_cause.StopCause.{StopCause}
use Rattle.script_run_texts.specs.declared.stop_cause.StopCause.TheVariants as stops

-- of what carries frames to the server, in an exchange
abbrev pub PeerCause : ℕ → ℕ → PeerStop → Type 0
PeerCause before now peers.Link = Rose before now
PeerCause before now _ = now ≡ before

-- the same in a command
abbrev pub CommandCause : ℕ → ℕ → CommandStop → Type 0
CommandCause before now (commands.Exchange stop) = PeerCause before now stop
CommandCause before now _ = now ≡ before

-- the same in a run
abbrev pub LinkCause : ℕ → ℕ → StopCause → Type 0
LinkCause before now (stops.Command stop) = CommandCause before now stop
LinkCause before now _ = now ≡ before

-- of what keeps the records, in keeping one
abbrev pub KeepCause : ℕ → ℕ → DeviceFault → Type 0
KeepCause before now devices.Failed = Rose before now
KeepCause before now devices.NoMemory = now ≡ before

-- the same in a command
abbrev pub KeepCommandCause : ℕ → ℕ → CommandStop → Type 0
KeepCommandCause before now (commands.Keeping fault) = KeepCause before now fault
KeepCommandCause before now _ = now ≡ before

-- the same in a run
abbrev pub RecorderCause : ℕ → ℕ → StopCause → Type 0
RecorderCause before now (stops.Command stop) = KeepCommandCause before now stop
RecorderCause before now _ = now ≡ before

-- of the source, in reading a line
abbrev pub InputCause : ℕ → ℕ → InputStop → Type 0
InputCause before now inputs.Source = Rose before now
InputCause before now _ = now ≡ before

-- the same in a run
abbrev pub SourceCause : ℕ → ℕ → StopCause → Type 0
SourceCause before now (stops.Input stop) = InputCause before now stop
SourceCause before now _ = now ≡ before

-- of the sink, before the last line
abbrev pub SinkCause : ℕ → ℕ → StopCause → Type 0
SinkCause before now stops.Sink = Rose before now
SinkCause before now _ = now ≡ before

-- of the sink, in printing
abbrev pub PrintCause : ℕ → ℕ → DeviceFault → Type 0
PrintCause before now devices.Failed = Rose before now
PrintCause before now devices.NoMemory = now ≡ before

-- what every part of a run keeps of the source: its count stays where that part went well, and else shows the cause as
-- this says
pub record KeepsSource {T E : Type 0} (showing : ℕ → ℕ → E → Type 0) (before now : ℕ) (result : Result T E) : Type 0 where
  pub steady : OnOk result (now ≡ before)
  pub cause : IfErr result (showing before now)

-- and of what keeps the records
pub record KeepsRecorder {T E : Type 0} (showing : ℕ → ℕ → E → Type 0) (before now : ℕ) (result : Result T E) : Type 0 where
  pub steady : OnOk result (now ≡ before)
  pub cause : IfErr result (showing before now)

-- and of the sink, whose count of shortages never falls
pub record KeepsSink {T : Type 0} (before now shortages shortages_now : ℕ) (result : Result T StopCause) : Type 0 where
  pub steady : OnOk result (now ≡ before)
  pub cause : IfErr result (SinkCause before now)
  pub no_fewer : shortages ≤ shortages_now
