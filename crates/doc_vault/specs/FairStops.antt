-- Why a run stops if no reply stops it.
use Rattle.std.specs.Prelude.{◌≡◌, ◌⊎◌}
use Rattle.sse_outside.specs.declared.device_fault.DeviceFault.{DeviceFault}
use Rattle.script_run_texts.specs.Stops.{stop_of_sink}
use Rattle.script_run_texts.specs.declared.command_stop.CommandStop.TheVariants as commands
use Rattle.script_run_texts.specs.declared.input_stop.InputStop.{InputStop}
use Rattle.script_run_texts.specs.declared.stop_cause.StopCause.TheVariants as runs
use Rattle.vault_script.specs.declared.vault_stop.VaultStop.{VaultStop}
use Rattle.vault_script.specs.declared.vault_stop.VaultStop.TheVariants as stops
use Rattle.doc_vault.specs.Outcomes.{link_stop, memory_stop, own_memory_stop}

-- a line is bad or isn't read; a record isn't taken; the sink fails; the client is out of memory; the link or the vault's disk fails, or
-- one of these two is out of memory. So it's no clash, no wrong tag, no other number and no other reply than the one expected
pub data StopsFairly (stop : VaultStop) : Type 0 where
  AtInput : (why : InputStop) → stop ≡ stops.Run (runs.Input why) → StopsFairly stop
  AtRecord : (fault : DeviceFault) → stop ≡ stops.Run (runs.Command (commands.Keeping fault)) → StopsFairly stop
  AtSink : (fault : DeviceFault) → stop ≡ stops.Run (stop_of_sink fault) → StopsFairly stop
  AtMemory : stop ≡ own_memory_stop → StopsFairly stop
  AtLink : (stop ≡ link_stop) ⊎ (stop ≡ memory_stop) → StopsFairly stop
