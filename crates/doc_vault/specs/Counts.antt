-- The fault counts of a run's devices: at a stop a device's count rose if and only if the run stops for that device.
use Rattle.std.specs.Prelude.{◌≡◌, ◌≢◌, ◌≤◌, ℕ, Result, Ok, Err, IfErr, IsErrOf}
use Rattle.sse_outside.specs.Causes.{Rose}
use Rattle.sse_outside.specs.declared.device_fault.DeviceFault.TheVariants as devices
use Rattle.script_run_texts.specs.declared.command_stop.CommandStop.TheVariants as commands
use Rattle.script_run_texts.specs.declared.input_stop.InputStop.TheVariants as inputs
use Rattle.script_run_texts.specs.declared.stop_cause.StopCause.TheVariants as runs
use Rattle.vault_script.specs.declared.vault_stop.VaultStop.{VaultStop}
use Rattle.vault_script.specs.declared.vault_stop.VaultStop.TheVariants as stops
use Rattle.doc_vault.specs.Outcomes.{link_stop, own_memory_stop}

pub record Counts : Type 0 where
  pub source : ℕ
  pub sink : ℕ
  -- the calls of the sink that lacked memory
  pub shortages : ℕ
  -- cuts, and reported faults of the vault's disk
  pub link : ℕ
  pub recorder : ℕ

-- the same with another count of one device

abbrev pub with_source : ℕ → Counts → Counts
with_source n c = record { source = n; sink = c.sink; shortages = c.shortages; link = c.link; recorder = c.recorder }

abbrev pub with_sink : (n shortages : ℕ) → Counts → Counts
with_sink n shortages c = record { source = c.source; sink = n; shortages = shortages; link = c.link; recorder = c.recorder }

abbrev pub with_link : ℕ → Counts → Counts
with_link n c = record { source = c.source; sink = c.sink; shortages = c.shortages; link = n; recorder = c.recorder }

abbrev pub with_recorder : ℕ → Counts → Counts
with_recorder n c = record { source = c.source; sink = c.sink; shortages = c.shortages; link = c.link; recorder = n }

-- The stops for a device. That for the link is `link_stop`: it is cut, or the vault's disk failed.

abbrev pub source_stop : VaultStop
source_stop = stops.Run (runs.Input inputs.Source)

abbrev pub sink_stop : VaultStop
sink_stop = stops.Run runs.Sink

abbrev pub recorder_stop : VaultStop
recorder_stop = stops.Run (runs.Command (commands.Keeping devices.Failed))

-- the count rose if the run stops for its device, and is unchanged otherwise
pub record RoseOnly (stops_for : Type 0) (before now : ℕ) : Type 0 where
  pub rose : stops_for → Rose before now
  pub steady : (stops_for → ⊥) → now ≡ before

-- no count falls
pub record AreLater (old new : Counts) : Type 0 where
  pub source : old.source ≤ new.source
  pub sink : old.sink ≤ new.sink
  pub shortages : old.shortages ≤ new.shortages
  pub link : old.link ≤ new.link
  pub recorder : old.recorder ≤ new.recorder

-- of all devices, at a stop
pub record ShowsCause (old new : Counts) (stop : VaultStop) : Type 0 where
  pub source : RoseOnly (stop ≡ source_stop) old.source new.source
  pub sink : RoseOnly (stop ≡ sink_stop) old.sink new.sink
  pub link : RoseOnly (stop ≡ link_stop) old.link new.link
  pub recorder : RoseOnly (stop ≡ recorder_stop) old.recorder new.recorder
  -- the sink lacked memory only if the run stops out of memory
  pub supplied : stop ≢ own_memory_stop → new.shortages ≡ old.shortages
  pub later : AreLater old new

-- all counts are unchanged if it goes well, and show the cause of a stop
abbrev pub KeepsCounts : {T : Type 0} → (old new : Counts) → Result T VaultStop → Type 0
KeepsCounts old new (Ok done) = new ≡ old
KeepsCounts old new (Err stop) = ShowsCause old new stop

-- the stops in an exchange, before or after a reply
abbrev pub IsExchangeStop : VaultStop → Type 0
IsExchangeStop stops.Clash = Unit {0}
IsExchangeStop (stops.Forged id) = Unit {0}
IsExchangeStop (stops.Run runs.Memory) = Unit {0}
IsExchangeStop (stops.Run (runs.Command (commands.Exchange stop))) = Unit {0}
IsExchangeStop _ = ⊥

-- a call that judges a reply: the run stops for the link if and only if the reply reports a fault of the vault's disk
pub record TellsFault {T : Type 0} (reported : Type 0) (result : Result T VaultStop) : Type 0 where
  pub fault : reported → IsErrOf result link_stop
  pub only : IfErr result (λ stop. stop ≡ link_stop → reported)
  pub kind : IfErr result IsExchangeStop
