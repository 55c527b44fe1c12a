-- What the status of a run that stops says of its cause.
use Rattle.std.proofs.Common.{◌≡◌, ◌≢◌, ℕ, ◌≤◌, refl, sym, ◌∙◌, arith}
use Rattle.sse_outside.specs.declared.device_fault.DeviceFault.TheVariants as devices
use Rattle.script_run_texts.specs.declared.command_stop.CommandStop.TheVariants as commands
use Rattle.script_run_texts.specs.declared.input_stop.InputStop.{InputStop}
use Rattle.script_run_texts.specs.declared.input_stop.InputStop.TheVariants as inputs
use Rattle.script_run_texts.specs.declared.peer_stop.PeerStop.TheVariants as peers
use Rattle.script_run_texts.specs.declared.stop_cause.StopCause.{StopCause}
use Rattle.script_run_texts.specs.declared.stop_cause.StopCause.TheVariants as runs
use Rattle.vault_script.specs.VaultStops.{vault_status}
use Rattle.vault_script.specs.declared.vault_stop.VaultStop.{VaultStop}
use Rattle.vault_script.specs.declared.vault_stop.VaultStop.TheVariants as stops
use Rattle.doc_vault.specs.Counts.{recorder_stop, sink_stop, source_stop}
use Rattle.doc_vault.specs.Outcomes.{link_stop}

-- the stops of the four devices are those of the statuses from 3 to 6, and that of a wrong tag has 12
pub record TellsStop (stop : VaultStop) : Type 0 where
  pub least : 2 ≤ vault_status stop
  pub most : vault_status stop ≤ 12
  pub source : vault_status stop ≡ 3 → stop ≡ source_stop
  pub sink : vault_status stop ≡ 4 → stop ≡ sink_stop
  pub link : vault_status stop ≡ 5 → stop ≡ link_stop
  pub disk : vault_status stop ≡ 6 → stop ≡ recorder_stop
  pub opened : vault_status stop ≢ 10
  pub forged : vault_status stop ≡ 12 → (id : ℕ) × (stop ≡ stops.Forged id)

-- none of these
tells_low : (stop : VaultStop) → vault_status stop ≡ 2 → TellsStop stop
tells_low stop is = record {
  least = omega (arith, is);
  most = omega (arith, is);
  source = λ e. absurd (omega (arith, is, e));
  sink = λ e. absurd (omega (arith, is, e));
  link = λ e. absurd (omega (arith, is, e));
  disk = λ e. absurd (omega (arith, is, e));
  opened = λ e. omega (arith, is, e);
  forged = λ e. absurd (omega (arith, is, e));
}

tells_high : (stop : VaultStop) → 7 ≤ vault_status stop → vault_status stop ≤ 9 → TellsStop stop
tells_high stop least most = record {
  least = omega (arith, least);
  most = omega (arith, most);
  source = λ e. absurd (omega (arith, least, e));
  sink = λ e. absurd (omega (arith, least, e));
  link = λ e. absurd (omega (arith, least, e));
  disk = λ e. absurd (omega (arith, least, e));
  opened = λ e. omega (arith, most, e);
  forged = λ e. absurd (omega (arith, most, e));
}

-- one of a device
tells_device : (stop : VaultStop) (n : ℕ) → vault_status stop ≡ n → 3 ≤ n → n ≤ 6 → (n ≡ 3 → stop ≡ source_stop) → (n ≡ 4 → stop ≡ sink_stop) → (n ≡ 5 → stop ≡ link_stop) → (n ≡ 6 → stop ≡ recorder_stop) → TellsStop stop
tells_device stop n is least most source sink link disk = record {
  least = omega (arith, is, least);
  most = omega (arith, is, most);
  source = λ e. source (sym is ∙ e);
  sink = λ e. sink (sym is ∙ e);
  link = λ e. link (sym is ∙ e);
  disk = λ e. disk (sym is ∙ e);
  opened = λ e. omega (arith, is, most, e);
  forged = λ e. absurd (omega (arith, is, most, e));
}

tells_run : (cause : StopCause) → TellsStop (stops.Run cause)
tells_run runs.Words = tells_low (stops.Run runs.Words) refl
tells_run (runs.Input (inputs.Line number)) = tells_low (stops.Run (runs.Input (inputs.Line number))) refl
tells_run (runs.Input inputs.Source) = tells_device source_stop 3 refl (omega arith) (omega arith) (λ e. refl) (λ e. absurd (omega (arith, e))) (λ e. absurd (omega (arith, e))) (λ e. absurd (omega (arith, e)))
tells_run (runs.Input inputs.Memory) = tells_high (stops.Run (runs.Input inputs.Memory)) (omega arith) (omega arith)
tells_run runs.Sink = tells_device sink_stop 4 refl (omega arith) (omega arith) (λ e. absurd (omega (arith, e))) (λ e. refl) (λ e. absurd (omega (arith, e))) (λ e. absurd (omega (arith, e)))
tells_run runs.Memory = tells_high (stops.Run runs.Memory) (omega arith) (omega arith)
tells_run (runs.Command (commands.LabelClash first second)) = tells_high (stops.Run (runs.Command (commands.LabelClash first second))) (omega arith) (omega arith)
tells_run (runs.Command (commands.PlaceClash first second)) = tells_high (stops.Run (runs.Command (commands.PlaceClash first second))) (omega arith) (omega arith)
tells_run (runs.Command (commands.NumberClash first second)) = tells_high (stops.Run (runs.Command (commands.NumberClash first second))) (omega arith) (omega arith)
tells_run (runs.Command commands.Memory) = tells_high (stops.Run (runs.Command commands.Memory)) (omega arith) (omega arith)
tells_run (runs.Command (commands.Keeping devices.Failed)) = tells_device recorder_stop 6 refl (omega arith) (omega arith) (λ e. absurd (omega (arith, e))) (λ e. absurd (omega (arith, e))) (λ e. absurd (omega (arith, e))) (λ e. refl)
tells_run (runs.Command (commands.Keeping devices.NoMemory)) = tells_high (stops.Run (runs.Command (commands.Keeping devices.NoMemory))) (omega arith) (omega arith)
tells_run (runs.Command (commands.Exchange peers.Link)) = tells_device link_stop 5 refl (omega arith) (omega arith) (λ e. absurd (omega (arith, e))) (λ e. absurd (omega (arith, e))) (λ e. refl) (λ e. absurd (omega (arith, e)))
tells_run (runs.Command (commands.Exchange peers.Memory)) = tells_high (stops.Run (runs.Command (commands.Exchange peers.Memory))) (omega arith) (omega arith)
tells_run (runs.Command (commands.Exchange (peers.Clash what place))) = tells_high (stops.Run (runs.Command (commands.Exchange (peers.Clash what place)))) (omega arith) (omega arith)
tells_run (runs.Command (commands.Exchange (peers.Elsewhere low high got))) = tells_high (stops.Run (runs.Command (commands.Exchange (peers.Elsewhere low high got)))) (omega arith) (omega arith)
tells_run (runs.Command (commands.Exchange (peers.BadReply start))) = tells_high (stops.Run (runs.Command (commands.Exchange (peers.BadReply start)))) (omega arith) (omega arith)

tells_forged : (id : ℕ) → TellsStop (stops.Forged id)
tells_forged id = record {
  least = omega arith;
  most = omega arith;
  source = λ e. absurd (omega (arith, e));
  sink = λ e. absurd (omega (arith, e));
  link = λ e. absurd (omega (arith, e));
  disk = λ e. absurd (omega (arith, e));
  opened = λ e. omega (arith, e);
  forged = λ e. (id, refl);
}

-- the stop isn't one of a journal that isn't opened
abbrev pub IsRunStop : VaultStop → Type 0
IsRunStop stops.Clash = Unit {0}
IsRunStop (stops.Forged id) = Unit {0}
IsRunStop (stops.Run cause) = Unit {0}
IsRunStop (stops.Unopened stop) = ⊥

pub tells_stop : (stop : VaultStop) → IsRunStop stop → TellsStop stop
tells_stop stops.Clash is = tells_high stops.Clash (omega arith) (omega arith)
tells_stop (stops.Forged id) is = tells_forged id
tells_stop (stops.Run cause) is = tells_run cause
tells_stop (stops.Unopened stop) is = absurd is

-- nor one of a bad line or of bad words: its status isn't 2

abbrev pub IsOtherInput : InputStop → Type 0
IsOtherInput (inputs.Line number) = ⊥
IsOtherInput inputs.Source = Unit {0}
IsOtherInput inputs.Memory = Unit {0}

abbrev pub IsOtherRun : StopCause → Type 0
IsOtherRun runs.Words = ⊥
IsOtherRun (runs.Input why) = IsOtherInput why
IsOtherRun runs.Sink = Unit {0}
IsOtherRun runs.Memory = Unit {0}
IsOtherRun (runs.Command stop) = Unit {0}

abbrev pub IsOther : VaultStop → Type 0
IsOther stops.Clash = Unit {0}
IsOther (stops.Forged id) = Unit {0}
IsOther (stops.Run cause) = IsOtherRun cause
IsOther (stops.Unopened stop) = ⊥

pub other_run : (stop : VaultStop) → IsOther stop → IsRunStop stop
other_run stops.Clash is = tt
other_run (stops.Forged id) is = tt
other_run (stops.Run cause) is = tt
other_run (stops.Unopened stop) is = absurd is

not_two_run : (cause : StopCause) → IsOtherRun cause → vault_status (stops.Run cause) ≢ 2
not_two_run runs.Words is = absurd is
not_two_run (runs.Input (inputs.Line number)) is = absurd is
not_two_run (runs.Input inputs.Source) is = λ e. omega (arith, e)
not_two_run (runs.Input inputs.Memory) is = λ e. omega (arith, e)
not_two_run runs.Sink is = λ e. omega (arith, e)
not_two_run runs.Memory is = λ e. omega (arith, e)
not_two_run (runs.Command (commands.LabelClash first second)) is = λ e. omega (arith, e)
not_two_run (runs.Command (commands.PlaceClash first second)) is = λ e. omega (arith, e)
not_two_run (runs.Command (commands.NumberClash first second)) is = λ e. omega (arith, e)
not_two_run (runs.Command commands.Memory) is = λ e. omega (arith, e)
not_two_run (runs.Command (commands.Keeping devices.Failed)) is = λ e. omega (arith, e)
not_two_run (runs.Command (commands.Keeping devices.NoMemory)) is = λ e. omega (arith, e)
not_two_run (runs.Command (commands.Exchange peers.Link)) is = λ e. omega (arith, e)
not_two_run (runs.Command (commands.Exchange peers.Memory)) is = λ e. omega (arith, e)
not_two_run (runs.Command (commands.Exchange (peers.Clash what place))) is = λ e. omega (arith, e)
not_two_run (runs.Command (commands.Exchange (peers.Elsewhere low high got))) is = λ e. omega (arith, e)
not_two_run (runs.Command (commands.Exchange (peers.BadReply start))) is = λ e. omega (arith, e)

pub not_two : (stop : VaultStop) → IsOther stop → vault_status stop ≢ 2
not_two stops.Clash is = λ e. omega (arith, e)
not_two (stops.Forged id) is = λ e. omega (arith, e)
not_two (stops.Run cause) is = not_two_run cause is
not_two (stops.Unopened stop) is = absurd is
