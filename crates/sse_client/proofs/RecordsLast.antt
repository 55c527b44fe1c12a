-- What is kept lasts: at a stop that isn't for the record of a command, what keeps the records takes more of them, and the file of a
-- journal is exactly that of its records, also after a crash.
use Rattle.std.proofs.Common.{◌≡◌, ◌≢◌, Result, Ok, Err, IsErrAnd, refl}
use Rattle.script_run_texts.specs.Stops.{stop_status}
use Rattle.script_run_texts.specs.declared.command_stop.CommandStop.{CommandStop}
use Rattle.script_run_texts.specs.declared.command_stop.CommandStop.TheVariants as commands
use Rattle.script_run_texts.specs.declared.stop_cause.StopCause.{StopCause}
use Rattle.script_run_texts.specs.declared.stop_cause.StopCause.TheVariants as stops
use Rattle.sse_outside.specs.declared.device_fault.DeviceFault.TheVariants as devices
use Rattle.sse_client.proofs.TranscriptsJoined.{IfErr-from, may_stop-ok}
use Rattle.sse_client.specs.RecordKept.{StaysWhole, WholeAt, WholeAtStop}

pub StaysWhole-err : {T E : Type 0} (showing : Type 0 → E → Type 0) (whole : Type 0) (r : Result T E) (stop : E) → IsErrAnd r (λ e. e ≡ stop) → showing whole stop → StaysWhole showing whole r
StaysWhole-err showing whole r stop is holds = record { after = may_stop-ok r stop is _; stopped = IfErr-from r stop (showing whole) is holds }

-- what is whole is so at every stop
pub whole_at : (whole : Type 0) → whole → (stop : CommandStop) → WholeAt whole stop
whole_at whole is (commands.Keeping fault) = tt
whole_at whole is (commands.LabelClash first second) = is
whole_at whole is (commands.PlaceClash first second) = is
whole_at whole is (commands.NumberClash first second) = is
whole_at whole is commands.Memory = is
whole_at whole is (commands.Exchange stop) = is

pub whole_at_stop : (whole : Type 0) → whole → (stop : StopCause) → WholeAtStop whole stop
whole_at_stop whole is (stops.Command stop) = whole_at whole is stop
whole_at_stop whole is stops.Words = is
whole_at_stop whole is (stops.Input stop) = is
whole_at_stop whole is stops.Sink = is
whole_at_stop whole is stops.Memory = is

pub StaysWhole-same : {T : Type 0} (whole : Type 0) → whole → (r : Result T CommandStop) → StaysWhole WholeAt whole r
StaysWhole-same whole is (Ok x) = record { after = is; stopped = tt }
StaysWhole-same whole is (Err stop) = record { after = tt; stopped = whole_at whole is stop }

-- a stop for the record of a command has the status 6 or 7
pub whole_but_kept : (whole : Type 0) (stop : StopCause) → WholeAtStop whole stop → stop_status stop ≢ 6 → stop_status stop ≢ 7 → whole
whole_but_kept whole (stops.Command (commands.Keeping devices.Failed)) is disk memory = absurd (disk refl)
whole_but_kept whole (stops.Command (commands.Keeping devices.NoMemory)) is disk memory = absurd (memory refl)
whole_but_kept whole (stops.Command (commands.LabelClash first second)) is disk memory = is
whole_but_kept whole (stops.Command (commands.PlaceClash first second)) is disk memory = is
whole_but_kept whole (stops.Command (commands.NumberClash first second)) is disk memory = is
whole_but_kept whole (stops.Command commands.Memory) is disk memory = is
whole_but_kept whole (stops.Command (commands.Exchange stop)) is disk memory = is
whole_but_kept whole stops.Words is disk memory = is
whole_but_kept whole (stops.Input stop) is disk memory = is
whole_but_kept whole stops.Sink is disk memory = is
whole_but_kept whole stops.Memory is disk memory = is
