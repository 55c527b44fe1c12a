-- The outcome of a renewal of the key that can't be planned.
use Rattle.std.specs.Prelude.{Result, Ok, Err}
use Rattle.client_renewal.specs.declared.renewal_fault.RenewalFault.{RenewalFault}
use Rattle.client_renewal.specs.declared.renewal_fault.RenewalFault.TheVariants as renewals
use Rattle.sse_script.specs.declared.refusal.Refusal.{Refusal}
use Rattle.sse_script.specs.declared.refusal.Refusal.TheVariants as refusals
use Rattle.script_run_texts.specs.declared.command_stop.CommandStop.{CommandStop}
use Rattle.script_run_texts.specs.declared.command_stop.CommandStop.TheVariants as stops

-- its key, its size and the numbers of its frames refuse its command; equal labels, equal places and want of memory stop the run
abbrev pub renewal_answer : RenewalFault → Result Refusal CommandStop
renewal_answer (renewals.KeyUsed epoch) = Ok (refusals.KeyUsed epoch)
renewal_answer (renewals.TooManyDocuments n) = Ok (refusals.TooManyDocuments n)
renewal_answer (renewals.TooManyPairs n) = Ok (refusals.TooManyPairs n)
renewal_answer (renewals.ListTooLong word n) = Ok (refusals.ListTooLong word n)
renewal_answer (renewals.TooManyBytes n) = Ok (refusals.TooManyBytes n)
renewal_answer renewals.HistoryFull = Ok refusals.HistoryFull
renewal_answer (renewals.LabelClash first second) = Err (stops.LabelClash first second)
renewal_answer (renewals.PlaceClash first second) = Err (stops.PlaceClash first second)
renewal_answer renewals.NoMemory = Err stops.Memory
