-- What the program does, by what its words ask for.
use Rattle.std.proofs.Common.{◌≡◌, inr, ℕ, List, Option, None, Some, refl, sym, subst, arith}
use Rattle.std.specs.Prelude.{IfSome, Result, Ok, Err}
use Rattle.keyed_fn.specs.KeyedFn.{KeyedFn, IsKeyedFn}
use Rattle.def_script_meaning.specs.Stops.{At}
use Rattle.program_words.specs.Modes.{LocalMode, Made, More, RunOn, Script, Twin}
use Rattle.script_history.proofs.Ended.{ends_told}
use Rattle.script_run_texts.specs.declared.stop_cause.StopCause.TheVariants as stops
use Rattle.sse_client.proofs.InProcess.{memory-more, memory-run}
use Rattle.client_journal.specs.Shows.{SinkShows}
use Rattle.sse_local.proofs.Compared.{none-compared}
use Rattle.sse_local.specs.Compared.{HasCompared}
use Rattle.sse_local.specs.Program.{Does, seen_in}
use Rattle.sse_outside.specs.Fronts.{TookOrRose}
use Rattle.sse_script.specs.Shown.{Cause, NoMemory, Stopped}
use Rattle.sse_script.specs.Texts.{text_of}

-- There was no memory to read the words in.

module _ {S : Type 0} (f : KeyedFn) (laws : IsKeyedFn f) (source : S) (sink sink' : SinkShows) (status : ℕ) (is : status ≡ 7)
    (took : TookOrRose sink.written sink'.written (text_of (Stopped NoMemory)) sink.faults sink'.faults sink.shortages sink'.shortages) where
  memory-compared : (remaining : Option (List ℕ)) → IfSome remaining (λ bytes. HasCompared f bytes (seen_in sink) (seen_in sink') status)
  memory-compared None = tt
  memory-compared (Some bytes) = record {
    before = sink.written;
    stop = At NoMemory;
    compared = none-compared f (Some bytes) sink.written;
    ends = ends_told stops.Memory sink.written sink.written sink'.written sink.faults sink.faults sink'.faults sink.shortages sink.shortages sink'.shortages took refl (omega arith);
    status_is = is;
  }

  pub memory-does : (asked : Result LocalMode Cause) (remaining : Option (List ℕ)) → Does f asked remaining source source sink sink' status
  memory-does (Ok (Script RunOn)) remaining = memory-run f laws sink sink' status remaining is took
  memory-does (Ok (Script More)) remaining = memory-more source sink sink' status is took
  memory-does (Ok Twin) remaining = memory-compared remaining
  memory-does (Ok (Made seed documents)) remaining = record { unread = refl; sums_up = inr (record { status_is = is; printed = took }); summary = λ sound memory. absurd (memory is) }
  memory-does (Err cause) remaining = inr (record { unread = refl; status_is = is; line = took })

-- what is done for one reading of the words is done for an equal one
pub does-same : {S : Type 0} (f : KeyedFn) (asked same : Result LocalMode Cause) (remaining : Option (List ℕ)) (source source' : S) (sink sink' : SinkShows) (status : ℕ) → asked ≡ same
    → Does f same remaining source source' sink sink' status → Does f asked remaining source source' sink sink' status
does-same f asked same remaining source source' sink sink' status is did = subst (λ a. Does f a remaining source source' sink sink' status) (sym is) did
