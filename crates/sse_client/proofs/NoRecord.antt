-- A run over a file that gives no record: why its journal isn't opened.
use Rattle.std.proofs.Common.{◌≡◌, ◌≢◌, ◌⊎◌, inl, inr, ℕ, List, Option, None, Some, refl}
use Rattle.std.specs.Prelude.{IfSome}
use Rattle.client_journal.specs.Openings.{HasNoRecord}
use Rattle.def_script_meaning.specs.Exchange.{Told}
use Rattle.script_run_texts.specs.Stops.{journal_status}
use Rattle.script_run_texts.specs.declared.journal_stop.JournalStop.{JournalStop}
use Rattle.script_run_texts.specs.declared.journal_stop.JournalStop.TheVariants as journals
use Rattle.sse_client.specs.NoRecord.{IsRefusedMore}
use Rattle.client_journal.specs.DiskRuns.{IsNotReopened}
use Rattle.client_journal.specs.Shows.{SinkShows}

-- there is none, or memory was out, where the disk isn't what failed
pub none_or_memory : (stop : JournalStop) (file : List ℕ) → IsNotReopened stop file → journal_status stop ≢ 6 → (stop ≡ journals.NoJournal) ⊎ (stop ≡ journals.Memory)
none_or_memory journals.NoJournal file why disk = inl refl
none_or_memory journals.HasRecords file why disk = absurd why
none_or_memory (journals.BadRecord number) file why disk = absurd why
none_or_memory journals.WrongKey file why disk = absurd why
none_or_memory journals.Disk file why disk = absurd (disk refl)
none_or_memory journals.Memory file why disk = inr refl

-- so the status is 10 where neither disk nor memory is the cause
refused_status : (stop : JournalStop) (file : List ℕ) (status : ℕ) → IsNotReopened stop file → status ≡ journal_status stop → status ≢ 6 → status ≢ 7 → status ≡ 10
refused_status journals.NoJournal file status why is disk memory = is
refused_status journals.HasRecords file status why is disk memory = absurd why
refused_status (journals.BadRecord number) file status why is disk memory = absurd why
refused_status journals.WrongKey file status why is disk memory = absurd why
refused_status journals.Disk file status why is disk memory = absurd (disk is)
refused_status journals.Memory file status why is disk memory = absurd (memory is)

pub refused_ten : {S : Type 0} (source source' : S) (told told' : Told) (content content' : Option (List ℕ)) (sink sink' : SinkShows) (status : ℕ) → IfSome content (λ file. HasNoRecord file → IsRefusedMore source source' told told' content content' sink sink' status)
    → IfSome content (λ file. HasNoRecord file → status ≢ 6 → status ≢ 7 → status ≡ 10)
refused_ten source source' told told' None content' sink sink' status refused = tt
refused_ten source source' told told' (Some file) content' sink sink' status refused = λ none. let was = (refused none).unopened in refused_status was.stop file status was.why was.status_is
