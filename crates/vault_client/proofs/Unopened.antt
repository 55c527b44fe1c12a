-- A run whose journal isn't opened.
use Rattle.std.proofs.Common.{◌≡◌, ◌≢◌, inl, inr, ℕ, List, refl}
use Rattle.std.specs.Prelude.{Option, IfSome}
use Rattle.script_run_texts.specs.Stops.{journal_line, journal_status}
use Rattle.script_run_texts.specs.declared.journal_stop.JournalStop.{JournalStop}
use Rattle.script_run_texts.specs.declared.journal_stop.JournalStop.TheVariants as journals
use Rattle.client_journal.specs.DiskRuns.{records_on}
use Rattle.client_journal.specs.Shows.{SinkShows}
use Rattle.sse_outside.specs.Fronts.{TookOrRose}
use Rattle.doc_vault.specs.Sights.{LinkSight}
use Rattle.vault_client.specs.Endings.{EndsLine}
use Rattle.vault_client.specs.OnDisk.{IsUnopened}

pub took_line : (line : List ℕ) (sink sink' : SinkShows) (status : ℕ) → TookOrRose sink.written sink'.written line sink.faults sink'.faults sink.shortages sink'.shortages → EndsLine line sink.written sink sink' status
took_line line sink sink' status (inl whole) = inl (whole.0, λ other. whole.1)
took_line line sink sink' status (inr short) = inr short

pub unopened : (Why : JournalStop → List ℕ → Type 0) (stop : JournalStop) (link : LinkSight) (content content' : Option (List ℕ)) (sink sink' : SinkShows) (status : ℕ) → IfSome content (Why stop)
    → (stop ≢ journals.Disk → stop ≢ journals.Memory → records_on content' ≡ records_on content) → TookOrRose sink.written sink'.written (journal_line stop) sink.faults sink'.faults sink.shortages sink'.shortages
    → status ≡ journal_status stop → IsUnopened Why link link content content' sink sink' status
unopened Why stop link content content' sink sink' status why unkept line is = record {
  stop = stop;
  why = why;
  unsent = refl;
  unkept = unkept;
  line = took_line (journal_line stop) sink sink' status line;
  status_is = is;
}
