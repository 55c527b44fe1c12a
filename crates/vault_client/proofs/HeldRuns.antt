-- A run that stops before it resumes: at its key line, or at its journal's records.
use Rattle.std.proofs.Common.{◌≡◌, ◌≤◌, ℕ, List, None, Some, Err, refl, sym, ap, ◌∙◌, subst, arith}
use Rattle.std.specs.Prelude.{Option, IfSome}
use Rattle.client_journal.specs.Counts.{TellsDevices}
use Rattle.client_journal.specs.Shows.{SinkShows}
use Rattle.client_journal.specs.Openings.{IsOfRecords}
use Rattle.keyed_fn.specs.KeyedFn.{KeyedFn}
use Rattle.sse_journal.specs.declared.journal.Journal.{Journal}
use Rattle.sse_outside.specs.Fronts.{TookOrRose}
use Rattle.sse_outside.specs.Images.{NoOther}
use Rattle.vault_script.specs.VaultStops.{vault_last_line, vault_status}
use Rattle.vault_script.specs.declared.vault_stop.VaultStop.{VaultStop}
use Rattle.vault_server.proofs.Replaying.{journal_on}
use Rattle.doc_vault.specs.Sights.{Sight}
use Rattle.vault_client.specs.Endings.{EndsLine}
use Rattle.vault_client.specs.ResumedRuns.{HeldUp, IsResumedRun}
use Rattle.vault_client.proofs.ResumedRun.{TellsHeld, resumed-run}
use Rattle.vault_client.proofs.Unopened.{took_line}
use Rattle.vault_client.specs.Restorings.{ShowsHeldUp, StopsRestoring}

-- a disk that was only read holds the journal's records
pub holds_on : (j : Journal) (old new : Option (List ℕ)) (images images' : List ℕ → Type 0) → new ≡ old → NoOther images images' → IfSome old (λ file. IsOfRecords j old images) → IfSome new (λ file. IsOfRecords j new images')
holds_on j None new images images' same others of = subst (λ (c : Option (List ℕ)). IfSome c (λ file. IsOfRecords j c images')) (sym same) tt
holds_on j (Some file) new images images' same others of = subst (λ (c : Option (List ℕ)). IfSome c (λ file. IsOfRecords j c images')) (sym same) (of.0, journal_on of.0 j (Some file) (Some file) images images' of.1 refl others)

-- nothing was sent, kept or printed, but the last line
pub held-run : (f : KeyedFn) (left : Option (List (List ℕ))) (now last : Sight) (sink sink' : SinkShows) (status : ℕ) (stop : VaultStop) → StopsRestoring f left now.kept stop → last.link ≡ now.link → last.kept ≡ now.kept → now.written ≡ sink.written
    → TookOrRose sink.written sink'.written (vault_last_line stop) sink.faults sink'.faults sink.shortages sink'.shortages → status ≡ vault_status stop → IsResumedRun f left now last sink sink' status
held-run f left now last sink sink' status stop why link kept written line is =
    resumed-run f left now now last sink sink' status (Err stop) (HeldUp stop refl why refl) link kept
    (subst (λ (w : Option (List ℕ)). EndsLine (vault_last_line stop) w sink sink' status) (sym written) (took_line (vault_last_line stop) sink sink' status line)) is

pub held_known : (stop : VaultStop) (status : ℕ) → TellsHeld stop → status ≡ vault_status stop → status ≤ 12
held_known stop status tells is = omega (arith, tells.most, is)

-- the counts of its devices
pub devices-held : (source source' sink sink' link disk disk' status : ℕ) (read : Type 0) (stop : VaultStop) → TellsHeld stop → status ≡ vault_status stop → ShowsHeldUp disk disk' source source' stop
    → TellsDevices source source' sink sink' link link disk disk' read status
devices-held source source' sink sink' link disk disk' status read stop tells is shows = record {
  at_end = λ most. absurd (omega (arith, most, is, tells.least));
  source_failed = λ e. shows.source_rose.rose (tells.source (sym is ∙ e));
  source_steady = λ other. shows.source_rose.steady (λ e. other (is ∙ ap vault_status e));
  sink_failed = λ e. absurd (tells.sink (sym is ∙ e));
  sink_steady = λ most. absurd (omega (arith, most, is, tells.least));
  link_failed = λ e. absurd (tells.link (sym is ∙ e));
  link_steady = λ _. refl;
  disk_failed = λ e. shows.disk_rose.rose (tells.disk (sym is ∙ e));
  disk_steady = λ other. shows.disk_rose.steady (λ e. other (is ∙ ap vault_status e));
}
