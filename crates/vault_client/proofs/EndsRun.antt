-- The last line of a run, and the counts of the devices at its end.
use Rattle.std.proofs.Common.{◌≡◌, ◌≢◌, ◌≤◌, ◌⊎◌, inl, inr, ℕ, Bool, true, false, List, length, Result, Ok, Err, sym, ap, ◌∙◌, arith}
use Rattle.std.specs.Prelude.{Option, OnOk}
use Rattle.sse_outside.proofs.Fronts.{Rose-later}
use Rattle.sse_outside.specs.Causes.{Rose}
use Rattle.sse_outside.specs.Fronts.{TookOrRose}
use Rattle.client_journal.specs.Counts.{TellsDevices}
use Rattle.client_journal.specs.Shows.{SinkShows}
use Rattle.vault_script.specs.VaultStops.{vault_status}
use Rattle.vault_script.specs.declared.vault_stop.VaultStop.{VaultStop}
use Rattle.doc_vault.specs.Counts.{Counts, KeepsCounts, ShowsCause, sink_stop}
use Rattle.vault_client.specs.Endings.{EndsLine, run_line, run_status, status_through}
use Rattle.vault_client.proofs.StopStatuses.{IsRunStop, TellsStop, tells_stop}

-- a stop of the run isn't one of a journal that isn't opened
abbrev pub OnStop : Result Bool VaultStop → Type 0
OnStop (Ok refused) = Unit {0}
OnStop (Err stop) = IsRunStop stop

-- a run that is through has the status 0 or 1
pub through_low : (refused : Bool) → status_through refused ≤ 1
through_low true = omega arith
through_low false = omega arith

-- the sink's count of faults stayed up to the last line, unless the run stops for the sink
sink_kept : (old new : Counts) (ended : Result Bool VaultStop) → KeepsCounts old new ended → (ended ≡ Err sink_stop → ⊥) → new.sink ≡ old.sink
sink_kept old new (Ok refused) same other = ap (λ (c : Counts). c.sink) same
sink_kept old new (Err stop) shows other = shows.sink.steady (λ e. other (ap Err e))

shortages_later : (old new : Counts) (ended : Result Bool VaultStop) → KeepsCounts old new ended → old.shortages ≤ new.shortages
shortages_later old new (Ok refused) same = omega (arith, ap (λ (c : Counts). c.shortages) same)
shortages_later old new (Err stop) shows = shows.later.shortages

-- what the last line and the sink's counts come to
pub ends_line : (ended : Result Bool VaultStop) (printed : Option (List ℕ)) (sink sink' : SinkShows) (status : ℕ) (old new : Counts) → KeepsCounts old new ended → old.sink ≡ sink.faults → old.shortages ≡ sink.shortages → status ≡ run_status ended
    → TookOrRose printed sink'.written (run_line ended) new.sink sink'.faults new.shortages sink'.shortages → EndsLine (run_line ended) printed sink sink' status
ends_line ended printed sink sink' status old new keeps faults shortages is (inl whole) =
    inl (whole.0, λ other. whole.1 ∙ sink_kept old new ended keeps (λ e. other (is ∙ ap run_status e)) ∙ faults)
ends_line ended printed sink sink' status old new keeps faults shortages is (inr (short, inl rose)) =
    let before : new.sink ≡ old.sink = sink_kept old new ended keeps (λ e. omega (arith, short.short, ap (λ r. length (run_line r)) e)) in
    inr (short, inl (Rose-later sink.faults new.sink sink'.faults (omega (arith, before, faults)) rose))
ends_line ended printed sink sink' status old new keeps faults shortages is (inr (short, inr rose)) =
    inr (short, inr (Rose-later sink.shortages new.shortages sink'.shortages (omega (arith, shortages, shortages_later old new ended keeps)) rose))

-- the counts alone
pub counts-line : (line : List ℕ) (printed : Option (List ℕ)) (sink sink' : SinkShows) (status : ℕ) → EndsLine line printed sink sink' status → (status ≢ 4 → sink'.faults ≡ sink.faults) ⊎ (Rose sink.faults sink'.faults ⊎ Rose sink.shortages sink'.shortages)
counts-line line printed sink sink' status (inl whole) = inl whole.1
counts-line line printed sink sink' status (inr short) = inr short.1

-- The devices.

module _ (old new : Counts) (sink status : ℕ) (read : Type 0) where
  abbrev Tells : Type 0
  Tells = TellsDevices old.source new.source old.sink sink old.link new.link old.recorder new.recorder read status

  -- nothing rose in a run that is through
  devices-through : new ≡ old → status ≤ 1 → read → sink ≡ new.sink → Tells
  devices-through same most ended steady = record {
    at_end = λ _. ended;
    source_failed = λ e. absurd (omega (arith, most, e));
    source_steady = λ _. ap (λ (c : Counts). c.source) same;
    sink_failed = λ e. absurd (omega (arith, most, e));
    sink_steady = λ _. steady ∙ ap (λ (c : Counts). c.sink) same;
    link_failed = λ e. absurd (omega (arith, most, e));
    link_steady = λ _. ap (λ (c : Counts). c.link) same;
    disk_failed = λ e. absurd (omega (arith, most, e));
    disk_steady = λ _. ap (λ (c : Counts). c.recorder) same;
  }

  -- at a stop the count of its device did
  devices-stopped : (stop : VaultStop) → TellsStop stop → status ≡ vault_status stop → ShowsCause old new stop → new.sink ≤ sink → Tells
  devices-stopped stop tells is shows later = record {
    at_end = λ most. absurd (omega (arith, most, is, tells.least));
    source_failed = λ e. shows.source.rose (tells.source (sym is ∙ e));
    source_steady = λ other. shows.source.steady (λ e. other (is ∙ ap vault_status e));
    sink_failed = λ e. let rose : Rose old.sink new.sink = shows.sink.rose (tells.sink (sym is ∙ e)) in omega (arith, rose, later);
    sink_steady = λ most. absurd (omega (arith, most, is, tells.least));
    link_failed = λ e. shows.link.rose (tells.link (sym is ∙ e));
    link_steady = λ other. shows.link.steady (λ e. other (is ∙ ap vault_status e));
    disk_failed = λ e. shows.recorder.rose (tells.disk (sym is ∙ e));
    disk_steady = λ other. shows.recorder.steady (λ e. other (is ∙ ap vault_status e));
  }

  pub devices-run : (ended : Result Bool VaultStop) → OnStop ended → KeepsCounts old new ended → status ≡ run_status ended → OnOk ended read → OnOk ended (sink ≡ new.sink) → new.sink ≤ sink → Tells
  devices-run (Ok refused) run same is ended steady later = devices-through same (omega (arith, is, through_low refused)) ended steady
  devices-run (Err stop) run shows is ended steady later = devices-stopped stop (tells_stop stop run) is shows later
