-- A whole run, by what its script came to and how its last line was printed.
use Rattle.std.proofs.Common.{◌≡◌, ◌≢◌, ◌≤◌, inl, inr, ℕ, Bool, List, [], Result, Ok, Err, refl, sym, ap, ◌∙◌, subst, arith}
use Rattle.std.specs.Prelude.{Option, IfSome, None, Some}
use Rattle.std.specs.Io.KnownBytes.{append_known}
use Rattle.std.proofs.lemmas.List.{append-nil}
use Rattle.keyed_fn.specs.KeyedFn.{KeyedFn}
use Rattle.client_journal.specs.Shows.{SinkShows}
use Rattle.vault_link.specs.Served.{VaultRemote}
use Rattle.vault_script.specs.VaultStops.{vault_status}
use Rattle.vault_script.specs.declared.vault_stop.VaultStop.{VaultStop}
use Rattle.vault_script.specs.declared.vault_stop.VaultStop.TheVariants as stops
use Rattle.doc_vault.specs.Scripts.{RunsScript}
use Rattle.doc_vault.specs.Sights.{Sight}
use Rattle.vault_client.specs.Endings.{EndsLine, run_line, run_status}
use Rattle.vault_client.specs.Forgeries.{IsForgedRun}
use Rattle.vault_client.specs.Meanings.{IsBadScript}
use Rattle.vault_client.specs.WholeRuns.{Headline, IfEmptyVault, IsVaultRun, SlotsDifferThere}
use Rattle.vault_client.proofs.EndsRun.{OnStop, through_low}
use Rattle.vault_client.proofs.ForgedRuns.{IsForgedStop, script_forged, script_wrong}
use Rattle.vault_client.proofs.Headlines.{headline-run, honest-run}
use Rattle.vault_client.proofs.RunStops.{script_bad, script_stop}
use Rattle.vault_client.proofs.StopStatuses.{tells_stop}

no_more : (written : Option (List ℕ)) → append_known written [] ≡ written
no_more None = refl
no_more (Some bytes) = ap Some (append-nil bytes)

-- where no line is due, none was printed
none_printed : (printed : Option (List ℕ)) (sink sink' : SinkShows) (status : ℕ) → EndsLine [] printed sink sink' status → sink'.written ≡ printed
none_printed printed sink sink' status (inl whole) = whole.0 ∙ no_more printed
none_printed printed sink sink' status (inr short) = absurd (omega (arith, short.0.short))

pub run_stops : (f : KeyedFn) (left : Option (List (List ℕ))) (now end : Sight) (ended : Result Bool VaultStop) → RunsScript f left now end ended → OnStop ended
run_stops f left now end (Ok refused) runs = tt
run_stops f left now end (Err stop) runs = script_stop f left now end stop runs

-- the status, at most 12 and never 10
pub run_known : (ended : Result Bool VaultStop) → OnStop ended → run_status ended ≤ 12
run_known (Ok refused) run = omega (arith, through_low refused)
run_known (Err stop) run = (tells_stop stop run).most

pub run_opened : (ended : Result Bool VaultStop) → OnStop ended → run_status ended ≢ 10
run_opened (Ok refused) run = λ e. omega (arith, through_low refused, e)
run_opened (Err stop) run = (tells_stop stop run).opened

pub forged_stop : (stop : VaultStop) → IsForgedStop stop → vault_status stop ≡ 12
forged_stop (stops.Forged id) forged = refl
forged_stop stops.Clash forged = absurd forged
forged_stop (stops.Run cause) forged = absurd forged
forged_stop (stops.Unopened stop) forged = absurd forged

module _ (f : KeyedFn) (left : Option (List (List ℕ))) (now end : Sight) where
  forged_only : (ended : Result Bool VaultStop) (runs : RunsScript f left now end ended) → run_status ended ≡ 12 → IsForgedRun f left now end ended runs
  forged_only (Ok refused) runs e = absurd (omega (arith, through_low refused, e))
  forged_only (Err stop) runs e =
      let is = (tells_stop stop (script_stop f left now end stop runs)).forged e in
      script_forged f left now end stop runs (subst IsForgedStop (sym is.1) tt)

  forged_so : (ended : Result Bool VaultStop) (runs : RunsScript f left now end ended) → IsForgedRun f left now end ended runs → run_status ended ≡ 12
  forged_so (Ok refused) runs forged = absurd forged
  forged_so (Err stop) runs forged = forged_stop stop (script_wrong f left now end stop runs forged)

  bad_script : (ended : Result Bool VaultStop) → RunsScript f left now end ended → run_status ended ≡ 2 → IfSome left IsBadScript
  bad_script (Ok refused) runs e = absurd (omega (arith, through_low refused, e))
  bad_script (Err stop) runs e = script_bad f left now end stop runs e

  headline : (last : Sight) (sink sink' : SinkShows) (status : ℕ) (ended : Result Bool VaultStop) → RunsScript f left now end ended → last.link ≡ end.link → last.kept ≡ end.kept → last.written ≡ sink'.written
      → EndsLine (run_line ended) end.written sink sink' status → status ≡ run_status ended → IfEmptyVault now.link.remote (SlotsDifferThere f left → status ≤ 1 → IfSome left (λ lines. Headline f lines now last status))
  headline last sink sink' status (Ok refused) runs link kept written line is =
      by now.link.remote (headline-run f left now end last status refused runs link kept (written ∙ none_printed end.written sink sink' status line) is)
    where
      by : (remote : Option VaultRemote) → IfEmptyVault remote (SlotsDifferThere f left → IfSome left (λ lines. Headline f lines now last status))
          → IfEmptyVault remote (SlotsDifferThere f left → status ≤ 1 → IfSome left (λ lines. Headline f lines now last status))
      by None holds = tt
      by (Some before) holds = λ empty differ most. holds empty differ
  headline last sink sink' status (Err stop) runs link kept written line is = by now.link.remote
    where
      by : (remote : Option VaultRemote) → IfEmptyVault remote (SlotsDifferThere f left → status ≤ 1 → IfSome left (λ lines. Headline f lines now last status))
      by None = tt
      by (Some before) = λ empty differ most. absurd (omega (arith, most, is, (tells_stop stop (script_stop f left now end stop runs)).least))

  pub whole-run : (last : Sight) (sink sink' : SinkShows) (status : ℕ) (ended : Result Bool VaultStop) → RunsScript f left now end ended → last.link ≡ end.link → last.kept ≡ end.kept → last.written ≡ sink'.written
      → EndsLine (run_line ended) end.written sink sink' status → status ≡ run_status ended → IsVaultRun f left now last sink sink' status
  whole-run last sink sink' status ended runs link kept written line is = record {
    ended = ended;
    end = end;
    runs = runs;
    passed = link;
    kept = kept;
    line = line;
    status_is = is;
    bad_script = λ e. bad_script ended runs (sym is ∙ e);
    forged_only = λ e. forged_only ended runs (sym is ∙ e);
    forged = λ forged. is ∙ forged_so ended runs forged;
    honest = subst (λ (n : ℕ). IfEmptyVault now.link.remote (SlotsDifferThere f left → n ≤ 7)) (sym is) (honest-run f left now end ended runs);
    headline = headline last sink sink' status ended runs link kept written line is;
  }
