-- A whole run: from the start of its script over the key line, the greeting and the lines to its last line.
use Rattle.std.proofs.Common.{◌≡◌, ◌≢◌, ℕ, ◌+◌, ◌≤◌, false, List, [], inr, refl, sym, subst, ◌∙◌}
use Rattle.std.specs.Prelude.{Option, None, Some, Result, Ok, Err, IfSome, IsErrAnd}
use Rattle.client_registry.specs.Histories.{empty}
use Rattle.keyed_fn.specs.KeyFormulas.{mark_of}
use Rattle.keyed_fn.specs.KeyedFn.{KeyedFn, IsKeyedFn}
use Rattle.server_core.specs.State.{ServerState}
use Rattle.def_agreement.specs.TakenFrames.{Expects}
use Rattle.def_script_meaning.proofs.Headline.{honest_status, headline}
use Rattle.def_script_meaning.proofs.LeftServers.{run_leaves}
use Rattle.def_script_meaning.proofs.Recorded.{recorded}
use Rattle.def_script_meaning.specs.Recorded.{IsRecorded, KeepsFirst, records_with}
use Rattle.def_script_meaning.specs.Joined.{LeavesServer}
use Rattle.def_script_meaning.specs.Lines.{script_lines}
use Rattle.def_script_meaning.proofs.Whole.{meaning_is_whole}
use Rattle.def_script_meaning.proofs.Simulated.{sends_simulated}
use Rattle.def_script_meaning.proofs.RunGoes.{goes}
use Rattle.def_script_meaning.proofs.Within.{meaning_is_kept}
use Rattle.def_script_meaning.specs.Headline.{IsOverHonest, IsUndisturbed, Headline, SendsSimulated}
use Rattle.def_script_meaning.specs.Meaning.{meaning}
use Rattle.def_script_meaning.specs.Session.{IsFree}
use Rattle.sse_script.specs.Shown.{Cause, NoMemory}
use Rattle.sse_script.specs.TextLines.{lines_left}
use Rattle.def_script_meaning.proofs.Steps.{ContinuesOpening-start, opens-reading, at_key-away, at_key-greeted}
use Rattle.def_script_meaning.specs.Carries.{Outside}
use Rattle.def_script_meaning.specs.Exchange.{Told}
use Rattle.def_script_meaning.specs.HelloExchange.{Greets, TurnsAway}
use Rattle.def_script_meaning.specs.Outcome.{opened}
use Rattle.def_script_meaning.specs.Runs.{Ended, ended, moment, Opens, OpensFrom, OpensAtKey}
use Rattle.def_script_meaning.specs.Stops as ends
use Rattle.def_script_meaning.specs.Stops.{status_of, stop_text}
use Rattle.script_run_texts.specs.declared.stop_cause.StopCause.{StopCause}
use Rattle.sse_client.specs.LastLine.{EndsLine}
use Rattle.sse_client.specs.Stands.{Seen, seen, outside_of, stop_view, EndsFrom, OpensTo}
use Rattle.sse_client.specs.Turns.{ending}
use Rattle.client_journal.specs.Shows.{SinkShows}
use Rattle.sse_client.specs.WholeRuns.{IsRun}
use Rattle.sse_client.specs.declared.lines.Refusals.{Refusals}
use Rattle.sse_outside.specs.Fronts.{TookOrRose}
use Rattle.sse_client.proofs.LastLine.{Ends-line, ends_line}

-- a stop before the lines, or between them, ends a run so
pub opens-stopped : (f : KeyedFn) (left : Option (List (List ℕ))) (now end : Outside) (r : Result Refusals StopCause) (stop : StopCause) → IsErrAnd r (λ e. e ≡ stop) → OpensTo f left now end (stop_view stop) → OpensTo f left now end (ending r)
opens-stopped f left now end (Ok refusals) stop is o = absurd is
opens-stopped f left now end (Err x) stop is o = subst (λ s. OpensTo f left now end (stop_view s)) (sym is) o

-- there was no memory before anything was read
pub opens_memory : (f : KeyedFn) (left : Option (List (List ℕ))) (now : Outside) → OpensTo f left now now (ends.At NoMemory)
opens_memory f left now = (None, empty, opens-reading f 1 left now 1 left (ContinuesOpening-start f 1 left now) (ended now None empty (ends.At NoMemory)) (inr refl))

-- After the key line, which was read from the start of the script.

module _ (f : KeyedFn) (n : ℕ) (reader : List ℕ) (remaining : Option (List ℕ)) (none : n ≡ 0) (fresh : reader ≡ []) (told : Seen) (written : Option (List ℕ)) where
  -- a script from its start
  pub from_start : (end : Ended) → OpensFrom f (n + 1) (lines_left reader remaining) (outside_of told written) end → OpensFrom f 1 (lines_left [] remaining) (outside_of told written) end
  from_start end opens =
      subst (λ r. OpensFrom f 1 (lines_left r remaining) (outside_of told written) end) fresh (subst (λ m. OpensFrom f (m + 1) (lines_left reader remaining) (outside_of told written) end) none opens)

  module _ (key : List ℕ) (number : ℕ) (behind : Option (List (List ℕ)))
      (reads : (f : KeyedFn) (now : Outside) (end : Ended) → OpensAtKey f key number behind now end → OpensFrom f (n + 1) (lines_left reader remaining) now end) where
    opens : (end : Ended) → OpensAtKey f key number behind (outside_of told written) end → OpensFrom f 1 (lines_left [] remaining) (outside_of told written) end
    opens end at = from_start end (reads f (outside_of told written) end at)

    -- the greeting was cut
    pub opens-away : (new : Told) (c : Cause) → TurnsAway 0 0 told.told new c → OpensTo f (lines_left [] remaining) (outside_of told written) (outside_of (seen new told.kept) written) (ends.At c)
    opens-away new c away =
        let end = ended (outside_of (seen new told.kept) written) (Some key) empty (ends.At c) in (
          Some key,
          empty,
          opens end (at_key-away f key number behind (outside_of told written) end
              (record { cause = c; stops = refl; away = away; unkept = refl; unprinted = refl; same_key = refl; history = refl })),
        )

    -- the session was opened, and the lines were carried out until the run ended
    pub opens-greeted : (mid : Told) (end : Outside) (stop : ends.Stop) → Greets 0 0 told.told mid → EndsFrom f (moment (opened (Some (mark_of f)) key) (number + 1) behind false (outside_of (seen mid told.kept) written)) end stop
        → OpensTo f (lines_left [] remaining) (outside_of told written) end stop
    opens-greeted mid end stop greets runs =
        let e = ended end (Some key) runs.0 stop in (
          Some key,
          runs.0,
          opens e (at_key-greeted f key number behind (outside_of told written) e (outside_of (seen mid told.kept) written)
              (record { greets = greets; unkept = refl; unprinted = refl }) runs.1),
        )

-- What follows from the end of a whole run and from its last line: the frames, the records, and what is so over an honest link.

module _ (f : KeyedFn) (laws : IsKeyedFn f) (bytes : List ℕ) (now last : Outside) (sink sink' : SinkShows) (status : ℕ) (end : Ended) (opening : Opens f 1 (script_lines bytes) now end)
    (same_told : last.told ≡ end.outside.told) (same_kept : last.kept ≡ end.outside.kept) (printed : EndsLine end.stop end.outside.written last.written status sink.faults sink'.faults sink.shortages sink'.shortages)
    (is : status ≡ status_of end.stop) where
  sends : SendsSimulated f end.key end.history now.told last.told
  sends = subst (SendsSimulated f end.key end.history now.told) (sym same_told) (sends_simulated f (meaning (Some (mark_of f)) bytes) now end (goes f bytes now end opening) (meaning_is_whole (Some (mark_of f)) bytes) (meaning_is_kept (Some (mark_of f)) bytes).0)

  takes_records : IsRecorded f end.key end.history status now last
  takes_records =
      let r = recorded f 1 (script_lines bytes) now end opening in record {
        held = r.held;
        first = r.first;
        most = r.most;
        kept = subst (λ kept. KeepsFirst (records_with f end.key end.history) (records_with f end.key r.held) status now.kept kept) (sym same_kept)
            (subst (λ s. KeepsFirst (records_with f end.key end.history) (records_with f end.key r.held) s now.kept end.outside.kept) (sym is) r.kept);
        events = r.events;
        adds = same_told ∙ r.adds;
        count = r.count;
        sent = r.sent;
        whole = λ disk memory clash. r.whole (λ e. disk (is ∙ e)) (λ e. memory (is ∙ e)) (λ e. clash (is ∙ e));
      }

  module _ (before state : ServerState) (expects : Expects 0 before) (over : IsOverHonest f before now.told last.told state) where
    over_link : IsOverHonest f before now.told end.outside.told state
    over_link = subst (λ told. IsOverHonest f before now.told told state) same_told over

    -- no collision and no reply stops it, where its history up to its stop has no collision
    stops_low : IsFree f end.key end.history → status ≤ 7
    stops_low free = subst (λ n. n ≤ 7) (sym is) (honest_status f laws bytes now end opening before state expects over_link free)

    leaves : IsFree f end.key end.history → LeavesServer f end.key end.history state
    leaves free = run_leaves f laws bytes now end opening before state expects over_link free

    -- where nothing disturbed it, it did what its script means
    means : IsFree f (meaning (Some (mark_of f)) bytes).key (meaning (Some (mark_of f)) bytes).history → IsUndisturbed status → Headline f before (meaning (Some (mark_of f)) bytes) now last status state
    means free calm =
        subst (λ n. Headline f before (meaning (Some (mark_of f)) bytes) now last n state) (sym is)
        (headline f laws bytes now end opening before state expects over_link last (Ends-line end last status sink.faults sink'.faults sink.shortages sink'.shortages same_told same_kept printed) free (subst IsUndisturbed is calm))

  pub is_run : IsRun f bytes now last sink sink' status
  is_run = record {
    end = end;
    opens = opening;
    told = same_told;
    kept = same_kept;
    line = printed;
    status_is = is;
    simulated = sends;
    recorded = takes_records;
    honest = stops_low;
    left = leaves;
    headline = means;
  }

-- a run with its last line, from where it came to before that
pub is_run-opens : (f : KeyedFn) → IsKeyedFn f → (remaining : Option (List ℕ)) (now : Outside) (told : Seen) (written written' : Option (List ℕ)) (stop : ends.Stop) (status : ℕ) (sink sink' : SinkShows) (f1 s1 : ℕ)
    → OpensTo f (lines_left [] remaining) now (outside_of told written) stop → status ≡ status_of stop → TookOrRose written written' (stop_text stop) f1 sink'.faults s1 sink'.shortages
    → (stop ≢ ends.SinkFault → f1 ≡ sink.faults) → sink.shortages ≤ s1 → IfSome remaining (λ bytes. IsRun f bytes now (outside_of told written') sink sink' status)
is_run-opens f laws None now told written written' stop status sink sink' f1 s1 o is took steady fewer = tt
is_run-opens f laws (Some bytes) now told written written' stop status sink sink' f1 s1 o is took steady fewer =
    is_run f laws bytes now (outside_of told written') sink sink' status (ended (outside_of told written) o.0 o.1 stop) o.2 refl refl
    (ends_line stop written written' status sink.faults f1 sink'.faults sink.shortages s1 sink'.shortages is took steady fewer) is

-- what follows from each of a known list of bytes
pub IfSome-then : {T : Type 0} (o : Option T) (P Q : T → Type 0) → ((x : T) → P x → Q x) → IfSome o P → IfSome o Q
IfSome-then None P Q then p = tt
IfSome-then (Some x) P Q then p = then x p
