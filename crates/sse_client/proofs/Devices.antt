-- What the status of a run tells of its devices, by what stopped it.
use Rattle.std.proofs.Common.{◌≡◌, ◌≢◌, ◌≤◌, ℕ, Result, Ok, Err, refl, sym, ap, subst, ◌∙◌, arith}
use Rattle.std.specs.Prelude.{IfErr, OnOk}
use Rattle.sse_outside.specs.Causes.{Rose}
use Rattle.sse_outside.specs.declared.device_fault.DeviceFault.TheVariants as devices
use Rattle.script_run_texts.specs.Causes.{KeepsRecorder, KeepsSink, KeepsSource, LinkCause, RecorderCause, SinkCause, SourceCause}
use Rattle.script_run_texts.specs.Stops.{stop_status}
use Rattle.script_run_texts.specs.declared.command_stop.CommandStop.TheVariants as commands
use Rattle.script_run_texts.specs.declared.input_stop.InputStop.TheVariants as inputs
use Rattle.script_run_texts.specs.declared.journal_stop.JournalStop.{JournalStop}
use Rattle.script_run_texts.specs.declared.journal_stop.JournalStop.TheVariants as journals
use Rattle.script_run_texts.specs.declared.peer_stop.PeerStop.TheVariants as peers
use Rattle.script_run_texts.specs.declared.stop_cause.StopCause.{StopCause}
use Rattle.script_run_texts.specs.declared.stop_cause.StopCause.TheVariants as stops
use Rattle.def_script_meaning.specs.Stops as ends
use Rattle.def_script_meaning.specs.Stops.{status_of}
use Rattle.client_journal.specs.Counts.{TellsDevices}
use Rattle.sse_client.specs.RecordKept.{StaysWhole, WholeAtStop}
use Rattle.sse_client.specs.OnDisk.{RecordsCause}
use Rattle.sse_client.specs.Stands.{stop_view}
use Rattle.sse_client.specs.Turns.{ending}
use Rattle.sse_client.specs.declared.lines.Refusals.{Refusals}
use Rattle.sse_client.specs.declared.lines.Refusals.TheVariants as refusals
use Rattle.sse_client.proofs.CountsAtStop.{link_same, recorder_same, seen_status, sink_same, source_same}
use Rattle.sse_client.proofs.RecordsLast.{whole_but_kept}

-- The stops of the four devices are those of the statuses from 3 to 6.

record TellsStop (stop : StopCause) : Type 0 where
  stopped : 2 ≤ stop_status stop
  source : stop_status stop ≡ 3 → stop ≡ stops.Input inputs.Source
  sink : stop_status stop ≡ 4 → stop ≡ stops.Sink
  link : stop_status stop ≡ 5 → stop ≡ stops.Command (commands.Exchange peers.Link)
  disk : stop_status stop ≡ 6 → stop ≡ stops.Command (commands.Keeping devices.Failed)

tells_below : (stop : StopCause) → stop_status stop ≡ 2 → TellsStop stop
tells_below stop is = record {
  stopped = omega (arith, is);
  source = λ e. absurd (omega (arith, is, e));
  sink = λ e. absurd (omega (arith, is, e));
  link = λ e. absurd (omega (arith, is, e));
  disk = λ e. absurd (omega (arith, is, e));
}

tells_above : (stop : StopCause) → 7 ≤ stop_status stop → TellsStop stop
tells_above stop least = record {
  stopped = omega (arith, least);
  source = λ e. absurd (omega (arith, least, e));
  sink = λ e. absurd (omega (arith, least, e));
  link = λ e. absurd (omega (arith, least, e));
  disk = λ e. absurd (omega (arith, least, e));
}

tells_stop : (stop : StopCause) → TellsStop stop
tells_stop stops.Words = tells_below stops.Words refl
tells_stop (stops.Input (inputs.Line number)) = tells_below (stops.Input (inputs.Line number)) refl
tells_stop (stops.Input inputs.Source) = record { stopped = omega arith; source = λ e. refl; sink = λ e. absurd (omega (arith, e)); link = λ e. absurd (omega (arith, e)); disk = λ e. absurd (omega (arith, e)) }
tells_stop (stops.Input inputs.Memory) = tells_above (stops.Input inputs.Memory) (omega arith)
tells_stop stops.Sink = record { stopped = omega arith; source = λ e. absurd (omega (arith, e)); sink = λ e. refl; link = λ e. absurd (omega (arith, e)); disk = λ e. absurd (omega (arith, e)) }
tells_stop stops.Memory = tells_above stops.Memory (omega arith)
tells_stop (stops.Command (commands.LabelClash first second)) = tells_above (stops.Command (commands.LabelClash first second)) (omega arith)
tells_stop (stops.Command (commands.PlaceClash first second)) = tells_above (stops.Command (commands.PlaceClash first second)) (omega arith)
tells_stop (stops.Command (commands.NumberClash first second)) = tells_above (stops.Command (commands.NumberClash first second)) (omega arith)
tells_stop (stops.Command commands.Memory) = tells_above (stops.Command commands.Memory) (omega arith)
tells_stop (stops.Command (commands.Keeping devices.Failed)) = record { stopped = omega arith; source = λ e. absurd (omega (arith, e)); sink = λ e. absurd (omega (arith, e)); link = λ e. absurd (omega (arith, e)); disk = λ e. refl }
tells_stop (stops.Command (commands.Keeping devices.NoMemory)) = tells_above (stops.Command (commands.Keeping devices.NoMemory)) (omega arith)
tells_stop (stops.Command (commands.Exchange peers.Link)) = record { stopped = omega arith; source = λ e. absurd (omega (arith, e)); sink = λ e. absurd (omega (arith, e)); link = λ e. refl; disk = λ e. absurd (omega (arith, e)) }
tells_stop (stops.Command (commands.Exchange peers.Memory)) = tells_above (stops.Command (commands.Exchange peers.Memory)) (omega arith)
tells_stop (stops.Command (commands.Exchange (peers.Clash what place))) = tells_above (stops.Command (commands.Exchange (peers.Clash what place))) (omega arith)
tells_stop (stops.Command (commands.Exchange (peers.Elsewhere low high got))) = tells_above (stops.Command (commands.Exchange (peers.Elsewhere low high got))) (omega arith)
tells_stop (stops.Command (commands.Exchange (peers.BadReply start))) = tells_above (stops.Command (commands.Exchange (peers.BadReply start))) (omega arith)

-- A run that came to the end of its script, or was stopped, with its last line.

module _ (source source' sink sink' sink'' shortages shortages' link link' disk disk' status : ℕ) (read : Type 0) where
  -- at the end of its script nothing rose
  devices-calm : status ≤ 1 → read → source' ≡ source → sink'' ≡ sink → link' ≡ link → disk' ≡ disk → TellsDevices source source' sink sink'' link link' disk disk' read status
  devices-calm most ended s k l d = record {
    at_end = λ _. ended;
    source_failed = λ e. absurd (omega (arith, most, e));
    source_steady = λ _. s;
    sink_failed = λ e. absurd (omega (arith, most, e));
    sink_steady = λ _. k;
    link_failed = λ e. absurd (omega (arith, most, e));
    link_steady = λ _. l;
    disk_failed = λ e. absurd (omega (arith, most, e));
    disk_steady = λ _. d;
  }

  -- at a stop that of its device did
  pub devices-stopped : (stop : StopCause) → status ≡ stop_status stop → SourceCause source source' stop → SinkCause sink sink' stop → sink' ≤ sink'' → LinkCause link link' stop → RecorderCause disk disk' stop
      → TellsDevices source source' sink sink'' link link' disk disk' read status
  devices-stopped stop is s k later l d =
      let t = tells_stop stop in
      record {
        at_end = λ most. absurd (omega (arith, most, is, t.stopped));
        source_failed = λ e. subst (SourceCause source source') (t.source (sym is ∙ e)) s;
        source_steady = λ other. source_same source source' stop s (λ e. other (is ∙ ap stop_status e));
        sink_failed = λ e. let rose : Rose sink sink' = subst (SinkCause sink sink') (t.sink (sym is ∙ e)) k in omega (arith, rose, later);
        sink_steady = λ most. absurd (omega (arith, most, is, t.stopped));
        link_failed = λ e. subst (LinkCause link link') (t.link (sym is ∙ e)) l;
        link_steady = λ other. link_same link link' stop l (λ e. other (is ∙ ap stop_status e));
        disk_failed = λ e. subst (RecorderCause disk disk') (t.disk (sym is ∙ e)) d;
        disk_steady = λ other. recorder_same disk disk' stop d (λ e. other (is ∙ ap stop_status e));
      }

  -- so at either
  pub devices-told : (ran : Result Refusals StopCause) → status ≡ status_of (ending ran) → OnOk ran read → KeepsSource SourceCause source source' ran → KeepsSink sink sink' shortages shortages' ran
      → sink' ≤ sink'' → OnOk ran (sink'' ≡ sink') → OnOk ran (link' ≡ link) → IfErr ran (LinkCause link link') → KeepsRecorder RecorderCause disk disk' ran
      → TellsDevices source source' sink sink'' link link' disk disk' read status
  devices-told (Ok refusals.None) is ended s k later steady l cut d = devices-calm (omega (arith, is)) ended s.steady (steady ∙ k.steady) l d.steady
  devices-told (Ok refusals.Some) is ended s k later steady l cut d = devices-calm (omega (arith, is)) ended s.steady (steady ∙ k.steady) l d.steady
  devices-told (Err stop) is ended s k later steady l cut d = devices-stopped stop (is ∙ seen_status stop) s.cause k.cause later cut d.cause

-- records that can't be gone on from leave their disk's count, unless the disk is what failed
pub records_same : (before now : ℕ) (stop : JournalStop) → RecordsCause before now stop → stop ≢ journals.Disk → now ≡ before
records_same before now journals.NoJournal cause other = cause
records_same before now journals.HasRecords cause other = cause
records_same before now (journals.BadRecord number) cause other = cause
records_same before now journals.WrongKey cause other = cause
records_same before now journals.Disk cause other = absurd (other refl)
records_same before now journals.Memory cause other = cause

-- the sink's count stayed up to the last line, unless the sink is what failed
pub sink_kept : (before now shortages shortages_now : ℕ) (ran : Result Refusals StopCause) → KeepsSink before now shortages shortages_now ran → ending ran ≢ ends.SinkFault → now ≡ before
sink_kept before now shortages shortages_now (Ok refusals) keeps other = keeps.steady
sink_kept before now shortages shortages_now (Err stop) keeps other = sink_same before now stop keeps.cause (λ (e : stop ≡ stops.Sink). other (ap stop_view e))

-- what keeps the records takes more of them, unless the status tells that the record of a command wasn't taken
pub still_whole : (whole : Type 0) (status : ℕ) (ran : Result Refusals StopCause) → StaysWhole WholeAtStop whole ran → status ≡ status_of (ending ran) → status ≢ 6 → status ≢ 7 → whole
still_whole whole status (Ok refusals) stays is disk memory = stays.after
still_whole whole status (Err stop) stays is disk memory = whole_but_kept whole stop stays.stopped (λ e. disk (is ∙ (seen_status stop ∙ e))) (λ e. memory (is ∙ (seen_status stop ∙ e)))
