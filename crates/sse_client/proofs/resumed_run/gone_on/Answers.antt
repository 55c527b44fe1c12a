use Rattle.std.proofs.Common.{Some, refl}
use Rattle.def_script_meaning.specs.Runs.{ended}
use Rattle.sse_client.specs.Stands.{seen, outside_of}
use Rattle.sse_client.specs.Turns.{ending}
use Rattle.sse_client.proofs.Devices.{devices-told, sink_kept, still_whole}
use Rattle.sse_client.proofs.LastLine.{counts-line, ends_line}
use Rattle.sse_client.proofs.resumed_run.gone_on.Goals as goal

pub returns-clause-gone_on : goal.returns-clause-gone_on
returns-clause-gone_on g c = λ known knows.
    let ran = c.go_on-ran in
    let told = seen (g.L.Link.transcript ran.new.link) (g.R.Recorder.kept ran.new.recorder) in
    let written = g.W.Sink.written ran.new.sink in
    let o = ran.ensures.ends known knows in
    record {
      end = ended (outside_of told written) (Some c.args.restart.client.key) o.0 (ending ran.result);
      goes_on = o.1;
      told = refl;
      kept = refl;
      line =
          ends_line (ending ran.result) written (g.W.Sink.written c.finish_run.new.sink) c.finish_run.result (g.W.Sink.faults c.args.sink.now) (g.W.Sink.faults ran.new.sink) (g.W.Sink.faults c.finish_run.new.sink)
          (g.W.Sink.shortages c.args.sink.now) (g.W.Sink.shortages ran.new.sink) (g.W.Sink.shortages c.finish_run.new.sink) c.finish_run.ensures.status c.finish_run.ensures.line
          (λ other. sink_kept (g.W.Sink.faults c.args.sink.now) (g.W.Sink.faults ran.new.sink) (g.W.Sink.shortages c.args.sink.now) (g.W.Sink.shortages ran.new.sink) ran.result ran.ensures.sink other)
          ran.ensures.sink.no_fewer;
      status_is = c.finish_run.ensures.status;
    }

pub returns-clause-devices : goal.returns-clause-devices
returns-clause-devices g c =
    let ran = c.go_on-ran in
    let written = g.W.Sink.written ran.new.sink in
    let written' = g.W.Sink.written c.finish_run.new.sink in
    let f0 = g.W.Sink.faults c.args.sink.now in
    let f1 = g.W.Sink.faults ran.new.sink in
    let f2 = g.W.Sink.faults c.finish_run.new.sink in
    let s0 = g.W.Sink.shortages c.args.sink.now in
    let s1 = g.W.Sink.shortages ran.new.sink in
    let s2 = g.W.Sink.shortages c.finish_run.new.sink in
    record {
      tells = devices-told (g.S.Source.faults c.args.source.now) (g.S.Source.faults ran.new.source) f0 f1 f2 s0 s1
          (g.L.Link.faults c.args.link.now) (g.L.Link.faults ran.new.link) (g.R.Recorder.faults c.args.recorder.now) (g.R.Recorder.faults ran.new.recorder) c.finish_run.result _ ran.result c.finish_run.ensures.status
          ran.ensures.at_end ran.ensures.source ran.ensures.sink c.finish_run.ensures.later c.finish_run.ensures.steady ran.ensures.link.steady ran.ensures.link.cause ran.ensures.recorder;
      began = ran.ensures.link.began;
      line = counts-line (ending ran.result) written written' c.finish_run.result f0 f2 s0 s2
          (ends_line (ending ran.result) written written' c.finish_run.result f0 f1 f2 s0 s1 s2 c.finish_run.ensures.status c.finish_run.ensures.line
          (λ other. sink_kept f0 f1 s0 s1 ran.result ran.ensures.sink other) ran.ensures.sink.no_fewer);
    }

pub returns-clause-records : goal.returns-clause-records
returns-clause-records g c =
    let ran = c.go_on-ran in
    record {
      kept_on = ran.ensures.keeps_on;
      lasts = λ disk memory. still_whole (g.R.Recorder.whole ran.new.recorder) c.finish_run.result ran.result ran.ensures.whole_after c.finish_run.ensures.status disk memory;
    }
