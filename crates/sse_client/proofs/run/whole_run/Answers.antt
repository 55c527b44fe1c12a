use Rattle.keyed_fn.specs.KeyedFn.{IsKeyedFn, keyed_fn}
use Rattle.sse_client.specs.Stands.{seen, outside_of}
use Rattle.sse_client.specs.Turns.{ending}
use Rattle.client_journal.specs.Shows.{prints}
use Rattle.sse_client.proofs.Devices.{devices-told, sink_kept, still_whole}
use Rattle.sse_client.proofs.LastLine.{counts-line, ends_line}
use Rattle.sse_client.proofs.WholeRun.{is_run-opens}
use Rattle.sse_client.proofs.run.whole_run.Goals as goal

pub returns-clause-run : goal.returns-clause-run
returns-clause-run g c =
    let laws : IsKeyedFn (keyed_fn g.K.Keyed.prf g.K.Keyed.pad) = record {
      prf_length = g.met.K.Keyed.prf_length;
      prf_bytes = g.met.K.Keyed.prf_bytes;
      pad_length = g.met.K.Keyed.pad_length;
      pad_bytes = g.met.K.Keyed.pad_bytes;
      pad_prefix = g.met.K.Keyed.pad_prefix;
    } in
    let ran = c.run_script-ran in
    let sink = c.args.sink.now in
    let sink' = c.finish_run.new.sink in
    is_run-opens (keyed_fn g.K.Keyed.prf g.K.Keyed.pad) laws (g.S.Source.remaining c.args.source.now)
    (outside_of (seen (g.L.Link.transcript c.args.link.now) (g.R.Recorder.kept c.args.recorder.now)) (g.W.Sink.written sink))
    (seen (g.L.Link.transcript ran.new.link) (g.R.Recorder.kept ran.new.recorder)) (g.W.Sink.written ran.new.sink) (g.W.Sink.written sink') (ending ran.result) c.finish_run.result
    (prints (g.W.Sink.written sink) (g.W.Sink.faults sink) (g.W.Sink.shortages sink)) (prints (g.W.Sink.written sink') (g.W.Sink.faults sink') (g.W.Sink.shortages sink'))
    (g.W.Sink.faults ran.new.sink) (g.W.Sink.shortages ran.new.sink) ran.ensures.ends c.finish_run.ensures.status c.finish_run.ensures.line
    (λ other. sink_kept (g.W.Sink.faults sink) (g.W.Sink.faults ran.new.sink) (g.W.Sink.shortages sink) (g.W.Sink.shortages ran.new.sink) ran.result ran.ensures.sink other)
    ran.ensures.sink.no_fewer

pub returns-clause-devices : goal.returns-clause-devices
returns-clause-devices g c =
    let ran = c.run_script-ran in
    let written = g.W.Sink.written ran.new.sink in
    let written' = g.W.Sink.written c.finish_run.new.sink in
    let f0 = g.W.Sink.faults c.args.sink.now in
    let f1 = g.W.Sink.faults ran.new.sink in
    let f2 = g.W.Sink.faults c.finish_run.new.sink in
    let s0 = g.W.Sink.shortages c.args.sink.now in
    let s1 = g.W.Sink.shortages ran.new.sink in
    let s2 = g.W.Sink.shortages c.finish_run.new.sink in
    record {
      tells = devices-told (g.S.Source.faults c.args.source.now) (g.S.Source.faults ran.new.source) f0 f1 f2 s0 s1
          (g.L.Link.faults c.args.link.now) (g.L.Link.faults ran.new.link) (g.R.Recorder.faults c.args.recorder.now) (g.R.Recorder.faults ran.new.recorder) c.finish_run.result _ ran.result c.finish_run.ensures.status
          ran.ensures.at_end ran.ensures.source ran.ensures.sink c.finish_run.ensures.later c.finish_run.ensures.steady ran.ensures.link.steady ran.ensures.link.cause ran.ensures.recorder;
      began = ran.ensures.link.began;
      line = counts-line (ending ran.result) written written' c.finish_run.result f0 f2 s0 s2
          (ends_line (ending ran.result) written written' c.finish_run.result f0 f1 f2 s0 s1 s2 c.finish_run.ensures.status c.finish_run.ensures.line
          (λ other. sink_kept f0 f1 s0 s1 ran.result ran.ensures.sink other) ran.ensures.sink.no_fewer);
    }

pub returns-clause-records : goal.returns-clause-records
returns-clause-records g c =
    let ran = c.run_script-ran in
    record {
      kept_on = ran.ensures.keeps_on;
      lasts = λ disk memory. still_whole (g.R.Recorder.whole ran.new.recorder) c.finish_run.result ran.result ran.ensures.whole_after c.finish_run.ensures.status disk memory;
    }
