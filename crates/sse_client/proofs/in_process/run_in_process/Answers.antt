use Rattle.keyed_fn.specs.KeyedFn.{IsKeyedFn, keyed_fn}
use Rattle.sse_client.proofs.InProcess.{has_no_journal, inside, memory-run, nothing_in, run_of_store}
use Rattle.client_journal.specs.Shows.{prints}
use Rattle.sse_client.proofs.in_process.run_in_process.Goals as goal

pub returns-in-Ok-clause-run : goal.returns-in-Ok-clause-run
returns-in-Ok-clause-run g c = λ asked.
    let laws : IsKeyedFn (keyed_fn g.K.Keyed.prf g.K.Keyed.pad) = record {
      prf_length = g.met.K.Keyed.prf_length;
      prf_bytes = g.met.K.Keyed.prf_bytes;
      pad_length = g.met.K.Keyed.pad_length;
      pad_bytes = g.met.K.Keyed.pad_bytes;
      pad_prefix = g.met.K.Keyed.pad_prefix;
    } in
    let ran = c.run_over_store-status in
    let sink = c.args.sink.now in
    let sink' = ran.new.sink in
    run_of_store (keyed_fn g.K.Keyed.prf g.K.Keyed.pad) laws (prints (g.W.Sink.written sink) (g.W.Sink.faults sink) (g.W.Sink.shortages sink)) (prints (g.W.Sink.written sink') (g.W.Sink.faults sink') (g.W.Sink.shortages sink')) ran.result.0
    (g.S.Source.remaining c.args.source.now) c.in-Ok.link ran.new.link c.new-own.result ran.result.1 c.in-Ok.ensures (inside _ _ c.new-own.ensures.content) (ran.ensures.begun asked) ran.ensures.store ran.ensures.known.1 ran.ensures.known.2

pub returns-in-Ok-clause-more : goal.returns-in-Ok-clause-more
returns-in-Ok-clause-more g c = λ asked.
    let ran = c.run_over_store-status in
    has_no_journal c.args.source.now ran.new.source _ _ _ _ _ _ ran.result.0 ((ran.ensures.no_record (nothing_in _ (inside _ _ c.new-own.ensures.content))).refused asked) ran.ensures.known.2

pub returns-in-Err-clause-run : goal.returns-in-Err-clause-run
returns-in-Err-clause-run g c = λ asked.
    let laws : IsKeyedFn (keyed_fn g.K.Keyed.prf g.K.Keyed.pad) = record {
      prf_length = g.met.K.Keyed.prf_length;
      prf_bytes = g.met.K.Keyed.prf_bytes;
      pad_length = g.met.K.Keyed.pad_length;
      pad_bytes = g.met.K.Keyed.pad_bytes;
      pad_prefix = g.met.K.Keyed.pad_prefix;
    } in
    let sink = c.args.sink.now in
    let sink' = c.finish-in-Err.new.sink in
    memory-run (keyed_fn g.K.Keyed.prf g.K.Keyed.pad) laws (prints (g.W.Sink.written sink) (g.W.Sink.faults sink) (g.W.Sink.shortages sink)) (prints (g.W.Sink.written sink') (g.W.Sink.faults sink') (g.W.Sink.shortages sink')) c.finish-in-Err.result
    (g.S.Source.remaining c.args.source.now) c.finish-in-Err.ensures.status c.finish-in-Err.ensures.line
