use Rattle.std.proofs.Common.{arith, refl}
use Rattle.keyed_fn.specs.KeyedFn.{keyed_fn}
use Rattle.client_journal.specs.Shows.{prints}
use Rattle.sse_client.proofs.OverServer.{over_server-honest, over_server-run}
use Rattle.sse_client.proofs.run.run_over_server.Goals as goal

pub returns-clause-other : goal.returns-clause-other
returns-clause-other g c = λ asked. c.sse_run-status.ensures.other asked

pub returns-clause-honest : goal.returns-clause-honest
returns-clause-honest g c =
    over_server-honest (keyed_fn g.K.Keyed.prf g.K.Keyed.pad) c.args.link.now c.sse_run-status.new.link c.requires.fresh c.sse_run-status.ensures.devices.began c.transcript-passed.ensures.honest

pub returns-clause-run : goal.returns-clause-run
returns-clause-run g c = λ asked.
    let sink = c.args.sink.now in
    let sink' = c.sse_run-status.new.sink in
    over_server-run (keyed_fn g.K.Keyed.prf g.K.Keyed.pad) c.args.link.now c.sse_run-status.new.link c.requires.fresh c.sse_run-status.ensures.devices.began c.transcript-passed.ensures.honest
    (g.R.Recorder.kept c.args.recorder.now) (g.R.Recorder.kept c.sse_run-status.new.recorder) (g.S.Source.remaining c.args.source.now) (g.W.Sink.written sink) (g.W.Sink.written sink')
    (prints (g.W.Sink.written sink) (g.W.Sink.faults sink) (g.W.Sink.shortages sink)) (prints (g.W.Sink.written sink') (g.W.Sink.faults sink') (g.W.Sink.shortages sink')) c.sse_run-status.result
    (λ e. let rose = c.sse_run-status.ensures.devices.tells.link_failed e in omega (arith, rose)) (c.sse_run-status.ensures.run asked)

pub returns-clause-devices : goal.returns-clause-devices
returns-clause-devices g c =
    let d = c.sse_run-status.ensures.devices in
    record { tells = d.tells; began = refl; line = d.line }

pub returns-clause-known : goal.returns-clause-known
returns-clause-known g c = (c.sse_run-status.ensures.known, λ e. let rose = c.sse_run-status.ensures.devices.tells.link_failed e in omega (arith, rose))
