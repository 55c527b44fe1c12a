use Rattle.sse_net.specs.Asked.{asked_by}
use Rattle.sse_net.proofs.Streams.{if_right, if_wrong, of_right, unread_for}
use Rattle.sse_net.proofs.program.net_main.Goals as goal

pub returns-in-Ok-clause-runs : goal.returns-in-Ok-clause-runs
returns-in-Ok-clause-runs g c = of_right _ _ _ _ c.in-Ok.ensures.right c.run_at.ensures.runs

pub returns-in-Err-clause-wrong : goal.returns-in-Err-clause-wrong
returns-in-Err-clause-wrong g c =
    if_wrong (asked_by c.args.given.now) c.in-Err.stop c.args.places.now c.args.source.now (g.W.Sink.written c.args.sink.now) (g.W.Sink.written c.finish.new.sink)
    (g.W.Sink.faults c.args.sink.now) (g.W.Sink.faults c.finish.new.sink) (g.W.Sink.shortages c.args.sink.now) (g.W.Sink.shortages c.finish.new.sink) c.finish.result
    c.in-Err.ensures.wrong c.finish.ensures.status c.finish.ensures.line

pub returns-in-Err-clause-runs : goal.returns-in-Err-clause-runs
returns-in-Err-clause-runs g c =
    if_right (asked_by c.args.given.now) c.in-Err.stop c.args.places.now c.args.source.now (g.W.Sink.written c.args.sink.now) (g.W.Sink.written c.finish.new.sink)
    (g.W.Sink.faults c.args.sink.now) (g.W.Sink.faults c.finish.new.sink) (g.W.Sink.shortages c.args.sink.now) (g.W.Sink.shortages c.finish.new.sink) c.finish.result _
    c.in-Err.ensures.wrong c.finish.ensures.status c.finish.ensures.line

pub returns-in-Err-clause-streams : goal.returns-in-Err-clause-streams
returns-in-Err-clause-streams g c = unread_for _ _ _ _ _ _ c.in-Err.ensures.cause c.finish.ensures.status
