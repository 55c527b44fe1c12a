use Rattle.std.proofs.Common.{refl}
use Rattle.script_history.specs.Endings.{seen_of}
use Rattle.keyed_fn.specs.KeyedFn.{keyed_fn}
use Rattle.sse_local.proofs.Summed.{made-run, made-summary}
use Rattle.sse_local.proofs.made.made_run.Goals as goal

pub returns-in-Ok-clause-sums : goal.returns-in-Ok-clause-sums
returns-in-Ok-clause-sums g c =
    let text = c.in-Ok.run'.printed.bytes.items in
    let now = seen_of (g.W.Sink.written c.args.sink.now) (g.W.Sink.faults c.args.sink.now) (g.W.Sink.shortages c.args.sink.now) in
    let last = seen_of (g.W.Sink.written c.tell.new.sink) (g.W.Sink.faults c.tell.new.sink) (g.W.Sink.shortages c.tell.new.sink) in
    made-run (keyed_fn g.K.Keyed.prf g.K.Keyed.pad) c.args.made.seed c.args.made.documents c.requires.few text c.in-Ok.run'.status now last c.tell.result c.in-Ok.ensures.runs (c.tell.ensures.tells text refl)

pub returns-in-Ok-clause-headline : goal.returns-in-Ok-clause-headline
returns-in-Ok-clause-headline g c =
    let text = c.in-Ok.run'.printed.bytes.items in
    let now = seen_of (g.W.Sink.written c.args.sink.now) (g.W.Sink.faults c.args.sink.now) (g.W.Sink.shortages c.args.sink.now) in
    let last = seen_of (g.W.Sink.written c.tell.new.sink) (g.W.Sink.faults c.tell.new.sink) (g.W.Sink.shortages c.tell.new.sink) in
    made-summary (keyed_fn g.K.Keyed.prf g.K.Keyed.pad) c.args.made.seed c.args.made.documents c.requires.few text c.in-Ok.run'.status now last c.tell.result c.in-Ok.ensures.headline (c.tell.ensures.tells text refl)
