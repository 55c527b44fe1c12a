use Rattle.leakage_history.specs.HashedEpochs.{epochs_in}
use Rattle.script_history.specs.Endings.{ending}
use Rattle.script_history.specs.Turns.{reading_end}
use Rattle.keyed_fn.specs.KeyedFn.{keyed_fn}
use Rattle.std.proofs.Common.{refl}
use Rattle.std.specs.Prelude.{Ok, Err}
use Rattle.sse_script.specs.TextLines.{lines_left}
use Rattle.sse_local.proofs.Compared.{kept-sink, kept-source, reads-behind}
use Rattle.sse_local.proofs.twin.compare_second.Goals as goal

pub returns-in-Ok-clause-goes_on : goal.returns-in-Ok-clause-goes_on
returns-in-Ok-clause-goes_on g c =
    reads-behind (keyed_fn g.K.Keyed.prf g.K.Keyed.pad) c.args.first.key (epochs_in c.args.first.epochs) c.args.first.refused c.args.input.now.number (lines_left c.args.input.now.pending (g.S.Source.remaining c.args.source.now)) (g.W.Sink.written c.args.sink.now)
    (g.W.Sink.written c.read_second.new.sink) (g.W.Sink.written c.compare_read.new.sink) (reading_end (Ok c.in-Ok.second)) (ending c.compare_read.result) c.in-Ok.ensures.reads c.compare_read.ensures.goes_on

pub returns-in-Ok-clause-source : goal.returns-in-Ok-clause-source
returns-in-Ok-clause-source g c =
    kept-source (g.S.Source.faults c.args.source.now) (g.S.Source.faults c.read_second.new.source) c.compare_read.result c.in-Ok.ensures.source.steady c.compare_read.ensures.elsewhere

pub returns-in-Ok-clause-sink : goal.returns-in-Ok-clause-sink
returns-in-Ok-clause-sink g c =
    kept-sink (g.W.Sink.faults c.args.sink.now) (g.W.Sink.faults c.read_second.new.sink) (g.W.Sink.faults c.compare_read.new.sink) (g.W.Sink.shortages c.args.sink.now) (g.W.Sink.shortages c.read_second.new.sink) (g.W.Sink.shortages c.compare_read.new.sink) c.compare_read.result c.in-Ok.ensures.sink.steady c.in-Ok.ensures.sink.no_fewer c.compare_read.ensures.sink

pub returns-clause-goes_on : goal.returns-clause-goes_on
returns-clause-goes_on g c =
    reads-behind (keyed_fn g.K.Keyed.prf g.K.Keyed.pad) c.args.first.key (epochs_in c.args.first.epochs) c.args.first.refused c.args.input.now.number (lines_left c.args.input.now.pending (g.S.Source.remaining c.args.source.now)) (g.W.Sink.written c.args.sink.now)
    (g.W.Sink.written c.read_second.new.sink) (g.W.Sink.written c.read_second.new.sink) (reading_end (Err c.in-Err.stop)) (ending (Err c.in-Err.stop)) c.in-Err.ensures.reads (refl, refl)
