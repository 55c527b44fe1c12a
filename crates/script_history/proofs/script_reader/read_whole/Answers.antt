use Rattle.std.proofs.Common.{◌+◌, refl, subst}
use Rattle.std.specs.Prelude.{if◌then◌else◌, option_map}
use Rattle.keyed_fn.specs.KeyedFn.{keyed_fn}
use Rattle.leakage_history.specs.HashedEpochs.{epochs_in}
use Rattle.script_run_texts.specs.Stops.{stop_cause}
use Rattle.sse_script.specs.TextLines.{lines_left}
use Rattle.script_history.proofs.WholeScripts.{at_line, whole-ended, whole-stopped}
use Rattle.script_history.specs.Reads.{ReadsFirstFrom, Stopped, Whole}
use Rattle.script_history.specs.UsedKeys.{mark_when}
use Rattle.script_history.proofs.script_reader.read_whole.Goals as goal

pub returns-then-at_twin-clause-reads : goal.returns-then-at_twin-clause-reads
returns-then-at_twin-clause-reads g c =
    let mark = mark_when c.args.compared (keyed_fn g.K.Keyed.prf g.K.Keyed.pad) in
    let script = c.in-Ok.first.script in
    let end = Whole script.key (option_map epochs_in script.history) script.refused script.next in
    let left = lines_left c.args.input.now.pending (g.S.Source.remaining c.args.source.now) in
    let written = g.W.Sink.written c.args.sink.now in
    let last = g.W.Sink.written c.read_part.new.sink in
    subst (λ b. ReadsFirstFrom mark (c.args.input.now.number + 1) left written last (if b then at_line end else end)) c.if-at_twin.true
    (whole-ended mark left (c.args.input.now.number + 1) written last c.in-Ok.first.at_twin end _ _ _ c.in-Ok.ensures.ended (c.in-Ok.ensures.reads))

pub returns-else-at_twin-clause-reads : goal.returns-else-at_twin-clause-reads
returns-else-at_twin-clause-reads g c =
    let mark = mark_when c.args.compared (keyed_fn g.K.Keyed.prf g.K.Keyed.pad) in
    let script = c.in-Ok.first.script in
    let end = Whole script.key (option_map epochs_in script.history) script.refused script.next in
    let left = lines_left c.args.input.now.pending (g.S.Source.remaining c.args.source.now) in
    let written = g.W.Sink.written c.args.sink.now in
    let last = g.W.Sink.written c.read_part.new.sink in
    subst (λ b. ReadsFirstFrom mark (c.args.input.now.number + 1) left written last (if b then at_line end else end)) c.if-at_twin.false
    (whole-ended mark left (c.args.input.now.number + 1) written last c.in-Ok.first.at_twin end _ _ _ c.in-Ok.ensures.ended (c.in-Ok.ensures.reads))

pub returns-in-Err-clause-reads : goal.returns-in-Err-clause-reads
returns-in-Err-clause-reads g c =
    let mark = mark_when c.args.compared (keyed_fn g.K.Keyed.prf g.K.Keyed.pad) in
    let left = lines_left c.args.input.now.pending (g.S.Source.remaining c.args.source.now) in
    whole-stopped mark left (c.args.input.now.number + 1) (g.W.Sink.written c.args.sink.now) (g.W.Sink.written c.read_part.new.sink) (Stopped (stop_cause c.in-Err.stop)) refl (c.in-Err.ensures.reads)
