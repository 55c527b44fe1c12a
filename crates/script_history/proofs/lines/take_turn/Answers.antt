use Rattle.std.proofs.Common.{rules, arith}
use Rattle.keyed_fn.specs.KeyedFn.{keyed_fn}
use Rattle.script_run_texts.specs.declared.stop_cause.StopCause.TheVariants as stops
use Rattle.sse_script.specs.TextLines.{lines_left}
use Rattle.script_history.specs.Turns.{LeadsTo, moment}
use Rattle.script_history.specs.TwoScripts.{first_left}
use Rattle.script_history.proofs.PartsTaken.{none-behind, none-first, skipped-first, taken-steady, turned-line, turned-parts}
use Rattle.script_history.proofs.ReadingGoesOn.{at_line, leads-end, leads-unread, turns-stopped}
use Rattle.script_history.proofs.lines.take_turn.Goals as goal

pub returns-in-Ok-true-clause-turns : goal.returns-in-Ok-true-clause-turns
returns-in-Ok-true-clause-turns g c = λ place at.
    let left = lines_left c.advance.new.self.pending (g.S.Source.remaining c.advance.new.source) in
    let written = g.W.Sink.written c.args.sink.now in
    at_line (λ start. LeadsTo (keyed_fn g.K.Keyed.prf g.K.Keyed.pad) (moment place start.number (first_left start.left) c.args.progress.refused written) c.advance.new.self.number (first_left left) (g.W.Sink.written c.turn_at_line.new.sink) c.turn_at_line.result) place c.advance.new.self.number _ c.advance.new.self.line _ left c.args.progress.refused written
    (c.in-Ok-true.ensures.line (search rules)) (omega (arith, c.in-Ok-true.ensures.counted, c.requires.few)) (c.turn_at_line.ensures.leads place left at)

pub returns-in-Ok-true-clause-parts : goal.returns-in-Ok-true-clause-parts
returns-in-Ok-true-clause-parts g c =
    turned-parts c.turn_at_line.result _ _ c.advance.new.self.line _ (c.in-Ok-true.ensures.line (search rules)) c.turn_at_line.ensures.at

pub returns-in-Ok-true-clause-advanced : goal.returns-in-Ok-true-clause-advanced
returns-in-Ok-true-clause-advanced g c =
    turned-line c.turn_at_line.result _ (record { counted = omega (arith, c.in-Ok-true.ensures.counted, c.requires.few); less = c.in-Ok-true.ensures.less (search rules) })

pub returns-in-Ok-true-clause-source : goal.returns-in-Ok-true-clause-source
returns-in-Ok-true-clause-source g c = taken-steady _ _ c.turn_at_line.result c.in-Ok-true.ensures.steady c.turn_at_line.ensures.elsewhere

pub returns-in-Ok-false-clause-turns : goal.returns-in-Ok-false-clause-turns
returns-in-Ok-false-clause-turns g c = λ place at.
    leads-end (keyed_fn g.K.Keyed.prf g.K.Keyed.pad) place c.args.progress _ _ _ (g.W.Sink.written c.args.sink.now) at (none-first _ (c.in-Ok-false.ensures.end (search rules))) (omega (arith, c.in-Ok-false.ensures.counted, c.requires.few))

pub returns-in-Ok-false-clause-parts : goal.returns-in-Ok-false-clause-parts
returns-in-Ok-false-clause-parts g c = (none-behind _ (c.in-Ok-false.ensures.end (search rules)), c.in-Ok-false.ensures.at_end (search rules))

pub returns-in-Err-clause-turns : goal.returns-in-Err-clause-turns
returns-in-Err-clause-turns g c = λ place at.
    let stop = c.in-Err.stop in
    turns-stopped (keyed_fn g.K.Keyed.prf g.K.Keyed.pad) _ _ _ _ c.not_read.result (stops.Input stop) c.not_read.ensures
    (leads-unread place c.args.progress _ _ (first_left (lines_left c.advance.new.self.pending (g.S.Source.remaining c.advance.new.source))) (g.W.Sink.written c.args.sink.now) stop
    (λ m e. skipped-first _ _ (c.in-Err.ensures.too_long m (search e))) (λ m e. let n = c.in-Err.ensures.counted_long m (search e) in omega (arith, n, c.requires.few)))
