use Rattle.std.proofs.Common.{sym, subst, ◌∙◌}
use Rattle.keyed_fn.specs.KeyedFn.{keyed_fn}
use Rattle.script_run_texts.specs.Stops.{stop_cause}
use Rattle.script_history.specs.Reads.{Stopped}
use Rattle.script_history.specs.Turns.{IsThere, ReadsOn, moment}
use Rattle.script_history.specs.TwoScripts.{first_left}
use Rattle.script_history.proofs.PartsTaken.{first-next}
use Rattle.script_history.proofs.lines.turn_at_line.Goals as goal

pub returns-in-Ok-clause-leads : goal.returns-in-Ok-clause-leads
returns-in-Ok-clause-leads g c = λ place behind at.
    let text = c.args.input.now.line in
    let number = c.args.input.now.number in
    subst (λ left. IsThere (keyed_fn g.K.Keyed.prf g.K.Keyed.pad) (moment place number left c.args.progress.refused (g.W.Sink.written c.args.sink.now)) c.in-Ok.next number (first_left behind) (g.W.Sink.written c.take_read.new.sink))
    (sym (first-next text behind (sym c.is_twin.ensures ∙ c.if-is_twin.false))) (c.in-Ok.ensures.leads place (first_left behind) at)

pub returns-in-Err-clause-leads : goal.returns-in-Err-clause-leads
returns-in-Err-clause-leads g c = λ place behind at.
    let text = c.args.input.now.line in
    let number = c.args.input.now.number in
    subst (λ left. ReadsOn (moment place number left c.args.progress.refused (g.W.Sink.written c.args.sink.now)) (g.W.Sink.written c.take_read.new.sink) (Stopped (stop_cause c.in-Err.stop)))
    (sym (first-next text behind (sym c.is_twin.ensures ∙ c.if-is_twin.false))) (c.in-Err.ensures.leads place (first_left behind) at)
