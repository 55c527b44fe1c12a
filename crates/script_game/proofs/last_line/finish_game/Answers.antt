use Rattle.std.proofs.Common.{List, ℕ, subst, ◌∙◌}
use Rattle.sse_outside.specs.Fronts.{TookOrRose}
use Rattle.script_game.proofs.SinkLaws.{took_or_rose}
use Rattle.script_game.proofs.last_line.finish_game.Goals as goal

pub returns-in-LeaksDiffer-clause-line : goal.returns-in-LeaksDiffer-clause-line
returns-in-LeaksDiffer-clause-line g c =
    let p = c.print_all.ensures in
    rw c.in-LeaksDiffer.is
    (subst (λ (text : List ℕ). TookOrRose (g.W.Sink.written c.args.sink.now) (g.W.Sink.written c.print_all.new.sink) text (g.W.Sink.faults c.args.sink.now) (g.W.Sink.faults c.print_all.new.sink) (g.W.Sink.shortages c.args.sink.now) (g.W.Sink.shortages c.print_all.new.sink))
    (c.as_bytes.ensures.value ∙ c.as_str.ensures.value ∙ c.difference_line-line.ensures)
    (took_or_rose c.print_all.result _ _ _ _ _ _ _ p.all p.front p.steady p.failed p.shortage))
