use Rattle.std.proofs.Common.{ap, ◌∙◌}
use Rattle.std.specs.Prelude.{Err}
use Rattle.script_run_texts.specs.Stops.{stop_of_sink}
use Rattle.script_history.proofs.ReadingGoesOn.{IfErr-is, printed-elsewhere}
use Rattle.script_history.specs.Turns.{IsElsewhere}
use Rattle.script_history.proofs.lines.tell.Goals as goal

pub returns-in-Err-clause-elsewhere : goal.returns-in-Err-clause-elsewhere
returns-in-Err-clause-elsewhere g c = IfErr-is c.stopped.result (stop_of_sink c.in-Err.fault) IsElsewhere (c.stopped.ensures ∙ ap (λ s. Err s) c.from.ensures) (printed-elsewhere c.in-Err.fault)
