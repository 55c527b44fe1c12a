use Rattle.std.proofs.Common.{◌≡◌, sym, subst}
use Rattle.std.specs.Prelude.{IfOk, OnErr}
use Rattle.def_script_meaning.specs.Lines as requests
use Rattle.def_script_meaning.specs.Lines.{Request}
use Rattle.def_script_meaning.specs.Lines.{line_read}
use Rattle.sse_script.specs.Views.{line_view}
use Rattle.script_history.specs.Stages.{MayStopHere, Takes}
use Rattle.script_history.specs.declared.stage.Stage.{Stage}
use Rattle.script_history.proofs.taken_line.take_plain.Goals as goal

pub returns-in-Built-clause-takes : goal.returns-in-Built-clause-takes
returns-in-Built-clause-takes c =
    subst (λ (s : Stage). IfOk c.after_setup.result (λ done. (request : Request) → line_read (line_view c.args.line) ≡ requests.Command request → Takes s request done.0 done.1)) (sym c.in-Built.is) c.after_setup.ensures.takes

pub returns-in-Built-clause-may_stop : goal.returns-in-Built-clause-may_stop
returns-in-Built-clause-may_stop c = subst (λ (s : Stage). OnErr c.after_setup.result (MayStopHere s (line_view c.args.line))) (sym c.in-Built.is) c.after_setup.ensures.may_stop

pub returns-in-Collecting-clause-may_stop : goal.returns-in-Collecting-clause-may_stop
returns-in-Collecting-clause-may_stop c = subst (λ (s : Stage). OnErr c.before_setup.result (MayStopHere s (line_view c.args.line))) (sym c.in-Collecting.is) c.before_setup.ensures.may_stop
