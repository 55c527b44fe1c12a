use Rattle.std.proofs.Common.{sym, ap, subst, ◌∙◌}
use Rattle.std.specs.Prelude.{Some}
use Rattle.keyed_fn.specs.KeyedFn.{keyed_fn}
use Rattle.script_run_texts.specs.declared.input_stop.InputStop.TheVariants as inputs
use Rattle.script_run_texts.specs.declared.stop_cause.StopCause.TheVariants as stops
use Rattle.def_script_meaning.proofs.Steps.{IsBad}
use Rattle.def_script_meaning.specs.Lines.{line_read}
use Rattle.sse_script.specs.Views.{line_view}
use Rattle.sse_script.specs.declared.line.Line.{Line}
use Rattle.script_history.proofs.ReadingGoesOn.{command_of, leads-bad, leads-command, leads-empty, leads-stopped}
use Rattle.script_history.proofs.lines.take.Goals as goal

pub returns-in-Empty-clause-leads : goal.returns-in-Empty-clause-leads
returns-in-Empty-clause-leads g c = λ place text behind at reads.
    leads-empty (keyed_fn g.K.Keyed.prf g.K.Keyed.pad) place c.args.progress c.args.number text behind (g.W.Sink.written c.args.sink.now) at (reads ∙ ap (λ (line : Line). Some (line_read (line_view line))) c.in-Empty.is)

pub returns-in-Key-clause-leads : goal.returns-in-Key-clause-leads
returns-in-Key-clause-leads g c = λ place text behind at reads.
    leads-stopped (keyed_fn g.K.Keyed.prf g.K.Keyed.pad) _ c.args.number behind (g.W.Sink.written c.args.sink.now) c.stopped.result (stops.Input (inputs.Line c.args.number)) c.stopped.ensures
    (leads-bad (keyed_fn g.K.Keyed.prf g.K.Keyed.pad) place c.args.progress c.args.number text behind (g.W.Sink.written c.args.sink.now) (subst IsBad (sym (reads ∙ ap (λ (line : Line). Some (line_read (line_view line))) c.in-Key.is)) tt))

pub returns-in_default-clause-leads : goal.returns-in_default-clause-leads
returns-in_default-clause-leads g c = λ place text behind at reads.
    let command = command_of c.args.line c.in_default.not-Empty c.in_default.not-Key in
    leads-command (keyed_fn g.K.Keyed.prf g.K.Keyed.pad) place c.args.progress c.args.number text behind (g.W.Sink.written c.args.sink.now) command.0 (reads ∙ ap (λ l. Some l) command.1) (g.W.Sink.written c.take_command.new.sink) c.take_command.result
    (c.take_command.ensures.comes command.0 command.1 place at)
