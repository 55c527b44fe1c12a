use Rattle.std.proofs.Common.{ℕ, ◌∷◌, sym, ap, subst, ◌∙◌}
use Rattle.std.specs.Prelude.{Err, option_map}
use Rattle.keyed_fn.specs.KeyedFn.{keyed_fn}
use Rattle.script_run_texts.specs.declared.input_stop.InputStop.TheVariants as inputs
use Rattle.script_run_texts.specs.declared.stop_cause.StopCause.TheVariants as stops
use Rattle.def_script_meaning.proofs.Steps.{IsBad}
use Rattle.script_history.proofs.ReadingGoesOn.{leads-bad, leads-stopped, line_in-none, line_in-read}
use Rattle.script_history.specs.Turns.{LeadsOn, moment}
use Rattle.script_history.proofs.lines.take_read.Goals as goal

pub returns-in-Ok-clause-leads : goal.returns-in-Ok-clause-leads
returns-in-Ok-clause-leads g c = λ place behind at.
    let text = c.args.input.now.line in
    let written = g.W.Sink.written c.args.sink.now in
    let last = g.W.Sink.written c.take.new.sink in
    subst (λ (n : ℕ). LeadsOn (keyed_fn g.K.Keyed.prf g.K.Keyed.pad) (moment place n (option_map (λ lines. text ∷ lines) behind) c.args.progress.refused written) n behind last c.take.result) c.number.ensures
    (c.take.ensures.leads place text behind at (line_in-read c.in-Ok.line text c.in-Ok.ensures.read))

pub returns-in-Err-clause-leads : goal.returns-in-Err-clause-leads
returns-in-Err-clause-leads g c = λ place behind at.
    let text = c.args.input.now.line in
    let number = c.args.input.now.number in
    leads-stopped (keyed_fn g.K.Keyed.prf g.K.Keyed.pad) _ number behind (g.W.Sink.written c.args.sink.now) c.stopped.result (stops.Input (inputs.Line number)) (c.stopped.ensures ∙ ap (λ s. Err (stops.Input s)) c.in-Err.ensures.bad)
    (leads-bad (keyed_fn g.K.Keyed.prf g.K.Keyed.pad) place c.args.progress number text behind (g.W.Sink.written c.args.sink.now) (subst IsBad (sym (line_in-none text (sym c.in-Err.ensures.read))) tt))
