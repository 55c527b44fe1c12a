use Rattle.std.proofs.Common.{rules, sym, ap, ◌∙◌, subst, arith}
use Rattle.std.specs.Prelude.{Some}
use Rattle.sse_script.specs.Views.{line_view}
use Rattle.sse_script.specs.declared.line.Line.{Line}
use Rattle.def_script_meaning.proofs.Steps.{IsBadFirst}
use Rattle.script_run_texts.specs.Causes.{InputCause}
use Rattle.def_script_meaning.specs.Lines.{line_read}
use Rattle.script_history.proofs.ReadingGoesOn.{IfErr-from, IfErr-line, OnOk-err, bad_first, line_in-none, line_in-read, opening-end, opening-key, opening-next, opening-unread}
use Rattle.script_history.proofs.PartsTaken.{no_twin, none-first, opening-wrong, skipped-first, taken-behind, taken-first}
use Rattle.script_history.proofs.script_reader.key_line.Goals as goal

pub returns-in_err-advance-clause-stopped : goal.returns-in_err-advance-clause-stopped
returns-in_err-advance-clause-stopped g c =
    let stop = c.in_err-advance.field-0.0 in
    IfErr-from c.from_residual.result stop _ c.from_residual.ensures.1
    (λ mark now. opening-unread mark _ _ c.lines.input.number _ (c.lines.invariant.opening mark) _ now stop
    (λ m e. skipped-first _ _ (c.in_err-advance.ensures.too_long m (search e))) (λ m e. let n = c.in_err-advance.ensures.counted_long m (search e) in omega (arith, n, c.lines.invariant.few)))

pub returns-then-not-branch-clause-stopped : goal.returns-then-not-branch-clause-stopped
returns-then-not-branch-clause-stopped g c mark now =
    opening-end mark _ _ c.lines.input.number _ (c.lines.invariant.opening mark) now c.number.result (none-first _ (c.in_ok-advance.ensures.end (search rules))) (omega (arith, c.in_ok-advance.ensures.counted, c.lines.invariant.few, c.number.ensures))

pub returns-in_err-line-clause-stopped : goal.returns-in_err-line-clause-stopped
returns-in_err-line-clause-stopped g c =
    let text = c.advance.new.self.line in
    IfErr-line c.from_residual-in_err-line.result c.in_err-line.field-0.0 c.advance.new.self.number _ c.from_residual-in_err-line.ensures.1 c.in_err-line.ensures.bad
    (λ mark now. opening-wrong mark _ _ c.lines.input.number _ _ (c.lines.invariant.opening mark) text (c.in_ok-advance.ensures.line (search rules)) now c.advance.new.self.number
    (subst IsBadFirst (sym (line_in-none text (sym c.in_err-line.ensures.read))) tt)
    (omega (arith, c.in_ok-advance.ensures.counted, c.lines.invariant.few)))

pub lines-preserved : goal.lines-preserved
lines-preserved g c = record {
  source = c.in_ok-advance.ensures.steady ∙ c.lines.invariant.source;
  few = omega (arith, c.lines.invariant.few, c.in_ok-advance.ensures.counted, c.in_ok-advance.ensures.less (search rules));
  opening = λ mark.
      let text = c.advance.new.self.line in
      opening-next mark _ _ c.lines.input.number _ (c.lines.invariant.opening mark) _ text (taken-first _ _ text (c.in_ok-advance.ensures.line (search rules)) (no_twin text (line_view c.in_ok-line.field-0) c.in_ok-line.ensures.read)) c.advance.new.self.number
      (line_in-read c.in_ok-line.field-0 text c.in_ok-line.ensures.read ∙ ap (λ (line : Line). Some (line_read (line_view line))) c.in-Empty.is)
      (omega (arith, c.in_ok-advance.ensures.counted, c.lines.invariant.few));
  behind =
      let text = c.advance.new.self.line in
      c.lines.invariant.behind ∙ taken-behind _ _ text (c.in_ok-advance.ensures.line (search rules)) (no_twin text (line_view c.in_ok-line.field-0) c.in_ok-line.ensures.read);
}

pub returns-in-Key-clause-key : goal.returns-in-Key-clause-key
returns-in-Key-clause-key g c mark now last end rest =
    let text = c.advance.new.self.line in
    opening-key mark _ _ c.lines.input.number _ (c.lines.invariant.opening mark) _ text (taken-first _ _ text (c.in_ok-advance.ensures.line (search rules)) (no_twin text (line_view c.in_ok-line.field-0) c.in_ok-line.ensures.read)) c.advance.new.self.number c.new.result c.in-Key.bytes
    (line_in-read c.in_ok-line.field-0 text c.in_ok-line.ensures.read ∙ ap (λ (line : Line). Some (line_read (line_view line))) c.in-Key.is)
    c.new.ensures (omega (arith, c.in_ok-advance.ensures.counted, c.lines.invariant.few)) now last end rest

pub returns-in-Key-clause-behind : goal.returns-in-Key-clause-behind
returns-in-Key-clause-behind g c =
    let text = c.advance.new.self.line in
    c.lines.invariant.behind ∙ taken-behind _ _ text (c.in_ok-advance.ensures.line (search rules)) (no_twin text (line_view c.in_ok-line.field-0) c.in_ok-line.ensures.read)

pub returns-in_default-clause-stopped : goal.returns-in_default-clause-stopped
returns-in_default-clause-stopped g c mark now =
    let text = c.advance.new.self.line in
    opening-wrong mark _ _ c.lines.input.number _ _ (c.lines.invariant.opening mark) text (c.in_ok-advance.ensures.line (search rules)) now c.number-in_default.result
    (subst IsBadFirst (sym (line_in-read c.in_ok-line.field-0 text c.in_ok-line.ensures.read)) (bad_first c.in_ok-line.field-0 c.in_default.not-Empty c.in_default.not-Key))
    (omega (arith, c.in_ok-advance.ensures.counted, c.lines.invariant.few, c.number-in_default.ensures))

pub returns-in_err-advance-clause-source : goal.returns-in_err-advance-clause-source
returns-in_err-advance-clause-source g c =
    let new = g.S.Source.faults c.advance.new.source in
    let stop = c.in_err-advance.field-0.0 in
    record {
      steady = OnOk-err c.from_residual.result stop c.from_residual.ensures.1 _;
      cause = IfErr-from c.from_residual.result stop (InputCause (g.S.Source.faults c.args.source.now) new) c.from_residual.ensures.1 (subst (λ before. InputCause before new stop) c.lines.invariant.source c.in_err-advance.ensures.cause);
    }
