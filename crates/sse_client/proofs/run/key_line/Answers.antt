use Rattle.std.proofs.Common.{◌≡◌, ◌≤◌, ◌+◌, ◌-◌, ◌^◌, ℕ, min, Some, rules, sym, ap, ◌∙◌, subst, arith}
use Rattle.sse_script.specs.Views.{line_view}
use Rattle.sse_script.specs.declared.line.Line.{Line}
use Rattle.def_script_meaning.proofs.Steps.{IsBadFirst, opens-key}
use Rattle.def_script_meaning.specs.Lines.{line_read}
use Rattle.script_run_texts.specs.Causes.{InputCause}
use Rattle.sse_client.proofs.TranscriptsJoined.{IfErr-from, may_stop-ok}
use Rattle.sse_client.proofs.RunGoesOn.{line_in-read, line_in-none, IfErr-line, opening-next, bad_first, key_told, opening-bad, opening-input, opening-end}
use Rattle.std.specs.Prelude.{IfSome}
use Rattle.def_script_meaning.specs.Lines.{lines_in}
use Rattle.sse_client.proofs.KeyLineRead.{HasSameKey, HasSameKey-empty, FindsKey-read, missing-bad}
use Rattle.sse_client.specs.KeyLines.{FindsKey, Missing, key_line}
use Rattle.sse_script.specs.TextLines.{lines_left}
use Rattle.sse_client.proofs.run.key_line.Goals as goal

counted_one : (m n : ℕ) → m ≡ min (n + 1) (2 ^ 64 - 1) → n ≤ 2 ^ 63 → m ≡ n + 1
counted_one m n counted few = omega (arith, counted, few)

pub returns-in_err-advance-clause-stopped : goal.returns-in_err-advance-clause-stopped
returns-in_err-advance-clause-stopped g c =
    let stop = c.in_err-advance.field-0.0 in
    IfErr-from c.from_residual.result stop _ c.from_residual.ensures.1
    (λ f now. opening-input f _ _ now c.lines.input.number _ (c.lines.invariant.opening f now) _ stop
    (λ m e. c.in_err-advance.ensures.too_long m (search e)) (λ m e. let n = c.in_err-advance.ensures.counted_long m (search e) in omega (arith, n, c.lines.invariant.few)))

pub returns-then-not-branch-clause-stopped : goal.returns-then-not-branch-clause-stopped
returns-then-not-branch-clause-stopped g c f now =
    opening-end f _ _ now c.lines.input.number _ (c.lines.invariant.opening f now) c.number.result (c.in_ok-advance.ensures.end (search rules)) (omega (arith, c.in_ok-advance.ensures.counted, c.lines.invariant.few, c.number.ensures))

pub returns-in_err-line-clause-stopped : goal.returns-in_err-line-clause-stopped
returns-in_err-line-clause-stopped g c =
    let text = c.advance.new.self.line in
    IfErr-line c.from_residual-in_err-line.result c.in_err-line.field-0.0 c.advance.new.self.number _ c.from_residual-in_err-line.ensures.1 c.in_err-line.ensures.bad
    (λ f now. opening-bad f _ _ now c.lines.input.number _ (c.lines.invariant.opening f now) _ text c.advance.new.self.number (c.in_ok-advance.ensures.line (search rules))
    (subst IsBadFirst (sym (line_in-none text (sym c.in_err-line.ensures.read))) tt)
    (omega (arith, c.in_ok-advance.ensures.counted, c.lines.invariant.few)))

pub lines-preserved : goal.lines-preserved
lines-preserved g c = record {
  key =
      let text = c.advance.new.self.line in
      subst (λ n. HasSameKey (c.args.input.now.number + 1) (lines_left c.args.input.now.pending (g.S.Source.remaining c.args.source.now)) (n + 1) (lines_left c.advance.new.self.pending (g.S.Source.remaining c.advance.new.source)))
      (sym (counted_one c.advance.new.self.number c.lines.input.number c.in_ok-advance.ensures.counted (omega (arith, c.lines.invariant.few))))
      (HasSameKey-empty (c.args.input.now.number + 1) (c.lines.input.number + 1) _ _ text (c.in_ok-advance.ensures.line (search rules)) _ c.lines.invariant.key
      (line_in-read c.in_ok-line.field-0 text c.in_ok-line.ensures.read ∙ ap (λ (line : Line). Some (line_read (line_view line))) c.in-Empty.is));
  source = c.in_ok-advance.ensures.steady ∙ c.lines.invariant.source;
  few = omega (arith, c.lines.invariant.few, c.in_ok-advance.ensures.counted, c.in_ok-advance.ensures.less (search rules));
  opening = λ f now.
      let text = c.advance.new.self.line in
      opening-next f _ _ now c.lines.input.number _ (c.lines.invariant.opening f now) _ text c.advance.new.self.number (c.in_ok-advance.ensures.line (search rules))
      (line_in-read c.in_ok-line.field-0 text c.in_ok-line.ensures.read ∙ ap (λ (line : Line). Some (line_read (line_view line))) c.in-Empty.is)
      (omega (arith, c.in_ok-advance.ensures.counted, c.lines.invariant.few));
}

pub returns-in-Key-clause-key : goal.returns-in-Key-clause-key
returns-in-Key-clause-key g c f now end opens =
    let text = c.advance.new.self.line in
    opens-key f _ _ now (c.lines.input.number + 1) _ (c.lines.invariant.opening f now) _ text (c.in_ok-advance.ensures.line (search rules)) c.in-Key.bytes
    (line_in-read c.in_ok-line.field-0 text c.in_ok-line.ensures.read ∙ ap (λ (line : Line). Some (line_read (line_view line))) c.in-Key.is) end
    (key_told f c.new.result c.in-Key.bytes c.advance.new.self.number (c.lines.input.number + 1) _ now end c.new.ensures (omega (arith, c.in_ok-advance.ensures.counted, c.lines.invariant.few)) opens)

pub returns-in_default-clause-stopped : goal.returns-in_default-clause-stopped
returns-in_default-clause-stopped g c f now =
    let text = c.advance.new.self.line in
    opening-bad f _ _ now c.lines.input.number _ (c.lines.invariant.opening f now) _ text c.number-in_default.result (c.in_ok-advance.ensures.line (search rules))
    (subst IsBadFirst (sym (line_in-read c.in_ok-line.field-0 text c.in_ok-line.ensures.read)) (bad_first c.in_ok-line.field-0 c.in_default.not-Empty c.in_default.not-Key))
    (omega (arith, c.in_ok-advance.ensures.counted, c.lines.invariant.few, c.number-in_default.ensures))

pub returns-in_err-advance-clause-source : goal.returns-in_err-advance-clause-source
returns-in_err-advance-clause-source g c =
    let new = g.S.Source.faults c.advance.new.source in
    let stop = c.in_err-advance.field-0.0 in
    record {
      steady = may_stop-ok c.from_residual.result stop c.from_residual.ensures.1 _;
      cause = IfErr-from c.from_residual.result stop (InputCause (g.S.Source.faults c.args.source.now) new) c.from_residual.ensures.1 (subst (λ before. InputCause before new stop) c.lines.invariant.source c.in_err-advance.ensures.cause);
    }

pub returns-in-Key-clause-found : goal.returns-in-Key-clause-found
returns-in-Key-clause-found g c =
    let text = c.advance.new.self.line in
    let key = c.in-Key.bytes in
    subst (λ k. FindsKey (c.args.input.now.number + 1) (lines_left c.args.input.now.pending (g.S.Source.remaining c.args.source.now)) k (c.advance.new.self.number + 1) (lines_left c.advance.new.self.pending (g.S.Source.remaining c.advance.new.source))) (sym c.new.ensures)
    (subst (λ n. FindsKey (c.args.input.now.number + 1) (lines_left c.args.input.now.pending (g.S.Source.remaining c.args.source.now)) key (n + 1) (lines_left c.advance.new.self.pending (g.S.Source.remaining c.advance.new.source)))
    (sym (counted_one c.advance.new.self.number c.lines.input.number c.in_ok-advance.ensures.counted (omega (arith, c.lines.invariant.few))))
    (FindsKey-read (c.args.input.now.number + 1) (c.lines.input.number + 1) _ _ text (c.in_ok-advance.ensures.line (search rules)) _ c.lines.invariant.key key
    (line_in-read c.in_ok-line.field-0 text c.in_ok-line.ensures.read ∙ ap (λ (line : Line). Some (line_read (line_view line))) c.in-Key.is)))

pub returns-in_default-clause-missing : goal.returns-in_default-clause-missing
returns-in_default-clause-missing g c = λ number e.
    let text = c.advance.new.self.line in
    let first = c.args.input.now.number + 1 in
    let all = lines_left c.args.input.now.pending (g.S.Source.remaining c.args.source.now) in
    let same : c.number-in_default.result ≡ number = cc in
    let at : c.lines.input.number + 1 ≡ number = sym (counted_one c.advance.new.self.number c.lines.input.number c.in_ok-advance.ensures.counted (omega (arith, c.lines.invariant.few))) ∙ sym c.number-in_default.ensures ∙ same in
    subst (λ n. IfSome all (λ texts. key_line first (lines_in texts) ≡ Missing n)) at
    (missing-bad first (c.lines.input.number + 1) _ _ text (c.in_ok-advance.ensures.line (search rules)) all c.lines.invariant.key
    (subst IsBadFirst (sym (line_in-read c.in_ok-line.field-0 text c.in_ok-line.ensures.read)) (bad_first c.in_ok-line.field-0 c.in_default.not-Empty c.in_default.not-Key)))
