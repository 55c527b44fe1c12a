use Rattle.std.proofs.Common.{◌≡◌, refl, subst, ◌∙◌, arith}
use Rattle.std.specs.Prelude.{◌+◌, Ok}
use Rattle.keyed_fn.specs.KeyedFn.{keyed_fn}
use Rattle.sse_script.specs.TextLines.{bytes_to_come, lines_left}
use Rattle.client_registry.specs.HashNumbers.{hash_numbers}
use Rattle.script_history.specs.Stages.{keys_at}
use Rattle.script_history.specs.Turns.{HasAdvanced, LeadsTo, OnLine, PartsOn, moment, stage_after}
use Rattle.script_history.specs.TwoScripts.{first_left}
use Rattle.script_history.specs.declared.lines.Turn.{Turn}
use Rattle.script_history.proofs.PartsTaken.{parts-ended}
use Rattle.script_history.proofs.ReadingGoesOn.{end_at-stopped, ends-stopped, ends-whole, there-joined, there-start}
use Rattle.script_history.proofs.lines.read_lines.Goals as goal

pub lines-init : goal.lines-init
lines-init g c = record {
  few = c.requires.few;
  source = refl;
  sink = refl;
  shortages = omega arith;
  there = λ place at. there-start (keyed_fn g.K.Keyed.prf g.K.Keyed.pad) place c.args.progress c.args.input.now.number _ _ at;
  behind = refl;
  hashed = λ under. under;
}

pub lines-preserved : goal.lines-preserved
lines-preserved g c =
    let is = c.in-Next.is in
    let next = c.in-Next.next in
    let left = first_left (lines_left c.take_turn.new.input.pending (g.S.Source.remaining c.take_turn.new.source)) in
    let advanced : HasAdvanced c.lines.input.number (bytes_to_come c.lines.input.pending (g.S.Source.handed_out c.lines.source)) c.take_turn.new.input.number (bytes_to_come c.take_turn.new.input.pending (g.S.Source.handed_out c.take_turn.new.source)) =
    subst (λ (t : Turn). OnLine t (HasAdvanced c.lines.input.number (bytes_to_come c.lines.input.pending (g.S.Source.handed_out c.lines.source)) c.take_turn.new.input.number (bytes_to_come c.take_turn.new.input.pending (g.S.Source.handed_out c.take_turn.new.source)))) is c.in_ok-next.ensures.advanced in
    record {
      few = omega (arith, c.lines.invariant.few, advanced.counted, advanced.less);
      source = c.in_ok-next.ensures.source.steady ∙ c.lines.invariant.source;
      sink = c.in_ok-next.ensures.sink.steady ∙ c.lines.invariant.sink;
      shortages = omega (arith, c.lines.invariant.shortages, c.in_ok-next.ensures.sink.no_fewer);
      there = λ place at.
          let s = c.lines.invariant.there place at in
          there-joined (keyed_fn g.K.Keyed.prf g.K.Keyed.pad) _ c.lines.progress c.lines.input.number _ _ s next c.take_turn.new.input.number left (g.W.Sink.written c.take_turn.new.sink)
          (subst (λ (t : Turn). LeadsTo (keyed_fn g.K.Keyed.prf g.K.Keyed.pad) (moment s.place (c.lines.input.number + 1) (first_left (lines_left c.lines.input.pending (g.S.Source.remaining c.lines.source))) c.lines.progress.refused (g.W.Sink.written c.lines.sink)) c.take_turn.new.input.number left (g.W.Sink.written c.take_turn.new.sink) (Ok t)) is (c.in_ok-next.ensures.turns s.place s.at));
      behind =
          c.lines.invariant.behind
          ∙ subst (λ (t : Turn). PartsOn t (lines_left c.lines.input.pending (g.S.Source.remaining c.lines.source)) (lines_left c.take_turn.new.input.pending (g.S.Source.remaining c.take_turn.new.source)) (g.S.Source.remaining c.take_turn.new.source)) is c.in_ok-next.ensures.parts;
      hashed = λ under. subst (λ (t : Turn). keys_at (stage_after t) ≡ hash_numbers c.args.keys) is (c.in_ok-next.ensures.hashed (c.lines.invariant.hashed under));
    }

pub lines-smaller : goal.lines-smaller
lines-smaller g c =
    let advanced : HasAdvanced c.lines.input.number (bytes_to_come c.lines.input.pending (g.S.Source.handed_out c.lines.source)) c.take_turn.new.input.number (bytes_to_come c.take_turn.new.input.pending (g.S.Source.handed_out c.take_turn.new.source)) =
    subst (λ (t : Turn). OnLine t (HasAdvanced c.lines.input.number (bytes_to_come c.lines.input.pending (g.S.Source.handed_out c.lines.source)) c.take_turn.new.input.number (bytes_to_come c.take_turn.new.input.pending (g.S.Source.handed_out c.take_turn.new.source)))) c.in-Next.is c.in_ok-next.ensures.advanced in
    advanced.less

pub returns-in_err-next-clause-reads : goal.returns-in_err-next-clause-reads
returns-in_err-next-clause-reads g c = λ place at.
    let s = c.lines.invariant.there place at in
    let stop = c.in_err-next.field-0.0 in
    let last = g.W.Sink.written c.take_turn.new.sink in
    end_at-stopped (moment place (c.args.input.now.number + 1) (first_left (lines_left c.args.input.now.pending (g.S.Source.remaining c.args.source.now))) c.args.progress.refused (g.W.Sink.written c.args.sink.now)) place.key c.take_turn.new.input.number last c.from_residual.result stop c.from_residual.ensures.1
    (ends-stopped (keyed_fn g.K.Keyed.prf g.K.Keyed.pad) _ c.lines.progress c.lines.input.number _ _ s last stop (c.in_err-next.ensures.turns s.place s.at))

pub returns-in-End-clause-reads : goal.returns-in-End-clause-reads
returns-in-End-clause-reads g c = λ place at.
    let s = c.lines.invariant.there place at in
    let last = g.W.Sink.written c.take_turn.new.sink in
    ends-whole (keyed_fn g.K.Keyed.prf g.K.Keyed.pad) _ c.lines.progress c.lines.input.number _ _ s c.in-End.last.progress c.take_turn.new.input.number last
    (subst (λ (t : Turn). LeadsTo (keyed_fn g.K.Keyed.prf g.K.Keyed.pad) (moment s.place (c.lines.input.number + 1) (first_left (lines_left c.lines.input.pending (g.S.Source.remaining c.lines.source))) c.lines.progress.refused (g.W.Sink.written c.lines.sink)) c.take_turn.new.input.number (first_left (lines_left c.take_turn.new.input.pending (g.S.Source.remaining c.take_turn.new.source))) last (Ok t)) c.in-End.is (c.in_ok-next.ensures.turns s.place s.at))

pub returns-in-End-clause-ended : goal.returns-in-End-clause-ended
returns-in-End-clause-ended g c =
    let last = c.in-End.last in
    let is = c.in-End.is in
    let number = c.take_turn.new.input.number in
    let to_come = bytes_to_come c.take_turn.new.input.pending (g.S.Source.handed_out c.take_turn.new.source) in
    parts-ended last.at_twin _ _ _ (g.S.Source.remaining c.take_turn.new.source) _ c.lines.invariant.behind
    (subst (λ (t : Turn). PartsOn t (lines_left c.lines.input.pending (g.S.Source.remaining c.lines.source)) (lines_left c.take_turn.new.input.pending (g.S.Source.remaining c.take_turn.new.source)) (g.S.Source.remaining c.take_turn.new.source)) is c.in_ok-next.ensures.parts)
    (λ twin.
    let before = bytes_to_come c.lines.input.pending (g.S.Source.handed_out c.lines.source) in
    let advanced : HasAdvanced c.lines.input.number before number to_come = subst (λ (t : Turn). OnLine t (HasAdvanced c.lines.input.number before number to_come)) is c.in_ok-next.ensures.advanced twin in
    omega (arith, c.lines.invariant.few, advanced.counted, advanced.less))

pub returns-in-End-clause-hashed : goal.returns-in-End-clause-hashed
returns-in-End-clause-hashed g c = λ under.
    subst (λ (t : Turn). keys_at (stage_after t) ≡ hash_numbers c.args.keys) c.in-End.is (c.in_ok-next.ensures.hashed (c.lines.invariant.hashed under))
