use Rattle.std.proofs.Common.{◌≡◌, refl, subst, ◌∙◌, arith}
use Rattle.std.specs.Prelude.{◌<◌, ◌+◌, Ok}
use Rattle.keyed_fn.specs.KeyedFn.{keyed_fn}
use Rattle.std.specs.Io.KnownBytes.{IsAtEnd}
use Rattle.def_script_meaning.specs.Runs.{moment}
use Rattle.def_script_meaning.specs.Stops as ends
use Rattle.sse_script.specs.TextLines.{bytes_to_come, lines_left}
use Rattle.sse_client.specs.Stages.{key_of}
use Rattle.sse_client.specs.Stands.{seen, outside_of, stop_view, has_refused}
use Rattle.sse_client.specs.Turns.{IfNext, LeadsTo, OnEnd}
use Rattle.sse_client.specs.declared.lines.Turn.{Turn}
use Rattle.sse_client.proofs.RunGoesOn.{ends-joined, ends-stopped_so, there-joined, there-start}
use Rattle.sse_client.specs.RecordKept.{WholeAtStop}
use Rattle.sse_client.proofs.RecordsLast.{StaysWhole-err}
use Rattle.client_recorder.proofs.GrownRecords.{keeps-same, keeps-then}
use Rattle.sse_client.proofs.lines.run_lines.Goals as goal

pub lines-init : goal.lines-init
lines-init g c = record {
  prepared = c.requires.prepared;
  few = c.requires.few;
  source = refl;
  sink = refl;
  shortages = omega arith;
  began = refl;
  whole = c.requires.whole;
  keeps_on = keeps-same g.R.Recorder.kept g.R.Recorder.moment g.R.Recorder.left_since c.args.recorder.now (g.met.R.Recorder.at_rest c.args.recorder.now c.requires.whole);
  recorder = refl;
  link = refl;
  there = λ place at. there-start (keyed_fn g.K.Keyed.prf g.K.Keyed.pad) place c.args.session.stage c.args.session.input.number _ (has_refused c.args.session.refusals) _ at;
}

pub lines-preserved : goal.lines-preserved
lines-preserved g c =
    let f = keyed_fn g.K.Keyed.prf g.K.Keyed.pad in
    let is = c.in-Next.is in
    let next = c.in-Next.next in
    let counted : next.input.number ≡ c.lines.session.input.number + 1 = subst (λ (t : Turn). IfNext t (λ s. s.input.number ≡ c.lines.session.input.number + 1)) is c.in_ok-next.ensures.counted in
    let less : bytes_to_come next.input.pending (g.S.Source.handed_out c.take_turn.new.source) < bytes_to_come c.lines.session.input.pending (g.S.Source.handed_out c.lines.source) =
    subst (λ (t : Turn). IfNext t (λ s. bytes_to_come s.input.pending (g.S.Source.handed_out c.take_turn.new.source) < bytes_to_come c.lines.session.input.pending (g.S.Source.handed_out c.lines.source))) is c.in_ok-next.ensures.less in
    record {
      prepared = subst (λ (t : Turn). IfNext t (λ s. c.take_turn.new.tools.master ≡ key_of s.stage)) is c.in_ok-next.ensures.prepared;
      few = omega (arith, c.lines.invariant.few, counted, less);
      source = c.in_ok-next.ensures.source.steady ∙ c.lines.invariant.source;
      sink = c.in_ok-next.ensures.sink.steady ∙ c.lines.invariant.sink;
      shortages = omega (arith, c.lines.invariant.shortages, c.in_ok-next.ensures.sink.no_fewer);
      whole = c.in_ok-next.ensures.whole_after.after;
      keeps_on = keeps-then g.R.Recorder.kept g.R.Recorder.moment g.R.Recorder.left_since c.args.recorder.now c.lines.recorder c.take_turn.new.recorder c.lines.invariant.keeps_on
          (g.met.R.Recorder.at_rest c.lines.recorder c.lines.invariant.whole).none c.in_ok-next.ensures.keeps_on;
      recorder = c.in_ok-next.ensures.recorder.steady ∙ c.lines.invariant.recorder;
      began = c.in_ok-next.ensures.link.began ∙ c.lines.invariant.began;
      link = c.in_ok-next.ensures.link.steady ∙ c.lines.invariant.link;
      there = λ place at.
          let s = c.lines.invariant.there place at in
          there-joined f _ c.lines.session.stage c.lines.session.input.number _ (has_refused c.lines.session.refusals) _ s next.stage next.input.number (lines_left next.input.pending (g.S.Source.remaining c.take_turn.new.source)) (has_refused next.refusals) (outside_of (seen (g.L.Link.transcript c.take_turn.new.link) (g.R.Recorder.kept c.take_turn.new.recorder)) (g.W.Sink.written c.take_turn.new.sink)) (subst (λ (t : Turn). LeadsTo f (moment s.place (c.lines.session.input.number + 1) (lines_left c.lines.session.input.pending (g.S.Source.remaining c.lines.source)) (has_refused c.lines.session.refusals) (outside_of (seen (g.L.Link.transcript c.lines.link) (g.R.Recorder.kept c.lines.recorder)) (g.W.Sink.written c.lines.sink))) (g.S.Source.remaining c.take_turn.new.source) (outside_of (seen (g.L.Link.transcript c.take_turn.new.link) (g.R.Recorder.kept c.take_turn.new.recorder)) (g.W.Sink.written c.take_turn.new.sink)) (Ok t)) is (c.in_ok-next.ensures.turns s.place s.at));
    }

pub lines-smaller : goal.lines-smaller
lines-smaller g c =
    subst (λ (t : Turn). IfNext t (λ s. bytes_to_come s.input.pending (g.S.Source.handed_out c.take_turn.new.source) < bytes_to_come c.lines.session.input.pending (g.S.Source.handed_out c.lines.source))) c.in-Next.is c.in_ok-next.ensures.less

pub returns-in_err-next-clause-ends : goal.returns-in_err-next-clause-ends
returns-in_err-next-clause-ends g c = λ place at.
    let f = keyed_fn g.K.Keyed.prf g.K.Keyed.pad in
    let s = c.lines.invariant.there place at in
    let stop = c.in_err-next.field-0.0 in
    let start = moment place (c.args.session.input.number + 1) (lines_left c.args.session.input.pending (g.S.Source.remaining c.args.source.now)) (has_refused c.args.session.refusals) (outside_of (seen (g.L.Link.transcript c.args.link.now) (g.R.Recorder.kept c.args.recorder.now)) (g.W.Sink.written c.args.sink.now)) in
    ends-stopped_so f start (outside_of (seen (g.L.Link.transcript c.take_turn.new.link) (g.R.Recorder.kept c.take_turn.new.recorder)) (g.W.Sink.written c.take_turn.new.sink)) c.from_residual.result stop c.from_residual.ensures.1
    (ends-joined f _ c.lines.session.stage c.lines.session.input.number _ (has_refused c.lines.session.refusals) _ s (outside_of (seen (g.L.Link.transcript c.take_turn.new.link) (g.R.Recorder.kept c.take_turn.new.recorder)) (g.W.Sink.written c.take_turn.new.sink)) (stop_view stop) (c.in_err-next.ensures.turns s.place s.at))

pub returns-in-End-clause-ends : goal.returns-in-End-clause-ends
returns-in-End-clause-ends g c = λ place at.
    let f = keyed_fn g.K.Keyed.prf g.K.Keyed.pad in
    let s = c.lines.invariant.there place at in
    ends-joined f _ c.lines.session.stage c.lines.session.input.number _ (has_refused c.lines.session.refusals) _ s (outside_of (seen (g.L.Link.transcript c.take_turn.new.link) (g.R.Recorder.kept c.take_turn.new.recorder)) (g.W.Sink.written c.take_turn.new.sink)) (ends.AtEnd (has_refused c.in-End.refusals)) (subst (λ (t : Turn). LeadsTo f (moment s.place (c.lines.session.input.number + 1) (lines_left c.lines.session.input.pending (g.S.Source.remaining c.lines.source)) (has_refused c.lines.session.refusals) (outside_of (seen (g.L.Link.transcript c.lines.link) (g.R.Recorder.kept c.lines.recorder)) (g.W.Sink.written c.lines.sink))) (g.S.Source.remaining c.take_turn.new.source) (outside_of (seen (g.L.Link.transcript c.take_turn.new.link) (g.R.Recorder.kept c.take_turn.new.recorder)) (g.W.Sink.written c.take_turn.new.sink)) (Ok t)) c.in-End.is (c.in_ok-next.ensures.turns s.place s.at))

pub returns-in-End-clause-at_end : goal.returns-in-End-clause-at_end
returns-in-End-clause-at_end g c = subst (λ (t : Turn). OnEnd t (IsAtEnd (g.S.Source.remaining c.take_turn.new.source))) c.in-End.is c.in_ok-next.ensures.at_end

pub returns-in_err-next-clause-whole_after : goal.returns-in_err-next-clause-whole_after
returns-in_err-next-clause-whole_after g c =
    StaysWhole-err WholeAtStop (g.R.Recorder.whole c.take_turn.new.recorder) c.from_residual.result c.in_err-next.field-0.0 c.from_residual.ensures.1 c.in_err-next.ensures.whole_after.stopped

pub returns-in_err-next-clause-keeps_on : goal.returns-in_err-next-clause-keeps_on
returns-in_err-next-clause-keeps_on g c = keeps-then g.R.Recorder.kept g.R.Recorder.moment g.R.Recorder.left_since c.args.recorder.now c.lines.recorder c.take_turn.new.recorder c.lines.invariant.keeps_on
    (g.met.R.Recorder.at_rest c.lines.recorder c.lines.invariant.whole).none c.in_err-next.ensures.keeps_on

pub returns-in-End-clause-keeps_on : goal.returns-in-End-clause-keeps_on
returns-in-End-clause-keeps_on g c = keeps-then g.R.Recorder.kept g.R.Recorder.moment g.R.Recorder.left_since c.args.recorder.now c.lines.recorder c.take_turn.new.recorder c.lines.invariant.keeps_on
    (g.met.R.Recorder.at_rest c.lines.recorder c.lines.invariant.whole).none c.in_ok-next.ensures.keeps_on
