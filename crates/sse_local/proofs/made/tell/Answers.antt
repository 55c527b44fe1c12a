use Rattle.std.proofs.Common.{◌≡◌, inl, inr, ℕ, List, Some, refl, ap, subst}
use Rattle.std.specs.Prelude.{Err}
use Rattle.std.specs.Io.KnownBytes.{append_known}
use Rattle.script_made_lines.specs.Summary.{made_summary}
use Rattle.script_run_texts.specs.Stops.{last_line, stop_status}
use Rattle.sse_outside.specs.Fronts.{TookFront, TookOrRose}
use Rattle.sse_local.proofs.Summed.{sink-cause, summed-short}
use Rattle.sse_local.proofs.made.tell.Goals as goal

same_text : (a b c : List ℕ) → Some a ≡ Some b → Some b ≡ Some c → a ≡ c
same_text a b c e f = cc

pub returns-in-Ok-clause-tells : goal.returns-in-Ok-clause-tells
returns-in-Ok-clause-tells g c = λ text is.
    let same = same_text c.bytes.result.now c.args.run.now.printed.bytes.items text c.bytes.ensures is in
    inl (inl (
      c.if-run-eq0.true,
      inl (record {
        status_is = refl;
        printed = subst (λ t. g.W.Sink.written c.print_summary.new.sink ≡ append_known (g.W.Sink.written c.args.sink.now) (made_summary c.args.documents t)) same c.in-Ok.ensures.all;
        steady = c.in-Ok.ensures.steady;
      }),
    ))

pub returns-in-Err-clause-tells : goal.returns-in-Err-clause-tells
returns-in-Err-clause-tells g c = λ text is.
    let same = same_text c.bytes.result.now c.args.run.now.printed.bytes.items text c.bytes.ensures is in
    let now = g.W.Sink.written c.args.sink.now in
    let between = g.W.Sink.written c.print_summary.new.sink in
    let last = g.W.Sink.written c.finish.new.sink in
    let f0 = g.W.Sink.faults c.args.sink.now in
    let f1 = g.W.Sink.faults c.print_summary.new.sink in
    let f2 = g.W.Sink.faults c.finish.new.sink in
    let s0 = g.W.Sink.shortages c.args.sink.now in
    let s1 = g.W.Sink.shortages c.print_summary.new.sink in
    let s2 = g.W.Sink.shortages c.finish.new.sink in
    inl (inl (
      c.if-run-eq0.true,
      inr (
          summed-short c.in-Err.fault c.args.documents text now between last f0 f1 f2 s0 s1 s2 c.finish.result
          (subst (λ t. TookFront now between (made_summary c.args.documents t)) same c.in-Err.ensures.front)
          (sink-cause c.in-Err.fault f0 f1 (λ e. c.in-Err.ensures.failed (ap Err e)) (λ e. c.in-Err.ensures.no_memory (ap Err e))) c.in-Err.ensures.no_fewer
          (subst (λ stop. TookOrRose between last (last_line stop) f1 f2 s1 s2) c.from.ensures c.finish.ensures.line)
          (subst (λ stop. c.finish.result ≡ stop_status stop) c.from.ensures c.finish.ensures.status)),
    ))
