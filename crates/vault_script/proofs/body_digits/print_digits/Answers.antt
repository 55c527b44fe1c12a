use Rattle.std.proofs.Common.{refl, ◌∙◌, arith}
use Rattle.vault_script.proofs.Pieces.{digits_front, digits_more, nothing_taken, takes-stopped}
use Rattle.vault_script.proofs.body_digits.print_digits.Goals as goal

pub loop-done-init : goal.loop-done-init
loop-done-init g c = record {
  within = omega arith;
  front = nothing_taken (g.W.Sink.written c.args.sink.now);
  steady = refl;
  supplied = refl;
}

pub returns-in_err-print_piece-clause-text : goal.returns-in_err-print_piece-clause-text
returns-in_err-print_piece-clause-text g c =
    takes-stopped c.from_residual.result _ _ _ _ c.from_residual.ensures.1
    (digits_front _ _ _ c.args.body.now c.split_at.result.1.now c.split_at-in-loop-done.result.0.now c.loop-done.done c.min.result
    c.loop-done.invariant.front c.split_at.ensures.back c.split_at-in-loop-done.ensures.front c.in_err-print_piece.ensures.text.front)

pub loop-done-preserved : goal.loop-done-preserved
loop-done-preserved g c = record {
  within = omega (arith, c.split_at.ensures.back_len, c.split_at-in-loop-done.ensures.front_len, c.split_at-in-loop-done.ensures.back_len, c.loop-done.invariant.within, c.min.ensures);
  front = digits_more _ _ _ c.args.body.now c.split_at.result.1.now c.split_at-in-loop-done.result.0.now c.loop-done.done c.min.result
      c.loop-done.invariant.front c.split_at.ensures.back c.split_at-in-loop-done.ensures.front c.split_at-in-loop-done.ensures.front_len c.in_ok-print_piece.ensures.text.all;
  steady = c.in_ok-print_piece.ensures.faults.steady (λ e. cc) ∙ c.loop-done.invariant.steady;
  supplied = c.in_ok-print_piece.ensures.shortages.steady (λ e. cc) ∙ c.loop-done.invariant.supplied;
}
