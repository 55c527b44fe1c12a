use Rattle.std.proofs.Common.{sym, ◌∙◌}
use Rattle.leakage_frames.specs.Views.{leak_view}
use Rattle.sse_game.specs.Side.{epochs_at}
use Rattle.sse_game.proofs.Faults.{same_number, untrue}
use Rattle.sse_game.proofs.Growing.{leaks-count}
use Rattle.sse_game.proofs.game.take_alike.Goals as goal

pub returns-else-alike-clause-differ : goal.returns-else-alike-clause-differ
returns-else-alike-clause-differ c = λ k e. record {
  own = leak_view c.in_ok-own.own;
  number = sym (same_number c.args.side.now.commands k e) ∙ c.requires.side.numbers.commands ∙ sym (leaks-count (epochs_at c.args.side.now) c.requires.side.numbers.whole);
  leaks = c.in_ok-own.ensures.leaks;
  other = λ same. untrue c.same_leak-alike.result (c.same_leak-alike.ensures.1 same) c.if-alike.false;
}
