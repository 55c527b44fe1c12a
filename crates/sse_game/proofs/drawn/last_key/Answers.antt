use Rattle.std.proofs.Common.{◌-◌, sym, ◌∙◌, arith}
use Rattle.leakage_history.specs.HashedEpochs.{epochs_in}
use Rattle.sse_game.proofs.LastEpoch.{key_first, key_last}
use Rattle.sse_game.proofs.drawn.last_key.Goals as goal

pub returns-then-number-eq0 : goal.returns-then-number-eq0
returns-then-number-eq0 g c =
    c.prepare.ensures ∙ sym (key_first c.args.key.now (epochs_in c.args.epochs.now) (omega (arith, c.len-number.ensures.renewals, c.if-number-eq0.true)))

pub returns : goal.returns
returns g c =
    c.prepare-2.ensures ∙ c.new-own.ensures
    ∙ sym (key_last c.args.key.now (epochs_in c.args.epochs.now) (c.len-number.result - 1 - 1) c.renewal_key.result.now (omega (arith, c.len-number.ensures.renewals, c.if-number-eq0.false)) c.renewal_key.ensures)
