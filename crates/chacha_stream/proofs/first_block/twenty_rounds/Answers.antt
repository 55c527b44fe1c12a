use Rattle.std.proofs.Common.{◌≡◌, refl, ap, ◌∙◌, arith, add-one}
use Rattle.rand_chacha.specs.Block.{column_round, diagonal_round, double_rounds}
use Rattle.chacha_stream.proofs.first_block.twenty_rounds.Goals as goal

pub rounds-init : goal.rounds-init
unfolding double_rounds
rounds-init c = refl

pub rounds-preserved : goal.rounds-preserved
unfolding double_rounds
rounds-preserved c =
    rw add-one (c.diagonal_round-x.ensures
    ∙ ap diagonal_round (c.column_round.ensures ∙ ap column_round c.rounds.invariant))

pub returns : goal.returns
returns c =
    let done : c.rounds._round ≡ 10 = omega arith in
    c.rounds.invariant ∙ ap (λ n. double_rounds n c.args.first) done
