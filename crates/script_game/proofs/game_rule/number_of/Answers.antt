use Rattle.std.proofs.Common.{◌+◌, ◌%◌, ap, ◌∙◌}
use Rattle.std.specs.Prelude.{sum}
use Rattle.std.proofs.lemmas.List.{take_all}
use Rattle.script_game.proofs.SumLaws.{one_byte}
use Rattle.script_game.proofs.game_rule.number_of.Goals as goal

pub loop-byte-preserved : goal.loop-byte-preserved
loop-byte-preserved c =
    one_byte (c.args.seed + c.args.turn) c.args.bytes.now c.loop-byte.byte-index 0 c.loop-byte.x _ c.loop-byte-test.true c.loop-byte.invariant
    (ap (λ b. (c.loop-byte.x + b) % 3) c.from.ensures)

pub returns : goal.returns
returns c = c.loop-byte.invariant ∙ ap (λ bytes. (c.args.seed + c.args.turn + sum bytes) % 3) (take_all c.loop-byte.byte-index c.args.bytes.now c.loop-byte-test.false)
