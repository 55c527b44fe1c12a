use Rattle.std.proofs.Common.{◌+◌, ◌%◌, ◌^◌, ap, ◌∙◌}
use Rattle.std.specs.Prelude.{sum}
use Rattle.std.proofs.lemmas.List.{take_all}
use Rattle.leakage_draws.proofs.SumLaws.{one_byte}
use Rattle.leakage_draws.proofs.counted.added.Goals as goal

pub loop-byte-preserved : goal.loop-byte-preserved
loop-byte-preserved c =
    one_byte c.args.start c.args.bytes.now c.loop-byte.byte-index 0 c.loop-byte.total _ c.loop-byte-test.true c.loop-byte.invariant
    (ap (λ b. (c.loop-byte.total + b) % 2 ^ 64) c.from-total.ensures)

pub returns : goal.returns
returns c = c.loop-byte.invariant ∙ ap (λ bytes. (c.args.start + sum bytes) % 2 ^ 64) (take_all c.loop-byte.byte-index c.args.bytes.now c.loop-byte-test.false)
