use Rattle.std.proofs.Common.{length, arith}
use Rattle.std.proofs.lemmas.List.FromFn.{fill_by_all}
use Rattle.chacha_stream.proofs.pad_xor.xor.Goals as goal

pub returns : goal.returns
returns c =
    fill_by_all _ _ (length c.args.bytes.now) 0 c.loop-i.auto.bytes
    (λ k within. c.loop-i.invariant.done k (omega arith))
