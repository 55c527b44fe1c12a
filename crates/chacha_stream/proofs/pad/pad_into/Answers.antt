use Rattle.std.proofs.Common.{length, take, ap, ◌∙◌, arith}
use Rattle.chacha_stream.proofs.Laws.{take-chacha_pad}
use Rattle.chacha_stream.proofs.pad.pad_into.Goals as goal

pub returns-then-out-le64 : goal.returns-then-out-le64
returns-then-out-le64 c =
    let len = length c.args.out.now in
    c.copy_from_slice.ensures.after ∙ ap (take len) c.first_block-block.ensures ∙ take-chacha_pad c.args.key.now c.args.n len 64 (omega arith)
