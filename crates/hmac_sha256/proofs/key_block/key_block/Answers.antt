use Rattle.std.proofs.Common.{◌++◌, ap, sym, ◌∙◌}
use Rattle.std.proofs.lemmas.List.{drop-replicate}
use Rattle.hmac_sha256.proofs.KeyBlock.{key_block_of-short}
use Rattle.hmac_sha256.proofs.key_block.key_block.Goals as goal

pub returns-else-key-gt-BLOCK : goal.returns-else-key-gt-BLOCK
returns-else-key-gt-BLOCK c =
    c.put_in_front-else-key-gt-BLOCK.ensures
    ∙ ap (λ zeros. c.args.key.now ++ zeros) (drop-replicate _ 64 0)
    ∙ sym (key_block_of-short c.args.key.now c.if-key-gt-BLOCK.false)
