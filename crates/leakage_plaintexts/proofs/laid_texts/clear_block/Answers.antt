use Rattle.std.proofs.Common.{length, ap, ◌∙◌}
use Rattle.two_level.specs.Laid.{laid}
use Rattle.leakage_plaintexts.proofs.ClearLaws.{written_back, block_laid}
use Rattle.leakage_plaintexts.proofs.laid_texts.clear_block.Goals as goal

pub returns : goal.returns
returns c =
    let block = c.in_ok-block.block in
    let out = c.lay_block.new.out in
    c.of.ensures
    ∙ written_back out block.items block.len block.ok.0 (c.lay_block.auto.out ∙ ap length c.deref_mut.ensures.value)
    ∙ block_laid c.args.i (laid c.args.shape c.args.ranks.now c.args.ids.now) out c.lay_block.ensures
