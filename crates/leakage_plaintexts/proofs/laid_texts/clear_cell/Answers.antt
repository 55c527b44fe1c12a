use Rattle.std.proofs.Common.{length, ap, ◌∙◌}
use Rattle.two_level.specs.Laid.{laid}
use Rattle.leakage_plaintexts.proofs.ClearLaws.{written_back, cell_laid}
use Rattle.leakage_plaintexts.proofs.laid_texts.clear_cell.Goals as goal

pub returns : goal.returns
returns c =
    let cell = c.in_ok-cell.cell in
    let out = c.lay_cell.new.out in
    c.of.ensures
    ∙ written_back out cell.items cell.len cell.ok.0 (c.lay_cell.auto.out ∙ ap length c.deref_mut.ensures.value)
    ∙ cell_laid (laid c.args.shape c.args.ranks.now c.args.ids.now) out c.lay_cell.ensures
