use Rattle.leakage_sheets.proofs.ShapeLaws.{shape_within}
use Rattle.leakage_sheets.proofs.sheet.held_keys.Goals as goal

pub within-requires : goal.within-requires
within-requires g c = shape_within c.args.history.now.setup c.b.result c.big.result c.requires c.b.ensures c.big.ensures
