use Rattle.leakage_values.proofs.replay.is_searched.Goals as goal

pub returns : goal.returns
returns c = c.contains.ensures
