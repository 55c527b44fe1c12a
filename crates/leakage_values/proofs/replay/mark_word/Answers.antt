use Rattle.std.proofs.Common.{◌∙◌, ap}
use Rattle.leakage_values.proofs.Marked.{has_search-insert}
use Rattle.leakage_values.specs.Replayed.{has_search}
use Rattle.leakage_values.proofs.replay.mark_word.Goals as goal

pub returns : goal.returns
returns c w = ap (has_search w) c.in_ok-insert.ensures.keys ∙ has_search-insert w c.args.searched.now.keys c.args.word.now
