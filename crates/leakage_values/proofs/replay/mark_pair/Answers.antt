use Rattle.std.proofs.Common.{◌∙◌, ap}
use Rattle.leakage_values.proofs.Marked.{has_pair-insert}
use Rattle.leakage_values.specs.Replayed.{has_pair}
use Rattle.leakage_values.proofs.replay.mark_pair.Goals as goal

pub returns : goal.returns
returns c w n = ap (has_pair w n) c.in_ok-insert.ensures.keys ∙ has_pair-insert w n c.args.sent.now.keys c.args.word.now c.args.id
