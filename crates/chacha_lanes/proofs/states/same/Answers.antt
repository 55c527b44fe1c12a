use Rattle.std.proofs.lemmas.List.{get_or-replicate}
use Rattle.chacha_lanes.proofs.states.same.Goals as goal

pub returns : goal.returns
returns c j below = get_or-replicate 8 j c.args.word 0 below
