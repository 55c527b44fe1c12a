use Rattle.std.proofs.Common.{sym}
use Rattle.sha256_lanes.proofs.Lanes.{round-lane}
use Rattle.sha256_lanes.proofs.block.round.Goals as goal

pub returns : goal.returns
returns c j below =
    rw (
      c.add-new_a.ensures j below,
      c.add-new_e.ensures j below,
      c.add-temp2.ensures j below,
      c.maj-most.ensures j below,
      c.big_sigma0-s0.ensures j below,
      c.add-temp1.ensures j below,
      c.add-with_constant.ensures j below,
      c.same-constant.ensures j below,
      c.add-with_chosen.ensures j below,
      c.ch-chosen.ensures j below,
      c.add-with_s1.ensures j below,
      c.big_sigma1-s1.ensures j below,
    ) (sym (round-lane j c.args.v c.args.k _))
