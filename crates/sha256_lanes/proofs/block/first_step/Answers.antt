use Rattle.std.proofs.Common.{refl, sym}
use Rattle.sha2.proofs.Schedule256.{rounds_first}
use Rattle.sha256_lanes.specs.Lanes.{lane}
use Rattle.sha256_lanes.proofs.Lanes.{slice_index-lane}
use Rattle.sha256_lanes.proofs.block.first_step.Goals as goal

pub returns : goal.returns
returns c = λ j b h below window held.
    rounds_first b h (lane j c.args.w.now) (lane j c.args.v) c.args.t _ _ _ c.requires window held
    refl (sym (slice_index-lane j c.args.w.now c.args.t)) (c.round.ensures j below)
