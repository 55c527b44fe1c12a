use Rattle.sha256_lanes.proofs.Rotations.{shifts_right}
use Rattle.sha256_lanes.proofs.words.shift_right.Goals as goal

pub returns : goal.returns
returns c = shifts_right c.args.k c.args.x c.fits-x.0
