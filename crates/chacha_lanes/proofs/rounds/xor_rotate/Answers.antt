use Rattle.chacha_lanes.proofs.Rotations.{shifts_rotate}
use Rattle.chacha_lanes.proofs.rounds.xor_rotate.Goals as goal

pub returns : goal.returns
returns c = shifts_rotate c.args.k c.requires.0 c.requires.1 c.args.x c.fits-x.0 c.args.y c.fits-y.0
