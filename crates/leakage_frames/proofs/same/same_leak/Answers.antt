use Rattle.std.proofs.Common.{ap}
use Rattle.leakage_frames.specs.Views.{leak_view}
use Rattle.leakage_frames.proofs.ViewLaws.{leak_view-one}
use Rattle.leakage_frames.proofs.same.same_leak.Goals as goal

pub returns : goal.returns
returns c = (λ is. ap leak_view (c.same_item.ensures.0 is), λ same. c.same_item.ensures.1 (leak_view-one c.args.left.now c.args.right.now same))
