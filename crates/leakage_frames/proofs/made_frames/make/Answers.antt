use Rattle.std.proofs.Common.{map}
use Rattle.std.proofs.lemmas.Result.{on_ok_weaker}
use Rattle.leakage_frames.specs.MadeFrames.{kept_view}
use Rattle.leakage_frames.proofs.made_frames.make.Goals as goal

pub returns-in-Setup : goal.returns-in-Setup
returns-in-Setup c =
    rw c.in-Setup.is (record { made = on_ok_weaker c.make_setup.result (λ made. made (map kept_view c.args.kept.now)) c.make_setup.ensures.made })
