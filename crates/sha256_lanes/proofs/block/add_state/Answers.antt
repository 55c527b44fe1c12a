use Rattle.std.proofs.Common.{sym, ◌∷◌, [], ◌∙◌}
use Rattle.sha256_lanes.proofs.Lanes.{add_state-lane}
use Rattle.sha256_lanes.proofs.block.add_state.Goals as goal

pub returns : goal.returns
returns c j below =
    (λ i.
    c.add.ensures j below i ∷ c.add-2.ensures j below i ∷ c.add-3.ensures j below i ∷ c.add-4.ensures j below i
    ∷ c.add-5.ensures j below i ∷ c.add-6.ensures j below i ∷ c.add-7.ensures j below i ∷ c.add-8.ensures j below i ∷ [])
    ∙ sym (add_state-lane j c.args.h.now c.args.v.now)
