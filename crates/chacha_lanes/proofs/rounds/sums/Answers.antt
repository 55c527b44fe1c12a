use Rattle.std.proofs.Common.{[], ◌∷◌}
use Rattle.chacha_lanes.proofs.rounds.sums.Goals as goal

pub returns : goal.returns
returns c j below = λ i.
    c.add.ensures j below i ∷ c.add-2.ensures j below i ∷ c.add-3.ensures j below i ∷ c.add-4.ensures j below i
    ∷ c.add-5.ensures j below i ∷ c.add-6.ensures j below i ∷ c.add-7.ensures j below i ∷ c.add-8.ensures j below i
    ∷ c.add-9.ensures j below i ∷ c.add-10.ensures j below i ∷ c.add-11.ensures j below i ∷ c.add-12.ensures j below i
    ∷ c.add-13.ensures j below i ∷ c.add-14.ensures j below i ∷ c.add-15.ensures j below i ∷ c.add-16.ensures j below i ∷ []
