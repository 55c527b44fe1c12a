use Rattle.std.proofs.Common.{[], ◌∷◌}
use Rattle.sha2.specs.Sha256.{first_words}
use Rattle.hmac_lanes.proofs.blocks.words_of.Goals as goal

pub returns : goal.returns
unfolding first_words
returns c j below = λ i.
    c.words_at.ensures j below i ∷ c.words_at-2.ensures j below i ∷ c.words_at-3.ensures j below i ∷ c.words_at-4.ensures j below i
    ∷ c.words_at-5.ensures j below i ∷ c.words_at-6.ensures j below i ∷ c.words_at-7.ensures j below i ∷ c.words_at-8.ensures j below i
    ∷ c.words_at-9.ensures j below i ∷ c.words_at-10.ensures j below i ∷ c.words_at-11.ensures j below i ∷ c.words_at-12.ensures j below i
    ∷ c.words_at-13.ensures j below i ∷ c.words_at-14.ensures j below i ∷ c.words_at-15.ensures j below i ∷ c.words_at-16.ensures j below i ∷ []
