use Rattle.std.proofs.Common.{◌≡◌, ◌/◌, ◌%◌, ◌^◌, [], ◌∷◌, sym, ◌∙◌, arith}
use Rattle.chacha_lanes.proofs.states.initial_states.Goals as goal

pub returns : goal.returns
returns c j below =
    let low : c.args.counter % 2 ^ 32 ≡ c.args.counter = omega (arith, c.ranges.counter.fits) in
    let high : c.args.counter / 2 ^ 32 ≡ 0 = omega (arith, c.ranges.counter.fits) in
    let counter = c.same-5.ensures j below ∙ sym low in
    let zeros = c.same-6.ensures j below ∙ sym high in
    λ i.
    c.same.ensures j below i ∷ c.same-2.ensures j below i ∷ c.same-3.ensures j below i ∷ c.same-4.ensures j below i
    ∷ c.key_words.ensures j below i ∷ c.key_words-2.ensures j below i ∷ c.key_words-3.ensures j below i ∷ c.key_words-4.ensures j below i
    ∷ c.key_words-5.ensures j below i ∷ c.key_words-6.ensures j below i ∷ c.key_words-7.ensures j below i ∷ c.key_words-8.ensures j below i
    ∷ counter i ∷ zeros i ∷ c.low_words.ensures j below i ∷ c.high_words.ensures j below i ∷ []
