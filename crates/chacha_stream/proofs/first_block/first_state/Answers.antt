use Rattle.std.proofs.Common.{[], ◌∷◌}
use Rattle.chacha_stream.proofs.first_block.first_state.Goals as goal

pub returns : goal.returns
returns c = λ i.
    0x61707865 ∷ 0x3320646e ∷ 0x79622d32 ∷ 0x6b206574
    ∷ c.read_u32.ensures i ∷ c.read_u32-2.ensures i ∷ c.read_u32-3.ensures i ∷ c.read_u32-4.ensures i
    ∷ c.read_u32-5.ensures i ∷ c.read_u32-6.ensures i ∷ c.read_u32-7.ensures i ∷ c.read_u32-8.ensures i
    ∷ 0 ∷ 0 ∷ c.low.ensures i ∷ c.high.ensures i ∷ []
