use Rattle.std.proofs.Common.{[], ◌∷◌, ◌++◌, get_or, refl, ap, ◌∙◌}
use Rattle.std.specs.Prelude.{bit_xor}
use Rattle.leakage_values.proofs.More.{more-range}
use Rattle.leakage_draws.proofs.bytes.masked.Goals as goal

pub loop-i-preserved : goal.loop-i-preserved
loop-i-preserved c =
    c.in_ok-push.ensures.ok
    ∙ ap (λ b. c.loop-i.text ++ bit_xor (get_or c.args.bytes.now c.loop-i.i 0) b ∷ []) c.byte_at.ensures
    ∙ more-range (λ i. bit_xor (get_or c.args.bytes.now i 0) (get_or c.args.pad.now i 0)) [] c.loop-i.text c.loop-i.i _ c.loop-i.invariant refl
