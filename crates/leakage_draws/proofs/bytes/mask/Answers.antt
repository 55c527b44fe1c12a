use Rattle.std.proofs.Common.{inl, inr, length, get_or, sym, ap, ◌∙◌, arith}
use Rattle.std.specs.Prelude.{bit_xor}
use Rattle.std.specs.Int.Bits.{xor_zero_r}
use Rattle.std.proofs.lemmas.Bool.{cases_lt}
use Rattle.std.proofs.lemmas.List.{get_or_past}
use Rattle.std.proofs.lemmas.List.FromFn.{fill_by_all}
use Rattle.leakage_draws.proofs.bytes.mask.Goals as goal

pub returns : goal.returns
returns c =
    let bytes = c.args.bytes.now in
    let text = c.args.text.now in
    fill_by_all _ _ (length bytes) 0 c.loop-i.auto.bytes
    (λ k within. elim (cases_lt k c.loop-i.i) [
      | inl done ↦ c.loop-i.invariant.done k done
      | inr left ↦
          c.loop-i.invariant.rest k left
          ∙ sym (xor_zero_r (get_or bytes k 0))
          ∙ ap (bit_xor (get_or bytes k 0)) (sym (get_or_past text k 0 (omega (arith, left, within, c.loop-i-test.false, c.min-shared.ensures))))
    ])
