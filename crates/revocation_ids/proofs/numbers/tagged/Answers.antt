use Rattle.std.proofs.Common.{◌≡◌, ◌+◌, ◌++◌, ◌∷◌, [], ℕ, get_or, length, sym, ap, take, ◌∙◌, arith}
use Rattle.std.proofs.lemmas.List.{length-take-le, take_more}
use Rattle.client_tag_order.proofs.InOrder.{make, tagged_from-push}
use Rattle.client_tag_order.specs.Tagged.{tagged_from}
use Rattle.revocation_ids.proofs.numbers.tagged.Goals as goal

pub loop-i-preserved : goal.loop-i-preserved
loop-i-preserved c =
    let i = c.loop-i.i in
    let numbers = c.args.numbers.now in
    let front = take i numbers in
    let number = get_or numbers i [] in
    let here : 0 + length front ≡ i = omega (arith, c.loop-i-test.true, length-take-le i numbers) in
    c.in_ok-push.ensures.items
    ∙ ap (λ xs. xs ++ make number i ∷ []) c.loop-i.invariant
    ∙ sym (ap (tagged_from 0) (take_more numbers i [] c.loop-i-test.true) ∙ tagged_from-push 0 front number ∙ ap (λ (k : ℕ). tagged_from 0 front ++ make number k ∷ []) here)
