use Rattle.std.proofs.Common.{◌≡◌, ◌+◌, ◌++◌, ◌∷◌, ℕ, [], get_or, map, sym, ap, ◌∙◌, arith}
use Rattle.std.specs.List.{range_with_len}
use Rattle.std.proofs.lemmas.List.{map-id, map_push, take_more}
use Rattle.std.proofs.lemmas.List.FromFn.{map-range_with_len_more}
use Rattle.revocation_ids.specs.declared.numbered_word.NumberedWord.{NumberedWord}
use Rattle.client_core.proofs.update_plans.places_of.Goals as goal

pub loop-i-preserved : goal.loop-i-preserved
loop-i-preserved c =
    let i = c.loop-i.i in
    let numbers = c.args.numbers.now in
    let items = c.loop-i.places.items in
    let place : NumberedWord = record { position = i; number = get_or numbers i 0 } in
    let number : NumberedWord → ℕ = λ p. p.number in
    let position : NumberedWord → ℕ = λ p. p.position in
    let more : range_with_len 0 (i + 1) ≡ range_with_len 0 i ++ i ∷ [] =
    sym (map-id (range_with_len 0 (i + 1))) ∙ map-range_with_len_more (λ n. n) 0 i i (omega arith) ∙ ap (λ ns. ns ++ i ∷ []) (map-id (range_with_len 0 i)) in
    record {
      numbers =
          ap (map number) c.in_ok-push.ensures.items ∙ map_push number items place ∙ ap (λ ns. ns ++ get_or numbers i 0 ∷ []) c.loop-i.invariant.numbers
          ∙ sym (take_more numbers i 0 c.loop-i-test.true);
      positions =
          ap (map position) c.in_ok-push.ensures.items ∙ map_push position items place ∙ ap (λ ns. ns ++ i ∷ []) c.loop-i.invariant.positions ∙ sym more;
    }
