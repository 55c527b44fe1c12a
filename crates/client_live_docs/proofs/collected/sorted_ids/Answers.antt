use Rattle.std.proofs.Common.{ℕ, ◌<◌, List, [], ◌∷◌, length, map, rules, ap, ◌∙◌, arith}
use Rattle.std.specs.List.Sorted.{IsNonDecreasing, IsNonDecreasingBy}
use Rattle.std.proofs.lemmas.List.{get_or-map, length-map}
use Rattle.std.proofs.lemmas.List.Sorted.{IsNonDecreasingBy-from_sort_by_key, IsPermutation-map}
use Rattle.client_registry.proofs.OrderLaws.{in_order-sorted}
use Rattle.client_registry.specs.IdNumber.{id_number}
use Rattle.client_registry.specs.Live.{in_order}
use Rattle.client_live_docs.proofs.collected.sorted_ids.Goals as goal

mapped_in_order : {A : Type 0} (n : A → ℕ) (xs : List A) → IsNonDecreasingBy n xs → IsNonDecreasing (map n xs)
mapped_in_order n [] up = λ i j d le lt. absurd (omega (arith, lt))
mapped_in_order n (x ∷ xs) up =
    λ i j d le lt.
    let within : j < length (x ∷ xs) = omega (arith, lt, length-map (x ∷ xs) n) in
    omega (arith, up i j x le within, get_or-map n (x ∷ xs) i x d (omega (arith, le, within)), get_or-map n (x ∷ xs) j x d within)

pub returns : goal.returns
returns c =
    in_order-sorted (map id_number c.in_ok-ids.ids.items) (map id_number c.sort_unstable_by_key.new.self.items)
    (IsPermutation-map id_number c.in_ok-ids.ids.items c.sort_unstable_by_key.new.self.items c.sort_unstable_by_key.ensures.permutation)
    (mapped_in_order id_number c.sort_unstable_by_key.new.self.items
    (IsNonDecreasingBy-from_sort_by_key id_number c.sort_unstable_by_key.new.self.items c.sort_unstable_by_key.ensures.sorted (λ a r f k. search rules)))
    ∙ ap in_order c.in_ok-ids.ensures
