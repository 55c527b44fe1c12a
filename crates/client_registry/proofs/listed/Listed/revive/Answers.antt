use Rattle.std.proofs.Common.{◌≡◌, ℕ, ◌++◌, filter, not, nat_eq, ap, sym, subst, ◌∙◌}
use Rattle.std.specs.List.{list_any}
use Rattle.std.specs.List.Sorted.{IsNonDecreasing}
use Rattle.std.proofs.lemmas.List.Sorted.{IsNonDecreasingBy-from_sort, list_any-IsPermutation}
use Rattle.client_registry.proofs.listed.Listed.revive.Goals as goal

pub append_others-requires-clause-in_order : goal.append_others-requires-clause-in_order
append_others-requires-clause-in_order c =
    subst IsNonDecreasing (sym c.deref-3.ensures.value) (IsNonDecreasingBy-from_sort (λ n. n) c.sort_unstable.new.self.items c.sort_unstable.ensures.sorted)

pub returns-clause-numbers : goal.returns-clause-numbers
returns-clause-numbers c =
    let next = c.args.next.now.items in
    let old = c.args.self.now.numbers.items in
    let again = c.sort_unstable.new.self.items in
    let copied = c.append.ensures.items ∙ ap (λ xs. xs ++ c.deref.result.now) c.requires.empty ∙ c.deref.ensures.value in
    let same : (n : ℕ) → list_any (nat_eq n) again ≡ list_any (nat_eq n) next =
    λ n. sym (list_any-IsPermutation (nat_eq n) c.append.new.to.items again c.sort_unstable.ensures.permutation) ∙ ap (list_any (nat_eq n)) copied in
    ap (λ v. v.items) c.swap.ensures.x_after
    ∙ c.append_others.ensures
    ∙ ap (λ xs. next ++ filter (λ n. not (list_any (nat_eq n) c.deref-3.result.now)) xs) c.deref-2.ensures.value
    ∙ ap (λ xs. next ++ filter (λ n. not (list_any (nat_eq n) xs)) old) c.deref-3.ensures.value
    ∙ (λ i. next ++ filter (λ n. not (same n i)) old)
