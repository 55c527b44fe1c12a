-- A list that a loop makes longer by what is made of one number more.
use Rattle.std.proofs.Common.{◌≡◌, ℕ, ◌+◌, List, [], ◌∷◌, ◌++◌, map, zero-add, sym, ap, ◌∙◌, append_assoc}
use Rattle.std.specs.List.{range_with_len}
use Rattle.std.proofs.lemmas.List.FromFn.{map-range_with_len_more}

pub more-range : {X : Type 0} (f : ℕ → X) (old now : List X) (n : ℕ) (x : X) → now ≡ old ++ map f (range_with_len 0 n) → x ≡ f n
    → now ++ x ∷ [] ≡ old ++ map f (range_with_len 0 (n + 1))
more-range f old now n x are is =
    (λ i. are i ++ is i ∷ [])
    ∙ append_assoc old (map f (range_with_len 0 n)) (f n ∷ [])
    ∙ ap (λ ys. old ++ ys) (sym (map-range_with_len_more f 0 n n (zero-add n)))
