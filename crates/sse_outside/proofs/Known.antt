-- Bytes that are told, with more after them.
use Rattle.std.proofs.Common.{◌≡◌, ℕ, ◌+◌, List, ◌++◌, take, drop, None, Some, refl, sym, ap, ◌∙◌, append_assoc}
use Rattle.std.specs.declared.option.Option.{Option}
use Rattle.std.specs.Io.KnownBytes.{append_known}
use Rattle.std.proofs.Math.Seq.{take-add}

-- a list and then another are both together
pub append_known-twice : (known : Option (List ℕ)) (a b : List ℕ) → append_known (append_known known a) b ≡ append_known known (a ++ b)
append_known-twice None a b = refl
append_known-twice (Some x) a b = ap Some (append_assoc x a b)

-- a front, and then a front of the rest, are a front
pub append_known-front : (old mid new : Option (List ℕ)) (xs rest : List ℕ) (m n : ℕ)
    → mid ≡ append_known old (take m xs) → rest ≡ drop m xs → new ≡ append_known mid (take n rest)
    → new ≡ append_known old (take (m + n) xs)
append_known-front old mid new xs rest m n first is_rest more =
    more
    ∙ ap (λ k. append_known k (take n rest)) first
    ∙ append_known-twice old (take m xs) (take n rest)
    ∙ ap (λ l. append_known old (take m xs ++ take n l)) is_rest
    ∙ ap (append_known old) (sym (take-add m n xs))
