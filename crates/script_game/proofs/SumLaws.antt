-- Sums modulo 3.
use Rattle.std.proofs.Common.{◌≡◌, ℕ, ◌+◌, ◌<◌, ◌%◌, List, length, take, get_or, ap, ◌∙◌, arith}
use Rattle.std.specs.Prelude.{sum}
use Rattle.std.proofs.lemmas.List.Sums.{sum_by_more}

wrapped : (a b : ℕ) → (a % 3 + b) % 3 ≡ (a + b) % 3
wrapped a b = omega arith

-- one byte more
pub one_byte : (start : ℕ) (bytes : List ℕ) (i d now then : ℕ) → i < length bytes → now ≡ (start + sum (take i bytes)) % 3 → then ≡ (now + get_or bytes i d) % 3
    → then ≡ (start + sum (take (i + 1) bytes)) % 3
one_byte start bytes i d now then within is more =
    more
    ∙ ap (λ n. (n + get_or bytes i d) % 3) is
    ∙ wrapped (start + sum (take i bytes)) (get_or bytes i d)
    ∙ ap (λ n. n % 3) (let next = sum_by_more (λ x. x) bytes i d within in omega (arith, next))
