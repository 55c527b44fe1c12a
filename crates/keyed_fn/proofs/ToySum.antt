-- The weighed sum of the toy function, byte by byte.
use Rattle.std.proofs.Common.{◌≡◌, ℕ, ◌+◌, ◌*◌, ◌%◌, ◌∙◌, ap, sym, map, arith}
use Rattle.std.specs.Prelude.{sum}
use Rattle.std.specs.List.{range_with_len}
use Rattle.std.proofs.lemmas.List.FromFn.{sum_by-map-range_with_len_more}
use Rattle.std.proofs.lemmas.Nat.{div-add-mod'}

-- modulo 256 the weight of a place may be reduced
same_weight : (s w j b : ℕ) → s ≡ w % 256 → (s + (j % 256 + 1) * b) % 256 ≡ (w + (j + 1) * b) % 256
same_weight s w j b so_far = omega (arith, so_far, ap (λ x. (x + 1) * b) (div-add-mod' j 256))

-- one more byte b at place j, where f gives each place its weight times its byte
pub one_more_weight : (f : ℕ → ℕ) (s j b : ℕ) → s ≡ sum (map f (range_with_len 0 j)) % 256 → f j ≡ (j + 1) * b →
    (s + (j % 256 + 1) * b) % 256 ≡ sum (map f (range_with_len 0 (j + 1))) % 256
one_more_weight f s j b so_far here =
    same_weight s (sum (map f (range_with_len 0 j))) j b so_far
    ∙ ap (λ x. (sum (map f (range_with_len 0 j)) + x) % 256) (sym here)
    ∙ ap (λ x. x % 256) (sym (sum_by-map-range_with_len_more (λ x. x) f 0 j j (omega arith)))
