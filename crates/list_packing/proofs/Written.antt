-- A list whose end is written anew.
use borrow.Rule.Slice.PartMut.{put_mid}
use Rattle.std.proofs.Common.{◌≡◌, ℕ, ◌+◌, ◌≤◌, ◌++◌, List, length, take, drop, length-drop, ap, ◌∙◌, arith}
use Rattle.std.proofs.lemmas.List.{append-nil, drop_all}

-- a write from place a to the end leaves what stood before it
pub put_mid-to_end : (a k : ℕ) (xs ys : List ℕ) → length xs ≤ a + k → put_mid a k xs ys ≡ take a xs ++ ys
put_mid-to_end a k xs ys reaches =
    ap (λ rest. take a xs ++ (ys ++ rest)) (drop_all k (drop a xs) (omega (arith, length-drop a xs)))
    ∙ ap (λ back. take a xs ++ back) (append-nil ys)
