-- One more number, read off the next 8 bytes.
use Rattle.std.proofs.Common.{◌≡◌, ℕ, zero, suc, ◌+◌, ◌*◌, List, [], ◌∷◌, ◌++◌, map, take, drop, sym, ap, ◌∙◌, append_assoc, add-one, arith}
use Rattle.std.specs.Int.{w64, from_be_bytes}
use Rattle.std.specs.Simd.{first_chunks}
use Rattle.std.proofs.lemmas.List.{drop-drop, map-append}

chunks_then : (size n : ℕ) (xs : List ℕ) → first_chunks size (suc n) xs ≡ first_chunks size n xs ++ take size (drop (size * n) xs) ∷ []
chunks_then size zero xs =
    let none : size * 0 ≡ 0 = omega arith in
    ap (λ (k : ℕ). take size (drop k xs) ∷ []) (sym none)
chunks_then size (suc n) xs =
    let more : size + size * n ≡ size * suc n = omega arith in
    ap (λ (rest : List (List ℕ)). take size xs ∷ rest) (chunks_then size n (drop size xs))
    ∙ ap (λ (bytes : List ℕ). take size xs ∷ first_chunks size n (drop size xs) ++ take size bytes ∷ []) (drop-drop (size * n) size xs)
    ∙ ap (λ (k : ℕ). take size xs ∷ first_chunks size n (drop size xs) ++ take size (drop k xs) ∷ []) more

-- one more number after those that were appended
pub one_more : (start out new ids : List ℕ) (i n size : ℕ) → size ≡ 8 → out ≡ start ++ map (from_be_bytes w64) (first_chunks 8 i ids) → new ≡ out ++ n ∷ [] → n ≡ from_be_bytes w64 (take size (drop (8 * i) ids))
    → new ≡ start ++ map (from_be_bytes w64) (first_chunks 8 (i + 1) ids)
one_more start out new ids i n size eight e f g =
    let be = from_be_bytes w64 in
    f ∙ ap (λ (x : List ℕ). x ++ n ∷ []) e
    ∙ append_assoc start (map be (first_chunks 8 i ids)) (n ∷ [])
    ∙ ap (λ (m : ℕ). start ++ (map be (first_chunks 8 i ids) ++ m ∷ [])) (g ∙ ap (λ (k : ℕ). be (take k (drop (8 * i) ids))) eight)
    ∙ ap (λ (x : List ℕ). start ++ x) (sym (map-append be (first_chunks 8 i ids) (take 8 (drop (8 * i) ids) ∷ [])))
    ∙ ap (λ (pieces : List (List ℕ)). start ++ map be pieces) (sym (chunks_then 8 i ids))
    ∙ ap (λ (k : ℕ). start ++ map be (first_chunks 8 k ids)) (sym (add-one i))
