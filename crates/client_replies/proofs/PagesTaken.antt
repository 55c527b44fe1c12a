-- Pages that were taken one after the other, the last one marked, are the pages of their identifiers.
use Rattle.std.proofs.Common.{◌≡◌, ℕ, suc, ◌≤◌, List, [], ◌∷◌, ◌++◌, length, drop, refl, ap, ◌∙◌, length-append, arith}
use Rattle.std.specs.Int.{div_ceil}
use Rattle.std.specs.List.{flat_map}
use Rattle.std.specs.Simd.{first_chunks}
use Rattle.std.proofs.lemmas.Grind.{div_ceil_times}
use Rattle.std.proofs.lemmas.List.{append-nil, take_all, take_at, drop_at}
use Rattle.list_packing.specs.Parts.{parts}
use Rattle.sse_frames.specs.SentParts.{pages_of, pages}

-- all but the last are full, and none behind the first is empty
abbrev pub AreTaken : List ℕ → List (List ℕ) → Type 0
AreTaken ids [] = length ids ≤ 8192
AreTaken ids (more ∷ others) = (length ids ≡ 8192) × (1 ≤ length more) × AreTaken more others

part_alone : (ids : List ℕ) → 1 ≤ length ids → length ids ≤ 8192 → parts 8192 ids ≡ ids ∷ []
part_alone ids some most =
    let times = div_ceil_times (length ids) 8192 (omega arith) in
    let one : div_ceil (length ids) 8192 ≡ 1 = omega (arith, times.0, times.1, some, most) in
    ap (λ (k : ℕ). first_chunks 8192 k ids) one ∙ ap (λ (x : List ℕ). x ∷ []) (take_all 8192 ids most)

part_before : (ids rest : List ℕ) → length ids ≡ 8192 → 1 ≤ length rest → parts 8192 (ids ++ rest) ≡ ids ∷ parts 8192 rest
part_before ids rest full some =
    let all = length-append ids rest in
    let whole = div_ceil_times (length (ids ++ rest)) 8192 (omega arith) in
    let less = div_ceil_times (length rest) 8192 (omega arith) in
    let one : div_ceil (length (ids ++ rest)) 8192 ≡ suc (div_ceil (length rest) 8192) = omega (arith, all, whole.0, whole.1, less.0, less.1, full, some) in
    ap (λ (k : ℕ). first_chunks 8192 k (ids ++ rest)) one
    ∙ ap (λ (x : List ℕ). x ∷ first_chunks 8192 (div_ceil (length rest) 8192) (drop 8192 (ids ++ rest))) (take_at ids rest 8192 full)
    ∙ ap (λ (x : List ℕ). ids ∷ first_chunks 8192 (div_ceil (length rest) 8192) x) (drop_at ids rest 8192 full)

some_left : (ids : List ℕ) (others : List (List ℕ)) → 1 ≤ length ids → 1 ≤ length (flat_map (λ (x : List ℕ). x) (ids ∷ others))
some_left ids others some = omega (arith, length-append ids (flat_map (λ (x : List ℕ). x) others), some)

parts_taken : (ids : List ℕ) (others : List (List ℕ)) → 1 ≤ length ids → AreTaken ids others → parts 8192 (flat_map (λ (x : List ℕ). x) (ids ∷ others)) ≡ ids ∷ others
parts_taken ids [] some taken = ap (parts 8192) (append-nil ids) ∙ part_alone ids some taken
parts_taken ids (more ∷ others) some taken =
    part_before ids (flat_map (λ (x : List ℕ). x) (more ∷ others)) taken.0 (some_left more others taken.1)
    ∙ ap (λ (ps : List (List ℕ)). ids ∷ ps) (parts_taken more others taken.1 taken.2)

-- Promise P56, also here
-- pages that were taken are those of all their identifiers
pub pages-taken : (ids : List ℕ) (others : List (List ℕ)) → AreTaken ids others → pages (flat_map (λ (x : List ℕ). x) (ids ∷ others)) ≡ pages_of (ids ∷ others)
pages-taken [] [] taken = refl
pages-taken [] (more ∷ others) taken = absurd (omega (arith, taken.0))
pages-taken (id ∷ ids) others taken = ap pages_of (parts_taken (id ∷ ids) others (omega arith) taken)
