-- Shifts of all lanes of a vector by one number, and rotations made of two shifts.
use Rattle.std.proofs.Common.{◌≡◌, ℕ, zero, suc, ◌<◌, ◌-◌, ◌*◌, ◌/◌, ◌%◌, ◌^◌, List, [], ◌∷◌, length, slice_index, bit_or, w32, arith, refl}
use Rattle.std.specs.Simd.Lanes.{zip2}
use Rattle.std.specs.Int.{rotate_right}

-- what holds of each of the eight lanes
below_eight : (P : ℕ → Type 0) → P 0 → P 1 → P 2 → P 3 → P 4 → P 5 → P 6 → P 7 → (j : ℕ) → j < 8 → P j
below_eight P p0 p1 p2 p3 p4 p5 p6 p7 zero h = p0
below_eight P p0 p1 p2 p3 p4 p5 p6 p7 (suc zero) h = p1
below_eight P p0 p1 p2 p3 p4 p5 p6 p7 (suc (suc zero)) h = p2
below_eight P p0 p1 p2 p3 p4 p5 p6 p7 (suc (suc (suc zero))) h = p3
below_eight P p0 p1 p2 p3 p4 p5 p6 p7 (suc (suc (suc (suc zero)))) h = p4
below_eight P p0 p1 p2 p3 p4 p5 p6 p7 (suc (suc (suc (suc (suc zero))))) h = p5
below_eight P p0 p1 p2 p3 p4 p5 p6 p7 (suc (suc (suc (suc (suc (suc zero)))))) h = p6
below_eight P p0 p1 p2 p3 p4 p5 p6 p7 (suc (suc (suc (suc (suc (suc (suc zero))))))) h = p7
below_eight P p0 p1 p2 p3 p4 p5 p6 p7 (suc (suc (suc (suc (suc (suc (suc (suc n)))))))) h = absurd (omega arith)

-- what holds of each list of eight elements
eight_lanes : (P : List ℕ → Type 0) → ((a0 a1 a2 a3 a4 a5 a6 a7 : ℕ) → P (a0 ∷ a1 ∷ a2 ∷ a3 ∷ a4 ∷ a5 ∷ a6 ∷ a7 ∷ [])) → (xs : List ℕ) → length xs ≡ 8 → P xs
eight_lanes P p (a0 ∷ a1 ∷ a2 ∷ a3 ∷ a4 ∷ a5 ∷ a6 ∷ a7 ∷ []) h = p a0 a1 a2 a3 a4 a5 a6 a7
eight_lanes P p [] h = absurd (omega arith)
eight_lanes P p (a0 ∷ []) h = absurd (omega arith)
eight_lanes P p (a0 ∷ a1 ∷ []) h = absurd (omega arith)
eight_lanes P p (a0 ∷ a1 ∷ a2 ∷ []) h = absurd (omega arith)
eight_lanes P p (a0 ∷ a1 ∷ a2 ∷ a3 ∷ []) h = absurd (omega arith)
eight_lanes P p (a0 ∷ a1 ∷ a2 ∷ a3 ∷ a4 ∷ []) h = absurd (omega arith)
eight_lanes P p (a0 ∷ a1 ∷ a2 ∷ a3 ∷ a4 ∷ a5 ∷ []) h = absurd (omega arith)
eight_lanes P p (a0 ∷ a1 ∷ a2 ∷ a3 ∷ a4 ∷ a5 ∷ a6 ∷ []) h = absurd (omega arith)
eight_lanes P p (a0 ∷ a1 ∷ a2 ∷ a3 ∷ a4 ∷ a5 ∷ a6 ∷ a7 ∷ z ∷ xs) h = absurd (omega arith)

-- a shift of each lane
abbrev Shifts : ℕ → List ℕ → Type 0
Shifts k a = (j : ℕ) → j < 8 → slice_index (zip2 (λ x n. x / 2 ^ n) a (k ∷ k ∷ k ∷ k ∷ k ∷ k ∷ k ∷ k ∷ [])) j ≡ slice_index a j / 2 ^ k

pub shifts_right : (k : ℕ) (a : List ℕ) → length a ≡ 8 → Shifts k a
shifts_right k =
    eight_lanes (Shifts k) (λ a0 a1 a2 a3 a4 a5 a6 a7. below_eight _ refl refl refl refl refl refl refl refl)

-- two shifts of each lane, joined by or
abbrev Rotates : ℕ → List ℕ → Type 0
Rotates k a = (j : ℕ) → j < 8
    → slice_index (zip2 bit_or
    (zip2 (λ x n. x / 2 ^ n) a (k ∷ k ∷ k ∷ k ∷ k ∷ k ∷ k ∷ k ∷ []))
    (zip2 (λ x n. x * 2 ^ n % 2 ^ 32) a ((32 - k) ∷ (32 - k) ∷ (32 - k) ∷ (32 - k) ∷ (32 - k) ∷ (32 - k) ∷ (32 - k) ∷ (32 - k) ∷ []))) j
    ≡ rotate_right w32 (slice_index a j) k

pub shifts_rotate : (k : ℕ) → 0 < k → k < 32 → (a : List ℕ) → length a ≡ 8 → Rotates k a
shifts_rotate k low high =
    let left : k % 32 ≡ k = omega arith in
    let right : (32 - k) % 32 ≡ 32 - k = omega arith in
    eight_lanes (Rotates k) (λ a0 a1 a2 a3 a4 a5 a6 a7.
    below_eight _ (rw (left, right) refl) (rw (left, right) refl) (rw (left, right) refl) (rw (left, right) refl) (rw (left, right) refl) (rw (left, right) refl) (rw (left, right) refl) (rw (left, right) refl))
