-- The words in one lane of vectors.
use Rattle.std.proofs.Common.{◌≡◌, ℕ, zero, suc, ◌+◌, ◌%◌, ◌<◌, List, [], ◌∷◌, slice_index, slice_index_or, ap, ◌∙◌, arith, refl}
use Rattle.sha2.specs.Sha256.{add32, add_state, round, small_sigma0, small_sigma1, window_word}
use Rattle.sha256_lanes.specs.Lanes.{lane}

-- word k of lane j of the vectors
abbrev pub lane_at : List (List ℕ) → ℕ → ℕ → ℕ
lane_at vectors k j = slice_index (slice_index_or vectors k []) j

pub slice_index-lane : (j : ℕ) (vectors : List (List ℕ)) (k : ℕ) → slice_index (lane j vectors) k ≡ lane_at vectors k j
slice_index-lane j [] k = refl
slice_index-lane j (v ∷ vectors) zero = refl
slice_index-lane j (v ∷ vectors) (suc k) = slice_index-lane j vectors k

-- the next word of the schedule reads four words of the lane
pub window_word-lane : (j : ℕ) (w : List (List ℕ)) (t : ℕ) → t < 16
    → window_word (lane j w) t
    ≡ add32 (add32 (add32 (small_sigma1 (lane_at w ((t + 14) % 16) j)) (lane_at w ((t + 9) % 16) j)) (small_sigma0 (lane_at w ((t + 1) % 16) j))) (lane_at w t j)
window_word-lane j w t low =
    let at = slice_index-lane j w in
    let place : t % 16 ≡ t = omega arith in
    let last = at (t % 16) ∙ ap (λ (k : ℕ). lane_at w k j) place in
    λ i. add32 (add32 (add32 (small_sigma1 (at ((t + 14) % 16) i)) (at ((t + 9) % 16) i)) (small_sigma0 (at ((t + 1) % 16) i))) (last i)

-- a round reads the eight words of the lane
pub round-lane : (j : ℕ) (v : List (List ℕ)) (k word : ℕ)
    → round (lane j v) k word
    ≡ round (lane_at v 0 j ∷ lane_at v 1 j ∷ lane_at v 2 j ∷ lane_at v 3 j ∷ lane_at v 4 j ∷ lane_at v 5 j ∷ lane_at v 6 j ∷ lane_at v 7 j ∷ []) k word
round-lane j v k word =
    let at = slice_index-lane j v in
    λ i. round (at 0 i ∷ at 1 i ∷ at 2 i ∷ at 3 i ∷ at 4 i ∷ at 5 i ∷ at 6 i ∷ at 7 i ∷ []) k word

-- so does the sum of two hash values
pub add_state-lane : (j : ℕ) (h v : List (List ℕ))
    → add_state (lane j h) (lane j v)
    ≡ add_state (lane_at h 0 j ∷ lane_at h 1 j ∷ lane_at h 2 j ∷ lane_at h 3 j ∷ lane_at h 4 j ∷ lane_at h 5 j ∷ lane_at h 6 j ∷ lane_at h 7 j ∷ [])
    (lane_at v 0 j ∷ lane_at v 1 j ∷ lane_at v 2 j ∷ lane_at v 3 j ∷ lane_at v 4 j ∷ lane_at v 5 j ∷ lane_at v 6 j ∷ lane_at v 7 j ∷ [])
add_state-lane j h v =
    let a = slice_index-lane j h in
    let b = slice_index-lane j v in
    λ i. add_state (a 0 i ∷ a 1 i ∷ a 2 i ∷ a 3 i ∷ a 4 i ∷ a 5 i ∷ a 6 i ∷ a 7 i ∷ [])
    (b 0 i ∷ b 1 i ∷ b 2 i ∷ b 3 i ∷ b 4 i ∷ b 5 i ∷ b 6 i ∷ b 7 i ∷ [])
