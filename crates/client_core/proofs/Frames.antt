-- The frames that are left once one more was acknowledged.
use Rattle.std.proofs.Common.{◌≡◌, ℕ, zero, suc, ◌+◌, ◌<◌, ◌≤◌, List, [], ◌∷◌, map, length, get_or, take, drop, refl, sym, ap, ◌∙◌, arith}
use Rattle.std.proofs.lemmas.List.{drop-drop, length-drop, length-map, nil_from_length}
use Rattle.sse_frames.specs.Frames.{FrameText, frame_bytes}
use Rattle.sse_frames.specs.SentParts.{numbered}
use Rattle.client_core.proofs.FramesAt.{length-numbered}

tail : (q : ℕ) (fs : List (ℕ → FrameText)) → map frame_bytes (numbered (q + 1) (drop 1 fs)) ≡ drop 1 (map frame_bytes (numbered q fs))
tail q [] = refl
tail q (f ∷ fs) = refl

tail_behind : (n q : ℕ) (fs : List (ℕ → FrameText)) → map frame_bytes (numbered (q + n) (drop n fs)) ≡ drop n (map frame_bytes (numbered q fs))
tail_behind zero q fs = let same : q + 0 ≡ q = omega arith in ap (λ m. map frame_bytes (numbered m fs)) same
tail_behind (suc n) q [] = refl
tail_behind (suc n) q (f ∷ fs) = let same : q + suc n ≡ q + 1 + n = omega arith in ap (λ m. map frame_bytes (numbered m (drop n fs))) same ∙ tail_behind n (q + 1) fs

module _ (next place : ℕ) (fs : List (ℕ → FrameText)) where
  -- one frame less is left
  pub one_less : map frame_bytes (numbered (next + 1) (drop (place + 1) fs)) ≡ drop 1 (map frame_bytes (numbered next (drop place fs)))
  one_less = ap (λ gs. map frame_bytes (numbered (next + 1) gs)) (sym (drop-drop 1 place fs)) ∙ tail next (drop place fs)

  -- so many less are left
  pub some_less : (n : ℕ) → map frame_bytes (numbered (next + n) (drop (place + n) fs)) ≡ drop n (map frame_bytes (numbered next (drop place fs)))
  some_less n = ap (λ gs. map frame_bytes (numbered (next + n) gs)) (sym (drop-drop n place fs)) ∙ tail_behind n next (drop place fs)

  -- after the last frame none is left
  pub none_left : length fs ≤ place + 1 → drop 1 (map frame_bytes (numbered next (drop place fs))) ≡ []
  none_left most =
      let left = numbered next (drop place fs) in
      nil_from_length (drop 1 (map frame_bytes left)) (omega (arith, most, length-drop 1 (map frame_bytes left), length-map left frame_bytes, length-numbered next (drop place fs), length-drop place fs))

-- the first of the frames that are left
pub first_left : (next place : ℕ) (fs : List (ℕ → FrameText)) (e : ℕ → FrameText) → place < length fs → take 1 (map frame_bytes (numbered next (drop place fs))) ≡ frame_bytes (get_or fs place e next) ∷ []
first_left next place [] e within = absurd (omega arith)
first_left next zero (f ∷ fs) e within = refl
first_left next (suc place) (f ∷ fs) e within = first_left next place fs e (omega (arith, within))
