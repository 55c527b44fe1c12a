-- The rank of a position is its place in the stable order by tags.
use Rattle.std.proofs.Common.{◌≡◌, ℕ, suc, ◌+◌, ◌<◌, Bool, true, false, cond, ◌&&◌, List, [], ◌∷◌, length, get_or, filter, refl, sym, ap, ◌∙◌, arith, zero-add}
use Rattle.std.specs.Prelude.{bytes_eq, nat_lt, ◌||◌}
use Rattle.std.specs.List.{range_with_len}
use Rattle.std.proofs.lemmas.List.FromFn.{get_or-map-range_with_len}
use Rattle.sse_frames.specs.Order.{is_below}
use Rattle.sse_frames.proofs.Sorted.{length-by_bytes}
use Rattle.sse_model.specs.Positions.{comes_before, ranks_of}
use Rattle.client_tag_order.specs.Tagged.{tagged_from}
use Rattle.client_tag_order.specs.declared.tagged.Tagged.{Tagged}
use Rattle.client_tag_order.proofs.InOrder.{all_at, all_tagged, before, count_before, count-by_bytes, key, length-tagged_from, make, pos, sorted_tagged, InOrder-by_bytes, IsPlaced, PositionsRise-tagged_from, sorted-IsPlaced}

counted : (P : ℕ → Bool) (Q : Tagged → Bool) (a : ℕ) (ts : List (List ℕ)) → ((k : ℕ) → k < length ts → P (a + k) ≡ Q (make (get_or ts k []) (a + k)))
    → length (filter P (range_with_len a (length ts))) ≡ length (filter Q (tagged_from a ts))
counted P Q a [] same = refl
counted P Q a (t ∷ ts) same =
    let here : P a ≡ Q (make t a) = let e : a ≡ a + 0 = omega arith in ap P e ∙ same 0 (omega arith) ∙ ap (λ n. Q (make t n)) (sym e) in
    by (P a) (Q (make t a)) here (filter P (range_with_len (a + 1) (length ts))) (filter Q (tagged_from (a + 1) ts)) (counted P Q (a + 1) ts (λ k within.
    let e : a + 1 + k ≡ a + suc k = omega arith in
    ap P e ∙ same (suc k) (omega arith) ∙ ap (λ n. Q (make (get_or ts k []) n)) (sym e)))
  where
    by : (p q : Bool) → p ≡ q → (ns : List ℕ) (xs : List Tagged) → length ns ≡ length xs → length (cond p (a ∷ ns) ns) ≡ length (cond q (make t a ∷ xs) xs)
    by true true e ns xs more = ap (λ (n : ℕ). suc n) more
    by false false e ns xs more = more
    by true false e ns xs more = absurd (cc)
    by false true e ns xs more = absurd (cc)

-- whether a tag at one position comes before a tag at another
abbrev precedes : List ℕ → ℕ → List ℕ → ℕ → Bool
precedes u i t j = is_below u t || bytes_eq u t && nat_lt i j

before-made : (u t : List ℕ) (i j : ℕ) → before key pos (make t j) (make u i) ≡ precedes u i t j
before-made u t i j = refl

module _ (tags : List (List ℕ)) where
  -- the rank of a position is how many of the tagged come before its own
  rank_counted : (j : ℕ) → j < length tags → get_or (ranks_of tags) j 0 ≡ length (filter (before key pos (make (get_or tags j []) j)) (all_tagged tags))
  rank_counted j within =
      get_or-map-range_with_len (λ i. length (filter (comes_before tags i) (range_with_len 0 (length tags)))) 0 (length tags) j j 0 within (zero-add j)
      ∙ counted (comes_before tags j) (before key pos (make (get_or tags j []) j)) 0 tags (λ k inside.
      ap (λ i. precedes (get_or tags i []) (0 + k) (get_or tags j []) j) (zero-add k)
      ∙ sym (before-made (get_or tags k []) (get_or tags j []) (0 + k) j))

  -- the rank of a position is its place in the stable order by tags
  pub rank_of_place : (k : ℕ) (d : Tagged) → k < length tags → get_or (ranks_of tags) (pos (get_or (sorted_tagged tags) k d)) 0 ≡ k
  rank_of_place k d within =
      let e : Tagged = get_or (sorted_tagged tags) k d in
      let inside : k < length (sorted_tagged tags) = omega (arith, length-by_bytes key (all_tagged tags), length-tagged_from 0 tags, within) in
      let placed : IsPlaced tags e = all_at (IsPlaced tags) (sorted_tagged tags) k d (sorted-IsPlaced tags) inside in
      rank_counted (pos e) placed.0
      ∙ ap (λ x. length (filter (before key pos x) (all_tagged tags))) (sym placed.1)
      ∙ sym (count-by_bytes key pos (before key pos e) (all_tagged tags))
      ∙ count_before key pos (sorted_tagged tags) k d inside (InOrder-by_bytes key pos (all_tagged tags) (PositionsRise-tagged_from 0 tags))
