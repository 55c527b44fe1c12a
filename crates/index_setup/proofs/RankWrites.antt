-- A loop over sorted tags that writes each position's place.
use Rattle.std.proofs.Common.{All, ◌≡◌, ℕ, ◌+◌, ◌<◌, List, [], length, get_or, set, sym, ap, subst, ◌∙◌, arith, inl, inr, zero-add}
use Rattle.std.proofs.lemmas.Bool.{cases_eq, cases_lt}
use Rattle.std.proofs.lemmas.List.{ext_get_or, get_or_default, get_or-set_same, get_or-set_other}
use Rattle.std.proofs.lemmas.List.FromFn.{length-map-range_with_len}
use Rattle.sse_frames.specs.Order.{by_bytes}
use Rattle.sse_model.specs.Positions.{ranks_of}
use Rattle.client_tag_order.specs.Tagged.{tagged_from, IsOrderOf}
use Rattle.client_tag_order.specs.declared.tagged.Tagged.{Tagged}
use Rattle.client_tag_order.proofs.FoundClash.{at, nothing}
use Rattle.client_tag_order.proofs.Neighbours.{sorted_place, length-order}
use Rattle.client_tag_order.proofs.InOrder.{key, pos, make, length-tagged_from, get_or-tagged_from, IsPlaced, sorted-IsPlaced, all_at}
use Rattle.index_setup.proofs.RankLaws.{rank_of_place}

pub length-ranks_of : (tags : List (List ℕ)) → length (ranks_of tags) ≡ length tags
length-ranks_of tags = length-map-range_with_len _ 0 (length tags)

module _ (tags : List (List ℕ)) (sorted : List Tagged) (is : IsOrderOf tags sorted) where
  pub length-sorted : length sorted ≡ length tags
  length-sorted = ap length is ∙ length-order tags nothing

  -- the place of the position at k is k
  pub rank_at : (k : ℕ) → k < length tags → get_or (ranks_of tags) (pos (at sorted k)) 0 ≡ k
  rank_at k within = ap (λ s. get_or (ranks_of tags) (pos (at s k)) 0) is ∙ rank_of_place tags k nothing within

  -- each of the sorted is the tag at its position
  pub placed_at : (k : ℕ) → k < length tags → IsPlaced tags (at sorted k)
  placed_at k within =
      subst (λ s. IsPlaced tags (at s k)) (sym is)
      (all_at (IsPlaced tags) (by_bytes key (tagged_from 0 tags)) k nothing (sorted-IsPlaced tags) (omega (arith, length-order tags nothing, within)))

  -- each position stands at its rank
  pub position_at_rank : (p : ℕ) → p < length tags → (get_or (ranks_of tags) p 0 < length tags) × (at sorted (get_or (ranks_of tags) p 0) ≡ make (get_or tags p []) p)
  position_at_rank p within =
      let n = length-tagged_from 0 tags in
      let found = sorted_place key (tagged_from 0 tags) p nothing (omega (arith, n, within)) in
      let m = found.0 in
      let inside : m < length tags = omega (arith, length-order tags nothing, found.1) in
      let here : at sorted m ≡ make (get_or tags p []) p =
      ap (λ s. at s m) is ∙ found.2 ∙ get_or-tagged_from 0 tags p nothing within ∙ ap (make (get_or tags p [])) (zero-add p) in
      let rank : get_or (ranks_of tags) p 0 ≡ m = ap (λ e. get_or (ranks_of tags) (pos e) 0) (sym here) ∙ rank_at m inside in
      (subst (λ k. k < length tags) (sym rank) inside, ap (at sorted) rank ∙ here)

  -- one place more
  pub written_more : (k : ℕ) (ranks : List ℕ) → k < length sorted → length ranks ≡ length sorted
      → ((m : ℕ) → m < k → get_or ranks (pos (at sorted m)) 0 ≡ get_or (ranks_of tags) (pos (at sorted m)) 0)
      → (m : ℕ) → m < k + 1 → get_or (set ranks (pos (at sorted k)) k) (pos (at sorted m)) 0 ≡ get_or (ranks_of tags) (pos (at sorted m)) 0
  written_more k ranks within size before m below =
      let inside : k < length tags = omega (arith, length-sorted, within) in
      let place = placed_at k inside in
      elim (cases_eq (pos (at sorted m)) (pos (at sorted k))) [
        | inl same ↦
            ap (λ p. get_or (set ranks (pos (at sorted k)) k) p 0) same
            ∙ get_or-set_same ranks (pos (at sorted k)) k 0 (omega (arith, size, length-sorted, place.0))
            ∙ sym (rank_at k inside)
            ∙ ap (λ p. get_or (ranks_of tags) p 0) (sym same)
        | inr apart ↦
            let less : m < k = elim (cases_lt m k) [ inl lt ↦ lt | inr ge ↦ let e : m ≡ k = omega arith in absurd (apart (ap (λ n. pos (at sorted n)) e)) ] in
            get_or-set_other ranks (pos (at sorted k)) (pos (at sorted m)) k 0 apart ∙ before m less
      ]

  -- all of them
  pub written_all : (ranks : List ℕ) → length ranks ≡ length sorted
      → ((m : ℕ) → m < length sorted → get_or ranks (pos (at sorted m)) 0 ≡ get_or (ranks_of tags) (pos (at sorted m)) 0) → ranks ≡ ranks_of tags
  written_all ranks size each =
      ext_get_or 0 ranks (ranks_of tags) (size ∙ length-sorted ∙ sym (length-ranks_of tags))
      (λ p within.
      let inside : p < length tags = omega (arith, size, length-sorted, within) in
      let place = position_at_rank p inside in
      let here : pos (at sorted (get_or (ranks_of tags) p 0)) ≡ p = ap pos place.1 in
      ap (λ n. get_or ranks n 0) (sym here) ∙ each (get_or (ranks_of tags) p 0) (omega (arith, length-sorted, place.0)) ∙ ap (λ n. get_or (ranks_of tags) n 0) here)

  -- every position is one of the tags'
  pub positions_within : All (λ e. e.position < length sorted) sorted
  positions_within k d within =
      let inside : k < length tags = omega (arith, length-sorted, within) in
      let same : get_or sorted k d ≡ at sorted k = get_or_default sorted k d nothing within in
      omega (arith, ap pos same, (placed_at k inside).0, length-sorted)
