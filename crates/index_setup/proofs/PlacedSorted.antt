-- Texts placed by the ranks of their tags stand by rising tag.
use Rattle.std.proofs.Common.{◌≡◌, ◌≢◌, ℕ, zero, suc, ◌+◌, ◌<◌, List, [], ◌∷◌, length, map, get_or, set, refl, sym, ap, ◌∙◌, arith, zero-add}
use Rattle.std.specs.Prelude.{flat_map}
use Rattle.std.specs.List.{AllByRecursion}
use Rattle.std.proofs.lemmas.List.{ext_get_or, get_or-map, get_or-set_same, get_or-set_other, length-map, length-set}
use Rattle.std.proofs.lemmas.List.Folds.{flat_map-map}
use Rattle.std.proofs.lemmas.Simd.{map-map}
use Rattle.std.proofs.Math.ListN.{get_or-map as get_or-mapped}
use Rattle.list_packing.specs.Parts.{parts}
use Rattle.list_packing.proofs.PartsLemmas.{joined-parts}
use Rattle.sse_frames.specs.Order.{by_bytes}
use Rattle.sse_model.specs.Positions.{ranks_of}
use Rattle.index_setup.specs.Placed.{placed}
use Rattle.client_tag_order.specs.Tagged.{tagged_from}
use Rattle.client_tag_order.specs.declared.tagged.Tagged.{Tagged}
use Rattle.client_tag_order.proofs.FoundClash.{at, nothing}
use Rattle.client_tag_order.proofs.Neighbours.{length-order}
use Rattle.index_setup.proofs.RankWrites.{length-ranks_of, rank_at, placed_at, position_at_rank}
use Rattle.client_tag_order.proofs.InOrder.{key, pos, by_bytes-map}

pub length-placed : {X : Type 0} (slots : List X) (ranks : List ℕ) (texts : List X) → length (placed slots ranks texts) ≡ length slots
length-placed slots [] texts = refl
length-placed slots (r ∷ rs) [] = refl
length-placed slots (r ∷ rs) (t ∷ ts) = length-placed (set slots r t) rs ts ∙ length-set slots r t

-- a slot that no text goes to
placed-elsewhere : {X : Type 0} (slots : List X) (ranks : List ℕ) (texts : List X) (n : ℕ) (d : X)
    → ((q : ℕ) → q < length ranks → get_or ranks q 0 ≢ n) → get_or (placed slots ranks texts) n d ≡ get_or slots n d
placed-elsewhere slots [] texts n d apart = refl
placed-elsewhere slots (r ∷ rs) [] n d apart = refl
placed-elsewhere slots (r ∷ rs) (t ∷ ts) n d apart =
    placed-elsewhere (set slots r t) rs ts n d (λ q less. apart (suc q) (omega arith))
    ∙ get_or-set_other slots r n t d (λ same. apart 0 (omega arith) (sym same))

-- the slot of a text whose rank no later one has
placed-own : {X : Type 0} (slots : List X) (ranks : List ℕ) (texts : List X) (p : ℕ) (d : X) → p < length ranks → p < length texts
    → get_or ranks p 0 < length slots → ((q : ℕ) → p < q → q < length ranks → get_or ranks q 0 ≢ get_or ranks p 0)
    → get_or (placed slots ranks texts) (get_or ranks p 0) d ≡ get_or texts p d
placed-own slots [] texts p d ranked written room apart = absurd (omega arith)
placed-own slots (r ∷ rs) [] p d ranked written room apart = absurd (omega arith)
placed-own slots (r ∷ rs) (t ∷ ts) zero d ranked written room apart =
    placed-elsewhere (set slots r t) rs ts r d (λ q less. apart (suc q) (omega arith) (omega arith)) ∙ get_or-set_same slots r t d room
placed-own slots (r ∷ rs) (t ∷ ts) (suc p) d ranked written room apart =
    placed-own (set slots r t) rs ts p d (omega arith) (omega arith) (omega (arith, length-set slots r t, room)) (λ q less inside. apart (suc q) (omega arith) (omega arith))

module _ {X : Type 0} (d : X) (tags : List (List ℕ)) where
  abbrev sorted : List Tagged
  sorted = by_bytes key (tagged_from 0 tags)

  different : (p q : ℕ) → p < length tags → q < length tags → get_or (ranks_of tags) q 0 ≡ get_or (ranks_of tags) p 0 → q ≡ p
  different p q inside_p inside_q same =
      ap pos (sym (position_at_rank tags sorted refl q inside_q).1 ∙ ap (at sorted) same ∙ (position_at_rank tags sorted refl p inside_p).1)

  pub placed-sorted : (slots texts : List X) → length slots ≡ length tags → length texts ≡ length tags
      → placed slots (ranks_of tags) texts ≡ map (λ e. get_or texts (pos e) d) sorted
  placed-sorted slots texts room written =
      let long : length sorted ≡ length tags = length-order tags nothing in
      ext_get_or d (placed slots (ranks_of tags) texts) (map (λ e. get_or texts (pos e) d) sorted)
      (length-placed slots (ranks_of tags) texts ∙ room ∙ sym (length-map sorted (λ e. get_or texts (pos e) d) ∙ long))
      (λ k within.
      let inside : k < length tags = omega (arith, length-placed slots (ranks_of tags) texts, room, within) in
      let p : ℕ = pos (at sorted k) in
      let placed_p = placed_at tags sorted refl k inside in
      let rank : get_or (ranks_of tags) p 0 ≡ k = rank_at tags sorted refl k inside in
      ap (λ n. get_or (placed slots (ranks_of tags) texts) n d) (sym rank)
      ∙ placed-own slots (ranks_of tags) texts p d (omega (arith, length-ranks_of tags, placed_p.0)) (omega (arith, written, placed_p.0)) (omega (arith, rank, room, inside))
      (λ q less later same. let e = different p q placed_p.0 (omega (arith, length-ranks_of tags, later)) same in absurd (omega (arith, e, less)))
      ∙ sym (get_or-map (λ e. get_or texts (pos e) d) sorted k nothing d (omega (arith, long, inside))))

module _ {Y : Type 0} (d : Y) (label : Y → List ℕ) where
  as_tagged : (ys all : List Y) (i : ℕ) → ((k : ℕ) → k < length ys → get_or all (i + k) d ≡ get_or ys k d)
      → map (λ e. get_or all (pos e) d) (tagged_from i (map label ys)) ≡ ys
  as_tagged [] all i same = refl
  as_tagged (y ∷ ys) all i same =
      let here : i ≡ i + 0 = omega arith in
      let own : get_or all i d ≡ y = ap (λ n. get_or all n d) here ∙ same 0 (omega arith) in
      let rest = as_tagged ys all (i + 1) (λ k less. let e : i + 1 + k ≡ i + suc k = omega arith in ap (λ n. get_or all n d) e ∙ same (suc k) (omega arith)) in
      (λ r. own r ∷ rest r)

  keys_are : (ys all : List Y) (i : ℕ) → ((k : ℕ) → k < length ys → get_or all (i + k) d ≡ get_or ys k d)
      → AllByRecursion (λ z. label (get_or all (pos z) d) ≡ key z) (tagged_from i (map label ys))
  keys_are [] all i same = tt
  keys_are (y ∷ ys) all i same =
      let here : i ≡ i + 0 = omega arith in (
        ap label (ap (λ n. get_or all n d) here ∙ same 0 (omega arith)),
        keys_are ys all (i + 1) (λ k less. let e : i + 1 + k ≡ i + suc k = omega arith in ap (λ n. get_or all n d) e ∙ same (suc k) (omega arith)),
      )

  -- items by rising key, by their places
  sorted_items : (ys : List Y) → map (λ e. get_or ys (pos e) d) (by_bytes key (tagged_from 0 (map label ys))) ≡ by_bytes label ys
  sorted_items ys =
      let same = λ (k : ℕ) (less : k < length ys). ap (λ n. get_or ys n d) (zero-add k) in
      sym (by_bytes-map key label (λ e. get_or ys (pos e) d) (tagged_from 0 (map label ys)) (keys_are ys ys 0 same))
      ∙ ap (by_bytes label) (as_tagged ys ys 0 same)

  -- the texts of items, placed by the ranks of their keys, are those of the items by rising key
  pub placed-by_bytes : (text : Y → List ℕ) (slots : List (List ℕ)) (ys : List Y) → length slots ≡ length ys
      → placed slots (ranks_of (map label ys)) (map text ys) ≡ map text (by_bytes label ys)
  placed-by_bytes text slots ys room =
      let tags = map label ys in
      let count : length tags ≡ length ys = length-map ys label in
      let order = by_bytes key (tagged_from 0 tags) in
      placed-sorted (text d) tags slots (map text ys) (room ∙ sym count) (length-map ys text ∙ sym count)
      ∙ ap (λ (f : Tagged → List ℕ). map f order) (λ i e. get_or-mapped text ys (pos e) d i)
      ∙ sym (map-map text (λ e. get_or ys (pos e) d) order)
      ∙ ap (map text) (sorted_items ys)

-- bytes whose parts are these texts are the texts joined
pub joined-placed : {Y : Type 0} (size : ℕ) (bytes : List ℕ) (text : Y → List ℕ) (ys : List Y) → 0 < size → parts size bytes ≡ map text ys → bytes ≡ flat_map text ys
joined-placed size bytes text ys some are = sym (joined-parts size bytes some) ∙ ap (flat_map (λ part. part)) are ∙ flat_map-map (λ part. part) text ys
