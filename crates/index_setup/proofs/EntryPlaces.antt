-- Where the entry at a position stands, and the label that stands there.
use Rattle.std.proofs.Common.{◌≡◌, ℕ, ◌<◌, List, [], length, map, get_or, ap, ◌∙◌, arith}
use Rattle.std.specs.List.{range_with_len}
use Rattle.std.proofs.lemmas.List.{get_or_append_left, get_or-map, length-map}
use Rattle.client_registry.specs.Acceptance.{dummy_entries, padded_words}
use Rattle.client_registry.specs.Setup.{Setup, setup_words}
use Rattle.keyed_fn.specs.DummyFormulas.{dummy_label}
use Rattle.keyed_fn.specs.KeyedFn.{KeyedFn}
use Rattle.keyed_fn.specs.KeyFormulas.{part_key, plain_key, list_label}
use Rattle.sse_model.specs.Positions.{ranks_of}
use Rattle.index_setup.specs.Entries.{index_labels, word_labels}
use Rattle.client_tag_order.specs.Tagged.{IsOrderOf}
use Rattle.client_tag_order.specs.declared.tagged.Tagged.{Tagged}
use Rattle.client_tag_order.proofs.FoundClash.{at}
use Rattle.index_setup.proofs.KeyTags.{index_labels-are, length-index_labels}
use Rattle.index_setup.proofs.RankWrites.{length-ranks_of, length-sorted, position_at_rank}

module _ (f : KeyedFn) (key : List ℕ) (s : Setup) where
  -- a label for each entry
  pub labels_counted : (sorted : List Tagged) → IsOrderOf (index_labels f key s) sorted → length sorted ≡ padded_words s
  labels_counted sorted order = length-sorted (index_labels f key s) sorted order ∙ length-index_labels f key s

  module _ (ranks : List ℕ) (are : ranks ≡ ranks_of (index_labels f key s)) where
    -- a place for each entry
    pub places_counted : length ranks ≡ padded_words s
    places_counted = ap length are ∙ length-ranks_of (index_labels f key s) ∙ length-index_labels f key s

    -- at which its label stands among the sorted
    pub labelled : (sorted : List Tagged) (p : ℕ) → IsOrderOf (index_labels f key s) sorted → p < padded_words s
        → (get_or ranks p 0 < length sorted) × ((at sorted (get_or ranks p 0)).tag ≡ get_or (index_labels f key s) p [])
    labelled sorted p order within =
        let labels = index_labels f key s in
        let place = position_at_rank labels sorted order p (omega (arith, length-index_labels f key s, within)) in
        let rank : get_or ranks p 0 ≡ get_or (ranks_of labels) p 0 = ap (λ rs. get_or rs p 0) are in (
          omega (arith, rank, place.0, length-sorted labels sorted order),
          ap (λ r. (at sorted r).tag) rank ∙ ap (λ e. e.tag) place.1,
        )

  -- the label of a word's entry
  pub word_label : (w : ℕ) → w < length (setup_words s) → get_or (index_labels f key s) w [] ≡ list_label f (part_key f key 1 (get_or (setup_words s) w []))
  word_label w within =
      let label = λ (word : List ℕ). list_label f (part_key f key 1 word) in
      let dummies = map (dummy_label f (plain_key f key 8)) (range_with_len 0 (dummy_entries s)) in
      ap (λ ls. get_or ls w []) (index_labels-are f key s)
      ∙ get_or_append_left (word_labels f key (setup_words s)) dummies [] w (omega (arith, length-map (setup_words s) label, within))
      ∙ get_or-map label (setup_words s) w [] [] within
