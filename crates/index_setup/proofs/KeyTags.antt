-- The labels and the tags of a setup, by the key formulas.
use Rattle.std.proofs.Common.{◌≡◌, ℕ, ◌+◌, ◌≤◌, ◌^◌, List, [], ◌∷◌, ◌++◌, length, map, None, refl, ap, ◌∙◌, arith}
use Rattle.std.specs.List.{range_with_len}
use Rattle.std.proofs.lemmas.List.{length-append, length-map, map-append}
use Rattle.std.proofs.lemmas.Simd.{map-map}
use Rattle.keyed_fn.specs.KeyedFn.{KeyedFn}
use Rattle.keyed_fn.specs.DummyFormulas.{dummy_label, dummy_tag}
use Rattle.keyed_fn.specs.KeyFormulas.{part_key, plain_key, list_label, place_tag}
use Rattle.client_registry.specs.Acceptance.{dummy_blocks, dummy_entries, padded_blocks, padded_words, size_refusal}
use Rattle.client_registry.specs.Setup.{Setup, setup_words}
use Rattle.client_registry.proofs.SizedLaws.{accepted_padded}
use Rattle.sse_model.proofs.Counts.{length-block_positions, length-entry_positions}
use Rattle.sse_model.specs.Positions.{Position, word_blocks, block_position, block_positions, dummy_block, dummy_entry, entries_from, entry_positions, blocks_from}
use Rattle.sse_model.specs.Wire.{labels_in}
use Rattle.index_setup.specs.Entries.{key_table, index_labels, index_tags, word_labels, block_tags}

module _ (f : KeyedFn) (key : List ℕ) (s : Setup) where
  labels_from : (first : ℕ) (words : List (List ℕ)) → labels_in (key_table f key s) (entries_from 0 s first words) ≡ word_labels f key words
  labels_from first [] = refl
  labels_from first (word ∷ words) = λ i. list_label f (part_key f key 1 word) ∷ labels_from (first + word_blocks s word) words i

  -- the labels are those of the words, then those of the dummies
  pub index_labels-are : index_labels f key s ≡ word_labels f key (setup_words s) ++ map (dummy_label f (plain_key f key 8)) (range_with_len 0 (dummy_entries s))
  index_labels-are =
      let label = λ (p : Position). key_table f key s p.label in
      let dummies = range_with_len 0 (dummy_entries s) in
      map-append label (entries_from 0 s 0 (setup_words s)) (map (dummy_entry 0 s) dummies)
      ∙ (λ i. labels_from 0 (setup_words s) i ++ map-map label (dummy_entry 0 s) dummies i)

  -- one for each entry
  pub length-index_labels : length (index_labels f key s) ≡ padded_words s
  length-index_labels = length-map (entry_positions 0 s) (λ p. key_table f key s p.label) ∙ length-entry_positions 0 s

  tags_from : (first : ℕ) (words : List (List ℕ)) → labels_in (key_table f key s) (blocks_from 0 s first words) ≡ block_tags f key s.shape s.documents words
  tags_from first [] = refl
  tags_from first (word ∷ words) =
      let own = map (block_position 0 s first word) (range_with_len 0 (word_blocks s word)) in
      map-append (λ p. key_table f key s p.label) own (blocks_from 0 s (first + word_blocks s word) words)
      ∙ ap (λ tags. tags ++ labels_in (key_table f key s) (blocks_from 0 s (first + word_blocks s word) words))
      (map-map (λ p. key_table f key s p.label) (block_position 0 s first word) (range_with_len 0 (word_blocks s word)))
      ∙ ap (λ tags. map (place_tag f (part_key f key 6 word)) (range_with_len 0 (word_blocks s word)) ++ tags) (tags_from (first + word_blocks s word) words)

  -- and the tags those of the words' blocks, then those of the dummies
  pub index_tags-are : index_tags f key s ≡ block_tags f key s.shape s.documents (setup_words s) ++ map (dummy_tag f (plain_key f key 8)) (range_with_len 0 (dummy_blocks s))
  index_tags-are =
      let label = λ (p : Position). key_table f key s p.label in
      let dummies = range_with_len 0 (dummy_blocks s) in
      map-append label (blocks_from 0 s 0 (setup_words s)) (map (dummy_block 0 s) dummies)
      ∙ (λ i. tags_from 0 (setup_words s) i ++ map-map label (dummy_block 0 s) dummies i)

  -- one for each block
  pub length-index_tags : length (index_tags f key s) ≡ padded_blocks s
  length-index_tags = length-map (block_positions 0 s) (λ p. key_table f key s p.label) ∙ length-block_positions 0 s

  -- which aren't too many
  pub tags_within : size_refusal s ≡ None → length (index_tags f key s) ≤ 2 ^ 25
  tags_within accepted = omega (arith, length-index_tags, accepted_padded s accepted)

  -- those of the words' blocks are no more
  pub own_tags : size_refusal s ≡ None → length (block_tags f key s.shape s.documents (setup_words s)) ≤ 2 ^ 25
  own_tags accepted =
      let own = block_tags f key s.shape s.documents (setup_words s) in
      let dummies = map (dummy_tag f (plain_key f key 8)) (range_with_len 0 (dummy_blocks s)) in
      omega (arith, ap length index_tags-are, length-append own dummies, tags_within accepted)
