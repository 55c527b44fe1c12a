-- The entries and blocks of a setup are those of the words, then the dummies.
use Rattle.std.proofs.Common.{◌≡◌, ℕ, suc, ◌<◌, ◌+◌, List, [], ◌∷◌, ◌++◌, length, drop, map, replicate, get_or, refl, sym, ap, ◌∙◌, arith, zero-add, length-drop}
use Rattle.std.specs.List.{range_with_len}
use Rattle.std.proofs.lemmas.List.{get_or_default, get_or-append-add, get_or-drop, get_or-map, length-map, map-append}
use Rattle.std.proofs.lemmas.List.FromFn.{fill_by_all, get_or-map-range_with_len, length-map-range_with_len}
use Rattle.std.proofs.lemmas.Simd.{map-map}
use Rattle.keyed_fn.specs.DummyFormulas.{dummy_label, dummy_cell_pad}
use Rattle.keyed_fn.specs.KeyedFn.{KeyedFn}
use Rattle.keyed_fn.specs.KeyFormulas.{part_key, plain_key, list_label}
use Rattle.keyed_fn.specs.Xored.{xored}
use Rattle.client_registry.specs.Acceptance.{blocks_of, dummy_blocks, dummy_entries}
use Rattle.client_registry.specs.Setup.{Setup, setup_words}
use Rattle.sse_frames.specs.Frames.{Entry, entry_bytes}
use Rattle.sse_model.proofs.Counts.{length-blocks_from}
use Rattle.sse_model.specs.Names.{cell_size}
use Rattle.sse_model.specs.Positions.{Position, blocks_from, dummy_block, dummy_entry, entries_from, ranks_of, sealed, word_blocks}
use Rattle.index_setup.specs.Entries.{array_texts, entry_texts, index_labels, index_tags, key_table, setup_blocks, setup_entries, setup_ranks, word_labels}
use Rattle.index_setup.specs.Placed.{dummy_block_texts, dummy_entry_texts, placed}
use Rattle.client_tag_order.specs.Tagged.{IsOrderOf}
use Rattle.client_tag_order.specs.declared.tagged.Tagged.{Tagged}
use Rattle.client_tag_order.proofs.FoundClash.{nothing}
use Rattle.index_setup.proofs.EntryPlaces.{labelled, places_counted}
use Rattle.index_setup.proofs.KeyTags.{index_labels-are}
use Rattle.index_setup.proofs.ListWrites.{length-setup_ranks, ranks_low}
use Rattle.index_setup.proofs.PlacedLaws.{placed-behind}
use Rattle.index_setup.proofs.RankWrites.{length-ranks_of}

module _ (f : KeyedFn) (key : List ℕ) (s : Setup) where
  -- a position as it is sent
  abbrev entry_of : Position → Entry
  entry_of = sealed (key_table f key s) (setup_ranks f key s)

  length-entry_texts : (first : ℕ) (words : List (List ℕ)) → length (entry_texts f key s first words) ≡ length words
  length-entry_texts first [] = refl
  length-entry_texts first (word ∷ words) = ap (λ (n : ℕ). suc n) (length-entry_texts (first + word_blocks s word) words)

  length-array_texts : length (array_texts f key s 0 (setup_words s)) ≡ blocks_of s
  length-array_texts =
      let blocks = blocks_from 0 s 0 (setup_words s) in
      length-map (map entry_of blocks) (λ block. block.text) ∙ length-map blocks entry_of ∙ length-blocks_from 0 s 0 (setup_words s)

  -- the bytes of all dummy entries, by their numbers
  abbrev all_dummies : List (List ℕ)
  all_dummies = map (λ i. entry_bytes (entry_of (dummy_entry 0 s i))) (range_with_len 0 (dummy_entries s))

  entries_split : map entry_bytes (setup_entries f key s) ≡ entry_texts f key s 0 (setup_words s) ++ all_dummies
  entries_split =
      let own = entries_from 0 s 0 (setup_words s) in
      let dummies = range_with_len 0 (dummy_entries s) in
      ap (map entry_bytes) (map-append entry_of own (map (dummy_entry 0 s) dummies))
      ∙ map-append entry_bytes (map entry_of own) (map entry_of (map (dummy_entry 0 s) dummies))
      ∙ ap (λ texts. entry_texts f key s 0 (setup_words s) ++ texts)
      (ap (map entry_bytes) (map-map entry_of (dummy_entry 0 s) dummies) ∙ map-map entry_bytes (λ i. entry_of (dummy_entry 0 s i)) dummies)

  blocks_split : map (λ block. block.text) (setup_blocks f key s) ≡ array_texts f key s 0 (setup_words s) ++ dummy_block_texts f (plain_key f key 9) s.shape (dummy_blocks s)
  blocks_split =
      let own = blocks_from 0 s 0 (setup_words s) in
      let dummies = range_with_len 0 (dummy_blocks s) in
      let text = λ (block : Entry). block.text in
      ap (map text) (map-append entry_of own (map (dummy_block 0 s) dummies))
      ∙ map-append text (map entry_of own) (map entry_of (map (dummy_block 0 s) dummies))
      ∙ ap (λ texts. array_texts f key s 0 (setup_words s) ++ texts)
      (ap (map text) (map-map entry_of (dummy_block 0 s) dummies) ∙ map-map text (λ j. entry_of (dummy_block 0 s j)) dummies)

  module _ (ranks : List ℕ) (are : ranks ≡ ranks_of (index_labels f key s)) (sorted : List Tagged) (order : IsOrderOf (index_labels f key s) sorted) where
    abbrev words : ℕ
    words = length (setup_words s)

    -- the places of the dummies
    abbrev places : List ℕ
    places = drop words ranks

    dummies_counted : length places ≡ dummy_entries s
    dummies_counted = omega (arith, length-drop words ranks, places_counted f key s ranks are)

    place_is : (i : ℕ) → get_or places i 0 ≡ get_or ranks (words + i) 0
    place_is i = get_or-drop words ranks i 0

    -- each is a place of the sorted
    pub dummy_places : (i d : ℕ) → i < length places → get_or places i d < length sorted
    dummy_places i d within =
        omega (arith, get_or-drop words ranks i d, get_or_same i d within, (labelled f key s ranks are sorted (words + i) order (omega (arith, dummies_counted, within))).0)
      where
        get_or_same : (i d : ℕ) → i < length places → get_or ranks (words + i) d ≡ get_or ranks (words + i) 0
        get_or_same i d within = get_or_default ranks (words + i) d 0 (omega (arith, length-drop words ranks, within))

    -- and the label of dummy i stands at its place
    dummy_label_is : (i : ℕ) → i < dummy_entries s → get_or (map (λ e. e.tag) sorted) (get_or places i 0) [] ≡ dummy_label f (plain_key f key 8) i
    dummy_label_is i within =
        let label = dummy_label f (plain_key f key 8) in
        let own = word_labels f key (setup_words s) in
        let count : length own ≡ words = length-map (setup_words s) (λ word. list_label f (part_key f key 1 word)) in
        let place = labelled f key s ranks are sorted (words + i) order (omega (arith, within)) in
        ap (λ r. get_or (map (λ e. e.tag) sorted) r []) (place_is i)
        ∙ get_or-map (λ e. e.tag) sorted (get_or ranks (words + i) 0) nothing [] place.0
        ∙ place.1
        ∙ ap (λ ls. get_or ls (words + i) []) (index_labels-are f key s)
        ∙ ap (λ n. get_or (own ++ map label (range_with_len 0 (dummy_entries s))) (n + i) []) (sym count)
        ∙ get_or-append-add own (map label (range_with_len 0 (dummy_entries s))) i []
        ∙ get_or-map-range_with_len label 0 (dummy_entries s) i i [] within (zero-add i)

    dummies_are : dummy_entry_texts f (plain_key f key 9) s.shape (map (λ e. e.tag) sorted) places ≡ all_dummies
    dummies_are =
        let texts = dummy_entry_texts f (plain_key f key 9) s.shape (map (λ e. e.tag) sorted) places in
        let zeros = λ (i : ℕ). xored (replicate (cell_size s.shape) 0) (dummy_cell_pad f (plain_key f key 9) i (cell_size s.shape)) in
        fill_by_all (λ i. entry_bytes (entry_of (dummy_entry 0 s i))) texts (dummy_entries s) [] (length-map-range_with_len _ 0 (length places) ∙ dummies_counted)
        (λ i within.
        get_or-map-range_with_len (λ j. get_or (map (λ e. e.tag) sorted) (get_or places j 0) [] ++ zeros j) 0 (length places) i i [] (omega (arith, dummies_counted, within)) (zero-add i)
        ∙ ap (λ label. label ++ zeros i) (dummy_label_is i within))

    -- the dummies behind the words' entries are all entries
    pub entries_placed : (slots : List (List ℕ))
        → placed (placed slots ranks (entry_texts f key s 0 (setup_words s))) places (dummy_entry_texts f (plain_key f key 9) s.shape (map (λ e. e.tag) sorted) places)
        ≡ placed slots ranks (map entry_bytes (setup_entries f key s))
    entries_placed slots =
        let own = entry_texts f key s 0 (setup_words s) in
        ap (placed (placed slots ranks own) places) dummies_are
        ∙ ap (λ n. placed (placed slots ranks own) (drop n ranks) all_dummies) (sym (length-entry_texts 0 (setup_words s)))
        ∙ placed-behind slots ranks own all_dummies
        ∙ ap (placed slots ranks) (sym entries_split)

  -- and behind their blocks all blocks
  pub blocks_placed : (slots : List (List ℕ)) (ranks places : List ℕ) → ranks ≡ setup_ranks f key s → places ≡ drop (blocks_of s) ranks
      → placed (placed slots ranks (array_texts f key s 0 (setup_words s))) places (dummy_block_texts f (plain_key f key 9) s.shape (length places))
      ≡ placed slots ranks (map (λ block. block.text) (setup_blocks f key s))
  blocks_placed slots ranks places are there =
      let own = array_texts f key s 0 (setup_words s) in
      let count : length places ≡ dummy_blocks s = omega (arith, ap length there, length-drop (blocks_of s) ranks, ap length are, length-setup_ranks f key s) in
      (λ i. placed (placed slots ranks own) (there i) (dummy_block_texts f (plain_key f key 9) s.shape (count i)))
      ∙ ap (λ n. placed (placed slots ranks own) (drop n ranks) (dummy_block_texts f (plain_key f key 9) s.shape (dummy_blocks s))) (sym length-array_texts)
      ∙ placed-behind slots ranks own (dummy_block_texts f (plain_key f key 9) s.shape (dummy_blocks s))
      ∙ ap (placed slots ranks) (sym blocks_split)

  -- each place of theirs is one of the array
  pub block_places : (ranks : List ℕ) → ranks ≡ setup_ranks f key s → (k d : ℕ) → k < length (drop (blocks_of s) ranks) → get_or (drop (blocks_of s) ranks) k d < length ranks
  block_places ranks are k d within =
      let tags = index_tags f key s in
      let count : length ranks ≡ length tags = ap length are ∙ length-ranks_of tags in
      let place : get_or (drop (blocks_of s) ranks) k d ≡ get_or (ranks_of tags) (blocks_of s + k) d =
      get_or-drop (blocks_of s) ranks k d ∙ ap (λ rs. get_or rs (blocks_of s + k) d) are in
      omega (arith, place, count, ranks_low tags (blocks_of s + k) d (omega (arith, within, length-drop (blocks_of s) ranks, count)))
