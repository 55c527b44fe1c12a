-- A loop over the words that writes the entry and the blocks of each in their places.
use Rattle.std.proofs.Common.{◌≡◌, ℕ, suc, ◌+◌, ◌*◌, ◌<◌, ◌≤◌, List, [], ◌∷◌, ◌++◌, length, take, drop, map, get_or, set, Option, None, Some, refl, sym, ap, ◌∙◌, arith, length-append, length-drop, length-take}
use Rattle.std.specs.Prelude.{flat_map, option_map, sum_by}
use Rattle.std.specs.List.{range_with_len}
use Rattle.std.proofs.Math.Seq.{drop-cons}
use Rattle.std.proofs.lemmas.List.FromFn.{length-map-range_with_len}
use Rattle.std.proofs.lemmas.Grind.{get_or_default_zero}
use Rattle.std.proofs.lemmas.List.{get_or-take, get_or-drop, drop-drop, drop_all, drop_at, length-take-le, map-append, take-append-drop, take_at}
use Rattle.std.proofs.lemmas.List.Folds.{fold-map}
use Rattle.std.proofs.lemmas.List.Sums.{sum_by_more, sum_by-take-le}
use Rattle.std.proofs.lemmas.Simd.{map-map}
use Rattle.keyed_fn.specs.KeyedFn.{KeyedFn}
use Rattle.keyed_fn.specs.KeyFormulas.{part_key, list_label, block_pad}
use Rattle.keyed_fn.specs.Xored.{xored}
use Rattle.two_level.specs.Laid.{Laid, laid, cell_bytes}
use Rattle.two_level.specs.Plan.{plan, block_count}
use Rattle.client_registry.specs.Acceptance.{blocks_of, padded_blocks}
use Rattle.client_registry.specs.Documents.{ids_with}
use Rattle.client_registry.specs.Setup.{Setup, setup_words}
use Rattle.sse_frames.specs.Frames.{entry_bytes}
use Rattle.sse_frames.specs.Order.{by_bytes}
use Rattle.sse_model.specs.Positions.{Position, block_position, entry_position, blocks_from, ranks_of, block_text, cell_text, sealed, word_blocks}
use Rattle.word_keys.specs.PadName.{PadName, cell_name, name_after, named_pad}
use Rattle.index_setup.specs.Entries.{array_texts, entry_texts, index_tags, key_table, setup_ranks}
use Rattle.index_setup.specs.Placed.{block_texts, placed}
use Rattle.client_tag_order.specs.Tagged.{tagged_from}
use Rattle.index_setup.proofs.KeyTags.{length-index_tags}
use Rattle.index_setup.proofs.RankWrites.{length-ranks_of, position_at_rank}
use Rattle.client_tag_order.proofs.InOrder.{key as tag_of}

-- ---- texts placed in two steps

placed-append : {X : Type 0} (slots : List X) (xs ys : List ℕ) (us vs : List X) → length xs ≡ length us
    → placed slots (xs ++ ys) (us ++ vs) ≡ placed (placed slots xs us) ys vs
placed-append slots [] ys [] vs same = refl
placed-append slots [] ys (u ∷ us) vs same = absurd (omega (arith, same))
placed-append slots (x ∷ xs) ys [] vs same = absurd (omega (arith, same))
placed-append slots (x ∷ xs) ys (u ∷ us) vs same = placed-append (set slots x u) xs ys us vs (omega (arith, same))

placed-none : {X : Type 0} (slots : List X) (ranks : List ℕ) → placed slots ranks [] ≡ slots
placed-none slots [] = refl
placed-none slots (r ∷ rs) = refl

-- ---- places

pub ranks_low : (tags : List (List ℕ)) (p d : ℕ) → p < length tags → get_or (ranks_of tags) p d < length tags
ranks_low tags p d within =
    let same = get_or_default_zero (ranks_of tags) p d (omega (arith, length-ranks_of tags, within)) in
    omega (arith, same, (position_at_rank tags (by_bytes tag_of (tagged_from 0 tags)) refl p within).0)

-- ---- the text of an entry

written_cell : (o : Option Laid) (label pad out : List ℕ) → option_map (λ l. label ++ xored (cell_bytes l) pad) o ≡ Some out → out ≡ label ++ xored (cell_text o) pad
written_cell None label pad out is = absurd (cc)
written_cell (Some l) label pad out is = cc

module _ (f : KeyedFn) (key : List ℕ) (s : Setup) where
  -- how many blocks the first w words take
  abbrev pub blocks_before : ℕ → ℕ
  blocks_before w = sum_by (word_blocks s) (take w (setup_words s))

  -- what is left to write: the lists and the places of the words from w on, and what their texts make of the slots
  pub record Remains (w : ℕ) (ids ranks : List ℕ) (entries array first_entries first_array : List (List ℕ)) (entry_ranks : List ℕ) : Type 0 where
    pub ids_are : ids ≡ flat_map (ids_with s.documents) (drop w (setup_words s))
    pub ranks_are : ranks ≡ drop (blocks_before w) (setup_ranks f key s)
    pub entries_are : placed entries (drop w entry_ranks) (entry_texts f key s (blocks_before w) (drop w (setup_words s))) ≡ placed first_entries entry_ranks (entry_texts f key s 0 (setup_words s))
    pub array_are : placed array ranks (array_texts f key s (blocks_before w) (drop w (setup_words s))) ≡ placed first_array (setup_ranks f key s) (array_texts f key s 0 (setup_words s))

  pub length-setup_ranks : length (setup_ranks f key s) ≡ padded_blocks s
  length-setup_ranks = length-ranks_of (index_tags f key s) ∙ length-index_tags f key s

  -- at first all is left
  pub Remains-first : (ids ranks : List ℕ) (entries array : List (List ℕ)) (entry_ranks : List ℕ) → ids ≡ flat_map (ids_with s.documents) (setup_words s) → ranks ≡ setup_ranks f key s
      → Remains 0 ids ranks entries array entries array entry_ranks
  Remains-first ids ranks entries array entry_ranks ids_is ranks_is = record {
    ids_are = ids_is;
    ranks_are = ranks_is;
    entries_are = refl;
    array_are = ap (λ rs. placed array rs (array_texts f key s 0 (setup_words s))) ranks_is;
  }

  blocks_by_word : blocks_of s ≡ sum_by (word_blocks s) (setup_words s)
  blocks_by_word = fold-map (λ a n. a + block_count (plan s.shape n)) (λ w. length (ids_with s.documents w)) 0 (setup_words s)

  -- at the end nothing is left
  pub all_written : (w : ℕ) (ids ranks : List ℕ) (entries array first_entries first_array : List (List ℕ)) (entry_ranks : List ℕ) → length (setup_words s) ≤ w
      → Remains w ids ranks entries array first_entries first_array entry_ranks
      → (entries ≡ placed first_entries entry_ranks (entry_texts f key s 0 (setup_words s))) × (array ≡ placed first_array (setup_ranks f key s) (array_texts f key s 0 (setup_words s)))
  all_written w ids ranks entries array first_entries first_array entry_ranks all left =
      let none : drop w (setup_words s) ≡ [] = drop_all w (setup_words s) all in (
        sym (placed-none entries (drop w entry_ranks)) ∙ ap (λ ws. placed entries (drop w entry_ranks) (entry_texts f key s (blocks_before w) ws)) (sym none) ∙ left.entries_are,
        sym (placed-none array ranks) ∙ ap (λ ws. placed array ranks (array_texts f key s (blocks_before w) ws)) (sym none) ∙ left.array_are,
      )

  -- the blocks of one word in front of the others
  array_texts-cons : (first : ℕ) (word : List ℕ) (words : List (List ℕ)) (places : List ℕ) → places ≡ take (word_blocks s word) (drop first (setup_ranks f key s))
      → length places ≡ word_blocks s word
      → array_texts f key s first (word ∷ words)
      ≡ block_texts f (part_key f key 2 word) s.shape places (ids_with s.documents word) ++ array_texts f key s (first + word_blocks s word) words
  array_texts-cons first word words places are size =
      let t = key_table f key s in
      let all = setup_ranks f key s in
      let later = blocks_from 0 s (first + word_blocks s word) words in
      let own = λ (n : ℕ). map (block_position 0 s first word) (range_with_len 0 n) in
      let text : Position → List ℕ = λ p. (sealed t all p).text in
      map-map (λ block. block.text) (sealed t all) (own (word_blocks s word) ++ later)
      ∙ map-append text (own (word_blocks s word)) later
      ∙ ap (λ texts. texts ++ map text later) (map-map text (block_position 0 s first word) (range_with_len 0 (word_blocks s word)))
      ∙ ap (λ n. map (λ i. text (block_position 0 s first word i)) (range_with_len 0 n) ++ map text later) (sym size)
      ∙ ap (λ texts. map (λ i. text (block_position 0 s first word i)) (range_with_len 0 (length places)) ++ texts) (sym (map-map (λ block. block.text) (sealed t all) later))
      ∙ ap (λ ps. map (λ i. xored (block_text i (laid s.shape ps (ids_with s.documents word))) (block_pad f (part_key f key 2 word) i (8 * s.shape.big))) (range_with_len 0 (length places)) ++ array_texts f key s (first + word_blocks s word) words) (sym are)

  module _ (w : ℕ) (within : w < length (setup_words s)) where
    -- the word at w
    abbrev pub word_at : List ℕ
    word_at = get_or (setup_words s) w []

    words_are : drop w (setup_words s) ≡ word_at ∷ drop (w + 1) (setup_words s)
    words_are = let next : suc w ≡ w + 1 = omega arith in drop-cons (setup_words s) w [] within ∙ ap (λ n. word_at ∷ drop n (setup_words s)) next

    before_more : blocks_before (w + 1) ≡ blocks_before w + word_blocks s word_at
    before_more = sum_by_more (word_blocks s) (setup_words s) w [] within

    before_within : blocks_before w + word_blocks s word_at ≤ length (setup_ranks f key s)
    before_within = omega (arith, before_more, sum_by-take-le (word_blocks s) (setup_words s) (w + 1), blocks_by_word, length-setup_ranks)

    module _ (ids ranks : List ℕ) (entries array first_entries first_array : List (List ℕ)) (entry_ranks : List ℕ)
        (left : Remains w ids ranks entries array first_entries first_array entry_ranks) where
      -- the identifiers begin with those of the word
      ids_split : ids ≡ ids_with s.documents word_at ++ flat_map (ids_with s.documents) (drop (w + 1) (setup_words s))
      ids_split = left.ids_are ∙ ap (flat_map (ids_with s.documents)) words_are

      pub ids_enough : (n : ℕ) → n ≡ length (ids_with s.documents word_at) → n ≤ length ids
      ids_enough n is = omega (arith, is, ap length ids_split, length-append (ids_with s.documents word_at) (flat_map (ids_with s.documents) (drop (w + 1) (setup_words s))))

      pub ids_front : (n : ℕ) → n ≡ length (ids_with s.documents word_at) → take n ids ≡ ids_with s.documents word_at
      ids_front n is = ap (take n) ids_split ∙ take_at (ids_with s.documents word_at) (flat_map (ids_with s.documents) (drop (w + 1) (setup_words s))) n (sym is)

      ranks_long : word_blocks s word_at ≤ length ranks
      ranks_long = omega (arith, before_within, ap length left.ranks_are, length-drop (blocks_before w) (setup_ranks f key s))

      pub ranks_enough : (count : ℕ) → count ≡ word_blocks s word_at → count ≤ length ranks
      ranks_enough count is = omega (arith, is, ranks_long)

      pub ranks_few : (count : ℕ) → count ≡ word_blocks s word_at → count ≤ padded_blocks s
      ranks_few count is = omega (arith, is, before_within, length-setup_ranks)

      -- each place of its blocks is one of the array
      pub rank_within : (count : ℕ) (places : List ℕ) → places ≡ take count ranks → (k d : ℕ) → k < length places → get_or places k d < length (setup_ranks f key s)
      rank_within count places are k d inside =
          let all = setup_ranks f key s in
          let shorter : length places ≤ length ranks = omega (arith, ap length are, length-take count ranks) in
          let low : k < count = omega (arith, ap length are, length-take count ranks, inside) in
          let place : blocks_before w + k < length all = omega (arith, ap length left.ranks_are, length-drop (blocks_before w) all, inside, shorter) in
          let is : get_or places k d ≡ get_or all (blocks_before w + k) d =
          ap (λ ps. get_or ps k d) are ∙ get_or-take count ranks k d low ∙ ap (λ rs. get_or rs k d) left.ranks_are ∙ get_or-drop (blocks_before w) all k d in
          omega (arith, is, ranks_low (index_tags f key s) (blocks_before w + k) d (omega (arith, place, length-ranks_of (index_tags f key s))), length-ranks_of (index_tags f key s))

      module _ (n count : ℕ) (n_is : n ≡ length (ids_with s.documents word_at)) (count_is : count ≡ word_blocks s word_at)
          (bytes list places : List ℕ) (bytes_are : bytes ≡ word_at) (list_is : list ≡ take n ids) (places_are : places ≡ take count ranks)
          (pads pad after : PadName) (pads_are : pads ≡ cell_name (part_key f key 2 bytes)) (pad_is : pad ≡ pads) (after_is : after ≡ name_after pads) where
        own_list : list ≡ ids_with s.documents word_at
        own_list = list_is ∙ ids_front n n_is

        own_places : places ≡ take (word_blocks s word_at) (drop (blocks_before w) (setup_ranks f key s))
        own_places = places_are ∙ ap (λ k. take k ranks) count_is ∙ ap (take (word_blocks s word_at)) left.ranks_are

        as_many : length places ≡ word_blocks s word_at
        as_many = ap length (places_are ∙ ap (λ k. take k ranks) count_is) ∙ length-take-le (word_blocks s word_at) ranks ranks_long

        own_pads : pads ≡ cell_name (part_key f key 2 word_at)
        own_pads = pads_are ∙ ap (λ bs. cell_name (part_key f key 2 bs)) bytes_are

        -- the entry is the word's
        entry_is : (label text : List ℕ) → label ≡ list_label f (part_key f key 1 word_at)
            → option_map (λ l. label ++ xored (cell_bytes l) (named_pad f pad (1 + 8 * s.shape.b))) (laid s.shape places list) ≡ Some text
            → text ≡ entry_bytes (sealed (key_table f key s) (setup_ranks f key s) (entry_position 0 s (blocks_before w) word_at))
        entry_is label text label_is is =
            let its_pad = pad_is ∙ own_pads in
            written_cell (laid s.shape places list) label (named_pad f pad (1 + 8 * s.shape.b)) text is
            ∙ (λ i. label_is i ++ xored (cell_text (laid s.shape (own_places i) (own_list i))) (named_pad f (its_pad i) (1 + 8 * s.shape.b)))

        -- the blocks are the word's
        blocks_are : block_texts f after.key s.shape places list ≡ block_texts f (part_key f key 2 word_at) s.shape places (ids_with s.documents word_at)
        blocks_are =
            let its_key : after.key ≡ part_key f key 2 word_at = ap (λ name. name.key) (after_is ∙ ap name_after own_pads) in
            (λ i. block_texts f (its_key i) s.shape places (own_list i))

        -- one word more
        pub Remains-more : (place : ℕ) (label text ids' ranks' : List ℕ) (entries' array' : List (List ℕ)) → ids' ≡ drop n ids → ranks' ≡ drop count ranks → w < length entry_ranks → place ≡ get_or entry_ranks w 0
            → label ≡ list_label f (part_key f key 1 word_at)
            → option_map (λ l. label ++ xored (cell_bytes l) (named_pad f pad (1 + 8 * s.shape.b))) (laid s.shape places list) ≡ Some text
            → entries' ≡ set entries place text → array' ≡ placed array places (block_texts f after.key s.shape places list)
            → Remains (w + 1) ids' ranks' entries' array' first_entries first_array entry_ranks
        Remains-more place label text ids' ranks' entries' array' ids_rest ranks_rest ranked place_is label_is laid_is written placed_is = record {
          ids_are =
              ids_rest
              ∙ ap (drop n) ids_split
              ∙ drop_at (ids_with s.documents word_at) (flat_map (ids_with s.documents) (drop (w + 1) (setup_words s))) n (sym n_is);
          ranks_are =
              ranks_rest
              ∙ (λ i. drop (count_is i) (left.ranks_are i))
              ∙ drop-drop (word_blocks s word_at) (blocks_before w) (setup_ranks f key s)
              ∙ ap (λ k. drop k (setup_ranks f key s)) (sym before_more);
          entries_are =
              let next : suc w ≡ w + 1 = omega arith in
              let rest = drop (w + 1) entry_ranks in
              let later = drop (w + 1) (setup_words s) in
              let split : drop w entry_ranks ≡ place ∷ rest =
              drop-cons entry_ranks w 0 ranked ∙ ap (λ k. get_or entry_ranks w 0 ∷ drop k entry_ranks) next ∙ ap (λ k. k ∷ rest) (sym place_is) in
              ap (λ slots. placed slots rest (entry_texts f key s (blocks_before (w + 1)) later)) written
              ∙ (λ i. placed (set entries place (entry_is label text label_is laid_is i)) rest (entry_texts f key s (before_more i) later))
              ∙ (λ i. placed entries (sym split i) (entry_texts f key s (blocks_before w) (sym words_are i)))
              ∙ left.entries_are;
          array_are =
              let later = drop (w + 1) (setup_words s) in
              let own = block_texts f (part_key f key 2 word_at) s.shape places (ids_with s.documents word_at) in
              let others = array_texts f key s (blocks_before w + word_blocks s word_at) later in
              (λ i. placed (placed_is i) (ranks_rest i) (array_texts f key s (blocks_before (w + 1)) later))
              ∙ (λ i. placed (placed array places (blocks_are i)) (drop count ranks) (array_texts f key s (before_more i) later))
              ∙ sym (placed-append array places (drop count ranks) own others (sym (length-map-range_with_len _ 0 (length places))))
              ∙ ap (λ ps. placed array (ps ++ drop count ranks) (own ++ others)) places_are
              ∙ ap (λ rs. placed array rs (own ++ others)) (take-append-drop count ranks)
              ∙ ap (placed array ranks) (sym (array_texts-cons (blocks_before w) word_at later places own_places as_many))
              ∙ ap (λ ws. placed array ranks (array_texts f key s (blocks_before w) ws)) (sym words_are)
              ∙ left.array_are;
        }
