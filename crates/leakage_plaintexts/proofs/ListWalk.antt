-- A walk over the words of a setup, with the lists and the ranks that are left.
use Rattle.std.proofs.Common.{◌≡◌, ℕ, suc, ◌+◌, ◌<◌, ◌≤◌, List, [], ◌∷◌, ◌++◌, length, take, drop, map, get_or, sym, ap, ◌∙◌, arith, append_assoc, length-append, length-drop}
use Rattle.std.specs.Prelude.{flat_map, sum_by}
use Rattle.std.specs.List.{range_with_len}
use Rattle.std.proofs.Math.Seq.{drop-cons}
use Rattle.std.proofs.lemmas.List.{append-nil, drop-drop, drop_all, drop_at, length-take-le, map-append, take_at}
use Rattle.std.proofs.lemmas.List.Folds.{fold-map}
use Rattle.std.proofs.lemmas.List.Sums.{sum_by_more, sum_by-take-le}
use Rattle.std.proofs.lemmas.Simd.{map-map}
use Rattle.client_registry.specs.Acceptance.{blocks_of}
use Rattle.client_registry.specs.Documents.{ids_with}
use Rattle.client_registry.specs.Setup.{Setup, setup_words}
use Rattle.two_level.specs.Laid.{laid}
use Rattle.two_level.specs.Plan.{plan, block_count}
use Rattle.sse_model.specs.Positions.{Position, block_position, block_text, blocks_from, cell_text, entries_from, laid_at, word_blocks}
use Rattle.leakage_plaintexts.specs.Clears.{clears}

-- at the end nothing is left of a walk
pub walked : {X : Type 0} (now rest first all : List X) → rest ≡ [] → now ++ rest ≡ first ++ all → now ≡ first ++ all
walked now rest first all none is = sym (append-nil now) ∙ ap (λ xs. now ++ xs) (sym none) ∙ is

module _ (s : Setup) (all : List ℕ) where
  -- how many blocks the first w words take
  abbrev pub blocks_before : ℕ → ℕ
  blocks_before w = sum_by (word_blocks s) (take w (setup_words s))

  -- the lists and the ranks of the words from w on
  pub record Left (w : ℕ) (ids ranks : List ℕ) : Type 0 where
    pub ids_are : ids ≡ flat_map (ids_with s.documents) (drop w (setup_words s))
    pub ranks_are : ranks ≡ drop (blocks_before w) all

  -- the plaintexts of the cells of the words from w on, and those of their blocks
  abbrev pub cells_left : ℕ → List (List ℕ)
  cells_left w = clears all (entries_from 0 s (blocks_before w) (drop w (setup_words s)))

  abbrev pub blocks_left : ℕ → List (List ℕ)
  blocks_left w = clears all (blocks_from 0 s (blocks_before w) (drop w (setup_words s)))

  -- at first all is left
  pub Left-first : (ids ranks : List ℕ) → ids ≡ flat_map (ids_with s.documents) (setup_words s) → ranks ≡ all → Left 0 ids ranks
  Left-first ids ranks ids_is ranks_is = record { ids_are = ids_is; ranks_are = ranks_is }

  -- and at the end nothing
  pub no_cells : (w : ℕ) → length (setup_words s) ≤ w → cells_left w ≡ []
  no_cells w past = ap (λ ws. clears all (entries_from 0 s (blocks_before w) ws)) (drop_all w (setup_words s) past)

  pub no_blocks : (w : ℕ) → length (setup_words s) ≤ w → blocks_left w ≡ []
  no_blocks w past = ap (λ ws. clears all (blocks_from 0 s (blocks_before w) ws)) (drop_all w (setup_words s) past)

  blocks_by_word : blocks_of s ≡ sum_by (word_blocks s) (setup_words s)
  blocks_by_word = fold-map (λ a n. a + block_count (plan s.shape n)) (λ w. length (ids_with s.documents w)) 0 (setup_words s)

  module _ (enough : blocks_of s ≤ length all) (w : ℕ) (within : w < length (setup_words s)) where
    -- the word at w
    abbrev pub word_at : List ℕ
    word_at = get_or (setup_words s) w []

    words_are : drop w (setup_words s) ≡ word_at ∷ drop (w + 1) (setup_words s)
    words_are = let next : suc w ≡ w + 1 = omega arith in drop-cons (setup_words s) w [] within ∙ ap (λ n. word_at ∷ drop n (setup_words s)) next

    before_more : blocks_before (w + 1) ≡ blocks_before w + word_blocks s word_at
    before_more = sum_by_more (word_blocks s) (setup_words s) w [] within

    before_within : blocks_before w + word_blocks s word_at ≤ length all
    before_within = omega (arith, before_more, sum_by-take-le (word_blocks s) (setup_words s) (w + 1), blocks_by_word, enough)

    module _ (ids ranks : List ℕ) (left : Left w ids ranks) where
      -- the identifiers begin with those of the word
      ids_split : ids ≡ ids_with s.documents word_at ++ flat_map (ids_with s.documents) (drop (w + 1) (setup_words s))
      ids_split = left.ids_are ∙ ap (flat_map (ids_with s.documents)) words_are

      pub ids_enough : (n : ℕ) → n ≡ length (ids_with s.documents word_at) → n ≤ length ids
      ids_enough n is = omega (arith, is, ap length ids_split, length-append (ids_with s.documents word_at) (flat_map (ids_with s.documents) (drop (w + 1) (setup_words s))))

      ranks_long : word_blocks s word_at ≤ length ranks
      ranks_long = omega (arith, before_within, ap length left.ranks_are, length-drop (blocks_before w) all)

      pub ranks_enough : (count : ℕ) → count ≡ word_blocks s word_at → count ≤ length ranks
      ranks_enough count is = omega (arith, is, ranks_long)

      module _ (n count : ℕ) (n_is : n ≡ length (ids_with s.documents word_at)) (count_is : count ≡ word_blocks s word_at)
          (list places : List ℕ) (list_is : list ≡ take n ids) (places_are : places ≡ take count ranks) where
        own_list : list ≡ ids_with s.documents word_at
        own_list = list_is ∙ ap (take n) ids_split ∙ take_at (ids_with s.documents word_at) (flat_map (ids_with s.documents) (drop (w + 1) (setup_words s))) n (sym n_is)

        own_places : places ≡ take (word_blocks s word_at) (drop (blocks_before w) all)
        own_places = places_are ∙ ap (λ k. take k ranks) count_is ∙ ap (take (word_blocks s word_at)) left.ranks_are

        -- the list and the places as they are laid out
        pub own_laid : laid s.shape places list ≡ laid_at s (blocks_before w) word_at all
        own_laid = λ i. laid s.shape (own_places i) (own_list i)

        pub as_many : length places ≡ word_blocks s word_at
        as_many = ap length (places_are ∙ ap (λ k. take k ranks) count_is) ∙ length-take-le (word_blocks s word_at) ranks ranks_long

        -- one word more
        pub Left-more : (ids' ranks' : List ℕ) → ids' ≡ drop n ids → ranks' ≡ drop count ranks → Left (w + 1) ids' ranks'
        Left-more ids' ranks' ids_rest ranks_rest = record {
          ids_are =
              ids_rest
              ∙ ap (drop n) ids_split
              ∙ drop_at (ids_with s.documents word_at) (flat_map (ids_with s.documents) (drop (w + 1) (setup_words s))) n (sym n_is);
          ranks_are =
              ranks_rest
              ∙ (λ i. drop (count_is i) (left.ranks_are i))
              ∙ drop-drop (word_blocks s word_at) (blocks_before w) all
              ∙ ap (λ k. drop k all) (sym before_more);
        }

        pub cells_more : (texts texts' : List (List ℕ)) (text : List ℕ) → texts' ≡ texts ++ text ∷ [] → text ≡ cell_text (laid s.shape places list)
            → texts' ++ cells_left (w + 1) ≡ texts ++ cells_left w
        cells_more texts texts' text more is =
            let later = drop (w + 1) (setup_words s) in
            (λ i. more i ++ clears all (entries_from 0 s (before_more i) later))
            ∙ append_assoc texts (text ∷ []) (clears all (entries_from 0 s (blocks_before w + word_blocks s word_at) later))
            ∙ ap (λ t. texts ++ (t ∷ clears all (entries_from 0 s (blocks_before w + word_blocks s word_at) later))) (is ∙ ap cell_text own_laid)
            ∙ ap (λ ws. texts ++ clears all (entries_from 0 s (blocks_before w) ws)) (sym words_are)

        pub blocks_more : (texts texts' : List (List ℕ)) → texts' ≡ texts ++ map (λ i. block_text i (laid s.shape places list)) (range_with_len 0 (length places))
            → texts' ++ blocks_left (w + 1) ≡ texts ++ blocks_left w
        blocks_more texts texts' more =
            let later = drop (w + 1) (setup_words s) in
            let first = blocks_before w in
            let rest = blocks_from 0 s (first + word_blocks s word_at) later in
            let clear : Position → List ℕ = λ p. p.clear all in
            let own = λ (n : ℕ). map (λ i. block_text i (laid_at s first word_at all)) (range_with_len 0 n) in
            (λ i. more i ++ clears all (blocks_from 0 s (before_more i) later))
            ∙ (λ j. (texts ++ map (λ i. block_text i (own_laid j)) (range_with_len 0 (as_many j))) ++ clears all rest)
            ∙ append_assoc texts (own (word_blocks s word_at)) (clears all rest)
            ∙ ap (λ ts. texts ++ (ts ++ clears all rest)) (sym (map-map clear (block_position 0 s first word_at) (range_with_len 0 (word_blocks s word_at))))
            ∙ ap (λ ts. texts ++ ts) (sym (map-append clear (map (block_position 0 s first word_at) (range_with_len 0 (word_blocks s word_at))) rest))
            ∙ ap (λ ws. texts ++ clears all (blocks_from 0 s first ws)) (sym words_are)
