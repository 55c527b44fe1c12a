-- What the setup's values are drawn for, by the numbers of words.
use Rattle.std.proofs.Common.{◌≡◌, ℕ, ◌+◌, List, [], ◌∷◌, ◌++◌, map, refl, sym, ap, ◌∙◌, append_assoc}
use Rattle.std.specs.List.{range_with_len}
use Rattle.std.proofs.lemmas.List.{map-append}
use Rattle.client_registry.specs.Acceptance.{dummy_blocks, dummy_entries}
use Rattle.client_registry.specs.Document.{Document}
use Rattle.client_registry.specs.Setup.{Setup, setup_with, setup_words}
use Rattle.leakage_values.specs.Numbered.{number_of_word, numbered_drawing}
use Rattle.leakage_values.specs.SetupDrawings.{entry_by_number, block_by_number, dummy_entry_drawing, dummy_block_drawing, blocks_by_number}
use Rattle.leakage_values.specs.declared.drawn.Drawing.{Drawing}
use Rattle.def_leakage.specs.DrawnValues.{ForEntry, ForBlock, drawings_of_setup}
use Rattle.sse_model.specs.Positions.{word_blocks, block_position, dummy_entry, dummy_block, entries_from, blocks_from, entry_positions, block_positions}

module _ (epoch : ℕ) (words : List (List ℕ)) (s : Setup) where
  entries : (first : ℕ) (ws : List (List ℕ)) → map (numbered_drawing words) (map ForEntry (entries_from epoch s first ws)) ≡ map (λ word. entry_by_number epoch (number_of_word words word)) ws
  entries first [] = refl
  entries first (w ∷ ws) = ap (λ rest. entry_by_number epoch (number_of_word words w) ∷ rest) (entries (first + word_blocks s w) ws)

  no_entries : (xs : List ℕ) → map (numbered_drawing words) (map ForEntry (map (dummy_entry epoch s) xs)) ≡ map (dummy_entry_drawing epoch) xs
  no_entries [] = refl
  no_entries (x ∷ xs) = ap (λ rest. dummy_entry_drawing epoch x ∷ rest) (no_entries xs)

  blocks_of_one : (first : ℕ) (w : List ℕ) (xs : List ℕ) → map (numbered_drawing words) (map ForBlock (map (block_position epoch s first w) xs)) ≡ map (block_by_number epoch (number_of_word words w)) xs
  blocks_of_one first w [] = refl
  blocks_of_one first w (x ∷ xs) = ap (λ rest. block_by_number epoch (number_of_word words w) x ∷ rest) (blocks_of_one first w xs)

  both : (xs ys : List _) → map (numbered_drawing words) (map ForBlock (xs ++ ys)) ≡ map (numbered_drawing words) (map ForBlock xs) ++ map (numbered_drawing words) (map ForBlock ys)
  both xs ys = ap (map (numbered_drawing words)) (map-append ForBlock xs ys) ∙ map-append (numbered_drawing words) (map ForBlock xs) (map ForBlock ys)

  blocks : (first : ℕ) (ws : List (List ℕ)) → map (numbered_drawing words) (map ForBlock (blocks_from epoch s first ws)) ≡ blocks_by_number epoch words s ws
  blocks first [] = refl
  blocks first (w ∷ ws) =
      both (map (block_position epoch s first w) (range_with_len 0 (word_blocks s w))) (blocks_from epoch s (first + word_blocks s w) ws)
      ∙ (λ i. blocks_of_one first w (range_with_len 0 (word_blocks s w)) i ++ blocks (first + word_blocks s w) ws i)

  no_blocks : (xs : List ℕ) → map (numbered_drawing words) (map ForBlock (map (dummy_block epoch s) xs)) ≡ map (dummy_block_drawing epoch) xs
  no_blocks [] = refl
  no_blocks (x ∷ xs) = ap (λ rest. dummy_block_drawing epoch x ∷ rest) (no_blocks xs)

  -- the setup's drawings in their four parts
  abbrev own_entries : List Drawing
  own_entries = map (λ word. entry_by_number epoch (number_of_word words word)) (setup_words s)

  abbrev more_entries : List Drawing
  more_entries = map (dummy_entry_drawing epoch) (range_with_len 0 (dummy_entries s))

  abbrev own_blocks : List Drawing
  own_blocks = blocks_by_number epoch words s (setup_words s)

  abbrev more_blocks : List Drawing
  more_blocks = map (dummy_block_drawing epoch) (range_with_len 0 (dummy_blocks s))

  setup_numbered : map (numbered_drawing words) (drawings_of_setup epoch s) ≡ (own_entries ++ more_entries) ++ (own_blocks ++ more_blocks)
  setup_numbered =
      map-append (numbered_drawing words) (map ForEntry (entry_positions epoch s)) (map ForBlock (block_positions epoch s))
      ∙ (λ i. (ap (map (numbered_drawing words)) (map-append ForEntry (entries_from epoch s 0 (setup_words s)) (map (dummy_entry epoch s) (range_with_len 0 (dummy_entries s))))
      ∙ map-append (numbered_drawing words) (map ForEntry (entries_from epoch s 0 (setup_words s))) (map ForEntry (map (dummy_entry epoch s) (range_with_len 0 (dummy_entries s))))
      ∙ (λ j. entries 0 (setup_words s) j ++ no_entries (range_with_len 0 (dummy_entries s)) j)) i
      ++ (both (blocks_from epoch s 0 (setup_words s)) (map (dummy_block epoch s) (range_with_len 0 (dummy_blocks s)))
      ∙ (λ j. blocks 0 (setup_words s) j ++ no_blocks (range_with_len 0 (dummy_blocks s)) j)) i)

  -- appended one after the other
  pub setup_joined : (d0 d1 d2 d3 d4 : List Drawing) (m n : ℕ) → d0 ≡ [] → d1 ≡ d0 ++ own_entries → d2 ≡ d1 ++ map (dummy_entry_drawing epoch) (range_with_len 0 m) → d3 ≡ d2 ++ own_blocks
      → d4 ≡ d3 ++ map (dummy_block_drawing epoch) (range_with_len 0 n) → m ≡ dummy_entries s → n ≡ dummy_blocks s → d4 ≡ map (numbered_drawing words) (drawings_of_setup epoch s)
  setup_joined d0 d1 d2 d3 d4 m n e0 e1 e2 e3 e4 em en =
      e4
      ∙ (λ i. (e3 ∙ ap (λ d. d ++ own_blocks) (e2 ∙ (λ j. (e1 ∙ ap (λ d. d ++ own_entries) e0) j ++ map (dummy_entry_drawing epoch) (range_with_len 0 (em j))))) i ++ map (dummy_block_drawing epoch) (range_with_len 0 (en i)))
      ∙ append_assoc (own_entries ++ more_entries) own_blocks more_blocks
      ∙ sym setup_numbered

-- a setup is that of its parts
pub same_setup : (s : Setup) (docs : List Document) (b big pad : ℕ) → docs ≡ s.documents → b ≡ s.shape.b → big ≡ s.shape.big → pad ≡ s.pad → setup_with docs b big pad ≡ s
same_setup s docs b big pad ds bs bigs pads = λ i. record { documents = ds i; shape = record { b = bs i; big = bigs i }; pad = pads i }
