-- Under one key a setup comes to the same in each epoch, but for the numbers of its frames: what is built of epoch 0 serves a renewal.
use Rattle.std.proofs.Common.{◌≡◌, ℕ, ◌+◌, List, [], ◌∷◌, ◌++◌, map, refl, sym, ap, ◌∙◌}
use Rattle.std.specs.Prelude.{option_map}
use Rattle.std.specs.Option.{option_or}
use Rattle.std.specs.List.{range_with_len}
use Rattle.std.proofs.lemmas.List.{map-append}
use Rattle.client_registry.specs.Acceptance.{dummy_entries, dummy_blocks}
use Rattle.client_registry.specs.FirstClash.{first_clash}
use Rattle.client_registry.specs.Run.{Offsets}
use Rattle.client_registry.specs.Setup.{Setup, setup_words}
use Rattle.keyed_fn.specs.KeyedFn.{KeyedFn}
use Rattle.keyed_fn.specs.Xored.{xored}
use Rattle.sse_frames.specs.SentParts.{setup_frames}
use Rattle.sse_model.specs.Compared.{Collision, Labels, Places, collision_of_setup}
use Rattle.sse_model.specs.Names.{Table, table}
use Rattle.sse_model.specs.Positions.{Position, entry_position, block_position, dummy_entry, dummy_block, entries_from, blocks_from, entry_positions, block_positions, word_blocks, sealed, ranks_of}
use Rattle.sse_model.specs.Wire.{frames_of_setup, labels_in}

module _ (f : KeyedFn) (key : List ℕ) (s : Setup) where
  abbrev one : Table
  one = table f s.shape (λ epoch. key)

  module _ {A : Type 0} (h : List ℕ → List ℕ → (List ℕ → List ℕ) → A) where
    -- what is made of a position by the values at its names and by its plaintext
    abbrev made : Position → A
    made p = h (one p.label) (one p.pad) p.clear

    entries : (e first : ℕ) (words : List (List ℕ)) → map made (entries_from e s first words) ≡ map made (entries_from 0 s first words)
    entries e first [] = refl
    entries e first (word ∷ words) = ap (λ rest. made (entry_position 0 s first word) ∷ rest) (entries e (first + word_blocks s word) words)

    blocks_of_word : (e first : ℕ) (word : List ℕ) (is : List ℕ) → map made (map (block_position e s first word) is) ≡ map made (map (block_position 0 s first word) is)
    blocks_of_word e first word [] = refl
    blocks_of_word e first word (i ∷ is) = ap (λ rest. made (block_position 0 s first word i) ∷ rest) (blocks_of_word e first word is)

    blocks : (e first : ℕ) (words : List (List ℕ)) → map made (blocks_from e s first words) ≡ map made (blocks_from 0 s first words)
    blocks e first [] = refl
    blocks e first (word ∷ words) =
        map-append made (map (block_position e s first word) (range_with_len 0 (word_blocks s word))) (blocks_from e s (first + word_blocks s word) words)
        ∙ (λ i. blocks_of_word e first word (range_with_len 0 (word_blocks s word)) i ++ blocks e (first + word_blocks s word) words i)
        ∙ sym (map-append made (map (block_position 0 s first word) (range_with_len 0 (word_blocks s word))) (blocks_from 0 s (first + word_blocks s word) words))

    dummies : (e : ℕ) (is : List ℕ) → (map made (map (dummy_entry e s) is) ≡ map made (map (dummy_entry 0 s) is)) × (map made (map (dummy_block e s) is) ≡ map made (map (dummy_block 0 s) is))
    dummies e [] = (refl, refl)
    dummies e (i ∷ is) = (ap (λ rest. made (dummy_entry 0 s i) ∷ rest) (dummies e is).0, ap (λ rest. made (dummy_block 0 s i) ∷ rest) (dummies e is).1)

    all_entries : (e : ℕ) → map made (entry_positions e s) ≡ map made (entry_positions 0 s)
    all_entries e =
        map-append made (entries_from e s 0 (setup_words s)) (map (dummy_entry e s) (range_with_len 0 (dummy_entries s)))
        ∙ (λ i. entries e 0 (setup_words s) i ++ (dummies e (range_with_len 0 (dummy_entries s))).0 i)
        ∙ sym (map-append made (entries_from 0 s 0 (setup_words s)) (map (dummy_entry 0 s) (range_with_len 0 (dummy_entries s))))

    all_blocks : (e : ℕ) → map made (block_positions e s) ≡ map made (block_positions 0 s)
    all_blocks e =
        map-append made (blocks_from e s 0 (setup_words s)) (map (dummy_block e s) (range_with_len 0 (dummy_blocks s)))
        ∙ (λ i. blocks e 0 (setup_words s) i ++ (dummies e (range_with_len 0 (dummy_blocks s))).1 i)
        ∙ sym (map-append made (blocks_from 0 s 0 (setup_words s)) (map (dummy_block 0 s) (range_with_len 0 (dummy_blocks s))))

  pub entry_labels-epoch : (e : ℕ) → labels_in one (entry_positions e s) ≡ labels_in one (entry_positions 0 s)
  entry_labels-epoch e = all_entries (λ l pad clear. l) e

  pub block_labels-epoch : (e : ℕ) → labels_in one (block_positions e s) ≡ labels_in one (block_positions 0 s)
  block_labels-epoch e = all_blocks (λ l pad clear. l) e

  pub sealed_entries-epoch : (ranks : List ℕ) (e : ℕ) → map (sealed one ranks) (entry_positions e s) ≡ map (sealed one ranks) (entry_positions 0 s)
  sealed_entries-epoch ranks e = all_entries (λ l pad clear. record { label = l; text = xored (clear ranks) pad }) e

  pub sealed_blocks-epoch : (ranks : List ℕ) (e : ℕ) → map (sealed one ranks) (block_positions e s) ≡ map (sealed one ranks) (block_positions 0 s)
  sealed_blocks-epoch ranks e = all_blocks (λ l pad clear. record { label = l; text = xored (clear ranks) pad }) e

  -- the frames of a setup, and its collision
  pub frames_of_setup-epoch : (o : Offsets) → frames_of_setup one o s ≡ frames_of_setup one (record { epoch = 0; command = o.command; frame = o.frame }) s
  frames_of_setup-epoch o =
      (λ i. let ranks = ranks_of (block_labels-epoch o.epoch i) in setup_frames o.frame s.shape (map (sealed one ranks) (entry_positions o.epoch s)) (map (sealed one ranks) (block_positions o.epoch s)))
      ∙ (λ i. let ranks = ranks_of (labels_in one (block_positions 0 s)) in setup_frames o.frame s.shape (sealed_entries-epoch ranks o.epoch i) (sealed_blocks-epoch ranks o.epoch i))

  pub collision_of_setup-epoch : (e : ℕ) → collision_of_setup one e s ≡ collision_of_setup one 0 s
  collision_of_setup-epoch e = λ i.
      option_or (option_map (λ places. Labels places.0 places.1) (first_clash (entry_labels-epoch e i)))
      (option_map (λ places. Places places.0 places.1) (first_clash (block_labels-epoch e i)))
