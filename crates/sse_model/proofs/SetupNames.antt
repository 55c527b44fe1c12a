-- The names that a setup draws: a label and a pad for each entry, a tag and a pad for each block, none of them twice.
use Rattle.std.proofs.Common.{◌≡◌, ℕ, zero, suc, ◌+◌, ◌<◌, Bool, true, false, not, List, [], ◌∷◌, ◌++◌, map, refl, sym, ap, ◌∙◌, subst, arith}
use Rattle.std.specs.Prelude.{All, flat_map, ◌==◌, bytes_eq}
use Rattle.std.specs.List.{IsDistinct, AllByRecursion, range_with_len}
use Rattle.std.proofs.lemmas.Bool.{false_from_ne_true, ne_eqb}
use Rattle.std.proofs.lemmas.Cmp.{nat_eq_equiv, nat_list_eq_equiv}
use Rattle.std.proofs.lemmas.List.Concat.{flat_map-append}
use Rattle.std.proofs.lemmas.List.Elements.{All-append, All-weaker}
use Rattle.std.proofs.lemmas.List.Folds.{flat_map-map}
use Rattle.std.proofs.lemmas.List.FromFn.{get_or-range_with_len, length-range_with_len}
use Rattle.std.proofs.lemmas.Map.Keys.{IsDistinct-from_apart}
use Rattle.client_registry.proofs.DistinctLaws.{IsDistinct-first_seen}
use Rattle.client_registry.specs.Acceptance.{dummy_entries, dummy_blocks}
use Rattle.client_registry.specs.Documents.{all_words}
use Rattle.client_registry.specs.Setup.{Setup, setup_words}
use Rattle.sse_model.proofs.Apart.{All-flat_map, All-two, IsDistinct-append, IsDistinct-flat_map}
use Rattle.sse_model.proofs.Prefixes.{names_of_setup}
use Rattle.sse_model.proofs.SameName.{same_name-Decides}
use Rattle.sse_model.specs.Drawn.{names_of}
use Rattle.sse_model.specs.Names.{Kind, ListLabel, ListPad, PlaceTag, DummyLabel, DummyCell, DummyTag, DummyBlock, Name, name, no_word, same_name}
use Rattle.sse_model.specs.Positions.{Position, word_blocks, block_position, dummy_entry, dummy_block, entries_from, blocks_from, entry_positions, block_positions}

-- names of different kinds
pub IsDistinct-kinds : (x y : Name) → (x.kind ≡ y.kind → ⊥) → IsDistinct same_name (x ∷ y ∷ [])
unfolding IsDistinct
IsDistinct-kinds x y differ =
    ((false_from_ne_true (same_name x y) (λ h. differ (ap (λ n. n.kind) ((same_name-Decides x y).0 h))), tt), (tt, tt))

-- the names of parts that each belong to one of these words
pub IsDistinct-by_word : (f : List ℕ → List Name) → ((word : List ℕ) → All (λ n. n.word ≡ word) (f word)) → ((word : List ℕ) → IsDistinct same_name (f word))
    → (words : List (List ℕ)) → IsDistinct bytes_eq words → IsDistinct same_name (flat_map f words)
IsDistinct-by_word f its each =
    IsDistinct-flat_map same_name same_name-Decides bytes_eq (λ word n. bytes_eq word n.word) f nat_list_eq_equiv.refl
    (λ word other k d lt. ap (bytes_eq word) (its other k d lt)) each

-- The names.

-- the names of a word's entry
abbrev pub entry_names : ℕ → List ℕ → List Name
entry_names epoch word = name epoch word ListLabel 0 ∷ name epoch word ListPad 0 ∷ []

-- those of one of its blocks, and of all of them
abbrev pub block_names_at : ℕ → List ℕ → ℕ → List Name
block_names_at epoch word i = name epoch word PlaceTag i ∷ name epoch word ListPad (suc i) ∷ []

abbrev pub block_names : ℕ → Setup → List ℕ → List Name
block_names epoch s word = flat_map (block_names_at epoch word) (range_with_len 0 (word_blocks s word))

names_of-entries_from : (epoch : ℕ) (s : Setup) (first : ℕ) (words : List (List ℕ)) → names_of (entries_from epoch s first words) ≡ flat_map (entry_names epoch) words
names_of-entries_from epoch s first [] = refl
names_of-entries_from epoch s first (word ∷ words) =
    ap (λ rest. entry_names epoch word ++ rest) (names_of-entries_from epoch s (first + word_blocks s word) words)

names_of-blocks_from : (epoch : ℕ) (s : Setup) (first : ℕ) (words : List (List ℕ)) → names_of (blocks_from epoch s first words) ≡ flat_map (block_names epoch s) words
names_of-blocks_from epoch s first [] = refl
names_of-blocks_from epoch s first (word ∷ words) =
    let places = range_with_len 0 (word_blocks s word) in
    flat_map-append (λ (p : Position). p.label ∷ p.pad ∷ []) (map (block_position epoch s first word) places) (blocks_from epoch s (first + word_blocks s word) words)
    ∙ (λ i. flat_map-map (λ (p : Position). p.label ∷ p.pad ∷ []) (block_position epoch s first word) places i ++ names_of-blocks_from epoch s (first + word_blocks s word) words i)

-- those of dummies
abbrev pub dummy_entry_names : ℕ → ℕ → List Name
dummy_entry_names epoch i = name epoch no_word DummyLabel i ∷ name epoch no_word DummyCell i ∷ []

abbrev pub dummy_block_names : ℕ → ℕ → List Name
dummy_block_names epoch j = name epoch no_word DummyTag j ∷ name epoch no_word DummyBlock j ∷ []

-- those of all entries, and of all blocks
abbrev pub entry_names_of_setup : ℕ → Setup → List Name
entry_names_of_setup epoch s = flat_map (entry_names epoch) (setup_words s) ++ flat_map (dummy_entry_names epoch) (range_with_len 0 (dummy_entries s))

abbrev pub block_names_of_setup : ℕ → Setup → List Name
block_names_of_setup epoch s = flat_map (block_names epoch s) (setup_words s) ++ flat_map (dummy_block_names epoch) (range_with_len 0 (dummy_blocks s))

pub names_of-entry_positions : (epoch : ℕ) (s : Setup) → names_of (entry_positions epoch s) ≡ entry_names_of_setup epoch s
names_of-entry_positions epoch s =
    flat_map-append (λ (p : Position). p.label ∷ p.pad ∷ []) (entries_from epoch s 0 (setup_words s)) (map (dummy_entry epoch s) (range_with_len 0 (dummy_entries s)))
    ∙ (λ i. names_of-entries_from epoch s 0 (setup_words s) i ++ flat_map-map (λ (p : Position). p.label ∷ p.pad ∷ []) (dummy_entry epoch s) (range_with_len 0 (dummy_entries s)) i)

pub names_of-block_positions : (epoch : ℕ) (s : Setup) → names_of (block_positions epoch s) ≡ block_names_of_setup epoch s
names_of-block_positions epoch s =
    flat_map-append (λ (p : Position). p.label ∷ p.pad ∷ []) (blocks_from epoch s 0 (setup_words s)) (map (dummy_block epoch s) (range_with_len 0 (dummy_blocks s)))
    ∙ (λ i. names_of-blocks_from epoch s 0 (setup_words s) i ++ flat_map-map (λ (p : Position). p.label ∷ p.pad ∷ []) (dummy_block epoch s) (range_with_len 0 (dummy_blocks s)) i)

-- the names that a setup draws, word by word, with those of the dummies
pub names_of_setup-by_word : (epoch : ℕ) (s : Setup) → names_of_setup epoch s ≡ entry_names_of_setup epoch s ++ block_names_of_setup epoch s
names_of_setup-by_word epoch s = λ i. names_of-entry_positions epoch s i ++ names_of-block_positions epoch s i

-- None of them twice.

IsDistinct-entry_names : (epoch : ℕ) (words : List (List ℕ)) → IsDistinct bytes_eq words → IsDistinct same_name (flat_map (entry_names epoch) words)
IsDistinct-entry_names epoch =
    IsDistinct-by_word (entry_names epoch) (λ word. All-two (λ n. n.word ≡ word) (name epoch word ListLabel 0) (name epoch word ListPad 0) refl refl)
    (λ word. IsDistinct-kinds (name epoch word ListLabel 0) (name epoch word ListPad 0) (λ e. cc))

IsDistinct-range : (first count : ℕ) → IsDistinct (λ x y. x == y) (range_with_len first count)
IsDistinct-range first count =
    IsDistinct-from_apart (λ x y. x == y) (range_with_len first count)
    (λ i j d lt within.
    let end : j < count = omega (arith, within, length-range_with_len first count) in
    ne_eqb _ _ (λ e. omega (arith, e, lt, get_or-range_with_len first count i d (omega arith), get_or-range_with_len first count j d end)))

-- whether a name is one of block i
abbrev is_of_block : ℕ → Kind → ℕ → Bool
is_of_block i PlaceTag j = i == j
is_of_block i ListPad (suc j) = i == j
is_of_block i _ _ = false

block_names-word : (epoch : ℕ) (s : Setup) (word : List ℕ) → All (λ n. n.word ≡ word) (block_names epoch s word)
block_names-word epoch s word =
    All-flat_map (λ n. n.word ≡ word) (block_names_at epoch word) (range_with_len 0 (word_blocks s word))
    (λ k d lt. All-two (λ n. n.word ≡ word) (name epoch word PlaceTag _) (name epoch word ListPad _) refl refl)

IsDistinct-block_names : (epoch : ℕ) (s : Setup) (words : List (List ℕ)) → IsDistinct bytes_eq words → IsDistinct same_name (flat_map (block_names epoch s) words)
IsDistinct-block_names epoch s =
    IsDistinct-by_word (block_names epoch s) (block_names-word epoch s)
    (λ word. IsDistinct-flat_map same_name same_name-Decides (λ x y. x == y) (λ i n. is_of_block i n.kind n.number) (block_names_at epoch word) nat_eq_equiv.refl
    (λ i j. All-two (λ n. is_of_block i n.kind n.number ≡ (i == j)) (name epoch word PlaceTag j) (name epoch word ListPad (suc j)) refl refl)
    (λ i. IsDistinct-kinds (name epoch word PlaceTag i) (name epoch word ListPad (suc i)) (λ e. cc))
    (range_with_len 0 (word_blocks s word)) (IsDistinct-range 0 (word_blocks s word)))

IsDistinct-dummies : (f : ℕ → List Name) → ((i : ℕ) → All (λ n. n.number ≡ i) (f i)) → ((i : ℕ) → IsDistinct same_name (f i)) → (count : ℕ)
    → IsDistinct same_name (flat_map f (range_with_len 0 count))
IsDistinct-dummies f its each count =
    IsDistinct-flat_map same_name same_name-Decides (λ x y. x == y) (λ i n. i == n.number) f nat_eq_equiv.refl
    (λ i j k d lt. ap (λ m. i == m) (its j k d lt)) each (range_with_len 0 count) (IsDistinct-range 0 count)

labels_apart : (x : Name) (ps : List Position) → AllByRecursion (λ n. same_name x n ≡ false) (names_of ps) → AllByRecursion (λ n. same_name x n ≡ false) (map (λ p. p.label) ps)
labels_apart x [] apart = tt
labels_apart x (p ∷ ps) apart = (apart.0, labels_apart x ps apart.1.1)

-- where no name stands twice, no label does
IsDistinct-labels : (ps : List Position) → IsDistinct same_name (names_of ps) → IsDistinct same_name (map (λ p. p.label) ps)
unfolding IsDistinct
IsDistinct-labels [] differ = tt
IsDistinct-labels (p ∷ ps) differ = (labels_apart p.label ps differ.0.1, IsDistinct-labels ps differ.1.1)

-- whether a name is a dummy's
abbrev is_dummy : Kind → Bool
is_dummy DummyLabel = true
is_dummy DummyCell = true
is_dummy DummyTag = true
is_dummy DummyBlock = true
is_dummy _ = false

-- the names of words and those of dummies, each without one twice
IsDistinct-with_dummies : (own dummies : List Name) → All (λ n. is_dummy n.kind ≡ false) own → All (λ n. is_dummy n.kind ≡ true) dummies
    → IsDistinct same_name own → IsDistinct same_name dummies → IsDistinct same_name (own ++ dummies)
IsDistinct-with_dummies own dummies never each =
    IsDistinct-append same_name same_name-Decides (λ n. not (is_dummy n.kind)) own dummies
    (All-weaker (λ n. is_dummy n.kind ≡ false) (λ n. not (is_dummy n.kind) ≡ true) (λ n h. ap not h) own never)
    (All-weaker (λ n. is_dummy n.kind ≡ true) (λ n. not (is_dummy n.kind) ≡ false) (λ n h. ap not h) dummies each)

-- whether a name is an entry's label or pad
abbrev is_of_entry : Kind → ℕ → Bool
is_of_entry ListLabel number = true
is_of_entry ListPad zero = true
is_of_entry DummyLabel number = true
is_of_entry DummyCell number = true
is_of_entry _ _ = false

module _ (epoch : ℕ) (s : Setup) where
  abbrev words : List (List ℕ)
  words = setup_words s

  abbrev entries : List ℕ
  entries = range_with_len 0 (dummy_entries s)

  abbrev blocks : List ℕ
  blocks = range_with_len 0 (dummy_blocks s)

  differ : IsDistinct bytes_eq (setup_words s)
  differ = IsDistinct-first_seen (all_words s.documents)

  -- what holds of each name of an entry, and of each of a block
  each_entry : (P : Name → Type 0) → ((word : List ℕ) → P (name epoch word ListLabel 0)) → ((word : List ℕ) → P (name epoch word ListPad 0)) → All P (flat_map (entry_names epoch) words)
  each_entry P label pad = All-flat_map P (entry_names epoch) words (λ k d lt. All-two P (name epoch _ ListLabel 0) (name epoch _ ListPad 0) (label _) (pad _))

  each_block : (P : Name → Type 0) → ((word : List ℕ) (i : ℕ) → P (name epoch word PlaceTag i)) → ((word : List ℕ) (i : ℕ) → P (name epoch word ListPad (suc i))) → All P (flat_map (block_names epoch s) words)
  each_block P tag pad =
      All-flat_map P (block_names epoch s) words
      (λ k d lt. All-flat_map P (block_names_at epoch _) (range_with_len 0 (word_blocks s _))
      (λ j e le. All-two P (name epoch _ PlaceTag _) (name epoch _ ListPad (suc _)) (tag _ _) (pad _ _)))

  each_dummy_entry : (P : Name → Type 0) → ((i : ℕ) → P (name epoch no_word DummyLabel i)) → ((i : ℕ) → P (name epoch no_word DummyCell i)) → All P (flat_map (dummy_entry_names epoch) entries)
  each_dummy_entry P label pad = All-flat_map P (dummy_entry_names epoch) entries (λ k d lt. All-two P (name epoch no_word DummyLabel _) (name epoch no_word DummyCell _) (label _) (pad _))

  each_dummy_block : (P : Name → Type 0) → ((j : ℕ) → P (name epoch no_word DummyTag j)) → ((j : ℕ) → P (name epoch no_word DummyBlock j)) → All P (flat_map (dummy_block_names epoch) blocks)
  each_dummy_block P tag pad = All-flat_map P (dummy_block_names epoch) blocks (λ k d lt. All-two P (name epoch no_word DummyTag _) (name epoch no_word DummyBlock _) (tag _) (pad _))

  IsDistinct-entries : IsDistinct same_name (entry_names_of_setup epoch s)
  IsDistinct-entries =
      IsDistinct-with_dummies (flat_map (entry_names epoch) words) (flat_map (dummy_entry_names epoch) entries)
      (each_entry (λ n. is_dummy n.kind ≡ false) (λ word. refl) (λ word. refl)) (each_dummy_entry (λ n. is_dummy n.kind ≡ true) (λ i. refl) (λ i. refl))
      (IsDistinct-entry_names epoch words differ)
      (IsDistinct-dummies (dummy_entry_names epoch) (λ i. All-two (λ n. n.number ≡ i) (name epoch no_word DummyLabel i) (name epoch no_word DummyCell i) refl refl)
      (λ i. IsDistinct-kinds (name epoch no_word DummyLabel i) (name epoch no_word DummyCell i) (λ e. cc)) (dummy_entries s))

  IsDistinct-blocks : IsDistinct same_name (block_names_of_setup epoch s)
  IsDistinct-blocks =
      IsDistinct-with_dummies (flat_map (block_names epoch s) words) (flat_map (dummy_block_names epoch) blocks)
      (each_block (λ n. is_dummy n.kind ≡ false) (λ word i. refl) (λ word i. refl)) (each_dummy_block (λ n. is_dummy n.kind ≡ true) (λ j. refl) (λ j. refl))
      (IsDistinct-block_names epoch s words differ)
      (IsDistinct-dummies (dummy_block_names epoch) (λ j. All-two (λ n. n.number ≡ j) (name epoch no_word DummyTag j) (name epoch no_word DummyBlock j) refl refl)
      (λ j. IsDistinct-kinds (name epoch no_word DummyTag j) (name epoch no_word DummyBlock j) (λ e. cc)) (dummy_blocks s))

  -- a setup draws no name twice
  pub IsDistinct-names_of_setup : IsDistinct same_name (names_of_setup epoch s)
  IsDistinct-names_of_setup =
      subst (IsDistinct same_name) (sym (names_of_setup-by_word epoch s))
      (IsDistinct-append same_name same_name-Decides (λ n. is_of_entry n.kind n.number) (entry_names_of_setup epoch s) (block_names_of_setup epoch s)
      (All-append (λ n. is_of_entry n.kind n.number ≡ true) (flat_map (entry_names epoch) words) (flat_map (dummy_entry_names epoch) entries)
      (each_entry (λ n. is_of_entry n.kind n.number ≡ true) (λ word. refl) (λ word. refl)) (each_dummy_entry (λ n. is_of_entry n.kind n.number ≡ true) (λ i. refl) (λ i. refl)))
      (All-append (λ n. is_of_entry n.kind n.number ≡ false) (flat_map (block_names epoch s) words) (flat_map (dummy_block_names epoch) blocks)
      (each_block (λ n. is_of_entry n.kind n.number ≡ false) (λ word i. refl) (λ word i. refl)) (each_dummy_block (λ n. is_of_entry n.kind n.number ≡ false) (λ j. refl) (λ j. refl)))
      IsDistinct-entries IsDistinct-blocks)

  -- nor do its entries have a label twice
  pub IsDistinct-entry_labels : IsDistinct same_name (map (λ p. p.label) (entry_positions epoch s))
  IsDistinct-entry_labels = IsDistinct-labels (entry_positions epoch s) (subst (IsDistinct same_name) (sym (names_of-entry_positions epoch s)) IsDistinct-entries)

  -- nor its blocks a tag
  pub IsDistinct-block_labels : IsDistinct same_name (map (λ p. p.label) (block_positions epoch s))
  IsDistinct-block_labels = IsDistinct-labels (block_positions epoch s) (subst (IsDistinct same_name) (sym (names_of-block_positions epoch s)) IsDistinct-blocks)
