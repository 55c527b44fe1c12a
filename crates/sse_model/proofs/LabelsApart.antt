-- The labels of a setup's entries differ, and so do the tags of its blocks, where the names are told apart.
use Rattle.std.proofs.Common.{◌≡◌, ◌≢◌, ℕ, ◌+◌, true, false, List, [], ◌∷◌, map, refl, sym, ap, ◌∙◌}
use Rattle.std.specs.Prelude.{Contains}
use Rattle.std.specs.List.{AllByRecursion, IsDistinct, range_with_len}
use Rattle.std.proofs.lemmas.Bool.{true≢false}
use Rattle.client_registry.specs.Acceptance.{dummy_entries, dummy_blocks}
use Rattle.client_registry.specs.Setup.{Setup, setup_words}
use Rattle.sse_frames.proofs.Sorted.{AllDiffer}
use Rattle.sse_model.proofs.Counts.{AllByRecursion-append, AllByRecursion-each}
use Rattle.sse_model.proofs.SameName.{same_name-Decides}
use Rattle.sse_model.proofs.SetupNames.{IsDistinct-entry_labels, IsDistinct-block_labels}
use Rattle.sse_model.specs.Drawn.{is_compared, AreDistinct}
use Rattle.sse_model.specs.Names.{Name, Class, ListLabels, PlaceTags, class_of, same_name, Table}
use Rattle.sse_model.specs.Positions.{Position, word_blocks, block_position, dummy_entry, dummy_block, entries_from, blocks_from, entry_positions, block_positions}
use Rattle.sse_model.specs.Wire.{labels_in}

-- a position whose label is of this epoch and class
abbrev pub IsOfClass : ℕ → Class → Position → Type 0
IsOfClass epoch class p = (p.label.epoch ≡ epoch) × (class_of p.label ≡ class)

own_labels : (epoch : ℕ) (s : Setup) (first : ℕ) (words : List (List ℕ)) → AllByRecursion (IsOfClass epoch ListLabels) (entries_from epoch s first words)
own_labels epoch s first [] = tt
own_labels epoch s first (word ∷ words) = ((refl, refl), own_labels epoch s (first + word_blocks s word) words)

own_tags : (epoch : ℕ) (s : Setup) (first : ℕ) (words : List (List ℕ)) → AllByRecursion (IsOfClass epoch PlaceTags) (blocks_from epoch s first words)
own_tags epoch s first [] = tt
own_tags epoch s first (word ∷ words) =
    AllByRecursion-append (IsOfClass epoch PlaceTags) (map (block_position epoch s first word) (range_with_len 0 (word_blocks s word))) (blocks_from epoch s (first + word_blocks s word) words)
    (AllByRecursion-each (IsOfClass epoch PlaceTags) (block_position epoch s first word) (λ i. (refl, refl)) (range_with_len 0 (word_blocks s word)))
    (own_tags epoch s (first + word_blocks s word) words)

-- entries have labels, and blocks have tags, those of words as those of dummies
pub entries_have_labels : (epoch : ℕ) (s : Setup) → AllByRecursion (IsOfClass epoch ListLabels) (entry_positions epoch s)
entries_have_labels epoch s =
    AllByRecursion-append (IsOfClass epoch ListLabels) (entries_from epoch s 0 (setup_words s)) (map (dummy_entry epoch s) (range_with_len 0 (dummy_entries s)))
    (own_labels epoch s 0 (setup_words s)) (AllByRecursion-each (IsOfClass epoch ListLabels) (dummy_entry epoch s) (λ i. (refl, refl)) (range_with_len 0 (dummy_entries s)))

pub blocks_have_tags : (epoch : ℕ) (s : Setup) → AllByRecursion (IsOfClass epoch PlaceTags) (block_positions epoch s)
blocks_have_tags epoch s =
    AllByRecursion-append (IsOfClass epoch PlaceTags) (blocks_from epoch s 0 (setup_words s)) (map (dummy_block epoch s) (range_with_len 0 (dummy_blocks s)))
    (own_tags epoch s 0 (setup_words s)) (AllByRecursion-each (IsOfClass epoch PlaceTags) (dummy_block epoch s) (λ j. (refl, refl)) (range_with_len 0 (dummy_blocks s)))

module _ (t : Table) (epoch : ℕ) (class : Class) (compared : is_compared class ≡ true) (names : List Name) (apart : AreDistinct t names) where
  one_differs : (x : Name) → x.epoch ≡ epoch → class_of x ≡ class → Contains names x → (ps : List Position)
      → AllByRecursion (IsOfClass epoch class) ps → AllByRecursion (λ p. Contains names p.label) ps
      → AllByRecursion (λ n. same_name x n ≡ false) (map (λ p. p.label) ps) → AllByRecursion (λ v. t x ≢ v) (labels_in t ps)
  one_differs x at is here [] are there differ = tt
  one_differs x at is here (p ∷ ps) are there differ = (
    λ same.
        let equal = apart x p.label here there.0 (at ∙ sym are.0.0) (is ∙ sym are.0.1) (ap is_compared is ∙ compared) same in
        true≢false (sym ((same_name-Decides x p.label).1 equal) ∙ differ.0),
    one_differs x at is here ps are.1 there.1 differ.1,
  )

  -- labels of one compared class differ, where none stands there twice
  each_differs : (ps : List Position) → AllByRecursion (IsOfClass epoch class) ps → AllByRecursion (λ p. Contains names p.label) ps
      → IsDistinct same_name (map (λ p. p.label) ps) → AllDiffer (labels_in t ps)
  unfolding IsDistinct
  each_differs [] are there differ = tt
  each_differs (p ∷ ps) are there differ = (one_differs p.label are.0.0 are.0.1 there.0 ps are.1 there.1 differ.0, each_differs ps are.1 there.1 differ.1)

module _ (t : Table) (epoch : ℕ) (s : Setup) (names : List Name) (apart : AreDistinct t names) where
  -- so the labels of a setup's entries differ
  pub entry_labels_differ : AllByRecursion (λ p. Contains names p.label) (entry_positions epoch s) → AllDiffer (labels_in t (entry_positions epoch s))
  entry_labels_differ there = each_differs t epoch ListLabels refl names apart (entry_positions epoch s) (entries_have_labels epoch s) there (IsDistinct-entry_labels epoch s)

  -- and the tags of its blocks
  pub block_tags_differ : AllByRecursion (λ p. Contains names p.label) (block_positions epoch s) → AllDiffer (labels_in t (block_positions epoch s))
  block_tags_differ there = each_differs t epoch PlaceTags refl names apart (block_positions epoch s) (blocks_have_tags epoch s) there (IsDistinct-block_labels epoch s)
