-- At a Q of 1 the entries are those of the words, and the blocks those of their lists.
use Rattle.std.proofs.Common.{◌≡◌, ℕ, ◌++◌, map, ap, ◌∙◌}
use Rattle.std.specs.List.{range_with_len}
use Rattle.std.proofs.lemmas.List.{append-nil}
use Rattle.client_registry.proofs.PaddedLaws.{no_dummy_entries, no_dummy_blocks}
use Rattle.client_registry.specs.Setup.{Setup, setup_words}
use Rattle.sse_model.specs.Positions.{dummy_entry, dummy_block, entries_from, blocks_from, entry_positions, block_positions}

module _ (epoch : ℕ) (s : Setup) (alone : s.pad ≡ 1) where
  pub entry_positions-alone : entry_positions epoch s ≡ entries_from epoch s 0 (setup_words s)
  entry_positions-alone =
      ap (λ n. entries_from epoch s 0 (setup_words s) ++ map (dummy_entry epoch s) (range_with_len 0 n)) (no_dummy_entries s alone)
      ∙ append-nil (entries_from epoch s 0 (setup_words s))

  pub block_positions-alone : block_positions epoch s ≡ blocks_from epoch s 0 (setup_words s)
  block_positions-alone =
      ap (λ n. blocks_from epoch s 0 (setup_words s) ++ map (dummy_block epoch s) (range_with_len 0 n)) (no_dummy_blocks s alone)
      ∙ append-nil (blocks_from epoch s 0 (setup_words s))
