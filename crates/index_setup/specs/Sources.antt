-- The sources of a setup's entries and blocks.
use Rattle.std.specs.Prelude.{◌≡◌, ℕ, List, flat_map}
use Rattle.client_registry.specs.Documents.{ids_with}
use Rattle.client_registry.specs.Setup.{Setup, setup_words}
use Rattle.keyed_fn.specs.KeyedFn.{KeyedFn}
use Rattle.sse_model.specs.Positions.{ranks_of}
use Rattle.client_tag_order.specs.Tagged.{IsOrderOf}
use Rattle.client_tag_order.specs.declared.tagged.Tagged.{Tagged}
use Rattle.index_setup.specs.Entries.{index_labels, setup_ranks}

-- the labels by rising label, the place of each entry by its position, the identifiers of all lists by word number, and the
-- place of each block by its position
pub record AreSources (f : KeyedFn) (key : List ℕ) (s : Setup) (labels : List Tagged) (entry_ranks ids block_ranks : List ℕ) : Type 0 where
  pub labels_are : IsOrderOf (index_labels f key s) labels
  pub entry_ranks_are : entry_ranks ≡ ranks_of (index_labels f key s)
  pub ids_are : ids ≡ flat_map (ids_with s.documents) (setup_words s)
  pub block_ranks_are : block_ranks ≡ setup_ranks f key s
