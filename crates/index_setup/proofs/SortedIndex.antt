-- Entries and blocks placed by the ranks of their labels and tags are the dictionary and the array.
use Rattle.std.proofs.Common.{◌≡◌, ℕ, ◌+◌, ◌*◌, ◌<◌, ◌≤◌, List, [], ◌∷◌, length, map, refl, sym, ap, ◌∙◌, arith, inl, inr}
use Rattle.std.specs.Int.{div_ceil}
use Rattle.std.proofs.Math.Nat.{mul-le-mul_right}
use Rattle.std.proofs.lemmas.Bool.{cases_lt}
use Rattle.std.proofs.lemmas.Grind.{div_ceil_times}
use Rattle.std.proofs.lemmas.List.{length-map}
use Rattle.keyed_fn.specs.KeyedFn.{KeyedFn}
use Rattle.list_packing.specs.Parts.{parts}
use Rattle.list_packing.proofs.PartsLemmas.{length-parts, div_ceil-le}
use Rattle.client_registry.specs.Acceptance.{padded_words, padded_blocks}
use Rattle.client_registry.specs.Setup.{Setup}
use Rattle.sse_frames.specs.Frames.{Entry, entry_bytes}
use Rattle.sse_frames.specs.Order.{by_bytes}
use Rattle.sse_model.proofs.Counts.{length-block_positions, length-entry_positions}
use Rattle.sse_model.specs.Positions.{Position, sealed, ranks_of, entry_positions, block_positions}
use Rattle.sse_model.specs.Wire.{labels_in}
use Rattle.index_setup.specs.Entries.{array_bytes, dictionary_bytes, index_labels, index_tags, key_table, setup_blocks, setup_entries, setup_ranks}
use Rattle.index_setup.specs.Placed.{placed}
use Rattle.index_setup.proofs.PlacedSorted.{joined-placed, placed-by_bytes}

-- whole slots are as many as they are
whole_parts : (size count : ℕ) (bytes : List ℕ) → 0 < size → length bytes ≡ count * size → length (parts size bytes) ≡ count
whole_parts size count bytes some whole =
    let d : ℕ = div_ceil (length bytes) size in
    let enough : length bytes ≤ d * size = (div_ceil_times (length bytes) size some).0 in
    let few : d ≤ count = div_ceil-le (length bytes) size count some (omega (arith, whole)) in
    let many : count ≤ d = elim (cases_lt d count) [
      | inl lt ↦ let more : (d + 1) * size ≤ count * size = mul-le-mul_right size (omega (arith, lt)) in absurd (omega (arith, more, enough, whole, some))
      | inr ge ↦ omega (arith, ge)
    ] in
    length-parts size bytes ∙ omega (arith, few, many)

module _ (f : KeyedFn) (key : List ℕ) (s : Setup) where
  none : Entry
  none = record { label = []; text = [] }

  -- the labels of positions are those of what they make
  labels-sealed : (ranks : List ℕ) (ps : List Position) → labels_in (key_table f key s) ps ≡ map (λ entry. entry.label) (map (sealed (key_table f key s) ranks) ps)
  labels-sealed ranks [] = refl
  labels-sealed ranks (p ∷ ps) = ap (λ labels. key_table f key s p.label ∷ labels) (labels-sealed ranks ps)

  pub index_labels-entries : index_labels f key s ≡ map (λ entry. entry.label) (setup_entries f key s)
  index_labels-entries = labels-sealed (setup_ranks f key s) (entry_positions 0 s)

  pub index_tags-blocks : index_tags f key s ≡ map (λ block. block.label) (setup_blocks f key s)
  index_tags-blocks = labels-sealed (setup_ranks f key s) (block_positions 0 s)

  pub length-setup_entries : length (setup_entries f key s) ≡ padded_words s
  length-setup_entries = length-map (entry_positions 0 s) (sealed (key_table f key s) (setup_ranks f key s)) ∙ length-entry_positions 0 s

  pub length-setup_blocks : length (setup_blocks f key s) ≡ padded_blocks s
  length-setup_blocks = length-map (block_positions 0 s) (sealed (key_table f key s) (setup_ranks f key s)) ∙ length-block_positions 0 s

  pub dictionary-placed : (first bytes ranks : List ℕ) → length first ≡ padded_words s * (17 + 8 * s.shape.b) → ranks ≡ ranks_of (index_labels f key s)
      → parts (17 + 8 * s.shape.b) bytes ≡ placed (parts (17 + 8 * s.shape.b) first) ranks (map entry_bytes (setup_entries f key s))
      → bytes ≡ dictionary_bytes f key s
  dictionary-placed first bytes ranks whole are written =
      let size : ℕ = 17 + 8 * s.shape.b in
      let es = setup_entries f key s in
      let slots : length (parts size first) ≡ length es = whole_parts size (padded_words s) first (omega arith) whole ∙ sym length-setup_entries in
      joined-placed size bytes entry_bytes (by_bytes (λ entry. entry.label) es) (omega arith)
      (written
      ∙ ap (λ rs. placed (parts size first) rs (map entry_bytes es)) (are ∙ ap ranks_of index_labels-entries)
      ∙ placed-by_bytes none (λ entry. entry.label) entry_bytes (parts size first) es slots)

  pub array-placed : (first bytes ranks : List ℕ) → 1 ≤ s.shape.big → length first ≡ padded_blocks s * (8 * s.shape.big) → ranks ≡ setup_ranks f key s
      → parts (8 * s.shape.big) bytes ≡ placed (parts (8 * s.shape.big) first) ranks (map (λ block. block.text) (setup_blocks f key s))
      → bytes ≡ array_bytes f key s
  array-placed first bytes ranks some whole are written =
      let size : ℕ = 8 * s.shape.big in
      let bs = setup_blocks f key s in
      let slots : length (parts size first) ≡ length bs = whole_parts size (padded_blocks s) first (omega (arith, some)) whole ∙ sym length-setup_blocks in
      joined-placed size bytes (λ block. block.text) (by_bytes (λ block. block.label) bs) (omega (arith, some))
      (written
      ∙ ap (λ rs. placed (parts size first) rs (map (λ block. block.text) bs)) (are ∙ ap ranks_of index_tags-blocks)
      ∙ placed-by_bytes none (λ block. block.label) (λ block. block.text) (parts size first) bs slots)
