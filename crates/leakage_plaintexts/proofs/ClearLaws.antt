-- The plaintexts of a setup in their four parts.
use Rattle.std.proofs.Common.{◌≡◌, ℕ, ◌+◌, List, [], ◌∷◌, ◌++◌, length, take, drop, arith, map, Option, None, Some, replicate, refl, sym, ap, ◌∙◌, append_assoc}
use Rattle.std.specs.Prelude.{option_map}
use Rattle.std.specs.List.{range_with_len}
use Rattle.std.proofs.lemmas.List.{map-append, take_at}
use Rattle.std.proofs.lemmas.Simd.{map-map}
use Rattle.client_registry.specs.Acceptance.{dummy_blocks, dummy_entries}
use Rattle.client_registry.specs.Setup.{Setup, setup_words}
use Rattle.two_level.specs.Laid.{Laid, block_bytes, cell_bytes}
use Rattle.sse_model.specs.Names.{block_size, cell_size}
use Rattle.sse_model.specs.Positions.{Position, block_position, block_positions, block_text, blocks_from, cell_text, dummy_block, dummy_entry, entries_from, entry_positions, laid_at, word_blocks}
use Rattle.leakage_plaintexts.specs.Clears.{clears}

-- a vector whose elements were written through a slice holds what the slice holds
pub written_back : (new old : List ℕ) (len : ℕ) → len ≡ length old → length new ≡ length old → take len (new ++ drop (length new) old) ≡ new
written_back new old len is same = take_at new (drop (length new) old) len (omega (arith, is, same))

-- the text of a list that is laid out
pub cell_laid : (o : Option Laid) (text : List ℕ) → option_map cell_bytes o ≡ Some text → text ≡ cell_text o
cell_laid None text is = absurd (cc)
cell_laid (Some l) text is = cc

pub block_laid : (i : ℕ) (o : Option Laid) (text : List ℕ) → option_map (block_bytes i) o ≡ Some text → text ≡ block_text i o
block_laid i None text is = absurd (cc)
block_laid i (Some l) text is = cc

module _ (s : Setup) (ranks : List ℕ) where
  clear : Position → List ℕ
  clear p = p.clear ranks

  -- so many zeros for each dummy
  abbrev zeros : ℕ → ℕ → List (List ℕ)
  zeros count size = map (λ i. replicate size 0) (range_with_len 0 count)

  -- they are the same in every epoch
  entries_same : (epoch first : ℕ) (words : List (List ℕ)) → clears ranks (entries_from 0 s first words) ≡ clears ranks (entries_from epoch s first words)
  entries_same epoch first [] = refl
  entries_same epoch first (w ∷ ws) = ap (λ ts. cell_text (laid_at s first w ranks) ∷ ts) (entries_same epoch (first + word_blocks s w) ws)

  blocks_same : (epoch first : ℕ) (words : List (List ℕ)) → clears ranks (blocks_from 0 s first words) ≡ clears ranks (blocks_from epoch s first words)
  blocks_same epoch first [] = refl
  blocks_same epoch first (w ∷ ws) =
      let blocks = range_with_len 0 (word_blocks s w) in
      let later = first + word_blocks s w in
      map-append (λ (p : Position). p.clear ranks) (map (block_position 0 s first w) blocks) (blocks_from 0 s later ws)
      ∙ (λ i. (map-map (λ (p : Position). p.clear ranks) (block_position 0 s first w) blocks ∙ sym (map-map (λ (p : Position). p.clear ranks) (block_position epoch s first w) blocks)) i ++ blocks_same epoch later ws i)
      ∙ sym (map-append (λ (p : Position). p.clear ranks) (map (block_position epoch s first w) blocks) (blocks_from epoch s later ws))

  entries_are : (epoch : ℕ) → clears ranks (entry_positions epoch s) ≡ clears ranks (entries_from 0 s 0 (setup_words s)) ++ zeros (dummy_entries s) (cell_size s.shape)
  entries_are epoch =
      let dummies = range_with_len 0 (dummy_entries s) in
      map-append (λ (p : Position). p.clear ranks) (entries_from epoch s 0 (setup_words s)) (map (dummy_entry epoch s) dummies)
      ∙ (λ i. sym (entries_same epoch 0 (setup_words s)) i ++ map-map (λ (p : Position). p.clear ranks) (dummy_entry epoch s) dummies i)

  blocks_are : (epoch : ℕ) → clears ranks (block_positions epoch s) ≡ clears ranks (blocks_from 0 s 0 (setup_words s)) ++ zeros (dummy_blocks s) (block_size s.shape)
  blocks_are epoch =
      let dummies = range_with_len 0 (dummy_blocks s) in
      map-append (λ (p : Position). p.clear ranks) (blocks_from epoch s 0 (setup_words s)) (map (dummy_block epoch s) dummies)
      ∙ (λ i. sym (blocks_same epoch 0 (setup_words s)) i ++ map-map (λ (p : Position). p.clear ranks) (dummy_block epoch s) dummies i)

  -- appended one after the other
  pub clears_joined : (epoch : ℕ) (t0 t1 t2 t3 t4 : List (List ℕ)) (m n cell block : ℕ) → t0 ≡ [] → t1 ≡ t0 ++ clears ranks (entries_from 0 s 0 (setup_words s)) → t2 ≡ t1 ++ zeros m cell
      → t3 ≡ t2 ++ clears ranks (blocks_from 0 s 0 (setup_words s)) → t4 ≡ t3 ++ zeros n block
      → m ≡ dummy_entries s → n ≡ dummy_blocks s → cell ≡ cell_size s.shape → block ≡ block_size s.shape
      → t4 ≡ clears ranks (entry_positions epoch s ++ block_positions epoch s)
  clears_joined epoch t0 t1 t2 t3 t4 m n cell block e0 e1 e2 e3 e4 em en ec eb =
      let entries = clears ranks (entries_from 0 s 0 (setup_words s)) in
      let blocks = clears ranks (blocks_from 0 s 0 (setup_words s)) in
      e4
      ∙ (λ i. (e3 ∙ ap (λ t. t ++ blocks) (e2 ∙ (λ j. (e1 ∙ ap (λ t. t ++ entries) e0) j ++ zeros (em j) (ec j)))) i ++ zeros (en i) (eb i))
      ∙ append_assoc (entries ++ zeros (dummy_entries s) (cell_size s.shape)) blocks (zeros (dummy_blocks s) (block_size s.shape))
      ∙ (λ i. sym (entries_are epoch) i ++ sym (blocks_are epoch) i)
      ∙ sym (map-append (λ (p : Position). p.clear ranks) (entry_positions epoch s) (block_positions epoch s))
