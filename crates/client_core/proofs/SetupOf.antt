-- The frames of the index that a setup's documents make under a key are those of the setup.
use Rattle.std.proofs.Common.{zero, suc, take, drop, ◌<◌, arith, ◌≡◌, ℕ, ◌+◌, ◌*◌, List, [], ◌∷◌, ◌++◌, length, map, None, Some, refl, sym, ap, ◌∙◌, subst}
use Rattle.std.specs.List.{AllByRecursion, IsDistinct}
use Rattle.std.specs.Str.{bytes_eq}
use Rattle.std.specs.Int.{div_ceil}
use Rattle.std.specs.Simd.{first_chunks}
use Rattle.std.proofs.lemmas.List.{drop-map, length-map, map-id, take-map}
use Rattle.std.proofs.lemmas.List.FromFn.{length-map-range_with_len}
use Rattle.std.proofs.lemmas.List.Folds.{flat_map-map}
use Rattle.std.proofs.lemmas.Simd.{map-map}
use Rattle.keyed_fn.specs.KeyedFn.{KeyedFn, IsKeyedFn}
use Rattle.two_level.specs.Shape.{Shape}
use Rattle.list_packing.specs.Parts.{parts}
use Rattle.client_registry.proofs.DistinctLaws.{IsDistinct-first_clash}
use Rattle.client_registry.proofs.SizedLaws.{accepted_shape}
use Rattle.client_registry.specs.Acceptance.{size_refusal}
use Rattle.client_registry.specs.FirstClash.{first_clash}
use Rattle.client_registry.specs.Run.{Offsets, at_first}
use Rattle.client_registry.specs.Setup.{Setup}
use Rattle.sse_frames.specs.Frames.{Entry, FrameText, SetupBegin, SetupDict, SetupArray, SetupEnd, IsBytes, IsEntry, Rises, labels_of, update_number, frame_bytes}
use Rattle.sse_frames.proofs.Joined.{items_in-joined, sizes_of}
use Rattle.sse_frames.proofs.Sorted.{AllDiffer, All-by_bytes, Rises-by_bytes, length-by_bytes}
use Rattle.sse_frames.proofs.FrameBytesLaws.{entries_in-entry_bytes}
use Rattle.sse_frames.specs.Order.{by_bytes}
use Rattle.sse_frames.specs.FrameViews.{entries_in, items_in}
use Rattle.sse_frames.specs.SentParts.{numbered, dict_frames, array_frames, setup_frames}
use Rattle.sse_model.proofs.Counts.{AllByRecursion-append, AllByRecursion-each}
use Rattle.sse_model.proofs.KeyValues.{IsValue-table}
use Rattle.sse_model.proofs.SetupEpochs.{frames_of_setup-epoch}
use Rattle.sse_model.proofs.SealedEntries.{HasNames, AllDiffer-words, cells_have_names, blocks_have_names}
use Rattle.sse_model.proofs.Texts.{HasText, IsBytes-xored, cells_have_texts, blocks_have_texts}
use Rattle.sse_model.specs.Names.{Table, block_size, cell_size}
use Rattle.sse_model.specs.Positions.{Position, sealed, entry_positions, block_positions, ranks_of}
use Rattle.sse_model.specs.Wire.{frames_of_setup, labels_in}
use Rattle.index_setup.proofs.SortedIndex.{index_labels-entries}
use Rattle.index_setup.specs.Entries.{array_bytes, dictionary_bytes, index_tags, key_table, label_clash, setup_blocks, setup_entries, setup_ranks}
use Rattle.client_core.specs.Setup.{frames_between, frames_of_joined, setup_bytes}

-- Parts of mapped lists.

parts-map : {X Y : Type 0} (f : X → Y) (k n : ℕ) (xs : List X) → first_chunks k n (map f xs) ≡ map (map f) (first_chunks k n xs)
parts-map f k zero xs = refl
parts-map f k (suc n) xs =
    ap (λ piece. piece ∷ first_chunks k n (drop k (map f xs))) (take-map f k xs)
    ∙ ap (λ rest. map f (take k xs) ∷ rest) (ap (first_chunks k n) (drop-map f k xs) ∙ parts-map f k n (drop k xs))

abbrev as_array : ℕ → List (List ℕ) → ℕ → FrameText
as_array width part q = SetupArray q width part

abbrev text_of : Entry → List ℕ
text_of block = block.text

abbrev as_blocks : ℕ → List Entry → ℕ → FrameText
as_blocks width part q = SetupArray q width (map text_of part)

-- the blocks' texts in parts, or the blocks in parts and then their texts
array_parts : (width : ℕ) (blocks : List Entry)
    → map (as_array width) (parts 256 (map text_of blocks)) ≡ map (as_blocks width) (parts 256 blocks)
array_parts width blocks =
    ap (λ n. map (as_array width) (first_chunks 256 (div_ceil n 256) (map text_of blocks))) (length-map blocks text_of)
    ∙ ap (map (as_array width)) (parts-map text_of 256 (div_ceil (length blocks) 256) blocks)
    ∙ map-map (as_array width) (map text_of) (parts 256 blocks)

texts_are : (size : ℕ) (xs : List Entry) → AllByRecursion (IsEntry size) xs → AllByRecursion (IsBytes size) (map (λ entry. entry.text) xs)
texts_are size [] all = tt
texts_are size (x ∷ xs) all = (all.0.text, texts_are size xs all.1)

module _ (f : KeyedFn) (laws : IsKeyedFn f) (key : List ℕ) (s : Setup) where
  abbrev values : Table
  values = key_table f key s

  -- positions with texts and names of one size, encrypted, are entries
  are_entries : (size : ℕ) (ranks : List ℕ) (ps : List Position) → AllByRecursion (HasText size ranks) ps → AllByRecursion (HasNames s.shape size) ps
      → AllByRecursion (IsEntry size) (map (sealed values ranks) ps)
  are_entries size ranks [] texts sizes = tt
  are_entries size ranks (p ∷ ps) texts sizes =
      let label : IsBytes 16 (values p.label) = subst (λ (n : ℕ). IsBytes n (values p.label)) sizes.0.0 (IsValue-table f laws s.shape (λ epoch. key) p.label) in
      let pad : IsBytes size (values p.pad) = subst (λ (n : ℕ). IsBytes n (values p.pad)) sizes.0.1 (IsValue-table f laws s.shape (λ epoch. key) p.pad) in
      (record { label = label; text = IsBytes-xored size (p.clear ranks) (values p.pad) texts.0 pad }, are_entries size ranks ps texts.1 sizes.1)

  module _ (accepted : size_refusal s ≡ None) where
    abbrev ranks : List ℕ
    ranks = setup_ranks f key s

    as_many : length ranks ≡ length (block_positions 0 s)
    as_many = length-map-range_with_len _ 0 (length (index_tags f key s)) ∙ length-map (block_positions 0 s) (λ p. values p.label)

    abbrev sorted_entries : List Entry
    sorted_entries = by_bytes (λ (entry : Entry). entry.label) (setup_entries f key s)

    abbrev sorted_blocks : List Entry
    sorted_blocks = by_bytes (λ (block : Entry). block.label) (setup_blocks f key s)

    entries_are : AllByRecursion (IsEntry (cell_size s.shape)) (setup_entries f key s)
    entries_are = are_entries (cell_size s.shape) ranks (entry_positions 0 s) (cells_have_texts 0 s accepted ranks as_many) (cells_have_names 0 s)

    blocks_are : AllByRecursion (IsEntry (block_size s.shape)) (setup_blocks f key s)
    blocks_are = are_entries (block_size s.shape) ranks (block_positions 0 s) (blocks_have_texts 0 s accepted ranks as_many) (blocks_have_names 0 s)

    -- the entries that the bytes of the dictionary hold
    entries_in-dictionary : entries_in (cell_size s.shape) (dictionary_bytes f key s) ≡ sorted_entries
    entries_in-dictionary =
        entries_in-entry_bytes (cell_size s.shape) sorted_entries
        (All-by_bytes (λ (entry : Entry). entry.label) (IsEntry (cell_size s.shape)) (setup_entries f key s) entries_are)

    -- and the blocks that those of the array hold
    items_in-array : items_in (block_size s.shape) (array_bytes f key s) ≡ map (λ block. block.text) sorted_blocks
    items_in-array =
        let some : 0 < block_size s.shape = omega (arith, (accepted_shape s accepted).1.0) in
        ap (items_in (block_size s.shape)) (sym (flat_map-map (λ (item : List ℕ). item) (λ (block : Entry). block.text) sorted_blocks))
        ∙ items_in-joined (block_size s.shape) (map (λ block. block.text) sorted_blocks) some
        (sizes_of (block_size s.shape) (map (λ block. block.text) sorted_blocks) (texts_are (block_size s.shape) sorted_blocks (All-by_bytes (λ (block : Entry). block.label) (IsEntry (block_size s.shape)) (setup_blocks f key s) blocks_are)))

    -- the bytes of the index of an accepted setup are sent as the setup's frames, from this number on
    frames-index : (q : ℕ) → numbered q (frames_of_joined s.shape.b s.shape.big (dictionary_bytes f key s) (array_bytes f key s)) ≡ frames_of_setup (key_table f key s) (record { epoch = 0; command = 0; frame = q }) s
    frames-index q =
        let ending : List (ℕ → FrameText) = (λ q. SetupEnd q) ∷ [] in
        let dicts : List (ℕ → FrameText) = dict_frames s.shape (setup_entries f key s) in
        (λ i. numbered q (frames_between s.shape.b s.shape.big (entries_in-dictionary i) (items_in-array i)))
        ∙ (λ i. numbered q
        ((λ q. SetupBegin q s.shape.b s.shape.big (length-by_bytes (λ (entry : Entry). entry.label) (setup_entries f key s) i)
        ((length-map sorted_blocks (λ block. block.text) ∙ length-by_bytes (λ (block : Entry). block.label) (setup_blocks f key s)) i))
        ∷ dicts ++ array_parts (8 * s.shape.big) sorted_blocks i ++ ending))

    pub setup_bytes-index : setup_bytes s.shape.b s.shape.big (dictionary_bytes f key s) (array_bytes f key s) ≡ map frame_bytes (frames_of_setup (key_table f key s) at_first s)
    setup_bytes-index = ap (map frame_bytes) (frames-index 0)

    -- and as those of a setup that begins a later epoch: under one key its values are the same in each
    pub bytes_from-index : (o : Offsets) → map frame_bytes (numbered o.frame (frames_of_joined s.shape.b s.shape.big (dictionary_bytes f key s) (array_bytes f key s))) ≡ map frame_bytes (frames_of_setup (key_table f key s) o s)
    bytes_from-index o = ap (map frame_bytes) (frames-index o.frame ∙ sym (frames_of_setup-epoch f key s o))

    -- the labels of its entries rise, where no two are equal
    pub labels_rise : label_clash f key s ≡ None → Rises (labels_of (entries_in (1 + 8 * s.shape.b) (dictionary_bytes f key s)))
    labels_rise differ =
        let es = setup_entries f key s in
        let apart : IsDistinct bytes_eq (labels_of es) = IsDistinct-first_clash (labels_of es) (ap first_clash (sym (index_labels-entries f key s)) ∙ differ) in
        let all : AllDiffer (labels_of es) = subst AllDiffer (map-id (labels_of es)) (AllDiffer-words (λ label. label) (labels_of es) apart (λ v w _ _ same. same)) in
        subst (λ (xs : List Entry). Rises (labels_of xs)) (sym entries_in-dictionary) (Rises-by_bytes (λ (entry : Entry). entry.label) es all)

-- Numbers.

-- what holds of no frames, and of a frame of number q in front of others from q + 1, holds of a setup's frames
module _ (P : ℕ → List FrameText → Type 0) (nil : (q : ℕ) → P q []) (cons : (q : ℕ) (frame : FrameText) (frames : List FrameText) → update_number frame ≡ Some q → P (q + 1) frames → P q (frame ∷ frames)) where
  abbrev Numbered : (ℕ → FrameText) → Type 0
  Numbered frame = (n : ℕ) → update_number (frame n) ≡ Some n

  all_numbered : (q : ℕ) (fs : List (ℕ → FrameText)) → AllByRecursion Numbered fs → P q (numbered q fs)
  all_numbered q [] each = nil q
  all_numbered q (f ∷ fs) each = cons q (f q) (numbered (q + 1) fs) (each.0 q) (all_numbered (q + 1) fs each.1)

  of_setup_frames : (q : ℕ) (shape : Shape) (entries blocks : List Entry) → P q (setup_frames q shape entries blocks)
  of_setup_frames q shape entries blocks =
      let last : List (ℕ → FrameText) = (λ n. SetupEnd n) ∷ [] in
      let dict = AllByRecursion-each Numbered (λ part n. SetupDict n (1 + 8 * shape.b) part) (λ part n. refl) (parts 1024 (by_bytes (λ entry. entry.label) entries)) in
      let array = AllByRecursion-each Numbered (λ part n. SetupArray n (8 * shape.big) (map (λ block. block.text) part)) (λ part n. refl) (parts 256 (by_bytes (λ block. block.label) blocks)) in
      all_numbered q ((λ n. SetupBegin n shape.b shape.big (length entries) (length blocks)) ∷ dict_frames shape entries ++ array_frames shape blocks ++ last) (
        λ n. refl,
        AllByRecursion-append Numbered (dict_frames shape entries ++ array_frames shape blocks) last (AllByRecursion-append Numbered (dict_frames shape entries) (array_frames shape blocks) dict array) (λ n. refl, tt),
      )

  -- Promise P53, also here
  -- so a setup's frames are numbered one after the other, from the number of its first
  pub frames_of_setup-numbered : (t : Table) (o : Offsets) (s : Setup) → P o.frame (frames_of_setup t o s)
  frames_of_setup-numbered t o s =
      let ranks = ranks_of (labels_in t (block_positions o.epoch s)) in
      of_setup_frames o.frame s.shape (map (sealed t ranks) (entry_positions o.epoch s)) (map (sealed t ranks) (block_positions o.epoch s))
