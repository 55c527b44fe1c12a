-- How many entries, blocks and frames there are, and how the update frames are numbered.
use Rattle.std.proofs.Common.{◌≡◌, ℕ, zero, suc, ◌+◌, ◌*◌, List, [], ◌∷◌, ◌++◌, length, map, filter, Some, refl, sym, ap, ◌∙◌, arith, zero-add}
use Rattle.std.specs.Prelude.{flat_map, sum_by}
use Rattle.std.specs.List.{range_with_len, filter_map, AllByRecursion, cons_option}
use Rattle.std.specs.Int.{div_ceil}
use Rattle.std.proofs.lemmas.List.{append-nil, length-append, length-map}
use Rattle.std.proofs.lemmas.List.Concat.{flat_map-append}
use Rattle.std.proofs.lemmas.List.Elements.{filter-append, filter_map-append}
use Rattle.std.proofs.lemmas.List.FromFn.{length-map-range_with_len}
use Rattle.std.proofs.lemmas.List.Sums.{sum_by-cons}
use Rattle.list_packing.proofs.PartsLemmas.{length-parts}
use Rattle.list_packing.specs.Parts.{parts}
use Rattle.two_level.specs.Plan.{plan, block_count}
use Rattle.two_level.specs.Shape.{Shape}
use Rattle.client_registry.proofs.FromEnd.{from_end}
use Rattle.client_registry.proofs.OverLaws.{over-append}
use Rattle.client_registry.specs.Acceptance.{padded_words, padded_blocks, dummy_entries, dummy_blocks, frames_needed}
use Rattle.client_registry.specs.Command.{Command, Add, Delete, Search, is_update}
use Rattle.client_registry.specs.Documents.{ids_with}
use Rattle.client_registry.specs.Over.{over}
use Rattle.client_registry.specs.Run.{Run, Offsets}
use Rattle.client_registry.specs.Setup.{Setup, setup_words}
use Rattle.client_registry.specs.Sized.{update_frames}
use Rattle.sse_frames.proofs.Sorted.{length-by_bytes}
use Rattle.sse_frames.specs.Frames.{Entry, FrameText, SetupBegin, SetupDict, SetupArray, SetupEnd, update_number}
use Rattle.sse_frames.specs.Order.{by_bytes}
use Rattle.sse_frames.specs.SentParts.{numbered, dict_frames, array_frames, setup_frames}
use Rattle.sse_model.specs.Names.{Table}
use Rattle.sse_model.specs.Positions.{word_blocks, entries_from, blocks_from, entry_positions, block_positions, block_position, dummy_entry, dummy_block, sealed, ranks_of}
use Rattle.sse_model.specs.Wire.{labels_in, frames_of_setup, frames_of, next_number, wire}

length-entries_from : (epoch : ℕ) (s : Setup) (first : ℕ) (words : List (List ℕ)) → length (entries_from epoch s first words) ≡ length words
length-entries_from epoch s first [] = refl
length-entries_from epoch s first (word ∷ words) = ap (λ (n : ℕ). suc n) (length-entries_from epoch s (first + word_blocks s word) words)

-- an entry for each word, and the dummies
pub length-entry_positions : (epoch : ℕ) (s : Setup) → length (entry_positions epoch s) ≡ padded_words s
length-entry_positions epoch s =
    length-append (entries_from epoch s 0 (setup_words s)) (map (dummy_entry epoch s) (range_with_len 0 (dummy_entries s)))
    ∙ (λ i. length-entries_from epoch s 0 (setup_words s) i + length-map-range_with_len (dummy_entry epoch s) 0 (dummy_entries s) i)

-- the blocks of these words are as many as the plans of their lists take
pub length-blocks_from : (epoch : ℕ) (s : Setup) (first : ℕ) (words : List (List ℕ))
    → length (blocks_from epoch s first words) ≡ sum_by (λ n. block_count (plan s.shape n)) (map (λ word. length (ids_with s.documents word)) words)
length-blocks_from epoch s first [] = refl
length-blocks_from epoch s first (word ∷ words) =
    let count = λ (n : ℕ). block_count (plan s.shape n) in
    let here = map (block_position epoch s first word) (range_with_len 0 (word_blocks s word)) in
    length-append here (blocks_from epoch s (first + word_blocks s word) words)
    ∙ (λ i. length-map-range_with_len (block_position epoch s first word) 0 (word_blocks s word) i + length-blocks_from epoch s (first + word_blocks s word) words i)
    ∙ sym (sum_by-cons count (length (ids_with s.documents word)) (map (λ word. length (ids_with s.documents word)) words))

-- a block for each that the lists take, and the dummies
pub length-block_positions : (epoch : ℕ) (s : Setup) → length (block_positions epoch s) ≡ padded_blocks s
length-block_positions epoch s =
    length-append (blocks_from epoch s 0 (setup_words s)) (map (dummy_block epoch s) (range_with_len 0 (dummy_blocks s)))
    ∙ (λ i. length-blocks_from epoch s 0 (setup_words s) i + length-map-range_with_len (dummy_block epoch s) 0 (dummy_blocks s) i)

-- as many frames as there are to number
pub length-numbered : {X : Type 0} (q : ℕ) (fs : List (ℕ → X)) → length (numbered q fs) ≡ length fs
length-numbered q [] = refl
length-numbered q (f ∷ fs) = ap (λ (n : ℕ). suc n) (length-numbered (q + 1) fs)

length-dict_frames : (shape : Shape) (entries : List Entry) → length (dict_frames shape entries) ≡ div_ceil (length entries) 1024
length-dict_frames shape entries =
    let sorted = by_bytes (λ (entry : Entry). entry.label) entries in
    length-map (parts 1024 sorted) _ ∙ length-parts 1024 sorted ∙ ap (λ n. div_ceil n 1024) (length-by_bytes (λ (entry : Entry). entry.label) entries)

length-array_frames : (shape : Shape) (entries : List Entry) → length (array_frames shape entries) ≡ div_ceil (length entries) 256
length-array_frames shape entries =
    let sorted = by_bytes (λ (entry : Entry). entry.label) entries in
    length-map (parts 256 sorted) _ ∙ length-parts 256 sorted ∙ ap (λ n. div_ceil n 256) (length-by_bytes (λ (entry : Entry). entry.label) entries)

-- a setup's frames: its begin and end, and the parts of its entries and blocks
pub length-setup_frames : (q : ℕ) (shape : Shape) (entries blocks : List Entry)
    → length (setup_frames q shape entries blocks) ≡ 2 + div_ceil (length entries) 1024 + div_ceil (length blocks) 256
length-setup_frames q shape entries blocks =
    let dict = dict_frames shape entries in
    let array = array_frames shape blocks in
    let last : List (ℕ → FrameText) = (λ n. SetupEnd n) ∷ [] in
    length-numbered q ((λ n. SetupBegin n shape.b shape.big (length entries) (length blocks)) ∷ dict ++ array ++ last)
    ∙ omega (arith, length-append (dict ++ array) last, length-append dict array, length-dict_frames shape entries, length-array_frames shape blocks)

-- there are as many as the setup needs
pub length-frames_of_setup : (t : Table) (o : Offsets) (s : Setup) → length (frames_of_setup t o s) ≡ frames_needed s
length-frames_of_setup t o s =
    let ranks = ranks_of (labels_in t (block_positions o.epoch s)) in
    let entries = map (sealed t ranks) (entry_positions o.epoch s) in
    let blocks = map (sealed t ranks) (block_positions o.epoch s) in
    let m : length entries ≡ padded_words s = length-map (entry_positions o.epoch s) (sealed t ranks) ∙ length-entry_positions o.epoch s in
    let a : length blocks ≡ padded_blocks s = length-map (block_positions o.epoch s) (sealed t ranks) ∙ length-block_positions o.epoch s in
    length-setup_frames o.frame s.shape entries blocks
    ∙ (λ i. 2 + div_ceil (m i) 1024 + div_ceil (a i) 256)

-- numbers one after another, and others after them
range_with_len-add : (a m n : ℕ) → range_with_len a (m + n) ≡ range_with_len a m ++ range_with_len (a + m) n
range_with_len-add a zero n = let e : a + 0 ≡ a = omega arith in (λ i. range_with_len (sym e i) (zero-add n i))
range_with_len-add a (suc m) n =
    let here : suc m + n ≡ suc (m + n) = omega arith in
    let next : a + 1 + m ≡ a + suc m = omega arith in
    ap (range_with_len a) here
    ∙ ap (λ rest. a ∷ rest) (range_with_len-add (a + 1) m n ∙ ap (λ b. range_with_len (a + 1) m ++ range_with_len b n) next)

numbers-numbered : (fs : List (ℕ → FrameText)) (q : ℕ) → AllByRecursion (λ f. (n : ℕ) → update_number (f n) ≡ Some n) fs
    → filter_map update_number (numbered q fs) ≡ range_with_len q (length fs)
numbers-numbered [] q each = refl
numbers-numbered (f ∷ fs) q each =
    (λ i. cons_option (each.0 q i) (filter_map update_number (numbered (q + 1) fs)))
    ∙ ap (λ rest. q ∷ rest) (numbers-numbered fs (q + 1) each.1)

-- what holds of each of two lists holds of both
pub AllByRecursion-append : {X : Type 0} (P : X → Type 0) (xs ys : List X) → AllByRecursion P xs → AllByRecursion P ys → AllByRecursion P (xs ++ ys)
AllByRecursion-append P [] ys all all' = all'
AllByRecursion-append P (x ∷ xs) ys all all' = (all.0, AllByRecursion-append P xs ys all.1 all')

-- what holds of each result holds of all
pub AllByRecursion-each : {X Y : Type 0} (P : Y → Type 0) (f : X → Y) → ((x : X) → P (f x)) → (xs : List X) → AllByRecursion P (map f xs)
AllByRecursion-each P f holds [] = tt
AllByRecursion-each P f holds (x ∷ xs) = (holds x, AllByRecursion-each P f holds xs)

-- a setup's frames are numbered one after another
pub numbers-setup_frames : (q : ℕ) (shape : Shape) (entries blocks : List Entry)
    → filter_map update_number (setup_frames q shape entries blocks) ≡ range_with_len q (length (setup_frames q shape entries blocks))
numbers-setup_frames q shape entries blocks =
    numbers-numbered all q (
      at_first,
      AllByRecursion-append Numbered (dict_frames shape entries ++ array_frames shape blocks) last
          (AllByRecursion-append Numbered (dict_frames shape entries) (array_frames shape blocks)
          (AllByRecursion-each Numbered dict at_dict (parts 1024 (by_bytes (λ entry. entry.label) entries)))
          (AllByRecursion-each Numbered array at_array (parts 256 (by_bytes (λ block. block.label) blocks)))) (at_last, tt),
    )
    ∙ ap (range_with_len q) (sym (length-numbered q all))
  where
    Numbered : (ℕ → FrameText) → Type 0
    Numbered f = (n : ℕ) → update_number (f n) ≡ Some n

    dict : List Entry → ℕ → FrameText
    dict part n = SetupDict n (1 + 8 * shape.b) part

    array : List Entry → ℕ → FrameText
    array part n = SetupArray n (8 * shape.big) (map (λ block. block.text) part)

    at_dict : (part : List Entry) → Numbered (dict part)
    at_dict part n = refl

    at_array : (part : List Entry) → Numbered (array part)
    at_array part n = refl

    last : List (ℕ → FrameText)
    last = (λ n. SetupEnd n) ∷ []

    all : List (ℕ → FrameText)
    all = (λ n. SetupBegin n shape.b shape.big (length entries) (length blocks)) ∷ dict_frames shape entries ++ array_frames shape blocks ++ last

    at_first : (n : ℕ) → update_number (SetupBegin n shape.b shape.big (length entries) (length blocks)) ≡ Some n
    at_first n = refl

    at_last : (n : ℕ) → update_number (SetupEnd n) ≡ Some n
    at_last n = refl

-- the frames of a run's commands after its setup
abbrev pub later_frames : Table → Offsets → Setup → List Command → List FrameText
later_frames t o s later = flat_map (λ fs. fs) (over (λ past c. frames_of t o.epoch s (next_number o s past) past c) [] later)

later_frames-push : (t : Table) (o : Offsets) (s : Setup) (xs : List Command) (x : Command)
    → later_frames t o s (xs ++ x ∷ []) ≡ later_frames t o s xs ++ frames_of t o.epoch s (next_number o s xs) xs x
later_frames-push t o s xs x =
    let f = λ (past : List Command) (c : Command). frames_of t o.epoch s (next_number o s past) past c in
    ap (flat_map (λ fs. fs)) (over-append f [] xs (x ∷ []))
    ∙ flat_map-append (λ fs. fs) (over f [] xs) (f xs x ∷ [])
    ∙ ap (λ rest. later_frames t o s xs ++ rest) (append-nil (f xs x))

numbers-later : (t : Table) (o : Offsets) (s : Setup) (later : List Command)
    → filter_map update_number (later_frames t o s later) ≡ range_with_len (o.frame + frames_needed s) (length (filter is_update later))
numbers-later t o s =
    from_end (λ xs. filter_map update_number (later_frames t o s xs) ≡ range_with_len first (length (filter is_update xs))) refl push
  where
    first : ℕ
    first = o.frame + frames_needed s

    one : (xs : List Command) (x : Command) → filter_map update_number (frames_of t o.epoch s (next_number o s xs) xs x) ≡ range_with_len (first + length (filter is_update xs)) (length (filter is_update (x ∷ [])))
    one xs (Add d) = refl
    one xs (Delete id) = refl
    one xs (Search word) = refl

    push : (xs : List Command) (x : Command) → filter_map update_number (later_frames t o s xs) ≡ range_with_len first (length (filter is_update xs))
        → filter_map update_number (later_frames t o s (xs ++ x ∷ [])) ≡ range_with_len first (length (filter is_update (xs ++ x ∷ [])))
    push xs x h =
        ap (filter_map update_number) (later_frames-push t o s xs x)
        ∙ filter_map-append update_number (later_frames t o s xs) (frames_of t o.epoch s (next_number o s xs) xs x)
        ∙ (λ i. h i ++ one xs x i)
        ∙ sym (range_with_len-add first (length (filter is_update xs)) (length (filter is_update (x ∷ []))))
        ∙ ap (range_with_len first) (sym (ap length (filter-append is_update xs (x ∷ [])) ∙ length-append (filter is_update xs) (filter is_update (x ∷ []))))

-- Promise P160, also here
-- the update frames of a run are as many as it counts, and numbered one after another
pub numbers-wire : (t : Table) (o : Offsets) (run : Run) → filter_map update_number (flat_map (λ fs. fs) (wire t o run)) ≡ range_with_len o.frame (update_frames run)
numbers-wire t o run =
    let s = run.setup in
    let ranks = ranks_of (labels_in t (block_positions o.epoch s)) in
    let numbers = numbers-setup_frames o.frame s.shape (map (sealed t ranks) (entry_positions o.epoch s)) (map (sealed t ranks) (block_positions o.epoch s)) in
    filter_map-append update_number (frames_of_setup t o s) (later_frames t o s run.later)
    ∙ (λ i. (numbers ∙ ap (range_with_len o.frame) (length-frames_of_setup t o s)) i ++ numbers-later t o s run.later i)
    ∙ sym (range_with_len-add o.frame (frames_needed s) (length (filter is_update run.later)))
