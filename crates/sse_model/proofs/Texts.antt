-- The encrypted texts have their sizes, and each of their values is a byte.
use Rattle.std.proofs.Common.{◌≡◌, ℕ, zero, suc, ◌+◌, ◌*◌, ◌<◌, ◌≤◌, Bool, false, List, [], ◌∷◌, length, take, drop, map, refl, sym, ap, ◌∙◌, arith, length-take, length-drop}
use Rattle.std.specs.Prelude.{Option, None, Some, All, is_none, is_some, option_map, position, replicate, slice_index, slice_index_or, sum_by, bit_xor}
use Rattle.std.specs.Int.{byte_at, bytes_high_first}
use Rattle.std.specs.List.{AllByRecursion, list_any, range_with_len}
use Rattle.std.proofs.lemmas.Bool.{or_parts}
use Rattle.std.proofs.lemmas.List.{length-replicate}
use Rattle.std.proofs.lemmas.List.Elements.{All-from_recursion, All-append, All-nil, All-cons, All-map, All-replicate}
use Rattle.std.proofs.lemmas.List.Folds.{fold-map}
use Rattle.std.proofs.lemmas.List.FromFn.{length-map-range_with_len}
use Rattle.std.proofs.lemmas.List.Sums.{sum_by-cons}
use Rattle.std.proofs.lemmas.Nat.{mod_below, xor_lt}
use Rattle.keyed_fn.specs.Xored.{xored}
use Rattle.two_level.proofs.LaidLemmas.{length-numbers, length-laid_blocks, laid_blocks-width}
use Rattle.two_level.proofs.ReadLemmas.{length-number_bytes, length-cell_bytes}
use Rattle.two_level.specs.Laid.{laid_as, pointers, number_bytes, cell_bytes}
use Rattle.two_level.specs.Plan.{CellKind, Identifiers, DataPointers, BlockPointers, plan, block_count}
use Rattle.two_level.specs.Planned.{kind_byte}
use Rattle.client_registry.proofs.Positions.{is_some-position}
use Rattle.client_registry.proofs.SizedLaws.{accepted_shape, accepted_lists}
use Rattle.client_registry.specs.Acceptance.{dummy_entries, dummy_blocks, size_refusal}
use Rattle.client_registry.specs.Documents.{list_lengths, words_of, ids_with}
use Rattle.client_registry.specs.Setup.{Setup, setup_words, setup_list}
use Rattle.client_registry.specs.declared.faults.SizeFault.TheVariants.{ListTooLong}
use Rattle.sse_frames.specs.Frames.{IsBytes, be64}
use Rattle.sse_model.proofs.Counts.{AllByRecursion-append, AllByRecursion-each, length-block_positions}
use Rattle.sse_model.proofs.KeyValues.{IsBytes-from_All}
use Rattle.sse_model.specs.Names.{cell_size, block_size}
use Rattle.sse_model.specs.Positions.{Position, entry_positions, block_positions, word_blocks, laid_at, cell_text, block_text, block_position, dummy_entry, dummy_block, entries_from, blocks_from}

-- Bytes.

-- bytes under a pad are as many
pub IsBytes-xored : (size : ℕ) (bytes pad : List ℕ) → IsBytes size bytes → IsBytes size pad → IsBytes size (xored bytes pad)
IsBytes-xored size bytes pad clear key =
    let byte = λ (i : ℕ). bit_xor (slice_index bytes i) (slice_index pad i) in
    IsBytes-from_All size (xored bytes pad) (length-map-range_with_len byte 0 (length bytes) ∙ clear.size_is)
    (All-map (λ (b : ℕ). b < 256) byte (range_with_len 0 (length bytes)) (λ k d within. xor_lt 8 _ _ (clear.each _) (key.each _)))

byte_at-lt : (k n : ℕ) → byte_at k n < 256
byte_at-lt zero n = mod_below n 256 (omega arith)
byte_at-lt (suc k) n = mod_below _ 256 (omega arith)

bytes_high_first-bytes : (k n : ℕ) → AllByRecursion (λ b. b < 256) (bytes_high_first k n)
bytes_high_first-bytes zero n = tt
bytes_high_first-bytes (suc k) n = (byte_at-lt k n, bytes_high_first-bytes k n)

All-be64 : (n : ℕ) → All (λ b. b < 256) (be64 n)
All-be64 n = All-from_recursion (λ (b : ℕ). b < 256) (be64 n) (bytes_high_first-bytes 8 n)

All-number_bytes : (numbers : List ℕ) → All (λ b. b < 256) (number_bytes numbers)
All-number_bytes [] = All-nil (λ (b : ℕ). b < 256)
All-number_bytes (n ∷ ns) = All-append (λ (b : ℕ). b < 256) (be64 n) (number_bytes ns) (All-be64 n) (All-number_bytes ns)

kind_byte-lt : (kind : CellKind) → kind_byte kind < 256
kind_byte-lt Identifiers = omega arith
kind_byte-lt DataPointers = omega arith
kind_byte-lt BlockPointers = omega arith

-- zeros are as many bytes
IsBytes-zeros : (size : ℕ) → IsBytes size (replicate size 0)
IsBytes-zeros size = IsBytes-from_All size (replicate size 0) (length-replicate size 0) (All-replicate (λ (b : ℕ). b < 256) size 0 (omega arith))

-- an identifier is 8 bytes
pub IsBytes-be64 : (n : ℕ) → IsBytes 8 (be64 n)
IsBytes-be64 n = IsBytes-from_All 8 (be64 n) refl (All-be64 n)

-- Lists laid out.

there : {A : Type 0} (P : Option A → Type 0) (o : Option A) → is_none o ≡ false → ((x : A) → o ≡ Some x → P (Some x)) → P o
there P None some each = absurd (cc)
there P (Some x) some each = each x refl

is_none-map : {A B : Type 0} (f : A → B) (o : Option A) → is_none o ≡ false → is_none (option_map f o) ≡ false
is_none-map f None some = some
is_none-map f (Some x) some = refl

-- the list of this word has a plan
abbrev pub HasPlan : Setup → List ℕ → Type 0
HasPlan s word = is_none (plan s.shape (length (setup_list s word))) ≡ false

unrefused : {A B : Type 0} (f : A → B) (o : Option A) → option_map f o ≡ None → is_some o ≡ false
unrefused f None h = refl
unrefused f (Some x) h = absurd (cc)

none_of : {X Y : Type 0} (p : Y → Bool) (f : X → Y) (xs : List X) → list_any p (map f xs) ≡ false → AllByRecursion (λ x. p (f x) ≡ false) xs
none_of p f [] none = tt
none_of p f (x ∷ xs) none =
    let parts = or_parts (p (f x)) (list_any p (map f xs)) none in
    (parts.0, none_of p f xs parts.1)

-- each list of an accepted setup has a plan
pub lists_have_plans : (s : Setup) → size_refusal s ≡ None → AllByRecursion (HasPlan s) (setup_words s)
lists_have_plans s h =
    let long = λ (n : ℕ). is_none (plan s.shape n) in
    let lens = list_lengths s.documents in
    none_of long (λ word. length (ids_with s.documents word)) (words_of s.documents)
    (sym (is_some-position long lens) ∙ unrefused (λ word. ListTooLong word (slice_index lens word)) (position long lens) (accepted_lists s h))

module _ (s : Setup) (some : 0 < s.shape.big) (first : ℕ) (word : List ℕ) (ranks : List ℕ) (planned : HasPlan s word) (enough : first + word_blocks s word ≤ length ranks) where
  abbrev part : List ℕ
  part = take (word_blocks s word) (drop first ranks)

  length-part : length part ≡ word_blocks s word
  length-part = omega (arith, enough, length-take (word_blocks s word) (drop first ranks), length-drop first ranks)

  is_laid : is_none (laid_at s first word ranks) ≡ false
  is_laid = is_none-map (λ p. laid_as s.shape p.kind p.pointer_blocks (pointers part) (setup_list s word)) (plan s.shape (length (setup_list s word))) planned

  -- the plaintext of a cell has its size
  cell_is : IsBytes (cell_size s.shape) (cell_text (laid_at s first word ranks))
  cell_is =
      there (λ o. IsBytes (cell_size s.shape) (cell_text o)) (laid_at s first word ranks) is_laid
      (λ l is.
      let long : length (cell_bytes l) ≡ cell_size s.shape =
      length-cell_bytes l ∙ ap (λ n. 1 + 8 * n) (length-numbers s.shape part (setup_list s word) l some is length-part) in
      IsBytes-from_All (cell_size s.shape) (cell_bytes l) long
      (All-cons (λ (b : ℕ). b < 256) (kind_byte l.kind) (number_bytes l.numbers) (kind_byte-lt l.kind) (All-number_bytes l.numbers)))

  -- and that of each of its blocks
  block_is : (i : ℕ) → i < word_blocks s word → IsBytes (block_size s.shape) (block_text i (laid_at s first word ranks))
  block_is i within =
      there (λ o. IsBytes (block_size s.shape) (block_text i o)) (laid_at s first word ranks) is_laid
      (λ l is.
      let block = slice_index_or l.blocks i [] in
      let inside : i < length l.blocks = omega (arith, within, length-part, length-laid_blocks s.shape part (setup_list s word) l is length-part) in
      let width : length block ≡ s.shape.big = laid_blocks-width s.shape part (setup_list s word) l is length-part i [] inside in
      IsBytes-from_All (block_size s.shape) (number_bytes block) (length-number_bytes block ∙ ap (λ n. 8 * n) width) (All-number_bytes block))

-- All of a setup.

-- a position whose plaintext has so many bytes under these ranks
abbrev pub HasText : ℕ → List ℕ → Position → Type 0
HasText size ranks p = IsBytes size (p.clear ranks)

pub each_of_range : {X : Type 0} (P : X → Type 0) (f : ℕ → X) (a n : ℕ) → ((i : ℕ) → i < a + n → P (f i)) → AllByRecursion P (map f (range_with_len a n))
each_of_range P f a zero each = tt
each_of_range P f a (suc n) each = (each a (omega arith), each_of_range P f (a + 1) n (λ i below. each i (omega (arith, below))))

module _ (epoch : ℕ) (s : Setup) (some : 0 < s.shape.big) (ranks : List ℕ) where
  cells_from : (words : List (List ℕ)) (first : ℕ) → AllByRecursion (HasPlan s) words → first + sum_by (word_blocks s) words ≤ length ranks
      → AllByRecursion (HasText (cell_size s.shape) ranks) (entries_from epoch s first words)
  cells_from [] first planned enough = tt
  cells_from (word ∷ words) first planned enough =
      let sum = sum_by-cons (word_blocks s) word words in (
        cell_is s some first word ranks planned.0 (omega (arith, enough, sum)),
        cells_from words (first + word_blocks s word) planned.1 (omega (arith, enough, sum)),
      )

  blocks_from_are : (words : List (List ℕ)) (first : ℕ) → AllByRecursion (HasPlan s) words → first + sum_by (word_blocks s) words ≤ length ranks
      → AllByRecursion (HasText (block_size s.shape) ranks) (blocks_from epoch s first words)
  blocks_from_are [] first planned enough = tt
  blocks_from_are (word ∷ words) first planned enough =
      let sum = sum_by-cons (word_blocks s) word words in
      AllByRecursion-append (HasText (block_size s.shape) ranks) (map (block_position epoch s first word) (range_with_len 0 (word_blocks s word)))
      (blocks_from epoch s (first + word_blocks s word) words)
      (each_of_range (HasText (block_size s.shape) ranks) (block_position epoch s first word) 0 (word_blocks s word)
      (λ i within. block_is s some first word ranks planned.0 (omega (arith, enough, sum)) i (omega (arith, within))))
      (blocks_from_are words (first + word_blocks s word) planned.1 (omega (arith, enough, sum)))

module _ (epoch : ℕ) (s : Setup) (h : size_refusal s ≡ None) (ranks : List ℕ) (enough : length ranks ≡ length (block_positions epoch s)) where
  in_all : 0 + sum_by (word_blocks s) (setup_words s) ≤ length ranks
  in_all =
      let same = fold-map (λ a n. a + block_count (plan s.shape n)) (λ word. length (ids_with s.documents word)) 0 (setup_words s) in
      omega (arith, enough, length-block_positions epoch s, same)

  -- the plaintext of each cell of an accepted setup has a cell's size
  pub cells_have_texts : AllByRecursion (HasText (cell_size s.shape) ranks) (entry_positions epoch s)
  cells_have_texts =
      AllByRecursion-append (HasText (cell_size s.shape) ranks) (entries_from epoch s 0 (setup_words s)) (map (dummy_entry epoch s) (range_with_len 0 (dummy_entries s)))
      (cells_from epoch s (accepted_shape s h).1.0 ranks (setup_words s) 0 (lists_have_plans s h) in_all)
      (AllByRecursion-each (HasText (cell_size s.shape) ranks) (dummy_entry epoch s) (λ i. IsBytes-zeros (cell_size s.shape)) (range_with_len 0 (dummy_entries s)))

  -- and that of each block a block's
  pub blocks_have_texts : AllByRecursion (HasText (block_size s.shape) ranks) (block_positions epoch s)
  blocks_have_texts =
      AllByRecursion-append (HasText (block_size s.shape) ranks) (blocks_from epoch s 0 (setup_words s)) (map (dummy_block epoch s) (range_with_len 0 (dummy_blocks s)))
      (blocks_from_are epoch s (accepted_shape s h).1.0 ranks (setup_words s) 0 (lists_have_plans s h) in_all)
      (AllByRecursion-each (HasText (block_size s.shape) ranks) (dummy_block epoch s) (λ j. IsBytes-zeros (block_size s.shape)) (range_with_len 0 (dummy_blocks s)))
