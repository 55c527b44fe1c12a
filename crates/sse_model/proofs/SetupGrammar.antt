-- The frames of a setup are in the grammar.
use Rattle.std.proofs.Common.{◌≡◌, ℕ, zero, suc, ◌+◌, ◌*◌, ◌^◌, ◌<◌, ◌≤◌, List, [], ◌∷◌, ◌++◌, length, take, drop, map, refl, sym, ◌∙◌, subst, arith, length-take, length-drop}
use Rattle.std.specs.Prelude.{Contains, None, All}
use Rattle.std.specs.Int.{div_ceil}
use Rattle.std.specs.List.{AllByRecursion}
use Rattle.std.specs.List.Sorted.{IsStrictlySortedBy}
use Rattle.std.specs.Simd.{first_chunks}
use Rattle.std.proofs.lemmas.Grind.{div_ceil_times}
use Rattle.std.proofs.lemmas.List.{length-map}
use Rattle.std.proofs.lemmas.List.Elements.{Contains-append_left, Contains-append_right, All-from_recursion, recursion_from_All}
use Rattle.std.proofs.lemmas.List.FromFn.{length-map-range_with_len}
use Rattle.std.proofs.lemmas.Simd.{map-map}
use Rattle.list_packing.proofs.PartsLemmas.{parts-within, All-parts}
use Rattle.list_packing.specs.Parts.{parts}
use Rattle.two_level.specs.Shape.{Shape}
use Rattle.client_registry.proofs.SizedLaws.{accepted_shape, accepted_entries}
use Rattle.client_registry.specs.Acceptance.{frames_needed, size_refusal}
use Rattle.client_registry.specs.Documents.{IsCollected}
use Rattle.client_registry.specs.Run.{Offsets}
use Rattle.client_registry.specs.Setup.{Setup}
use Rattle.sse_frames.proofs.Sorted.{AllDiffer, Rises-by_bytes, All-by_bytes}
use Rattle.sse_frames.specs.Frames.{Entry, FrameText, SetupBegin, SetupDict, SetupArray, SetupEnd, IsNumber, IsBytes, IsEntry, Rises, InGrammar}
use Rattle.sse_frames.specs.Order.{by_bytes}
use Rattle.sse_frames.specs.SentParts.{numbered, dict_frames, array_frames}
use Rattle.sse_model.proofs.BlocksWithin.{blocks_within}
use Rattle.sse_model.proofs.Counts.{AllByRecursion-append, length-entry_positions, length-block_positions, length-frames_of_setup, length-numbered}
use Rattle.sse_model.proofs.LabelsApart.{entry_labels_differ}
use Rattle.sse_model.proofs.Members.{AllByRecursion-from_members}
use Rattle.sse_model.proofs.SealedEntries.{IsTold, IsNamed, entries_are, cells_have_names, blocks_have_names}
use Rattle.sse_model.proofs.Texts.{cells_have_texts, blocks_have_texts}
use Rattle.sse_model.specs.Names.{Name, Table, cell_size, block_size}
use Rattle.sse_model.specs.Positions.{Position, sealed, ranks_of, entry_positions, block_positions}
use Rattle.sse_model.specs.Wire.{labels_in, frames_of_setup}

-- The parts of a list.

-- no part is empty
some_in_chunks : {X : Type 0} (width count : ℕ) (xs : List X) → 0 < width → count * width < length xs + width → AllByRecursion (λ part. 1 ≤ length part) (first_chunks width count xs)
some_in_chunks width zero xs some fits = tt
some_in_chunks width (suc n) xs some fits =
    let here : 1 ≤ length (take width xs) = omega (arith, fits, some, length-take width xs) in
    let rest : n * width < length (drop width xs) + width = omega (arith, fits, some, length-drop width xs) in
    (here, some_in_chunks width n (drop width xs) some rest)

some_in_parts : {X : Type 0} (width : ℕ) (xs : List X) → 0 < width → AllByRecursion (λ part. 1 ≤ length part) (parts width xs)
some_in_parts width xs some = some_in_chunks width (div_ceil (length xs) width) xs some (div_ceil_times (length xs) width some).1

all_taken : {X : Type 0} (key : X → List ℕ) (P : List ℕ → Type 0) (n : ℕ) (xs : List X) → AllByRecursion P (map key xs) → AllByRecursion P (map key (take n xs))
all_taken key P zero xs all = tt
all_taken key P (suc n) [] all = tt
all_taken key P (suc n) (x ∷ xs) all = (all.0, all_taken key P n xs all.1)

pub Rises-take : {X : Type 0} (key : X → List ℕ) (n : ℕ) (xs : List X) → Rises (map key xs) → Rises (map key (take n xs))
unfolding IsStrictlySortedBy
Rises-take key zero xs rises = tt
Rises-take key (suc n) [] rises = tt
Rises-take key (suc n) (x ∷ xs) rises = (all_taken key _ n xs rises.0, Rises-take key n xs rises.1)

pub Rises-drop : {X : Type 0} (key : X → List ℕ) (n : ℕ) (xs : List X) → Rises (map key xs) → Rises (map key (drop n xs))
unfolding IsStrictlySortedBy
Rises-drop key zero xs rises = rises
Rises-drop key (suc n) [] rises = tt
Rises-drop key (suc n) (x ∷ xs) rises = Rises-drop key n xs rises.1

chunks_rise : {X : Type 0} (key : X → List ℕ) (width count : ℕ) (xs : List X) → Rises (map key xs) → AllByRecursion (λ part. Rises (map key part)) (first_chunks width count xs)
chunks_rise key width zero xs rises = tt
chunks_rise key width (suc n) xs rises = (Rises-take key width xs rises, chunks_rise key width n (drop width xs) (Rises-drop key width xs rises))

-- a part of at least one entry and no more than so many
record IsPart (width most : ℕ) (part : List Entry) : Type 0 where
  some : 1 ≤ length part
  within : length part ≤ most
  each : AllByRecursion (IsEntry width) part

are_parts : (width most : ℕ) (list : List (List Entry)) → AllByRecursion (λ part. 1 ≤ length part) list → AllByRecursion (λ part. length part ≤ most) list
    → AllByRecursion (All (IsEntry width)) list → AllByRecursion (IsPart width most) list
are_parts width most [] some within each = tt
are_parts width most (part ∷ list) some within each =
    (record { some = some.0; within = within.0; each = recursion_from_All (IsEntry width) part each.0 }, are_parts width most list some.1 within.1 each.1)

-- sorted entries in parts
sorted_parts : (width most : ℕ) (entries : List Entry) → 0 < most → AllByRecursion (IsEntry width) entries
    → AllByRecursion (IsPart width most) (parts most (by_bytes (λ entry. entry.label) entries))
sorted_parts width most entries some each =
    let sorted = by_bytes (λ (entry : Entry). entry.label) entries in
    let all = All-parts (IsEntry width) most sorted (All-from_recursion (IsEntry width) sorted (All-by_bytes (λ (entry : Entry). entry.label) (IsEntry width) entries each)) in
    are_parts width most (parts most sorted) (some_in_parts most sorted some) (recursion_from_All (λ (part : List Entry). length part ≤ most) (parts most sorted) (parts-within most sorted))
    (recursion_from_All (All (IsEntry width)) (parts most sorted) all)

-- Frames by their number.

-- a frame that is in the grammar under each number
abbrev pub IsFrame : (ℕ → FrameText) → Type 0
IsFrame f = (q : ℕ) → IsNumber q → InGrammar (f q)

numbered_are : (fs : List (ℕ → FrameText)) (q : ℕ) → AllByRecursion IsFrame fs → q + length fs < 2 ^ 32 → AllByRecursion InGrammar (numbered q fs)
numbered_are [] q each fits = tt
numbered_are (f ∷ fs) q each fits = (each.0 q (omega (arith, fits)), numbered_are fs (q + 1) each.1 (omega (arith, fits)))

module _ (shape : Shape) (limits : ((1 ≤ shape.b) × (shape.b ≤ 64)) × ((1 ≤ shape.big) × (shape.big ≤ 256))) where
  dicts_are : (list : List (List Entry)) → AllByRecursion (IsPart (1 + 8 * shape.b) 1024) list → AllByRecursion (λ part. Rises (map (λ entry. entry.label) part)) list
      → AllByRecursion IsFrame (map (λ part q. SetupDict q (1 + 8 * shape.b) part) list)
  dicts_are [] are rise = tt
  dicts_are (part ∷ list) are rise = (
    λ q number. record { number = number; cell = (shape.b, limits.0.0, limits.0.1, refl); count = (are.0.some, are.0.within); each = are.0.each; rises = rise.0 },
    dicts_are list are.1 rise.1,
  )

  texts_are : (width : ℕ) (part : List Entry) → AllByRecursion (IsEntry width) part → AllByRecursion (IsBytes width) (map (λ block. block.text) part)
  texts_are width [] each = tt
  texts_are width (block ∷ part) each = (each.0.text, texts_are width part each.1)

  arrays_are : (list : List (List Entry)) → AllByRecursion (IsPart (8 * shape.big) 256) list
      → AllByRecursion IsFrame (map (λ part q. SetupArray q (8 * shape.big) (map (λ block. block.text) part)) list)
  arrays_are [] are = tt
  arrays_are (part ∷ list) are =
      let long = length-map part (λ (block : Entry). block.text) in (
        λ q number. record {
          number = number;
          block = (shape.big, limits.1.0, limits.1.1, refl);
          count = (omega (arith, long, are.0.some), omega (arith, long, are.0.within));
          each = texts_are (8 * shape.big) part are.0.each;
        },
        arrays_are list are.1,
      )

-- All of a setup.

module _ (t : Table) (o : Offsets) (s : Setup) (names : List Name) (told : IsTold s.shape t names)
    (named : (p : Position) → Contains (entry_positions o.epoch s ++ block_positions o.epoch s) p → IsNamed names p)
    (collected : IsCollected s.documents) (h : size_refusal s ≡ None) where
  abbrev tags : List (List ℕ)
  tags = labels_in t (block_positions o.epoch s)

  abbrev ranks : List ℕ
  ranks = ranks_of tags

  length-ranks : length ranks ≡ length (block_positions o.epoch s)
  length-ranks = length-map-range_with_len _ 0 (length tags) ∙ length-map (block_positions o.epoch s) (λ p. t p.label)

  abbrev entries : List Entry
  entries = map (sealed t ranks) (entry_positions o.epoch s)

  abbrev blocks : List Entry
  blocks = map (sealed t ranks) (block_positions o.epoch s)

  entries_named : AllByRecursion (IsNamed names) (entry_positions o.epoch s)
  entries_named =
      AllByRecursion-from_members (IsNamed names) (entry_positions o.epoch s)
      (λ p within. named p (Contains-append_left (entry_positions o.epoch s) (block_positions o.epoch s) p within))

  blocks_named : AllByRecursion (IsNamed names) (block_positions o.epoch s)
  blocks_named =
      AllByRecursion-from_members (IsNamed names) (block_positions o.epoch s)
      (λ p within. named p (Contains-append_right (entry_positions o.epoch s) (block_positions o.epoch s) p within))

  cells : AllByRecursion (IsEntry (cell_size s.shape)) entries
  cells =
      entries_are s.shape t names (cell_size s.shape) ranks (entry_positions o.epoch s) told
      (cells_have_texts o.epoch s h ranks length-ranks) (cells_have_names o.epoch s) entries_named

  array : AllByRecursion (IsEntry (block_size s.shape)) blocks
  array =
      entries_are s.shape t names (block_size s.shape) ranks (block_positions o.epoch s) told
      (blocks_have_texts o.epoch s h ranks length-ranks) (blocks_have_names o.epoch s) blocks_named

  labels_differ : AllDiffer (map (λ (entry : Entry). entry.label) entries)
  labels_differ =
      subst AllDiffer (sym (map-map (λ (entry : Entry). entry.label) (sealed t ranks) (entry_positions o.epoch s)))
      (entry_labels_differ t o.epoch s names told.apart
      (AllByRecursion-from_members (λ p. Contains names p.label) (entry_positions o.epoch s)
      (λ p within. (named p (Contains-append_left (entry_positions o.epoch s) (block_positions o.epoch s) p within)).0)))

  dict_is : AllByRecursion IsFrame (dict_frames s.shape entries)
  dict_is =
      dicts_are s.shape (accepted_shape s h) (parts 1024 (by_bytes (λ entry. entry.label) entries))
      (sorted_parts (cell_size s.shape) 1024 entries (omega arith) cells)
      (chunks_rise (λ (entry : Entry). entry.label) 1024 _ (by_bytes (λ entry. entry.label) entries) (Rises-by_bytes (λ (entry : Entry). entry.label) entries labels_differ))

  array_is : AllByRecursion IsFrame (array_frames s.shape blocks)
  array_is =
      arrays_are s.shape (accepted_shape s h) (parts 256 (by_bytes (λ block. block.label) blocks))
      (sorted_parts (block_size s.shape) 256 blocks (omega arith) array)

  words_within : length entries ≤ 2 ^ 20
  words_within =
      omega (arith, length-map (entry_positions o.epoch s) (sealed t ranks), length-entry_positions o.epoch s, accepted_entries s h collected)

  array_within : length blocks ≤ 2 ^ 20
  array_within =
      omega (arith, length-map (block_positions o.epoch s) (sealed t ranks), length-block_positions o.epoch s, blocks_within s collected h)

  abbrev last : List (ℕ → FrameText)
  last = (λ q. SetupEnd q) ∷ []

  begin_is : IsFrame (λ q. SetupBegin q s.shape.b s.shape.big (length entries) (length blocks))
  begin_is q number = record { number = number; cell = (accepted_shape s h).0; block = (accepted_shape s h).1; words = words_within; blocks = array_within }

  end_is : IsFrame (λ q. SetupEnd q)
  end_is q number = number

  abbrev unnumbered : List (ℕ → FrameText)
  unnumbered = (λ q. SetupBegin q s.shape.b s.shape.big (length entries) (length blocks)) ∷ dict_frames s.shape entries ++ array_frames s.shape blocks ++ last

  -- the frames of an accepted setup whose names are told are in the grammar, where their numbers fit
  pub setup_in_grammar : o.frame + frames_needed s < 2 ^ 32 → AllByRecursion InGrammar (frames_of_setup t o s)
  setup_in_grammar fits =
      numbered_are unnumbered o.frame (
        begin_is,
        AllByRecursion-append IsFrame (dict_frames s.shape entries ++ array_frames s.shape blocks) last
            (AllByRecursion-append IsFrame (dict_frames s.shape entries) (array_frames s.shape blocks) dict_is array_is) (end_is, tt),
      )
      (omega (arith, fits, length-numbered o.frame unnumbered, length-frames_of_setup t o s))
