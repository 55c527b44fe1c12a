-- No two texts of a history have one pad.
use Rattle.std.proofs.Common.{◌≡◌, ℕ, zero, suc, ◌+◌, ◌<◌, ◌||◌, Bool, true, false, cond, not, List, [], ◌∷◌, ◌++◌, length, map, filter, slice_get, Some, option_map, inl, inr, ◌⊎◌, refl, sym, ap, ◌∙◌, subst, arith}
use Rattle.std.specs.Prelude.{flat_map, bytes_eq, if◌then◌else◌}
use Rattle.std.specs.List.{AllByRecursion, IsDistinct, range_with_len, list_any}
use Rattle.std.proofs.lemmas.Bool.{or_left, or_right, true≢false}
use Rattle.std.proofs.lemmas.Cmp.{nat_list_eq_equiv}
use Rattle.std.proofs.lemmas.List.{map-append}
use Rattle.std.proofs.lemmas.List.Elements.{filter-append}
use Rattle.std.proofs.lemmas.List.Folds.{list_any-append}
use Rattle.std.proofs.lemmas.Map.Keys.{apart_from_distinct}
use Rattle.std.proofs.lemmas.Option.{slice_get_within, slice_get-map, get_or_from_slice_get}
use Rattle.keyed_fn.specs.KeyedFn.{KeyedFn}
use Rattle.keyed_fn.specs.KeyFormulas.{mark_of}
use Rattle.client_records.specs.Openings.{marks_of, MarksDiffer}
use Rattle.client_records.specs.Recorded.{as_recorded}
use Rattle.client_registry.specs.Acceptance.{dummy_entries, dummy_blocks}
use Rattle.client_registry.specs.Command.{Command, Add, Delete, Search}
use Rattle.client_registry.specs.Document.{Document}
use Rattle.client_registry.specs.Epochs.{AreEpochs, next_begins}
use Rattle.client_registry.specs.Live.{live}
use Rattle.client_registry.specs.Over.{over}
use Rattle.client_registry.specs.Run.{Run, Offsets, Epochs, From, Renewed}
use Rattle.client_registry.specs.Setup.{Setup, setup_words}
use Rattle.client_registry.specs.Sized.{IsHistory}
use Rattle.sse_model.proofs.Apart.{IsDistinct-filter}
use Rattle.sse_model.proofs.Counts.{AllByRecursion-append, AllByRecursion-each}
use Rattle.sse_model.proofs.DrawnOnce.{drawn_once-history}
use Rattle.sse_model.proofs.InputLaws.{input_of-injective}
use Rattle.sse_model.proofs.SameName.{same_name-Decides}
use Rattle.sse_model.proofs.UsedNames.{drawn_are_used}
use Rattle.sse_model.specs.Drawn.{drawn, drawn_by, names_of, searches_for, was_sent}
use Rattle.sse_model.specs.Histories.{table_at}
use Rattle.sse_model.specs.Inputs.{IsUsed, input_at, input_of}
use Rattle.sse_model.specs.Names.{Name, name, Kind, Token, ListPad, PlusPad, Revocation, DummyCell, DummyBlock, Table, same_name}
use Rattle.sse_model.specs.Positions.{Position, word_blocks, block_position, dummy_entry, dummy_block, entries_from, blocks_from, entry_positions, block_positions, addition_positions, fresh_words, ranks_of}
use Rattle.sse_model.specs.Wire.{labels_in, words_live}
use Rattle.world_model.proofs.Lists.{all_get, all_mono}
use Rattle.world_rules.specs.Covered.{PadText, pad_texts_of, first_pad_texts, next_pad_texts, pad_texts_in, Cover, cover_under, covers_in, HaveOwnPads}

-- The pads that a run draws.

is_pad_kind : Kind → Bool
is_pad_kind ListPad = true
is_pad_kind PlusPad = true
is_pad_kind DummyCell = true
is_pad_kind DummyBlock = true
is_pad_kind _ = false

abbrev is_pad : Name → Bool
is_pad n = is_pad_kind n.kind

-- an encrypted text with a label that is no pad, and a pad of this epoch
abbrev IsPadded : ℕ → Position → Type 0
IsPadded epoch p = (is_pad p.label ≡ false) × (is_pad p.pad ≡ true) × (p.pad.epoch ≡ epoch)

pads_of : (epoch : ℕ) (ranks : List ℕ) (positions : List Position) → AllByRecursion (IsPadded epoch) positions → filter is_pad (names_of positions) ≡ map (λ text. text.0) (pad_texts_of ranks positions)
pads_of epoch ranks [] all = refl
pads_of epoch ranks (p ∷ ps) all =
    let rest = filter is_pad (names_of ps) in
    ap (λ b. cond b (p.label ∷ cond (is_pad p.pad) (p.pad ∷ rest) rest) (cond (is_pad p.pad) (p.pad ∷ rest) rest)) (all.0).0
    ∙ ap (λ b. cond b (p.pad ∷ rest) rest) (all.0).1
    ∙ ap (λ names. p.pad ∷ names) (pads_of epoch ranks ps all.1)

texts_there : (epoch : ℕ) (ranks : List ℕ) (positions : List Position) → AllByRecursion (IsPadded epoch) positions → AllByRecursion (λ (text : PadText). text.0.epoch ≡ epoch) (pad_texts_of ranks positions)
texts_there epoch ranks [] all = tt
texts_there epoch ranks (p ∷ ps) all = ((all.0).2, texts_there epoch ranks ps all.1)

module _ (epoch : ℕ) (s : Setup) where
  entries_padded : (first : ℕ) (words : List (List ℕ)) → AllByRecursion (IsPadded epoch) (entries_from epoch s first words)
  unfolding is_pad_kind
  entries_padded first [] = tt
  entries_padded first (word ∷ words) = ((refl, refl, refl), entries_padded (first + word_blocks s word) words)

  blocks_padded : (first : ℕ) (words : List (List ℕ)) → AllByRecursion (IsPadded epoch) (blocks_from epoch s first words)
  unfolding is_pad_kind
  blocks_padded first [] = tt
  blocks_padded first (word ∷ words) =
      AllByRecursion-append (IsPadded epoch) (map (block_position epoch s first word) (range_with_len 0 (word_blocks s word))) (blocks_from epoch s (first + word_blocks s word) words)
      (AllByRecursion-each (IsPadded epoch) (block_position epoch s first word) (λ i. (refl, refl, refl)) (range_with_len 0 (word_blocks s word)))
      (blocks_padded (first + word_blocks s word) words)

  all_entries : AllByRecursion (IsPadded epoch) (entry_positions epoch s)
  unfolding is_pad_kind
  all_entries =
      AllByRecursion-append (IsPadded epoch) (entries_from epoch s 0 (setup_words s)) (map (dummy_entry epoch s) (range_with_len 0 (dummy_entries s)))
      (entries_padded 0 (setup_words s)) (AllByRecursion-each (IsPadded epoch) (dummy_entry epoch s) (λ i. (refl, refl, refl)) (range_with_len 0 (dummy_entries s)))

  all_blocks : AllByRecursion (IsPadded epoch) (block_positions epoch s)
  unfolding is_pad_kind
  all_blocks =
      AllByRecursion-append (IsPadded epoch) (blocks_from epoch s 0 (setup_words s)) (map (dummy_block epoch s) (range_with_len 0 (dummy_blocks s)))
      (blocks_padded 0 (setup_words s)) (AllByRecursion-each (IsPadded epoch) (dummy_block epoch s) (λ i. (refl, refl, refl)) (range_with_len 0 (dummy_blocks s)))

  all_added : (past : List Command) (d : Document) → AllByRecursion (IsPadded epoch) (addition_positions epoch s past d)
  unfolding is_pad_kind
  all_added past d = AllByRecursion-each (IsPadded epoch) _ (λ word. (refl, refl, refl)) (fresh_words s past d)

  none_pads : (g : List ℕ → Name) → ((word : List ℕ) → is_pad (g word) ≡ false) → (words : List (List ℕ)) → filter is_pad (map g words) ≡ []
  none_pads g none [] = refl
  none_pads g none (word ∷ words) = ap (λ b. cond b (g word ∷ filter is_pad (map g words)) (filter is_pad (map g words))) (none word) ∙ none_pads g none words

  next_pads : (past : List Command) (c : Command) → filter is_pad (drawn_by epoch s past c) ≡ map (λ text. text.0) (next_pad_texts epoch s past c)
  unfolding is_pad_kind
  next_pads past (Add d) = pads_of epoch [] (addition_positions epoch s past d) (all_added past d)
  next_pads past (Delete id) = none_pads (λ word. name epoch word Revocation id) (λ word. refl) (filter (λ word. not (was_sent s past word id)) (words_live (live s.documents past) id))
  next_pads past (Search word) = by_test (list_any (searches_for word) past)
    where
      by_test : (b : Bool) → filter is_pad (if b then [] else name epoch word Token 0 ∷ []) ≡ []
      by_test true = refl
      by_test false = refl

  later_pads : (past cs : List Command) → filter is_pad (flat_map (λ n. n) (over (drawn_by epoch s) past cs)) ≡ map (λ text. text.0) (flat_map (λ text. text) (over (next_pad_texts epoch s) past cs))
  later_pads past [] = refl
  later_pads past (c ∷ cs) =
      let names = flat_map (λ n. n) (over (drawn_by epoch s) (past ++ c ∷ []) cs) in
      let rest = flat_map (λ text. text) (over (next_pad_texts epoch s) (past ++ c ∷ []) cs) in
      filter-append is_pad (drawn_by epoch s past c) names
      ∙ (λ i. next_pads past c i ++ later_pads (past ++ c ∷ []) cs i)
      ∙ sym (map-append (λ text. text.0) (next_pad_texts epoch s past c) rest)

  next_there : (past : List Command) (c : Command) → AllByRecursion (λ (text : PadText). text.0.epoch ≡ epoch) (next_pad_texts epoch s past c)
  next_there past (Add d) = texts_there epoch [] (addition_positions epoch s past d) (all_added past d)
  next_there past (Delete id) = tt
  next_there past (Search word) = tt

  later_there : (past cs : List Command) → AllByRecursion (λ (text : PadText). text.0.epoch ≡ epoch) (flat_map (λ text. text) (over (next_pad_texts epoch s) past cs))
  later_there past [] = tt
  later_there past (c ∷ cs) =
      AllByRecursion-append (λ (text : PadText). text.0.epoch ≡ epoch) (next_pad_texts epoch s past c) (flat_map (λ text. text) (over (next_pad_texts epoch s) (past ++ c ∷ []) cs))
      (next_there past c) (later_there (past ++ c ∷ []) cs)

  first_pads : (t : Table) → filter is_pad (names_of (entry_positions epoch s) ++ names_of (block_positions epoch s)) ≡ map (λ text. text.0) (first_pad_texts t epoch s)
  first_pads t =
      let ranks = ranks_of (labels_in t (block_positions epoch s)) in
      filter-append is_pad (names_of (entry_positions epoch s)) (names_of (block_positions epoch s))
      ∙ (λ i. pads_of epoch ranks (entry_positions epoch s) all_entries i ++ pads_of epoch ranks (block_positions epoch s) all_blocks i)
      ∙ sym (map-append (λ text. text.0) (pad_texts_of ranks (entry_positions epoch s)) (pad_texts_of ranks (block_positions epoch s)))

  first_there : (t : Table) → AllByRecursion (λ (text : PadText). text.0.epoch ≡ epoch) (first_pad_texts t epoch s)
  first_there t =
      let ranks = ranks_of (labels_in t (block_positions epoch s)) in
      AllByRecursion-append (λ (text : PadText). text.0.epoch ≡ epoch) (pad_texts_of ranks (entry_positions epoch s)) (pad_texts_of ranks (block_positions epoch s))
      (texts_there epoch ranks (entry_positions epoch s) all_entries) (texts_there epoch ranks (block_positions epoch s) all_blocks)

-- the pads of a run are those that it draws
pads_drawn : (t : Table) (o : Offsets) (run : Run) → filter is_pad (flat_map (λ n. n) (drawn o run)) ≡ map (λ text. text.0) (pad_texts_in t o run)
pads_drawn t o run =
    let first = names_of (entry_positions o.epoch run.setup) ++ names_of (block_positions o.epoch run.setup) in
    let rest = flat_map (λ n. n) (over (drawn_by o.epoch run.setup) [] run.later) in
    filter-append is_pad first rest
    ∙ (λ i. first_pads o.epoch run.setup t i ++ later_pads o.epoch run.setup [] run.later i)
    ∙ sym (map-append (λ text. text.0) (first_pad_texts t o.epoch run.setup) (flat_map (λ text. text) (over (next_pad_texts o.epoch run.setup) [] run.later)))

all_there : (t : Table) (o : Offsets) (run : Run) → AllByRecursion (λ (text : PadText). text.0.epoch ≡ o.epoch) (pad_texts_in t o run)
all_there t o run =
    AllByRecursion-append (λ (text : PadText). text.0.epoch ≡ o.epoch) (first_pad_texts t o.epoch run.setup) (flat_map (λ text. text) (over (next_pad_texts o.epoch run.setup) [] run.later))
    (first_there o.epoch run.setup t) (later_there o.epoch run.setup [] run.later)

-- Names that are distinct.

all_flat : {X : Type 0} (P : X → Type 0) (xss : List (List X)) → AllByRecursion (AllByRecursion P) xss → AllByRecursion P (flat_map (λ xs. xs) xss)
all_flat P [] all = tt
all_flat P (xs ∷ xss) all = AllByRecursion-append P xs (flat_map (λ xs. xs) xss) all.0 (all_flat P xss all.1)

all_filter : {X : Type 0} (P : X → Type 0) (p : X → Bool) (xs : List X) → AllByRecursion P xs → AllByRecursion P (filter p xs)
all_filter P p [] all = tt
all_filter P p (x ∷ xs) all = by (p x) (all_filter P p xs all.1)
  where
    by : (b : Bool) → AllByRecursion P (filter p xs) → AllByRecursion P (cond b (x ∷ filter p xs) (filter p xs))
    by true rest = (all.0, rest)
    by false rest = rest

module _ (names : List Name) (distinct : IsDistinct same_name names) where
  not_before : (i j : ℕ) (n : Name) → slice_get names i ≡ Some n → slice_get names j ≡ Some n → i < j → ⊥
  not_before i j n at at' l =
      let apart = apart_from_distinct same_name names i j n distinct l (slice_get_within names j n at') in
      let e : same_name n n ≡ false = (λ k. same_name (sym (get_or_from_slice_get names i n n at) k) (sym (get_or_from_slice_get names j n n at') k)) ∙ apart in
      let r : same_name n n ≡ true = (same_name-Decides n n).1 refl in
      grind (arith, e, r)

  one_place : (i j : ℕ) (n : Name) → slice_get names i ≡ Some n → slice_get names j ≡ Some n → i ≡ j
  one_place i j n at at' = by_order (dec i j)
    where
      dec : (i j : ℕ) → (i < j) ⊎ ((j < i) ⊎ (i ≡ j))
      dec i j = grind arith

      by_order : (i < j) ⊎ ((j < i) ⊎ (i ≡ j)) → i ≡ j
      by_order (inl l) = absurd (not_before i j n at at' l)
      by_order (inr (inl l)) = absurd (not_before j i n at' at l)
      by_order (inr (inr e)) = e

-- so no two texts of a run have pads at one input
own_inputs : (t : Table) (o : Offsets) (run : Run) → IsHistory run → (i j : ℕ) (a b : PadText) → slice_get (pad_texts_in t o run) i ≡ Some a → slice_get (pad_texts_in t o run) j ≡ Some b
    → input_at a.0.word a.0.kind a.0.number ≡ input_at b.0.word b.0.kind b.0.number → i ≡ j
own_inputs t o run history i j a b at at' same =
    let texts = pad_texts_in t o run in
    let names = map (λ (text : PadText). text.0) texts in
    let all = flat_map (λ n. n) (drawn o run) in
    let distinct : IsDistinct same_name names = subst (IsDistinct same_name) (pads_drawn t o run) (IsDistinct-filter same_name same_name-Decides is_pad all (drawn_once-history o run history)) in
    let used : AllByRecursion IsUsed names = subst (AllByRecursion IsUsed) (pads_drawn t o run) (all_filter IsUsed is_pad all (all_flat IsUsed (drawn o run) (drawn_are_used o run history))) in
    let a_is : slice_get names i ≡ Some (a.0) = slice_get-map (λ (text : PadText). text.0) texts i ∙ ap (option_map (λ (text : PadText). text.0)) at in
    let b_is : slice_get names j ≡ Some (b.0) = slice_get-map (λ (text : PadText). text.0) texts j ∙ ap (option_map (λ (text : PadText). text.0)) at' in
    let epochs : a.0.epoch ≡ b.0.epoch =
    all_get (λ (text : PadText). text.0.epoch ≡ o.epoch) texts i a (all_there t o run) at ∙ sym (all_get (λ (text : PadText). text.0.epoch ≡ o.epoch) texts j b (all_there t o run) at')
    in
    let inputs : input_of a.0 ≡ input_of b.0 = λ k. (epochs k, same k) in
    let one : a.0 ≡ b.0 = input_of-injective a.0 b.0 (all_get IsUsed names i a.0 used a_is) (all_get IsUsed names j b.0 used b_is) inputs in
    one_place names distinct i j a.0 a_is (b_is ∙ ap (λ n. Some n) (sym one))

-- Epoch by epoch.

some_is : {X : Type 0} (a b : X) → Some a ≡ Some b → a ≡ b
some_is a b p = cc

-- what stands at a place of a list of what g makes
made_at : {X Y : Type 0} (g : X → Y) (xs : List X) (i : ℕ) (y : Y) → slice_get (map g xs) i ≡ Some y → (x : X) × (slice_get xs i ≡ Some x) × (g x ≡ y)
made_at g [] i y e = grind (arith, e)
made_at g (x ∷ xs) zero y e = (x, refl, some_is (g x) y e)
made_at g (x ∷ xs) (suc i) y e = made_at g xs i y e

-- what stands at a place of two lists
in_either : {X : Type 0} (xs ys : List X) (i : ℕ) (x : X) → slice_get (xs ++ ys) i ≡ Some x → (slice_get xs i ≡ Some x) ⊎ ((k : ℕ) × (i ≡ length xs + k) × (slice_get ys k ≡ Some x))
in_either [] ys i x e = inr (i, omega arith, e)
in_either (a ∷ xs) ys zero x e = inl e
in_either (a ∷ xs) ys (suc i) x e = by (in_either xs ys i x e)
  where
    by : (slice_get xs i ≡ Some x) ⊎ ((k : ℕ) × (i ≡ length xs + k) × (slice_get ys k ≡ Some x)) → (slice_get xs i ≡ Some x) ⊎ ((k : ℕ) × (suc i ≡ suc (length xs) + k) × (slice_get ys k ≡ Some x))
    by (inl at) = inl at
    by (inr p) = inr (p.0, omega (arith, p.1), p.2)

module _ (f : KeyedFn) (key : List ℕ) where
  -- each key is that of an epoch
  keys_marked : (es : Epochs) → AllByRecursion (λ (c : Cover). list_any (bytes_eq (mark_of f c.key)) (marks_of (mark_of f key) (as_recorded (mark_of f) es)) ≡ true) (covers_in f key (Some es))
  keys_marked (From o run) =
      AllByRecursion-each (λ (c : Cover). list_any (bytes_eq (mark_of f c.key)) (mark_of f key ∷ []) ≡ true) (cover_under key run.setup.shape)
      (λ texts. or_left (bytes_eq (mark_of f key) (mark_of f key)) false (nat_list_eq_equiv.refl (mark_of f key))) (pad_texts_in (table_at f key run) o run)
  keys_marked (Renewed before own run) =
      let marks = marks_of (mark_of f key) (as_recorded (mark_of f) before) in
      let joined : (k : List ℕ) → (list_any (bytes_eq (mark_of f k)) marks || list_any (bytes_eq (mark_of f k)) (mark_of f own ∷ [])) ≡ list_any (bytes_eq (mark_of f k)) (marks ++ mark_of f own ∷ []) =
      λ k. sym (list_any-append (bytes_eq (mark_of f k)) marks (mark_of f own ∷ []))
      in
      AllByRecursion-append (λ (c : Cover). list_any (bytes_eq (mark_of f c.key)) (marks ++ mark_of f own ∷ []) ≡ true) (covers_in f key (Some before)) (map (cover_under own run.setup.shape) (pad_texts_in (table_at f own run) (next_begins before) run))
      (all_mono (λ (c : Cover). list_any (bytes_eq (mark_of f c.key)) marks ≡ true) (λ (c : Cover). list_any (bytes_eq (mark_of f c.key)) (marks ++ mark_of f own ∷ []) ≡ true)
      (λ c there. sym (joined c.key) ∙ or_left (list_any (bytes_eq (mark_of f c.key)) marks) (list_any (bytes_eq (mark_of f c.key)) (mark_of f own ∷ [])) there) (covers_in f key (Some before)) (keys_marked before))
      (AllByRecursion-each (λ (c : Cover). list_any (bytes_eq (mark_of f c.key)) (marks ++ mark_of f own ∷ []) ≡ true) (cover_under own run.setup.shape)
      (λ texts. sym (joined own) ∙ or_right (list_any (bytes_eq (mark_of f own)) marks) (list_any (bytes_eq (mark_of f own)) (mark_of f own ∷ [])) (or_left (bytes_eq (mark_of f own) (mark_of f own)) false (nat_list_eq_equiv.refl (mark_of f own))))
      (pad_texts_in (table_at f own run) (next_begins before) run))

  run_pads : (own : List ℕ) (o : Offsets) (run : Run) → IsHistory run → HaveOwnPads (map (cover_under own run.setup.shape) (pad_texts_in (table_at f own run) o run))
  run_pads own o run history i j a b at at' keys inputs =
      let texts = pad_texts_in (table_at f own run) o run in
      let x = made_at (cover_under own run.setup.shape) texts i a at in
      let y = made_at (cover_under own run.setup.shape) texts j b at' in
      own_inputs (table_at f own run) o run history i j x.0 y.0 x.1 y.1 (ap (λ (c : Cover). c.input) x.2 ∙ inputs ∙ sym (ap (λ (c : Cover). c.input) y.2))

  -- two lists that have no key in common
  both_own : (xs ys : List Cover) → HaveOwnPads xs → HaveOwnPads ys → ((i k : ℕ) (a b : Cover) → slice_get xs i ≡ Some a → slice_get ys k ≡ Some b → a.key ≡ b.key → ⊥) → HaveOwnPads (xs ++ ys)
  both_own xs ys first rest apart i j a b at at' keys inputs = by (in_either xs ys i a at) (in_either xs ys j b at')
    where
      by : (slice_get xs i ≡ Some a) ⊎ ((k : ℕ) × (i ≡ length xs + k) × (slice_get ys k ≡ Some a)) → (slice_get xs j ≡ Some b) ⊎ ((k : ℕ) × (j ≡ length xs + k) × (slice_get ys k ≡ Some b)) → i ≡ j
      by (inl p) (inl q) = first i j a b p q keys inputs
      by (inl p) (inr q) = absurd (apart i q.0 a b p q.2 keys)
      by (inr p) (inl q) = absurd (apart j p.0 b a q p.2 (sym keys))
      by (inr p) (inr q) = let same : p.0 ≡ q.0 = rest p.0 q.0 a b p.2 q.2 keys inputs in omega (arith, p.1, q.1, same)

  -- Promise P304, also here
  pub own_pads : (es : Epochs) → AreEpochs es → MarksDiffer (mark_of f) key (Some es) → HaveOwnPads (covers_in f key (Some es))
  own_pads (From o run) are differ = run_pads key o run are
  own_pads (Renewed before own run) are differ =
      let first = covers_in f key (Some before) in
      let rest = map (cover_under own run.setup.shape) (pad_texts_in (table_at f own run) (next_begins before) run) in
      let marks = marks_of (mark_of f key) (as_recorded (mark_of f) before) in
      both_own first rest (own_pads before are.0 differ.0) (run_pads own (next_begins before) run are.2)
      (λ i k a b at at' keys.
      let y = made_at (cover_under own run.setup.shape) (pad_texts_in (table_at f own run) (next_begins before) run) k b at' in
      let there : list_any (bytes_eq (mark_of f a.key)) marks ≡ true = all_get (λ (c : Cover). list_any (bytes_eq (mark_of f c.key)) marks ≡ true) first i a (keys_marked before) at in
      let same : a.key ≡ own = keys ∙ sym (ap (λ (c : Cover). c.key) y.2) in
      true≢false (sym there ∙ ap (λ k. list_any (bytes_eq (mark_of f k)) marks) same ∙ differ.1))
