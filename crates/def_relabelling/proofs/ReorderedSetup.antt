-- Setups whose documents have the same words send the same frames, where labels differ and tags differ.
use Rattle.std.proofs.Common.{◌≡◌, ◌≢◌, ℕ, zero, suc, ◌+◌, ◌-◌, ◌*◌, ◌<◌, ◌≤◌, Bool, true, false, cond, ◌&&◌, ◌||◌, List, [], ◌∷◌, ◌++◌, length, map, filter, take, drop, le-ltb, refl, sym, ap, ◌∙◌, subst, arith, zero-add, append_assoc, ⊎_elim}
use Rattle.std.specs.Prelude.{Contains, bytes_eq, flat_map, nat_lt, replicate, slice_index_or}
use Rattle.std.specs.List.{AllByRecursion, IsDistinct, list_any, range_with_len}
use Rattle.std.specs.Cmp.Lexicographic.{same_text}
use Rattle.std.proofs.lemmas.Bool.{true≢false}
use Rattle.std.proofs.lemmas.List.{length-append, length-map, map-append, map-id, take_at, drop_at, drop-drop}
use Rattle.std.proofs.lemmas.List.Concat.{flat_map_single}
use Rattle.std.proofs.lemmas.List.Elements.{All-contains, All-from_recursion, filter-append}
use Rattle.std.proofs.lemmas.List.FromFn.{length-map-range_with_len}
use Rattle.std.proofs.lemmas.Simd.{map-map}
use Rattle.std.proofs.lemmas.Slice.Eq.{bytes_eq-Decides}
use Rattle.keyed_fn.specs.Xored.{xored}
use Rattle.list_packing.specs.Parts.{parts}
use Rattle.two_level.specs.Laid.{laid}
use Rattle.two_level.specs.Plan.{plan, block_count}
use Rattle.two_level.specs.Shape.{Shape}
use Rattle.client_registry.specs.Acceptance as acceptance
use Rattle.client_registry.specs.Acceptance.{padded, dummy_entries, dummy_blocks}
use Rattle.client_registry.specs.Run.{Offsets}
use Rattle.client_registry.specs.Setup.{Setup, setup_words, setup_list}
use Rattle.sse_frames.proofs.Sorted.{AllDiffer, length-by_bytes}
use Rattle.sse_frames.specs.Frames.{Entry, SetupBegin, SetupDict, SetupArray, SetupEnd}
use Rattle.sse_frames.specs.Order.{is_below, by_bytes}
use Rattle.sse_frames.specs.SentParts.{numbered, setup_frames}
use Rattle.sse_model.proofs.Counts.{AllByRecursion-append, length-blocks_from}
use Rattle.sse_model.proofs.Members.{Contains-nil, Contains-cases, Contains-from_list_any, AllByRecursion-from_members}
use Rattle.sse_model.specs.Names.{Table, name, no_word, ListLabel, ListPad, PlaceTag, DummyLabel, DummyCell, DummyTag, DummyBlock, cell_size, block_size}
use Rattle.sse_model.specs.Positions.{Position, word_blocks, cell_text, block_text, block_position, dummy_entry, dummy_block, entries_from, blocks_from, entry_positions, block_positions, comes_before, ranks_of, sealed}
use Rattle.sse_model.specs.Wire.{labels_in, frames_of_setup}
use Rattle.def_relabelling.proofs.InAnyOrder.{AreSame}
use Rattle.def_relabelling.proofs.SortedInAnyOrder.{sorted_same-before, count_same}

-- Ranks, where no two tags are equal.

-- how many of these are below
abbrev below_count : List (List ℕ) → List ℕ → ℕ
below_count tags u = length (filter (λ v. is_below v u) tags)

differ_at : (xs : List (List ℕ)) → AllDiffer xs → (i j : ℕ) → i < length xs → j < length xs → slice_index_or xs i [] ≡ slice_index_or xs j [] → i ≡ j
differ_at [] differ i j a b e = absurd (omega (arith, a))
differ_at (x ∷ xs) differ zero zero a b e = refl
differ_at (x ∷ xs) differ zero (suc j) a b e = absurd (All-from_recursion (λ y. x ≢ y) xs differ.0 j [] (let h : j < length xs = omega (arith, b) in h) e)
differ_at (x ∷ xs) differ (suc i) zero a b e = absurd (All-from_recursion (λ y. x ≢ y) xs differ.0 i [] (let h : i < length xs = omega (arith, a) in h) (sym e))
differ_at (x ∷ xs) differ (suc i) (suc j) a b e =
    ap (λ (n : ℕ). suc n) (differ_at xs differ.1 i j (let h : i < length xs = omega (arith, a) in h) (let h : j < length xs = omega (arith, b) in h) e)

comes_simply : (tags : List (List ℕ)) → AllDiffer tags → (i j : ℕ) → i < length tags → j < length tags → comes_before tags j i ≡ is_below (slice_index_or tags i []) (slice_index_or tags j [])
comes_simply tags differ i j a b = by (bytes_eq (slice_index_or tags i []) (slice_index_or tags j [])) refl
  where
    u : List ℕ
    u = slice_index_or tags i []

    v : List ℕ
    v = slice_index_or tags j []

    or_none : (x : Bool) → (x || false) ≡ x
    or_none true = refl
    or_none false = refl

    by : (same : Bool) → bytes_eq u v ≡ same → (is_below u v || (bytes_eq u v && nat_lt i j)) ≡ is_below u v
    by false is = ap (λ x. is_below u v || (x && nat_lt i j)) is ∙ or_none (is_below u v)
    by true is =
        let at : i ≡ j = differ_at tags differ i j a b (same_text u v (sym is)) in
        let not_before : nat_lt i j ≡ false = le-ltb i j (let h : j ≤ i = omega (arith, at) in h) in
        ap (λ x. is_below u v || (x && nat_lt i j)) is ∙ ap (λ x. is_below u v || x) not_before ∙ or_none (is_below u v)

over_range : {X : Type 0} (rest : List (List ℕ)) (a : ℕ) (f : ℕ → X) (g : List ℕ → X) → ((k : ℕ) → k < length rest → f (a + k) ≡ g (slice_index_or rest k [])) → map f (range_with_len a (length rest)) ≡ map g rest
over_range [] a f g each = refl
over_range (r ∷ rs) a f g each =
    λ i. (ap f (let e : a ≡ a + 0 = omega arith in e) ∙ each 0 (omega arith)) i
    ∷ over_range rs (a + 1) f g (λ k within. ap f (let e : a + 1 + k ≡ a + suc k = omega arith in e) ∙ each (suc k) (let h : suc k < suc (length rs) = omega (arith, within) in h)) i

count_range : (rest : List (List ℕ)) (a : ℕ) (p : ℕ → Bool) (q : List ℕ → Bool) → ((k : ℕ) → k < length rest → p (a + k) ≡ q (slice_index_or rest k [])) → length (filter p (range_with_len a (length rest))) ≡ length (filter q rest)
count_range [] a p q each = refl
count_range (r ∷ rs) a p q each =
    by (p a) (q r) (ap p (let e : a ≡ a + 0 = omega arith in e) ∙ each 0 (omega arith))
    (count_range rs (a + 1) p q (λ k within. ap p (let e : a + 1 + k ≡ a + suc k = omega arith in e) ∙ each (suc k) (let h : suc k < suc (length rs) = omega (arith, within) in h)))
  where
    by : (b c : Bool) → b ≡ c → length (filter p (range_with_len (a + 1) (length rs))) ≡ length (filter q rs)
        → length (cond b (a ∷ filter p (range_with_len (a + 1) (length rs))) (filter p (range_with_len (a + 1) (length rs)))) ≡ length (cond c (r ∷ filter q rs) (filter q rs))
    by true true e rest = ap (λ (n : ℕ). suc n) rest
    by false false e rest = rest
    by true false e rest = absurd (true≢false e)
    by false true e rest = absurd (true≢false (sym e))

-- the rank of a tag is how many are below it
ranks_counted : (tags : List (List ℕ)) → AllDiffer tags → ranks_of tags ≡ map (below_count tags) tags
ranks_counted tags differ =
    over_range tags 0 (λ j. length (filter (comes_before tags j) (range_with_len 0 (length tags)))) (below_count tags)
    (λ j within. ap (λ n. length (filter (comes_before tags n) (range_with_len 0 (length tags)))) (zero-add j)
    ∙ count_range tags 0 (comes_before tags j) (λ v. is_below v (slice_index_or tags j []))
    (λ i inside. ap (comes_before tags j) (zero-add i) ∙ comes_simply tags differ i j inside within))

-- A setup's texts, word by word.

module _ (t : Table) (epoch : ℕ) where
  abbrev pub tags_of : Setup → List ℕ → List (List ℕ)
  tags_of s w = map (λ j. t (name epoch w PlaceTag j)) (range_with_len 0 (word_blocks s w))

  abbrev entry_of : Setup → (List ℕ → ℕ) → List ℕ → Entry
  entry_of s rank w = record {
    label = t (name epoch w ListLabel 0);
    text = xored (cell_text (laid s.shape (map rank (tags_of s w)) (setup_list s w))) (t (name epoch w ListPad 0));
  }

  abbrev blocks_of : Setup → (List ℕ → ℕ) → List ℕ → List Entry
  blocks_of s rank w = map (λ j. record {
    label = t (name epoch w PlaceTag j);
    text = xored (block_text j (laid s.shape (map rank (tags_of s w)) (setup_list s w))) (t (name epoch w ListPad (suc j)));
  }) (range_with_len 0 (word_blocks s w))

  -- the tags and the texts of so many dummies, which no rank shows in
  abbrev pub dummy_tags : ℕ → List (List ℕ)
  dummy_tags count = map (λ j. t (name epoch no_word DummyTag j)) (range_with_len 0 count)

  abbrev dummy_entry_texts : Shape → ℕ → List Entry
  dummy_entry_texts shape count = map (λ i. record {
    label = t (name epoch no_word DummyLabel i);
    text = xored (replicate (cell_size shape) 0) (t (name epoch no_word DummyCell i));
  }) (range_with_len 0 count)

  abbrev dummy_block_texts : Shape → ℕ → List Entry
  dummy_block_texts shape count = map (λ j. record {
    label = t (name epoch no_word DummyTag j);
    text = xored (replicate (block_size shape) 0) (t (name epoch no_word DummyBlock j));
  }) (range_with_len 0 count)

  module _ (s : Setup) where
    pub tags_by_word : (first : ℕ) (words : List (List ℕ)) → labels_in t (blocks_from epoch s first words) ≡ flat_map (tags_of s) words
    tags_by_word first [] = refl
    tags_by_word first (w ∷ ws) =
        map-append (λ (p : Position). t p.label) (map (block_position epoch s first w) (range_with_len 0 (word_blocks s w))) (blocks_from epoch s (first + word_blocks s w) ws)
        ∙ (λ i. map-map (λ (p : Position). t p.label) (block_position epoch s first w) (range_with_len 0 (word_blocks s w)) i ++ tags_by_word (first + word_blocks s w) ws i)

    -- the tags of the dummies, which stand behind those of the words
    module _ (dummies : List (List ℕ)) (rank : List ℕ → ℕ) (ranks : List ℕ) where
      split_ranks : (w : List ℕ) (ws : List (List ℕ)) → map rank (flat_map (tags_of s) (w ∷ ws) ++ dummies) ≡ map rank (tags_of s w) ++ map rank (flat_map (tags_of s) ws ++ dummies)
      split_ranks w ws =
          ap (map rank) (append_assoc (tags_of s w) (flat_map (tags_of s) ws) dummies)
          ∙ map-append rank (tags_of s w) (flat_map (tags_of s) ws ++ dummies)

      own_ranks : (w : List ℕ) (ws : List (List ℕ)) (first : ℕ) → drop first ranks ≡ map rank (flat_map (tags_of s) (w ∷ ws) ++ dummies) → take (word_blocks s w) (drop first ranks) ≡ map rank (tags_of s w)
      own_ranks w ws first e =
          ap (take (word_blocks s w)) (e ∙ split_ranks w ws)
          ∙ take_at (map rank (tags_of s w)) (map rank (flat_map (tags_of s) ws ++ dummies)) (word_blocks s w) (length-map (tags_of s w) rank ∙ length-map-range_with_len _ 0 (word_blocks s w))

      later_ranks : (w : List ℕ) (ws : List (List ℕ)) (first : ℕ) → drop first ranks ≡ map rank (flat_map (tags_of s) (w ∷ ws) ++ dummies) → drop (first + word_blocks s w) ranks ≡ map rank (flat_map (tags_of s) ws ++ dummies)
      later_ranks w ws first e =
          sym (drop-drop (word_blocks s w) first ranks)
          ∙ ap (drop (word_blocks s w)) (e ∙ split_ranks w ws)
          ∙ drop_at (map rank (tags_of s w)) (map rank (flat_map (tags_of s) ws ++ dummies)) (word_blocks s w) (length-map (tags_of s w) rank ∙ length-map-range_with_len _ 0 (word_blocks s w))

      entries_by_word : (first : ℕ) (words : List (List ℕ)) → drop first ranks ≡ map rank (flat_map (tags_of s) words ++ dummies) → map (sealed t ranks) (entries_from epoch s first words) ≡ map (entry_of s rank) words
      entries_by_word first [] e = refl
      entries_by_word first (w ∷ ws) e =
          λ i. record { label = t (name epoch w ListLabel 0); text = xored (cell_text (laid s.shape (own_ranks w ws first e i) (setup_list s w))) (t (name epoch w ListPad 0)) }
          ∷ entries_by_word (first + word_blocks s w) ws (later_ranks w ws first e) i

      blocks_by_word : (first : ℕ) (words : List (List ℕ)) → drop first ranks ≡ map rank (flat_map (tags_of s) words ++ dummies) → map (sealed t ranks) (blocks_from epoch s first words) ≡ flat_map (blocks_of s rank) words
      blocks_by_word first [] e = refl
      blocks_by_word first (w ∷ ws) e =
          map-append (sealed t ranks) (map (block_position epoch s first w) (range_with_len 0 (word_blocks s w))) (blocks_from epoch s (first + word_blocks s w) ws)
          ∙ (λ i. (map-map (sealed t ranks) (block_position epoch s first w) (range_with_len 0 (word_blocks s w))
          ∙ (λ k. map (λ j. record { label = t (name epoch w PlaceTag j); text = xored (block_text j (laid s.shape (own_ranks w ws first e k) (setup_list s w))) (t (name epoch w ListPad (suc j))) }) (range_with_len 0 (word_blocks s w)))) i
          ++ blocks_by_word (first + word_blocks s w) ws (later_ranks w ws first e) i)

    -- the tags of all
    pub all_tags : labels_in t (block_positions epoch s) ≡ flat_map (tags_of s) (setup_words s) ++ dummy_tags (dummy_blocks s)
    all_tags =
        map-append (λ (p : Position). t p.label) (blocks_from epoch s 0 (setup_words s)) (map (dummy_block epoch s) (range_with_len 0 (dummy_blocks s)))
        ∙ (λ i. tags_by_word 0 (setup_words s) i ++ map-map (λ (p : Position). t p.label) (dummy_block epoch s) (range_with_len 0 (dummy_blocks s)) i)

    -- the texts of a setup, each by its word alone and the tags of all, and those of the dummies
    pub texts_by_word : AllDiffer (labels_in t (block_positions epoch s))
        → (map (sealed t (ranks_of (labels_in t (block_positions epoch s)))) (entry_positions epoch s)
        ≡ map (entry_of s (below_count (flat_map (tags_of s) (setup_words s) ++ dummy_tags (dummy_blocks s)))) (setup_words s) ++ dummy_entry_texts s.shape (dummy_entries s))
        × (map (sealed t (ranks_of (labels_in t (block_positions epoch s)))) (block_positions epoch s)
        ≡ flat_map (blocks_of s (below_count (flat_map (tags_of s) (setup_words s) ++ dummy_tags (dummy_blocks s)))) (setup_words s) ++ dummy_block_texts s.shape (dummy_blocks s))
    texts_by_word differ =
        let tags = labels_in t (block_positions epoch s) in
        let own = flat_map (tags_of s) (setup_words s) in
        let others = dummy_tags (dummy_blocks s) in
        let rank = below_count (own ++ others) in
        let ranks : ranks_of tags ≡ map rank (own ++ others) = ranks_counted tags differ ∙ (λ i. map (below_count (all_tags i)) (all_tags i)) in (
          map-append (sealed t (ranks_of tags)) (entries_from epoch s 0 (setup_words s)) (map (dummy_entry epoch s) (range_with_len 0 (dummy_entries s)))
              ∙ (λ i. entries_by_word others rank (ranks_of tags) 0 (setup_words s) ranks i ++ map-map (sealed t (ranks_of tags)) (dummy_entry epoch s) (range_with_len 0 (dummy_entries s)) i),
          map-append (sealed t (ranks_of tags)) (blocks_from epoch s 0 (setup_words s)) (map (dummy_block epoch s) (range_with_len 0 (dummy_blocks s)))
              ∙ (λ i. blocks_by_word others rank (ranks_of tags) 0 (setup_words s) ranks i ++ map-map (sealed t (ranks_of tags)) (dummy_block epoch s) (range_with_len 0 (dummy_blocks s)) i),
        )

-- Frames.

-- different values, and others that differ from them
differ-append : (xs ys : List (List ℕ)) → AllDiffer xs → AllDiffer ys → AllByRecursion (λ x. AllByRecursion (λ y. x ≢ y) ys) xs → AllDiffer (xs ++ ys)
differ-append [] ys a b c = b
differ-append (x ∷ xs) ys a b c = (AllByRecursion-append (λ y. x ≢ y) xs ys a.0 c.0, differ-append xs ys a.1 b c.1)

any_from_contains : (w : List ℕ) (vs : List (List ℕ)) → Contains vs w → list_any (bytes_eq w) vs ≡ true
any_from_contains w [] within = absurd (Contains-nil w within)
any_from_contains w (v ∷ vs) within =
    ⊎_elim (λ (here : v ≡ w). ap (λ b. b || list_any (bytes_eq w) vs) ((bytes_eq-Decides w v).1 (sym here))) (λ rest. or_later (bytes_eq w v) (any_from_contains w vs rest))
    (Contains-cases v vs w within)
  where
    or_later : (b : Bool) → list_any (bytes_eq w) vs ≡ true → (b || list_any (bytes_eq w) vs) ≡ true
    or_later true e = refl
    or_later false e = e

-- a test that each passes keeps all
all_pass : {X : Type 0} (xs : List X) → filter (λ x. true) xs ≡ xs
all_pass [] = refl
all_pass (x ∷ xs) = ap (λ rest. x ∷ rest) (all_pass xs)

-- what is known of the one words is known of the others
pub known_there : (Known : List ℕ → Type 0) (ws vs : List (List ℕ)) → AreSame ws vs → AllByRecursion Known ws → AllByRecursion Known vs
known_there Known ws vs same known =
    AllByRecursion-from_members Known vs
    (λ v within. All-contains Known ws v (All-from_recursion Known ws known) (Contains-from_list_any v ws (same.same v ∙ any_from_contains v vs within)))

module _ (t : Table) (o : Offsets) (s s2 : Setup) (shape : s.shape ≡ s2.shape) (pad : s.pad ≡ s2.pad) (lists : (word : List ℕ) → setup_list s word ≡ setup_list s2 word)
    (words : AreSame (setup_words s) (setup_words s2))
    (Known : List ℕ → Type 0) (known : AllByRecursion Known (setup_words s))
    (labels_apart : (v w : List ℕ) → Known v → Known w → t (name o.epoch v ListLabel 0) ≡ t (name o.epoch w ListLabel 0) → v ≡ w)
    (tags_apart : (v w : List ℕ) (i j : ℕ) → i < word_blocks s v → j < word_blocks s w → Known v → Known w → t (name o.epoch v PlaceTag i) ≡ t (name o.epoch w PlaceTag j) → (v ≡ w) × (i ≡ j))
    (dummies_apart : (i j : ℕ) → i < dummy_blocks s → j < dummy_blocks s → t (name o.epoch no_word DummyTag i) ≡ t (name o.epoch no_word DummyTag j) → i ≡ j)
    (tags_and_dummies : (w : List ℕ) (i j : ℕ) → i < word_blocks s w → j < dummy_blocks s → Known w → t (name o.epoch w PlaceTag i) ≢ t (name o.epoch no_word DummyTag j)) where
  abbrev own_tags : List (List ℕ)
  own_tags = flat_map (tags_of t o.epoch s) (setup_words s)

  abbrev own_tags2 : List (List ℕ)
  own_tags2 = flat_map (tags_of t o.epoch s2) (setup_words s2)

  abbrev rank : List ℕ → ℕ
  rank = below_count (own_tags ++ dummy_tags t o.epoch (dummy_blocks s))

  abbrev rank2 : List ℕ → ℕ
  rank2 = below_count (own_tags2 ++ dummy_tags t o.epoch (dummy_blocks s2))

  same_tags : tags_of t o.epoch s ≡ tags_of t o.epoch s2
  same_tags = λ i w. map (λ j. t (name o.epoch w PlaceTag j)) (range_with_len 0 (block_count (plan (shape i) (length (lists w i)))))

  abbrev key_itself : List ℕ → List ℕ
  key_itself u = u

  -- as many of their own tags pass
  same_count : (p : List ℕ → Bool) → length (filter p own_tags) ≡ length (filter p own_tags2)
  same_count p =
      count_same key_itself (tags_of t o.epoch s) p (setup_words s) (setup_words s2) words
      ∙ ap (λ (tags : List ℕ → List (List ℕ)). length (filter p (flat_map tags (setup_words s2)))) same_tags

  -- as many words and blocks of their own, and so as many dummies
  same_words : length (setup_words s) ≡ length (setup_words s2)
  same_words =
      ap length (sym (flat_map_single key_itself (setup_words s) ∙ map-id (setup_words s)))
      ∙ sym (ap length (all_pass (flat_map (λ w. w ∷ []) (setup_words s))))
      ∙ count_same key_itself (λ w. w ∷ []) (λ w. true) (setup_words s) (setup_words s2) words
      ∙ ap length (all_pass (flat_map (λ w. w ∷ []) (setup_words s2)))
      ∙ ap length (flat_map_single key_itself (setup_words s2) ∙ map-id (setup_words s2))

  same_blocks_count : acceptance.blocks_of s ≡ acceptance.blocks_of s2
  same_blocks_count =
      sym (length-own s) ∙ sym (ap length (all_pass own_tags)) ∙ same_count (λ u. true) ∙ ap length (all_pass own_tags2) ∙ length-own s2
    where
      length-own : (r : Setup) → length (flat_map (tags_of t o.epoch r) (setup_words r)) ≡ acceptance.blocks_of r
      length-own r =
          ap length (sym (tags_by_word t o.epoch r 0 (setup_words r)))
          ∙ length-map (blocks_from o.epoch r 0 (setup_words r)) (λ p. t p.label)
          ∙ length-blocks_from o.epoch r 0 (setup_words r)

  same_dummy_entries : dummy_entries s ≡ dummy_entries s2
  same_dummy_entries = λ i. padded (pad i) (same_words i) - same_words i

  same_dummy_blocks : dummy_blocks s ≡ dummy_blocks s2
  same_dummy_blocks = λ i. padded (pad i) (same_blocks_count i) - same_blocks_count i

  same_ranks : rank ≡ rank2
  same_ranks =
      λ i u.
      (counted own_tags (dummy_tags t o.epoch (dummy_blocks s)) u
      ∙ (λ j. same_count (λ v. is_below v u) j + length (filter (λ v. is_below v u) (dummy_tags t o.epoch (same_dummy_blocks j))))
      ∙ sym (counted own_tags2 (dummy_tags t o.epoch (dummy_blocks s2)) u)) i
    where
      counted : (xs ys : List (List ℕ)) (u : List ℕ) → below_count (xs ++ ys) u ≡ below_count xs u + below_count ys u
      counted xs ys u = ap length (filter-append (λ v. is_below v u) xs ys) ∙ length-append (filter (λ v. is_below v u) xs) (filter (λ v. is_below v u) ys)

  same_entry : entry_of t o.epoch s rank ≡ entry_of t o.epoch s2 rank2
  same_entry = λ i w. record {
    label = t (name o.epoch w ListLabel 0);
    text = xored (cell_text (laid (shape i) (map (same_ranks i) (same_tags i w)) (lists w i))) (t (name o.epoch w ListPad 0));
  }

  same_blocks : blocks_of t o.epoch s rank ≡ blocks_of t o.epoch s2 rank2
  same_blocks = λ i w. map (λ j. record {
    label = t (name o.epoch w PlaceTag j);
    text = xored (block_text j (laid (shape i) (map (same_ranks i) (same_tags i w)) (lists w i))) (t (name o.epoch w ListPad (suc j)));
  }) (range_with_len 0 (block_count (plan (shape i) (length (lists w i)))))

  abbrev label_of : Entry → List ℕ
  label_of entry = entry.label

  known2 : AllByRecursion Known (setup_words s2)
  known2 = known_there Known (setup_words s) (setup_words s2) words known

  sorted_entries : by_bytes label_of (map (entry_of t o.epoch s rank) (setup_words s) ++ dummy_entry_texts t o.epoch s.shape (dummy_entries s))
      ≡ by_bytes label_of (map (entry_of t o.epoch s2 rank2) (setup_words s2) ++ dummy_entry_texts t o.epoch s2.shape (dummy_entries s2))
  sorted_entries =
      let dummies = dummy_entry_texts t o.epoch s.shape (dummy_entries s) in
      ap (λ own. by_bytes label_of (own ++ dummies)) (sym (flat_map_single (entry_of t o.epoch s rank) (setup_words s)))
      ∙ sorted_same-before label_of (λ w. entry_of t o.epoch s rank w ∷ []) dummies Known
      (λ v w k k2 apart. ((λ same. apart (labels_apart v w k k2 same), tt), tt)) (setup_words s) (setup_words s2) words known known2
      ∙ ap (λ own. by_bytes label_of (own ++ dummies)) (flat_map_single (entry_of t o.epoch s rank) (setup_words s2))
      ∙ (λ i. by_bytes label_of (map (same_entry i) (setup_words s2) ++ dummy_entry_texts t o.epoch (shape i) (same_dummy_entries i)))

  -- what is so of each number of a range
  each_number : {X : Type 0} (P : X → Type 0) (f : ℕ → X) (a n : ℕ) → ((j : ℕ) → a ≤ j → j < a + n → P (f j)) → AllByRecursion P (map f (range_with_len a n))
  each_number P f a zero each = tt
  each_number P f a (suc n) each = (each a (omega arith) (omega arith), each_number P f (a + 1) n (λ j above within. each j (let h : a ≤ j = omega (arith, above) in h) (let h : j < a + suc n = omega (arith, within) in h)))

  sorted_blocks : by_bytes label_of (flat_map (blocks_of t o.epoch s rank) (setup_words s) ++ dummy_block_texts t o.epoch s.shape (dummy_blocks s))
      ≡ by_bytes label_of (flat_map (blocks_of t o.epoch s2 rank2) (setup_words s2) ++ dummy_block_texts t o.epoch s2.shape (dummy_blocks s2))
  sorted_blocks =
      sorted_same-before label_of (blocks_of t o.epoch s rank) (dummy_block_texts t o.epoch s.shape (dummy_blocks s)) Known
      (λ v w k k2 apart. each_number (λ (x : Entry). AllByRecursion (λ (y : Entry). x.label ≢ y.label) (blocks_of t o.epoch s rank w)) _ 0 (word_blocks s v)
      (λ i low within. each_number (λ (y : Entry). t (name o.epoch v PlaceTag i) ≢ y.label) _ 0 (word_blocks s w)
      (λ j above inside. λ same. apart (tags_apart v w i j (let h : i < word_blocks s v = omega (arith, within) in h) (let h : j < word_blocks s w = omega (arith, inside) in h) k k2 same).0)))
      (setup_words s) (setup_words s2) words known known2
      ∙ (λ i. by_bytes label_of (flat_map (same_blocks i) (setup_words s2) ++ dummy_block_texts t o.epoch (shape i) (same_dummy_blocks i)))

  -- no two tags are equal
  own_differ : (w : List ℕ) → Known w → (a n : ℕ) → a + n ≤ word_blocks s w → AllDiffer (map (λ j. t (name o.epoch w PlaceTag j)) (range_with_len a n))
  own_differ w k a zero within = tt
  own_differ w k a (suc n) within = (
    each_number (λ tag. t (name o.epoch w PlaceTag a) ≢ tag) (λ j. t (name o.epoch w PlaceTag j)) (a + 1) n
        (λ j above inside. λ same.
        let low : a < word_blocks s w = omega (arith, within) in
        let high : j < word_blocks s w = omega (arith, within, inside) in
        let at : a ≡ j = (tags_apart w w a j low high k k same).1 in
        omega (arith, at, above)),
    own_differ w k (a + 1) n (let h : a + 1 + n ≤ word_blocks s w = omega (arith, within) in h),
  )

  others_differ : (w : List ℕ) → Known w → (ws : List (List ℕ)) → AllByRecursion (λ v. bytes_eq w v ≡ false) ws → AllByRecursion Known ws
      → AllByRecursion (λ x. AllByRecursion (λ y. x ≢ y) (flat_map (tags_of t o.epoch s) ws)) (tags_of t o.epoch s w)
  others_differ w k ws differ all =
      each_number (λ x. AllByRecursion (λ y. x ≢ y) (flat_map (tags_of t o.epoch s) ws)) (λ j. t (name o.epoch w PlaceTag j)) 0 (word_blocks s w)
      (λ i above within. go i (let h : i < word_blocks s w = omega (arith, within) in h) ws differ all)
    where
      go : (i : ℕ) → i < word_blocks s w → (vs : List (List ℕ)) → AllByRecursion (λ v. bytes_eq w v ≡ false) vs → AllByRecursion Known vs → AllByRecursion (λ y. t (name o.epoch w PlaceTag i) ≢ y) (flat_map (tags_of t o.epoch s) vs)
      go i within [] differ all = tt
      go i within (v ∷ vs) differ all =
          AllByRecursion-append (λ y. t (name o.epoch w PlaceTag i) ≢ y) (tags_of t o.epoch s v) (flat_map (tags_of t o.epoch s) vs)
          (each_number (λ y. t (name o.epoch w PlaceTag i) ≢ y) (λ j. t (name o.epoch v PlaceTag j)) 0 (word_blocks s v)
          (λ j above inside. λ same.
          true≢false (sym ((bytes_eq-Decides w v).1 (tags_apart w v i j within (let h : j < word_blocks s v = omega (arith, inside) in h) k all.0 same).0) ∙ differ.0)))
          (go i within vs differ.1 all.1)

  tags_differ : (ws : List (List ℕ)) → IsDistinct bytes_eq ws → AllByRecursion Known ws → AllDiffer (flat_map (tags_of t o.epoch s) ws)
  unfolding IsDistinct
  tags_differ [] differ all = tt
  tags_differ (w ∷ ws) differ all =
      differ-append (tags_of t o.epoch s w) (flat_map (tags_of t o.epoch s) ws) (own_differ w all.0 0 (word_blocks s w) (omega arith)) (tags_differ ws differ.1 all.1) (others_differ w all.0 ws differ.0 all.1)

  -- nor of dummies
  dummies_differ : (a n : ℕ) → a + n ≤ dummy_blocks s → AllDiffer (map (λ j. t (name o.epoch no_word DummyTag j)) (range_with_len a n))
  dummies_differ a zero within = tt
  dummies_differ a (suc n) within = (
    each_number (λ tag. t (name o.epoch no_word DummyTag a) ≢ tag) (λ j. t (name o.epoch no_word DummyTag j)) (a + 1) n
        (λ j above inside. λ same.
        let low : a < dummy_blocks s = omega (arith, within) in
        let high : j < dummy_blocks s = omega (arith, within, inside) in
        let at : a ≡ j = dummies_apart a j low high same in
        omega (arith, at, above)),
    dummies_differ (a + 1) n (let h : a + 1 + n ≤ dummy_blocks s = omega (arith, within) in h),
  )

  -- nor one of a word and one of a dummy
  from_dummies : (ws : List (List ℕ)) → AllByRecursion Known ws → AllByRecursion (λ x. AllByRecursion (λ y. x ≢ y) (dummy_tags t o.epoch (dummy_blocks s))) (flat_map (tags_of t o.epoch s) ws)
  from_dummies [] all = tt
  from_dummies (w ∷ ws) all =
      AllByRecursion-append (λ x. AllByRecursion (λ y. x ≢ y) (dummy_tags t o.epoch (dummy_blocks s))) (tags_of t o.epoch s w) (flat_map (tags_of t o.epoch s) ws)
      (each_number (λ x. AllByRecursion (λ y. x ≢ y) (dummy_tags t o.epoch (dummy_blocks s))) (λ j. t (name o.epoch w PlaceTag j)) 0 (word_blocks s w)
      (λ i low within. each_number (λ y. t (name o.epoch w PlaceTag i) ≢ y) (λ j. t (name o.epoch no_word DummyTag j)) 0 (dummy_blocks s)
      (λ j above inside. tags_and_dummies w i j (let h : i < word_blocks s w = omega (arith, within) in h) (let h : j < dummy_blocks s = omega (arith, inside) in h) all.0)))
      (from_dummies ws all.1)

  all_differ : (ws : List (List ℕ)) → IsDistinct bytes_eq ws → AllByRecursion Known ws → AllDiffer (flat_map (tags_of t o.epoch s) ws ++ dummy_tags t o.epoch (dummy_blocks s))
  all_differ ws differ all =
      differ-append (flat_map (tags_of t o.epoch s) ws) (dummy_tags t o.epoch (dummy_blocks s)) (tags_differ ws differ all) (dummies_differ 0 (dummy_blocks s) (omega arith)) (from_dummies ws all)

  pub setup_frames_same : frames_of_setup t o s ≡ frames_of_setup t o s2
  setup_frames_same =
      let one = texts_by_word t o.epoch s (subst AllDiffer (sym (all_tags t o.epoch s)) (all_differ (setup_words s) words.differ known)) in
      let two = texts_by_word t o.epoch s2
      (subst AllDiffer ((λ i. flat_map (same_tags i) (setup_words s2) ++ dummy_tags t o.epoch (same_dummy_blocks i)) ∙ sym (all_tags t o.epoch s2)) (all_differ (setup_words s2) words.differ2 known2)) in
      let es = map (entry_of t o.epoch s rank) (setup_words s) ++ dummy_entry_texts t o.epoch s.shape (dummy_entries s) in
      let es2 = map (entry_of t o.epoch s2 rank2) (setup_words s2) ++ dummy_entry_texts t o.epoch s2.shape (dummy_entries s2) in
      let bs = flat_map (blocks_of t o.epoch s rank) (setup_words s) ++ dummy_block_texts t o.epoch s.shape (dummy_blocks s) in
      let bs2 = flat_map (blocks_of t o.epoch s2 rank2) (setup_words s2) ++ dummy_block_texts t o.epoch s2.shape (dummy_blocks s2) in
      let m : length es ≡ length es2 = sym (length-by_bytes label_of es) ∙ ap length sorted_entries ∙ length-by_bytes label_of es2 in
      let a : length bs ≡ length bs2 = sym (length-by_bytes label_of bs) ∙ ap length sorted_blocks ∙ length-by_bytes label_of bs2 in
      (λ i. setup_frames o.frame s.shape (one.0 i) (one.1 i))
      ∙ (λ i. numbered o.frame
      ((λ q. SetupBegin q (shape i).b (shape i).big (m i) (a i)) ∷ map (λ part q. SetupDict q (1 + 8 * (shape i).b) part) (parts 1024 (sorted_entries i))
      ++ map (λ part q. SetupArray q (8 * (shape i).big) (map (λ block. block.text) part)) (parts 256 (sorted_blocks i)) ++ (λ q. SetupEnd q) ∷ []))
      ∙ (λ i. setup_frames o.frame s2.shape (sym two.0 i) (sym two.1 i))
