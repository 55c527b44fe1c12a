-- A server that holds a setup's tables finds in them the list of each word.
use Rattle.std.proofs.Common.{◌≡◌, ◌≢◌, ℕ, ◌+◌, ◌*◌, ◌<◌, ◌≤◌, ◌^◌, false, List, [], ◌∷◌, ◌++◌, length, map, take, drop, get_or, Option, None, Some, refl, sym, ap, ◌∙◌, subst, arith, ⊎_elim, length-take, length-drop, zero-add, add-one}
use Rattle.std.specs.Prelude.{All, Contains, bytes_eq, is_none, sum_by, slice_get, slice_index}
use Rattle.std.specs.Option.{option_map}
use Rattle.std.specs.List.{list_any, AllByRecursion, range_with_len}
use Rattle.std.specs.FinMap as finmap
use Rattle.std.proofs.lemmas.Bool.{true≢false, cases_Bool}
use Rattle.std.proofs.lemmas.Cmp.{nat_list_eq_equiv}
use Rattle.std.proofs.lemmas.List.{length-map, get_or-map, get_or-take, get_or-drop, get_or_append_left, get_or-append-add}
use Rattle.std.proofs.lemmas.List.Elements.{Contains-append_left, All-contains, All-from_recursion, All-take, All-drop, All-weaker}
use Rattle.std.proofs.lemmas.List.Folds.{fold-map}
use Rattle.std.proofs.lemmas.List.FromFn.{length-map-range_with_len, get_or-map-range_with_len}
use Rattle.std.proofs.lemmas.List.Sums.{sum_by-cons}
use Rattle.std.proofs.lemmas.Map.Views.{list_any-from_Contains}
use Rattle.std.proofs.lemmas.Simd.{map-map}
use Rattle.chacha_stream.proofs.Laws.{length-xored, xored-xored}
use Rattle.keyed_fn.specs.KeyedFn.{KeyedFn}
use Rattle.keyed_fn.specs.KeyFormulas.{block_pad}
use Rattle.keyed_fn.specs.Xored.{xored}
use Rattle.search_token.specs.TokenKeys.{TokenKeys, token_keys}
use Rattle.two_level.proofs.LaidLemmas.{length-numbers, length-laid_blocks, laid_blocks-width, All-laid_blocks}
use Rattle.two_level.proofs.ReadLaid.{cell_list-laid}
use Rattle.two_level.proofs.ReadLemmas.{length-cell_bytes, length-number_bytes, numbers_of-number_bytes}
use Rattle.two_level.specs.Laid.{Laid, laid, laid_as, pointers, cell_bytes, number_bytes}
use Rattle.two_level.specs.Opened.{numbers_of}
use Rattle.two_level.specs.Plan.{plan, block_count}
use Rattle.client_registry.proofs.SizedLaws.{accepted_shape, accepted_padded}
use Rattle.client_registry.specs.Acceptance.{padded_blocks, dummy_entries, dummy_blocks, size_refusal}
use Rattle.client_registry.specs.Documents.{ids_with, IsCollected}
use Rattle.client_registry.specs.Setup.{Setup, setup_words, setup_list}
use Rattle.sse_frames.proofs.Sorted.{AllDiffer}
use Rattle.sse_frames.specs.Frames.{Entry, labels_of}
use Rattle.server_core.specs.Search.{block_at, setup_ids}
use Rattle.server_core.specs.Step.{with_entries}
use Rattle.server_tables.specs.Contents.{CellMap}
use Rattle.sse_frames.specs.Order.{by_bytes}
use Rattle.sse_model.proofs.Counts.{AllByRecursion-append, AllByRecursion-each, length-blocks_from, length-block_positions}
use Rattle.sse_model.proofs.Members.{Contains-head, Contains-cons, Contains-nil, Contains-cases, Contains-map, Contains-from_list_any}
use Rattle.sse_model.proofs.Texts.{HasPlan, lists_have_plans}
use Rattle.sse_model.specs.Names.{Name, Table, table, name, ListLabel, ListPad, DummyLabel, same_kind, cell_size, block_size}
use Rattle.sse_model.specs.Positions.{Position, word_blocks, laid_at, cell_text, block_text, entry_position, block_position, dummy_entry, dummy_block, entries_from, blocks_from, entry_positions, block_positions, sealed, comes_before, ranks_of}
use Rattle.sse_model.specs.Wire.{labels_in}
use Rattle.def_agreement.proofs.Dictionary.{get-by_bytes, get-by_bytes_missing}
use Rattle.def_agreement.proofs.Ranks.{ranks_within, text_at_rank}
use Rattle.def_agreement.proofs.SearchAnswered.{setup_ids-missing, setup_ids-cell}
use Rattle.def_agreement.proofs.SetupShown.{setup_list-missing, ids_with-above, ids_with-fit}
use Rattle.def_agreement.specs.Held.{ranks_in, HoldsSetup}

-- Where a word's entry and blocks are.

-- a word's entry is among those of these words, whose blocks begin at this position, and so many blocks stand before its own
pub record IsLaidOut (epoch : ℕ) (s : Setup) (first : ℕ) (words : List (List ℕ)) (w : List ℕ) : Type 0 where
  pub place : ℕ
  pub before : ℕ
  pub starts : place ≡ first + before
  pub fits : before + word_blocks s w ≤ sum_by (word_blocks s) words
  pub entry : Contains (entries_from epoch s first words) (entry_position epoch s place w)
  pub block : (i : ℕ) (d : Position) → i < word_blocks s w → get_or (blocks_from epoch s first words) (before + i) d ≡ block_position epoch s place w i

pub laid_out : (epoch : ℕ) (s : Setup) (first : ℕ) (words : List (List ℕ)) (w : List ℕ) → Contains words w → IsLaidOut epoch s first words w
laid_out epoch s first [] w within = absurd (Contains-nil w within)
laid_out epoch s first (word ∷ words) w within =
    ⊎_elim
    (λ (same : word ≡ w).
    subst (IsLaidOut epoch s first (word ∷ words)) same (record {
      place = first;
      before = 0;
      starts = omega arith;
      fits = omega (arith, sum);
      entry = Contains-head (entry_position epoch s first word) (entries_from epoch s (first + word_blocks s word) words);
      block =
          λ i d below.
          ap (λ n. get_or (own ++ others) n d) (zero-add i)
          ∙ get_or_append_left own others d i (omega (arith, below, own_blocks))
          ∙ get_or-map-range_with_len (block_position epoch s first word) 0 (word_blocks s word) i i d below (zero-add i);
    }))
    (λ rest.
    let r = laid_out epoch s (first + word_blocks s word) words w rest in
    record {
      place = r.place;
      before = word_blocks s word + r.before;
      starts = omega (arith, r.starts);
      fits = omega (arith, sum, r.fits);
      entry = Contains-cons (entry_position epoch s first word) (entries_from epoch s (first + word_blocks s word) words) (entry_position epoch s r.place w) r.entry;
      block =
          λ i d below.
          let at : word_blocks s word + r.before + i ≡ length own + (r.before + i) = omega (arith, own_blocks) in
          ap (λ n. get_or (own ++ others) n d) at ∙ get_or-append-add own others (r.before + i) d ∙ r.block i d below;
    })
    (Contains-cases word words w within)
  where
    own : List Position
    own = map (block_position epoch s first word) (range_with_len 0 (word_blocks s word))

    others : List Position
    others = blocks_from epoch s (first + word_blocks s word) words

    own_blocks : length own ≡ word_blocks s word
    own_blocks = length-map-range_with_len (block_position epoch s first word) 0 (word_blocks s word)

    sum : sum_by (word_blocks s) (word ∷ words) ≡ word_blocks s word + sum_by (word_blocks s) words
    sum = sum_by-cons (word_blocks s) word words

-- An entry that has a word's label is of one of the words, and no dummy.

abbrev HasWord : ℕ → List (List ℕ) → Position → Type 0
HasWord epoch words p = (w : List ℕ) → p.label ≡ name epoch w ListLabel 0 → Contains words w

own_have_words : (epoch : ℕ) (s : Setup) (all : List (List ℕ)) (first : ℕ) (words : List (List ℕ)) → ((w : List ℕ) → Contains words w → Contains all w)
    → AllByRecursion (HasWord epoch all) (entries_from epoch s first words)
own_have_words epoch s all first [] there = tt
own_have_words epoch s all first (word ∷ words) there = (
  λ w is. subst (Contains all) (ap (λ (n : Name). n.word) is) (there word (Contains-head word words)),
  own_have_words epoch s all (first + word_blocks s word) words (λ w within. there w (Contains-cons word words w within)),
)

listed_of : (epoch : ℕ) (s : Setup) (p : Position) → Contains (entry_positions epoch s) p → (w : List ℕ) → p.label ≡ name epoch w ListLabel 0 → Contains (setup_words s) w
listed_of epoch s p within = All-contains HasOwn (entry_positions epoch s) p (All-from_recursion HasOwn (entry_positions epoch s) each) within
  where
    HasOwn : Position → Type 0
    HasOwn = HasWord epoch (setup_words s)

    dummy_has_none : (i : ℕ) → HasOwn (dummy_entry epoch s i)
    dummy_has_none i w is = absurd (true≢false (ap (λ (n : Name). same_kind n.kind DummyLabel) is))

    each : AllByRecursion HasOwn (entry_positions epoch s)
    each =
        AllByRecursion-append HasOwn (entries_from epoch s 0 (setup_words s)) (map (dummy_entry epoch s) (range_with_len 0 (dummy_entries s)))
        (own_have_words epoch s (setup_words s) 0 (setup_words s) (λ w here. here)) (AllByRecursion-each HasOwn (dummy_entry epoch s) dummy_has_none (range_with_len 0 (dummy_entries s)))

-- The tables of a setup.

-- a setup's entries and blocks, encrypted
abbrev pub entries_in : Table → (epoch : ℕ) → Setup → List Entry
entries_in t epoch s = map (sealed t (ranks_in t epoch s)) (entry_positions epoch s)

abbrev pub blocks_in : Table → (epoch : ℕ) → Setup → List Entry
blocks_in t epoch s = map (sealed t (ranks_in t epoch s)) (block_positions epoch s)

-- the dictionary of the entries by rising label, and the array of the blocks by rising tag
abbrev pub dictionary_of : Table → (epoch : ℕ) → Setup → CellMap
dictionary_of t epoch s = with_entries finmap.empty (by_bytes (λ entry. entry.label) (entries_in t epoch s))

abbrev pub array_of : Table → (epoch : ℕ) → Setup → List (List ℕ)
array_of t epoch s = map (λ block. block.text) (by_bytes (λ block. block.label) (blocks_in t epoch s))

-- a label that no position has is no entry's
labels_apart : (t : Table) (ranks : List ℕ) (ps : List Position) (q : List ℕ) → ((p : Position) → Contains ps p → q ≢ t p.label) → AllByRecursion (λ e. q ≢ e.label) (map (sealed t ranks) ps)
labels_apart t ranks [] q differ = tt
labels_apart t ranks (p ∷ ps) q differ = (differ p (Contains-head p ps), labels_apart t ranks ps q (λ r within. differ r (Contains-cons p ps r within)))

-- they hold the setup, where its labels and its tags differ
pub HoldsSetup-made : (t : Table) (epoch : ℕ) (s : Setup) → AllDiffer (labels_of (entries_in t epoch s)) → AllDiffer (labels_of (blocks_in t epoch s)) → HoldsSetup t epoch s (dictionary_of t epoch s) (array_of t epoch s)
HoldsSetup-made t epoch s differ tags_differ = record {
  cell = λ p within. get-by_bytes (entries_in t epoch s) (sealed t ranks p) differ (Contains-map (sealed t ranks) (entry_positions epoch s) p within);
  missing = λ label others. get-by_bytes_missing (entries_in t epoch s) label (labels_apart t ranks (entry_positions epoch s) label others);
  block =
      λ j d below.
      ap (λ tags. slice_get (array_of t epoch s) (slice_index (ranks_of tags) j)) (sym (map-map (λ (e : Entry). e.label) (sealed t ranks) positions))
      ∙ text_at_rank (blocks_in t epoch s) tags_differ j (sealed t ranks d) (omega (arith, below, length-map positions (sealed t ranks)))
      ∙ ap (λ (e : Entry). Some e.text) (get_or-map (sealed t ranks) positions j d (sealed t ranks d) below);
}
  where
    ranks : List ℕ
    ranks = ranks_in t epoch s

    positions : List Position
    positions = block_positions epoch s

-- Lists.

some_of : {A B : Type 0} (g : A → B) (o : Option A) → is_none o ≡ false → (b : B) × (option_map g o ≡ Some b)
some_of g None h = absurd (cc)
some_of g (Some a) h = (g a, refl)

module _ (f : KeyedFn) (keys : ℕ → List ℕ) (epoch : ℕ) (s : Setup) (collected : IsCollected s.documents)
    (accepted : size_refusal s ≡ None) (word : List ℕ) (dictionary : CellMap) (array : List (List ℕ)) (held : HoldsSetup (table f s.shape keys) epoch s dictionary array) where
  abbrev t : Table
  t = table f s.shape keys

  abbrev word_keys : TokenKeys
  word_keys = token_keys f (keys epoch) word

  abbrev ranks : List ℕ
  ranks = ranks_in t epoch s

  abbrev positions : List Position
  positions = block_positions epoch s

  abbrev count : ℕ
  count = padded_blocks s

  many_positions : length positions ≡ count
  many_positions = length-block_positions epoch s

  many_tags : length (labels_in t positions) ≡ count
  many_tags = length-map positions (λ p. t p.label) ∙ many_positions

  many_ranks : length ranks ≡ count
  many_ranks =
      let tags = labels_in t positions in
      length-map-range_with_len (λ j. length (Rattle.std.specs.Prelude.filter (comes_before tags j) (range_with_len 0 (length tags)))) 0 (length tags) ∙ many_tags

  in_all : sum_by (word_blocks s) (setup_words s) ≤ count
  in_all = omega (arith, fold-map (λ a n. a + block_count (plan s.shape n)) (λ w. length (ids_with s.documents w)) 0 (setup_words s))

  -- the list of a word that has an entry
  listed_word : Contains (setup_words s) word → setup_ids f word_keys (finmap.get dictionary) array ≡ Some (setup_list s word)
  listed_word within =
      setup_ids-cell f word_keys (finmap.get dictionary) array (cell_bytes l) (cell_size s.shape) long there
      ∙ cell_list-laid s.shape part ids l (block_at f word_keys array) some above fit part_fits is enough (record { each = each })
    where
      ids : List ℕ
      ids = setup_list s word

      some : 0 < s.shape.big
      some = (accepted_shape s accepted).1.0

      above : All (λ id. 0 < id) ids
      above = ids_with-above s.documents word collected.are_documents

      fit : All (λ id. id < 2 ^ 64) ids
      fit = ids_with-fit s.documents word collected.are_documents

      here : IsLaidOut epoch s 0 (setup_words s) word
      here = laid_out epoch s 0 (setup_words s) word within

      part : List ℕ
      part = take (word_blocks s word) (drop here.place ranks)

      enough : length part ≡ block_count (plan s.shape (length ids))
      enough = omega (arith, here.fits, here.starts, in_all, many_ranks, length-take (word_blocks s word) (drop here.place ranks), length-drop here.place ranks)

      small : All (λ rank. rank + 1 < 2 ^ 64) ranks
      small = All-weaker (λ rank. rank ≤ length (labels_in t positions)) (λ rank. rank + 1 < 2 ^ 64) (λ rank le. omega (arith, le, many_tags, accepted_padded s accepted)) ranks (ranks_within (labels_in t positions))

      part_fits : All (λ rank. rank + 1 < 2 ^ 64) part
      part_fits = All-take (λ rank. rank + 1 < 2 ^ 64) (word_blocks s word) (drop here.place ranks) (All-drop (λ rank. rank + 1 < 2 ^ 64) here.place ranks small)

      planned : HasPlan s word
      planned = All-contains (HasPlan s) (setup_words s) word (All-from_recursion (HasPlan s) (setup_words s) (lists_have_plans s accepted)) within

      made : (m : Laid) × (laid_at s here.place word ranks ≡ Some m)
      made = some_of (λ p. laid_as s.shape p.kind p.pointer_blocks (pointers part) ids) (plan s.shape (length ids)) planned

      l : Laid
      l = made.0

      is : laid s.shape part ids ≡ Some l
      is = made.1

      long : length (cell_bytes l) ≡ cell_size s.shape
      long = length-cell_bytes l ∙ ap (λ n. 1 + 8 * n) (length-numbers s.shape part ids l some is enough)

      there : finmap.get dictionary (t (name epoch word ListLabel 0)) ≡ Some (xored (cell_bytes l) (t (name epoch word ListPad 0)))
      there = held.cell (entry_position epoch s here.place word) (Contains-append_left (entries_from epoch s 0 (setup_words s)) (map (dummy_entry epoch s) (range_with_len 0 (dummy_entries s))) (entry_position epoch s here.place word) here.entry) ∙ ap (λ o. Some (xored (cell_text o) (t (name epoch word ListPad 0)))) is

      each : (i : ℕ) → i < length l.blocks → block_at f word_keys array i (slice_index part i + 1) ≡ Some (get_or l.blocks i [])
      each i inside =
          ap (block_at f word_keys array i) (add-one (slice_index part i))
          ∙ ap (λ place. option_map decrypted (slice_get array place)) rank_is
          ∙ ap (option_map decrypted) stands
          ∙ ap (λ n. Some (numbers_of (xored (xored clear pad) (block_pad f word_keys.pad_key i n)))) size
          ∙ ap (λ bytes. Some (numbers_of bytes)) (xored-xored clear pad)
          ∙ ap (λ ns. Some ns) (numbers_of-number_bytes (get_or l.blocks i []) (All-laid_blocks (λ n. n < 2 ^ 64) s.shape part ids l (omega arith) fit part_fits is enough i [] inside))
        where
          below : i < word_blocks s word
          below = omega (arith, inside, length-laid_blocks s.shape part ids l is enough, enough)

          clear : List ℕ
          clear = number_bytes (get_or l.blocks i [])

          pad : List ℕ
          pad = block_pad f word_keys.pad_key i (block_size s.shape)

          decrypted : List ℕ → List ℕ
          decrypted text = numbers_of (xored text (block_pad f word_keys.pad_key i (length text)))

          rank_is : slice_index part i ≡ slice_index ranks (here.place + i)
          rank_is = get_or-take (word_blocks s word) (drop here.place ranks) i 0 below ∙ get_or-drop here.place ranks i 0

          among : here.place + i < length positions
          among = omega (arith, below, here.fits, here.starts, in_all, many_positions)

          nowhere : Position
          nowhere = block_position epoch s 0 word 0

          position_is : get_or positions (here.place + i) nowhere ≡ block_position epoch s here.place word i
          position_is =
              (let at : here.place + i ≡ here.before + i = omega (arith, here.starts) in ap (λ n. get_or positions n nowhere) at)
              ∙ get_or_append_left (blocks_from epoch s 0 (setup_words s)) (map (dummy_block epoch s) (range_with_len 0 (dummy_blocks s))) nowhere (here.before + i) own
              ∙ here.block i nowhere below
            where
              own : here.before + i < length (blocks_from epoch s 0 (setup_words s))
              own =
                  omega (arith, below, here.fits, length-blocks_from epoch s 0 (setup_words s), fold-map (λ a n. a + block_count (plan s.shape n)) (λ w. length (ids_with s.documents w)) 0 (setup_words s))

          stands : slice_get array (slice_index ranks (here.place + i)) ≡ Some (xored clear pad)
          stands =
              held.block (here.place + i) nowhere among
              ∙ ap (λ (p : Position). Some (sealed t ranks p).text) position_is
              ∙ ap (λ o. Some (xored (block_text i o) pad)) is

          size : length (xored clear pad) ≡ block_size s.shape
          size = length-xored clear pad ∙ length-number_bytes (get_or l.blocks i []) ∙ ap (λ n. 8 * n) (laid_blocks-width s.shape part ids l is enough i [] inside)

  -- that of a word that has none
  unlisted_word : list_any (bytes_eq word) (setup_words s) ≡ false
      → ((p : Position) → Contains (entry_positions epoch s) p → t p.label ≡ t (name epoch word ListLabel 0) → p.label ≡ name epoch word ListLabel 0)
      → setup_ids f word_keys (finmap.get dictionary) array ≡ Some (setup_list s word)
  unlisted_word unknown alone =
      setup_ids-missing f word_keys (finmap.get dictionary) array
      (held.missing (t (name epoch word ListLabel 0)) other)
      ∙ ap (λ ids. Some ids) (sym (setup_list-missing s word unknown))
    where
      other : (p : Position) → Contains (entry_positions epoch s) p → t (name epoch word ListLabel 0) ≢ t p.label
      other p within same =
          true≢false (sym (list_any-from_Contains nat_list_eq_equiv word (setup_words s) (listed_of epoch s p within word (alone p within (sym same)))) ∙ unknown)

  -- each word has its list, where no other entry has its label
  pub setup_ids-held : ((p : Position) → Contains (entry_positions epoch s) p → t p.label ≡ t (name epoch word ListLabel 0) → p.label ≡ name epoch word ListLabel 0)
      → setup_ids f word_keys (finmap.get dictionary) array ≡ Some (setup_list s word)
  setup_ids-held alone =
      ⊎_elim (λ known. listed_word (Contains-from_list_any word (setup_words s) known)) (λ unknown. unlisted_word unknown alone) (cases_Bool (list_any (bytes_eq word) (setup_words s)))
