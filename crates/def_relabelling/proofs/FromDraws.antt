-- The values of a table at all names that a run draws are had from its draws under the table and its draws without pads; so are those of
-- a relabelled table, where the draws under it are those of the first run.
use Rattle.std.proofs.Common.{◌≡◌, ℕ, ◌<◌, Bool, true, false, List, [], ◌∷◌, ◌++◌, length, map, filter, not, replicate, refl, sym, ap, ◌∙◌, arith}
use Rattle.std.specs.Prelude.{bit_xor, flat_map, slice_index, if◌then◌else◌}
use Rattle.std.specs.Int.Bits.{xor_zero_r}
use Rattle.std.specs.List.{AllByRecursion, list_any}
use Rattle.std.proofs.lemmas.List.{get_or-replicate, map-append}
use Rattle.std.proofs.lemmas.List.Concat.{flat_map-append}
use Rattle.std.proofs.lemmas.List.FromFn.{fill_by_all}
use Rattle.std.proofs.lemmas.Nat.Bits.{bit_at-lt, bit_at_xor, same_from_bits}
use Rattle.chacha_stream.proofs.Laws.{length-xored, get_or-xored}
use Rattle.client_registry.specs.Command.{Command, Add, Delete, Search}
use Rattle.client_registry.specs.Live.{live, counter}
use Rattle.client_registry.specs.Over.{over}
use Rattle.client_registry.specs.Run.{Run, Offsets}
use Rattle.client_registry.specs.Sized.{IsHistory}
use Rattle.keyed_fn.specs.Xored.{xored}
use Rattle.sse_frames.specs.Frames.{be64}
use Rattle.def_leakage.proofs.Names.{names_drawn}
use Rattle.def_leakage.specs.DrawnValues.{Drawing, ForEntry, ForBlock, ForNumber, ForToken, names_in, draw, drawings_by, drawings, draws}
use Rattle.def_leakage.specs.CommandLeaks.{leak}
use Rattle.def_leakage.specs.Relabelled.{relabelled}
use Rattle.sse_model.proofs.Counts.{AllByRecursion-append, AllByRecursion-each}
use Rattle.sse_model.specs.Drawn.{was_sent, searches_for, drawn}
use Rattle.sse_model.specs.Names.{Name, Table, Class, PlusLabel, PlusPad, ListLabels, CellPads, BlockPads, PlaceTags, name, Revocation, Token, class_of}
use Rattle.sse_model.specs.Positions.{Position, entry_positions, block_positions, fresh_words, sealed, ranks_of}
use Rattle.sse_model.specs.Wire.{labels_in, words_live}
use Rattle.def_relabelling.proofs.CollisionFree.{IsOf, entry_positions_are, block_positions_are}
use Rattle.def_relabelling.proofs.Pairs.{paired-flat_map}
use Rattle.def_relabelling.proofs.SameDraws.{AreFitting, fitting, draws_relabelled}
use Rattle.def_relabelling.specs.Paired.{Paired}
use Rattle.sse_simulator.specs.Leaks.{Draw}
use Rattle.def_relabelling.proofs.SizedValues.{sized_there}
use Rattle.def_relabelling.specs.FromDraws.{is_pad, without_pads, told_of, told_of_all}
use Rattle.def_relabelling.specs.Tables.{IsTableFor}

-- Texts.

xor_told : (a v : ℕ) → bit_xor (bit_xor a v) (bit_xor a 0) ≡ v
xor_told a v =
    ap (bit_xor (bit_xor a v)) (xor_zero_r a)
    ∙ same_from_bits _ _ (λ i. bit_at_xor (bit_xor a v) a i ∙ omega (arith, bit_at_xor a v i, bit_at-lt a i, bit_at-lt v i))

-- a pad is the XOR of a text under it and of the text
pad_told : (text pad : List ℕ) → length pad ≡ length text → xored (xored text pad) (xored text (replicate (length pad) 0)) ≡ pad
pad_told text pad even =
    let zeros : List ℕ = replicate (length pad) 0 in
    sym (fill_by_all _ pad (length (xored text pad)) 0 (even ∙ sym (length-xored text pad)) (λ k within.
    let inside : k < length text = (let l = length-xored text pad in omega (arith, within, l)) in
    let low : k < length pad = omega (arith, inside, even) in
    sym ((λ i. bit_xor (get_or-xored text pad k 0 inside i) ((get_or-xored text zeros k 0 inside ∙ ap (bit_xor (slice_index text k)) (get_or-replicate (length pad) k 0 0 low)) i))
    ∙ xor_told (slice_index text k) (slice_index pad k))))

-- a text under zeros is the text
zeros_told : (text : List ℕ) (n : ℕ) → n ≡ length text → xored text (replicate n 0) ≡ text
zeros_told text n even =
    sym (fill_by_all _ text (length text) 0 refl (λ k within.
    let low : k < n = omega (arith, within, even) in
    sym (ap (bit_xor (slice_index text k)) (get_or-replicate n k 0 0 low) ∙ xor_zero_r (slice_index text k))))

-- Promise P155 (inside): The relabelled table can be computed from draws only, at all names that the second history draws; looked-up names keep the first history's values.
--   assumes: equal leakage, kept limits, sized table
-- without pads a plaintext is drawn as it is
pub drawn_plain : (t : Table) (ranks : List ℕ) (p : Position) → is_pad (class_of p.pad) ≡ true → length (t p.pad) ≡ length (p.clear ranks) → (sealed (without_pads t) ranks p).text ≡ p.clear ranks
drawn_plain t ranks p is even =
    ap (λ (b : Bool). xored (p.clear ranks) (if b then replicate (length (t p.pad)) 0 else t p.pad)) is ∙ zeros_told (p.clear ranks) (length (t p.pad)) even

-- Drawings.

-- the pad of a text is named as one
abbrev IsPadded : Drawing → Type 0
IsPadded (ForEntry p) = is_pad (class_of p.pad) ≡ true
IsPadded (ForBlock p) = is_pad (class_of p.pad) ≡ true
IsPadded (ForNumber n) = Unit {0}
IsPadded (ForToken n) = Unit {0}

module _ (t : Table) (ranks : List ℕ) where
  abbrev pair_of : Name → Name × List ℕ
  pair_of n = (n, t n)

  text_told : (p : Position) → is_pad (class_of p.pad) ≡ true → length (t p.pad) ≡ length (p.clear ranks) → xored (xored (p.clear ranks) (t p.pad)) (xored (p.clear ranks) (without_pads t p.pad)) ≡ t p.pad
  text_told p is even =
      ap (λ (b : Bool). xored (xored (p.clear ranks) (t p.pad)) (xored (p.clear ranks) (if b then replicate (length (t p.pad)) 0 else t p.pad))) is ∙ pad_told (p.clear ranks) (t p.pad) even

  one_told : (d : Drawing) → IsPadded d → AreFitting t ranks d d → told_of d (draw t ranks d) (draw (without_pads t) ranks d) ≡ map (λ n. (n, t n)) (names_in d)
  one_told (ForEntry p) is fit = λ i. (p.label, t p.label) ∷ (p.pad, text_told p is fit.own i) ∷ []
  one_told (ForBlock p) is fit = λ i. (p.label, t p.label) ∷ (p.pad, text_told p is fit.own i) ∷ []
  one_told (ForNumber n) is fit = refl
  one_told (ForToken n) is fit = refl

  all_told : (ds : List Drawing) → AllByRecursion IsPadded ds → Paired (AreFitting t ranks) ds ds → told_of_all ds (map (draw t ranks) ds) (map (draw (without_pads t) ranks) ds) ≡ map (λ n. (n, t n)) (flat_map names_in ds)
  all_told [] padded fit = refl
  all_told (d ∷ ds) padded fit =
      (λ i. one_told d padded.0 fit.0 i ++ all_told ds padded.1 fit.1 i) ∙ sym (map-append (λ n. (n, t n)) (names_in d) (flat_map names_in ds))

module _ {A B : Type 0} where
  map_joined : (f : A → B) (xss : List (List A)) → flat_map (λ (ys : List B). ys) (map (map f) xss) ≡ map f (flat_map (λ (xs : List A). xs) xss)
  map_joined f [] = refl
  map_joined f (xs ∷ xss) = ap (λ rest. map f xs ++ rest) (map_joined f xss) ∙ sym (map-append f xs (flat_map (λ (xs : List A). xs) xss))

  names_joined : (f : A → List B) (xss : List (List A)) → flat_map f (flat_map (λ (xs : List A). xs) xss) ≡ flat_map (λ (ys : List B). ys) (map (flat_map f) xss)
  names_joined f [] = refl
  names_joined f (xs ∷ xss) = flat_map-append f xs (flat_map (λ (xs : List A). xs) xss) ∙ ap (λ rest. flat_map f xs ++ rest) (names_joined f xss)

all_joined : {A : Type 0} (P : A → Type 0) (xss : List (List A)) → AllByRecursion (AllByRecursion P) xss → AllByRecursion P (flat_map (λ xs. xs) xss)
all_joined P [] all = tt
all_joined P (xs ∷ xss) all = AllByRecursion-append P xs (flat_map (λ xs. xs) xss) all.0 (all_joined P xss all.1)

-- Runs.

module _ (epoch : ℕ) where
  entries_padded : (label pad : Class) → is_pad pad ≡ true → (ps : List Position) → AllByRecursion (IsOf epoch label pad) ps → AllByRecursion IsPadded (map ForEntry ps)
  entries_padded label pad is [] all = tt
  entries_padded label pad is (p ∷ ps) all = (ap is_pad all.0.pad_is ∙ is, entries_padded label pad is ps all.1)

  blocks_padded : (label pad : Class) → is_pad pad ≡ true → (ps : List Position) → AllByRecursion (IsOf epoch label pad) ps → AllByRecursion IsPadded (map ForBlock ps)
  blocks_padded label pad is [] all = tt
  blocks_padded label pad is (p ∷ ps) all = (ap is_pad all.0.pad_is ∙ is, blocks_padded label pad is ps all.1)

  -- tags are no pads
  tags_kept : (t : Table) (ps : List Position) → AllByRecursion (IsOf epoch PlaceTags BlockPads) ps → labels_in (without_pads t) ps ≡ labels_in t ps
  tags_kept t [] all = refl
  tags_kept t (p ∷ ps) all = λ i. (if is_pad (all.0.label_is i) then replicate (length (t p.label)) 0 else t p.label) ∷ tags_kept t ps all.1 i

module _ (o : Offsets) (run : Run) where
  command_padded : (past : List Command) (c : Command) → AllByRecursion IsPadded (drawings_by o.epoch run.setup past c)
  command_padded past (Add d) = each (fresh_words run.setup past d)
    where
      each : (ws : List (List ℕ)) → AllByRecursion IsPadded (map ForEntry (map (λ word. record { label = name o.epoch word PlusLabel (counter run.setup past word); pad = name o.epoch word PlusPad (counter run.setup past word); clear = λ ranks. be64 d.id }) ws))
      each [] = tt
      each (w ∷ ws) = (refl, each ws)
  command_padded past (Delete id) =
      AllByRecursion-each IsPadded (λ word. ForNumber (name o.epoch word Revocation id)) (λ word. tt)
      (filter (λ word. not (was_sent run.setup past word id)) (words_live (live run.setup.documents past) id))
  command_padded past (Search word) = by (list_any (searches_for word) past)
    where
      by : (b : Bool) → AllByRecursion IsPadded (if b then [] else ForToken (name o.epoch word Token 0) ∷ [])
      by true = tt
      by false = (tt, tt)

  later_padded : (past later : List Command) → AllByRecursion (AllByRecursion IsPadded) (over (drawings_by o.epoch run.setup) past later)
  later_padded past [] = tt
  later_padded past (c ∷ cs) = (command_padded past c, later_padded (past ++ c ∷ []) cs)

  padded : AllByRecursion (AllByRecursion IsPadded) (drawings o run)
  padded = (
    AllByRecursion-append IsPadded (map ForEntry (entry_positions o.epoch run.setup)) (map ForBlock (block_positions o.epoch run.setup))
        (entries_padded o.epoch ListLabels CellPads refl (entry_positions o.epoch run.setup) (entry_positions_are o.epoch run.setup))
        (blocks_padded o.epoch PlaceTags BlockPads refl (block_positions o.epoch run.setup) (block_positions_are o.epoch run.setup)),
    later_padded [] run.later,
  )

  -- Promise P155, also here
  -- Of a table with values of their sizes, the draws under it and the draws without pads tell all names that the run draws, each with its
  -- value: so no one who has both need know a plaintext.
  pub draws_tell : (t : Table) → IsHistory run → IsTableFor t o run
      → told_of_all (flat_map (λ ds. ds) (drawings o run)) (flat_map (λ ds. ds) (draws t o run)) (flat_map (λ ds. ds) (draws (without_pads t) o run)) ≡ map (λ n. (n, t n)) (flat_map (λ ns. ns) (drawn o run))
  draws_tell t history values =
      let ranks = ranks_of (labels_in t (block_positions o.epoch run.setup)) in
      let ds = flat_map (λ (ds : List Drawing). ds) (drawings o run) in
      let fit = paired-flat_map (AreFitting t ranks) (λ (ds : List Drawing). ds) (λ (ds : List Drawing). ds) (drawings o run) (drawings o run) (fitting o run run t history refl history values) in
      (λ i. told_of_all ds (map_joined (draw t ranks) (drawings o run) i)
      ((ap (λ labels. flat_map (λ (xs : List Draw). xs) (map (map (draw (without_pads t) (ranks_of labels))) (drawings o run))) (tags_kept o.epoch t (block_positions o.epoch run.setup) (block_positions_are o.epoch run.setup))
      ∙ map_joined (draw (without_pads t) ranks) (drawings o run)) i))
      ∙ all_told t ranks ds (all_joined IsPadded (drawings o run) padded) fit
      ∙ ap (map (λ n. (n, t n))) (names_joined names_in (drawings o run) ∙ ap (flat_map (λ ns. ns)) (names_drawn o run))

module _ (o : Offsets) (run other : Run) (t : Table) (history : IsHistory run) (history2 : IsHistory other) (leaks : leak o run ≡ leak o other) (values : IsTableFor t o run) where
  -- Promise P155, also here
  -- So the relabelled table is had, at all names that the other run draws, from the draws of the first run under its table and the draws of the other
  -- without pads.
  pub relabelled_told :
      told_of_all (flat_map (λ ds. ds) (drawings o other)) (flat_map (λ ds. ds) (draws t o run)) (flat_map (λ ds. ds) (draws (without_pads (relabelled o run other t)) o other))
      ≡ map (λ n. (n, relabelled o run other t n)) (flat_map (λ ns. ns) (drawn o other))
  relabelled_told =
      ap (λ (under : List (List Draw)). told_of_all (flat_map (λ ds. ds) (drawings o other)) (flat_map (λ ds. ds) under) (flat_map (λ ds. ds) (draws (without_pads (relabelled o run other t)) o other)))
      (sym (draws_relabelled o run other t history2 leaks history values))
      ∙ draws_tell o other (relabelled o run other t) history2 (sized_there o run other t history history2 leaks values)
