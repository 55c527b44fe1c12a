-- A relabelled table is had from the values of the first run, the texts that it draws, and the texts that the other run draws under the
-- values at the same places, no pad shifted: so no plaintext need be known.
use Rattle.std.proofs.Common.{◌≡◌, ℕ, ◌<◌, List, [], ◌∷◌, ◌++◌, length, map, refl, sym, ap, ◌∙◌, subst, arith, ⊎_elim, Some, None}
use Rattle.std.specs.Prelude.{Option, bit_xor, flat_map, slice_index, zip}
use Rattle.std.specs.List.{IsDistinct}
use Rattle.std.specs.Int.Bits.{xor_zero_r}
use Rattle.std.proofs.lemmas.Bool.{cases_lt}
use Rattle.std.proofs.lemmas.List.{append-nil, get_or_past, length-map, map-append}
use Rattle.std.proofs.lemmas.List.FromFn.{fill_by_all, length-map-range_with_len}
use Rattle.std.proofs.lemmas.Nat.Bits.{bit_at-lt, bit_at_xor, same_from_bits}
use Rattle.chacha_stream.proofs.Laws.{length-xored, get_or-xored}
use Rattle.client_registry.specs.Over.{over}
use Rattle.client_registry.specs.Run.{Run, Offsets}
use Rattle.client_registry.specs.Sized.{IsHistory}
use Rattle.keyed_fn.specs.Xored.{xored}
use Rattle.def_comparison.specs.UsedNames.{all_names}
use Rattle.def_leakage.proofs.Names.{drawings_once, names_drawn}
use Rattle.def_leakage.specs.DrawnValues.{Drawing, ForEntry, ForBlock, ForNumber, ForToken, draw, drawings_by, drawings, draws}
use Rattle.def_leakage.specs.CommandLeaks.{leak}
use Rattle.def_leakage.specs.Relabelled.{Use, bare, uses_in, value_among, relabelled}
use Rattle.sse_model.specs.Drawn.{probed}
use Rattle.sse_model.specs.Names.{Name, Table, same_name}
use Rattle.sse_model.specs.Positions.{Position, entry_positions, block_positions, ranks_of}
use Rattle.sse_model.specs.Wire.{labels_in}
use Rattle.def_relabelling.proofs.CollisionFree.{AreOfOneClass, classes}
use Rattle.def_relabelling.proofs.KeptValues.{first_ranks, names_used}
use Rattle.def_relabelling.proofs.NamesBeside.{own_everywhere, paired-of_map}
use Rattle.def_relabelling.proofs.OwnValues.{IsOwn, names_in_uses, own_values}
use Rattle.def_relabelling.proofs.Pairs.{fewer, paired-both, paired-map, paired-parts, paired-then, paired-weaker}
use Rattle.def_relabelling.proofs.SameDrawings.{AreAlike, same_drawings, setups, uses_of_all}
use Rattle.def_relabelling.proofs.SameDraws.{drawn_uses, probed_uses, names_in_lists, alike_drawn}
use Rattle.def_relabelling.proofs.SizedValues.{IsCovered, all_covered, size_in, size_of_class}
use Rattle.def_relabelling.specs.ByTexts.{drawn_names, unshifted, texts_in, texts_of, masked_by}
use Rattle.def_relabelling.specs.Paired.{Paired}

-- Values.

xor_twice : (v x y : ℕ) → bit_xor (bit_xor v (bit_xor x v)) (bit_xor y v) ≡ bit_xor (bit_xor v x) y
xor_twice v x y =
    same_from_bits _ _
    (λ i. bit_at_xor (bit_xor v (bit_xor x v)) (bit_xor y v) i
    ∙ omega (arith, bit_at_xor v (bit_xor x v) i, bit_at_xor x v i, bit_at_xor y v i, bit_at_xor (bit_xor v x) y i, bit_at_xor v x i, bit_at-lt x i, bit_at-lt y i, bit_at-lt v i))

-- XORed with nothing a value is itself
xored_none : (v : List ℕ) → xored v [] ≡ v
xored_none v = sym (fill_by_all _ v (length v) 0 refl (λ k within. sym (xor_zero_r (slice_index v k))))

-- a value at a place, XORed with two texts that were drawn under it
twice_at : (v x y : List ℕ) (k : ℕ) → length x ≡ length y → k < length v
    → slice_index (xored (xored v (xored x v)) (xored y v)) k ≡ bit_xor (bit_xor (slice_index v k) (slice_index x k)) (slice_index y k)
twice_at v x y k even within =
    let first : k < length (xored v (xored x v)) = omega (arith, within, length-xored v (xored x v)) in
    get_or-xored (xored v (xored x v)) (xored y v) k 0 first
    ∙ ap (λ a. bit_xor a (slice_index (xored y v) k)) (get_or-xored v (xored x v) k 0 within)
    ∙ ⊎_elim (λ (low : k < length x).
    let low2 : k < length y = omega (arith, low, even) in
    (λ i. bit_xor (bit_xor (slice_index v k) (get_or-xored x v k 0 low i)) (get_or-xored y v k 0 low2 i)) ∙ xor_twice (slice_index v k) (slice_index x k) (slice_index y k))
    (λ high.
    let there = length-xored x v in
    let there2 = length-xored y v in
    (λ i. bit_xor (bit_xor (slice_index v k) ((get_or_past (xored x v) k 0 (omega (arith, high, there)) ∙ sym (get_or_past x k 0 high)) i))
    ((get_or_past (xored y v) k 0 (omega (arith, high, even, there2)) ∙ sym (get_or_past y k 0 (omega (arith, high, even)))) i)))
    (cases_lt k (length x))

-- a pad XORed with both texts is shifted from the one plaintext to the other
masked_twice : (v x y : List ℕ) → length x ≡ length y → xored (xored v (xored x v)) (xored y v) ≡ xored (xored v x) y
masked_twice v x y even =
    sym (fill_by_all _ (xored (xored v x) y) (length (xored v (xored x v))) 0
    (length-xored (xored v x) y ∙ length-xored v x ∙ sym (length-xored v (xored x v)))
    (λ k within.
    let low : k < length v = omega (arith, within, length-xored v (xored x v)) in
    let mid : k < length (xored v x) = omega (arith, low, length-xored v x) in
    get_or-xored (xored v x) y k 0 mid ∙ ap (λ a. bit_xor a (slice_index y k)) (get_or-xored v x k 0 low)
    ∙ sym (twice_at v x y k even low)
    ∙ get_or-xored (xored v (xored x v)) (xored y v) k 0 within))

-- Texts.

-- what is drawn under the value of a name
abbrev text_by : Option (List ℕ) → List ℕ → List ℕ
text_by None value = []
text_by (Some text) value = xored text value

abbrev text_under : Table → Use → List ℕ
text_under t u = text_by u.text (t u.name)

module _ (t : Table) (ranks : List ℕ) where
  texts_in_one : (d : Drawing) → texts_in (draw t ranks d) ≡ map (text_under t) (uses_in ranks d)
  texts_in_one (ForEntry p) = refl
  texts_in_one (ForBlock p) = refl
  texts_in_one (ForNumber n) = refl
  texts_in_one (ForToken n) = refl

  texts_in_all : (ds : List Drawing) → flat_map texts_in (map (draw t ranks) ds) ≡ map (text_under t) (flat_map (uses_in ranks) ds)
  texts_in_all [] = refl
  texts_in_all (d ∷ ds) = (λ i. texts_in_one d i ++ texts_in_all ds i) ∙ sym (map-append (text_under t) (uses_in ranks d) (flat_map (uses_in ranks) ds))

  texts_in_lists : (dss : List (List Drawing)) → texts_of (map (map (draw t ranks)) dss) ≡ map (text_under t) (flat_map (flat_map (uses_in ranks)) dss)
  texts_in_lists [] = refl
  texts_in_lists (ds ∷ dss) = (λ i. texts_in_all ds i ++ texts_in_lists dss i) ∙ sym (map-append (text_under t) (flat_map (uses_in ranks) ds) (flat_map (flat_map (uses_in ranks)) dss))

-- Lists.

-- at two uses the one table gives what the other gives, the plaintexts are of one length, and there is one on both sides or on neither
abbrev AreMet : Table → Table → Table → Use → Use → Type 0
AreMet t u m a b = AreAlike a b × ((u b.name ≡ t a.name) × (((x y : List ℕ) → a.text ≡ Some x → b.text ≡ Some y → length x ≡ length y) × IsOwn m t a b))

module _ (t u m : Table) where
  masked_one : (n n2 : Name) (x y : Option (List ℕ)) → AreMet t u m (record { name = n; text = x }) (record { name = n2; text = y })
      → xored (xored (t n) (text_under t (record { name = n; text = x }))) (text_under u (record { name = n2; text = y })) ≡ m n2
  masked_one n n2 None None met = ap (λ v. xored v []) (xored_none (t n)) ∙ xored_none (t n) ∙ sym met.1.1.1
  masked_one n n2 (Some x) (Some y) met = ap (λ v. xored (xored (t n) (xored x (t n))) (xored y v)) met.1.0 ∙ masked_twice (t n) x y (met.1.1.0 x y refl refl) ∙ sym met.1.1.1
  masked_one n n2 None (Some y) met = absurd met.0
  masked_one n n2 (Some x) None met = absurd met.0

  -- names that are looked up have no text
  masked_none : (us vs : List Use) → Paired (λ a b. m b.name ≡ t a.name) us vs → masked_by (map t (names_in_uses us)) [] [] ≡ map m (names_in_uses vs)
  masked_none [] [] same = refl
  masked_none [] (b ∷ vs) same = absurd same
  masked_none (a ∷ us) [] same = absurd same
  masked_none (a ∷ us) (b ∷ vs) same = λ i. (ap (λ v. xored v []) (xored_none (t a.name)) ∙ xored_none (t a.name) ∙ sym same.0) i ∷ masked_none us vs same.1 i

  masked_all : (us us2 vs vs2 : List Use) → Paired (AreMet t u m) us vs → Paired (λ a b. m b.name ≡ t a.name) us2 vs2
      → masked_by (map t (names_in_uses (us ++ us2))) (map (text_under t) us) (map (text_under u) vs) ≡ map m (names_in_uses (vs ++ vs2))
  masked_all [] us2 [] vs2 met same = masked_none us2 vs2 same
  masked_all [] us2 (b ∷ vs) vs2 met same = absurd met
  masked_all (a ∷ us) us2 [] vs2 met same = absurd met
  masked_all (a ∷ us) us2 (b ∷ vs) vs2 met same = λ i. masked_one a.name b.name a.text b.text met.0 i ∷ masked_all us us2 vs vs2 met.1 same i

-- tags at the same places
module _ (t u : Table) (ranks : List ℕ) where
  abbrev IsGiven : Use → Use → Type 0
  IsGiven a b = u b.name ≡ t a.name

  tags_given : (es es2 bs bs2 : List Position) → length es ≡ length es2 → length bs ≡ length bs2
      → Paired IsGiven (flat_map (uses_in ranks) (map ForEntry es ++ map ForBlock bs)) (flat_map (uses_in ranks) (map ForEntry es2 ++ map ForBlock bs2)) → labels_in u bs2 ≡ labels_in t bs
  tags_given [] [] [] [] even evens same = refl
  tags_given [] [] [] (q ∷ qs) even evens same = absurd (omega (arith, evens))
  tags_given [] [] (p ∷ ps) [] even evens same = absurd (omega (arith, evens))
  tags_given [] [] (p ∷ ps) (q ∷ qs) even evens same = λ i. same.0 i ∷ tags_given [] [] ps qs even (fewer (length ps) (length qs) evens) same.1.1 i
  tags_given [] (e ∷ es2) bs bs2 even evens same = absurd (omega (arith, even))
  tags_given (e ∷ es) [] bs bs2 even evens same = absurd (omega (arith, even))
  tags_given (e ∷ es) (e2 ∷ es2) bs bs2 even evens same = tags_given es es2 bs bs2 (fewer (length es) (length es2) even) evens same.1.1

names_bare : (ns : List Name) → names_in_uses (map bare ns) ≡ ns
names_bare [] = refl
names_bare (n ∷ ns) = ap (λ rest. n ∷ rest) (names_bare ns)

-- Two runs of equal leakage.

module _ (o : Offsets) (run other : Run) (t : Table) (history : IsHistory run) (history2 : IsHistory other) (leaks : leak o run ≡ leak o other) where
  abbrev ranks : List ℕ
  ranks = first_ranks o run other t history history2 leaks

  abbrev u : Table
  u = unshifted o run other t

  abbrev m : Table
  m = relabelled o run other t

  abbrev us : List Use
  us = drawn_uses o run ranks

  abbrev vs : List Use
  vs = drawn_uses o other ranks

  names_of : (r : Run) → names_in_uses (drawn_uses o r ranks) ≡ drawn_names o r
  names_of r = names_in_lists ranks (drawings o r) ∙ ap (flat_map (λ ns. ns)) (names_drawn o r)

  -- at each place where something is drawn the other run's name has the first run's value
  given_names : Paired (λ n n2. u n2 ≡ t n) (drawn_names o run) (drawn_names o other)
  given_names =
      let ns = drawn_names o run in
      let ns2 = drawn_names o other in
      let Any = λ (n n2 : Name). Unit {0} in
      let even : Paired Any ns ns2 =
      subst (λ xs. Paired Any xs ns2) (names_of run)
      (subst (Paired Any (names_in_uses us)) (names_of other)
      (paired-map Any (λ (x : Use). x.name) (λ (x : Use). x.name) us vs (paired-then AreAlike (λ a b. Unit {0}) us vs (alike_drawn o run other t history2 leaks ranks ranks) (λ a b alike. tt)))) in
      let own = own_values t (λ a b. Unit {0}) (map bare ns) (map bare ns2) [] (paired-map (λ a b. Unit {0}) bare bare ns ns2 even)
      (subst (IsDistinct same_name) (sym (names_bare ns2)) (subst (IsDistinct same_name) (names_of other) (subst (IsDistinct same_name) (sym (names_in_lists ranks (drawings o other))) (drawings_once o other history2)))) in
      subst (λ table. Paired (λ n n2. table n2 ≡ t n) ns ns2) (ap (value_among t) (append-nil (zip (map bare ns) (map bare ns2))))
      (paired-of_map (IsOwn (value_among t (zip (map bare ns) (map bare ns2) ++ [])) t) bare bare ns ns2 own)

  given_uses : Paired (IsGiven t u ranks) us vs
  given_uses =
      paired-of_map (λ n n2. u n2 ≡ t n) (λ (x : Use). x.name) (λ (x : Use). x.name) us vs
      (subst (λ xs. Paired (λ n n2. u n2 ≡ t n) xs (names_in_uses vs)) (sym (names_of run)) (subst (Paired (λ n n2. u n2 ≡ t n) (drawn_names o run)) (sym (names_of other)) given_names))

  -- so the tags have one order in both runs
  same_ranks : ranks_of (labels_in u (block_positions o.epoch other.setup)) ≡ ranks
  same_ranks =
      let es = entry_positions o.epoch run.setup in
      let es2 = entry_positions o.epoch other.setup in
      let bs = block_positions o.epoch run.setup in
      let bs2 = block_positions o.epoch other.setup in
      let alike = setups o run other leaks in
      let first = uses_of_all ranks ranks (map ForEntry es ++ map ForBlock bs) (map ForEntry es2 ++ map ForBlock bs2) (same_drawings o run other leaks).0 in
      ap ranks_of
      (tags_given t u ranks es es2 bs bs2 alike.entries alike.blocks
      (paired-parts (IsGiven t u ranks) AreAlike (flat_map (uses_in ranks) (map ForEntry es ++ map ForBlock bs)) (flat_map (flat_map (uses_in ranks)) (over (drawings_by o.epoch run.setup) [] run.later))
      (flat_map (uses_in ranks) (map ForEntry es2 ++ map ForBlock bs2)) (flat_map (flat_map (uses_in ranks)) (over (drawings_by o.epoch other.setup) [] other.later)) first given_uses).0)

  -- plaintexts at one place are of one length
  even_texts : Paired (λ (a b : Use). (x y : List ℕ) → a.text ≡ Some x → b.text ≡ Some y → length x ≡ length y) us vs
  even_texts =
      let alike = setups o run other leaks in
      let enough : length ranks ≡ length (block_positions o.epoch run.setup) =
      length-map-range_with_len _ 0 (length (labels_in t (block_positions o.epoch run.setup))) ∙ length-map (block_positions o.epoch run.setup) (λ p. t p.label) in
      let one_class = (paired-parts AreOfOneClass AreAlike us (probed_uses o run) vs (probed_uses o other) (alike_drawn o run other t history2 leaks ranks ranks) (classes o run other t history history2 leaks)).0 in
      paired-weaker AreOfOneClass (λ (a b : Use). (x y : List ℕ) → a.text ≡ Some x → b.text ≡ Some y → length x ≡ length y) (IsCovered run.setup.shape) (IsCovered other.setup.shape) us vs
      (all_covered o run history ranks enough) (all_covered o other history2 ranks (enough ∙ alike.blocks)) one_class
      (λ a b from to same x y is is2.
      (from x is).size_is
      ∙ size_of_class run.setup.shape a.name.kind a.name.number ∙ (λ i. size_in (alike.shape i) (same.class i)) ∙ sym (size_of_class other.setup.shape b.name.kind b.name.number)
      ∙ sym (to y is2).size_is)

  -- Promise P46, also here
  -- the names that the other run draws have the first run's values by their places
  pub unshifted_told : masked_by (map t (drawn_names o run)) [] [] ≡ map (unshifted o run other t) (drawn_names o other)
  unshifted_told =
      ap (λ ns. masked_by (map t ns) [] []) (sym (names_of run))
      ∙ masked_none t u u us vs given_uses
      ∙ ap (map u) (names_of other)

  -- Promise P46, also here
  -- And the relabelled table's values at all names that the other run uses, repeats included, are those of the first run, each XORed with
  -- the text of the first run at its place and with that of the other run under the values by their places.
  pub relabelled_by_texts : masked_by (map t (all_names o run)) (texts_of (draws t o run)) (texts_of (draws (unshifted o run other t) o other)) ≡ map (relabelled o run other t) (all_names o other)
  relabelled_by_texts =
      let Kept = λ (a b : Use). IsOwn m t a b in
      let parts = paired-parts (IsOwn m t) AreAlike us (probed_uses o run) vs (probed_uses o other) (alike_drawn o run other t history2 leaks ranks ranks) (own_everywhere o run other history history2 leaks t) in
      let met : Paired (AreMet t u m) us vs =
      paired-both AreAlike (λ a b. (u b.name ≡ t a.name) × (((x y : List ℕ) → a.text ≡ Some x → b.text ≡ Some y → length x ≡ length y) × IsOwn m t a b)) us vs (alike_drawn o run other t history2 leaks ranks ranks)
      (paired-both (IsGiven t u ranks) (λ a b. ((x y : List ℕ) → a.text ≡ Some x → b.text ≡ Some y → length x ≡ length y) × IsOwn m t a b) us vs given_uses
      (paired-both (λ a b. (x y : List ℕ) → a.text ≡ Some x → b.text ≡ Some y → length x ≡ length y) (IsOwn m t) us vs even_texts parts.0)) in
      let looked : Paired (λ a b. m b.name ≡ t a.name) (probed_uses o run) (probed_uses o other) =
      paired-map (λ a b. m b.name ≡ t a.name) bare bare (flat_map (λ ns. ns) (probed o run)) (flat_map (λ ns. ns) (probed o other))
      (paired-of_map (IsOwn m t) bare bare (flat_map (λ ns. ns) (probed o run)) (flat_map (λ ns. ns) (probed o other)) parts.1) in
      (λ i. masked_by (map t (sym (names_used o run ranks) i)) (texts_in_lists t ranks (drawings o run) i)
      ((ap (λ rs. texts_of (map (map (draw u rs)) (drawings o other))) same_ranks ∙ texts_in_lists u ranks (drawings o other)) i))
      ∙ masked_all t u m us (probed_uses o run) vs (probed_uses o other) met looked
      ∙ ap (map m) (names_used o other ranks)
