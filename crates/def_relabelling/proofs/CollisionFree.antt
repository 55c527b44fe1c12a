-- A relabelled table is without collision for the other run exactly where the table is for the first.
use Rattle.std.proofs.Common.{◌≡◌, ◌⊎◌, ℕ, ◌+◌, true, false, List, [], ◌∷◌, ◌++◌, map, refl, sym, ap, ◌∙◌, subst, inr, None}
use Rattle.std.specs.Prelude.{Contains, flat_map}
use Rattle.std.specs.List.{AllByRecursion, IsDistinct, range_with_len}
use Rattle.std.proofs.lemmas.Bool.{true≢false}
use Rattle.client_registry.specs.Acceptance.{dummy_entries, dummy_blocks}
use Rattle.client_registry.specs.Command.{Command, Add}
use Rattle.client_registry.specs.Document.{Document}
use Rattle.client_registry.specs.Live.{counter}
use Rattle.client_registry.specs.Run.{Run, Offsets}
use Rattle.client_registry.specs.Setup.{Setup, setup_words}
use Rattle.client_registry.specs.Sized.{IsHistory}
use Rattle.sse_frames.specs.Frames.{be64}
use Rattle.def_leakage.proofs.Names.{drawings_once}
use Rattle.def_leakage.specs.DrawnValues.{Drawing, ForEntry, ForBlock, drawings_by, drawings}
use Rattle.def_leakage.specs.CommandLeaks.{leak_by, leak}
use Rattle.def_leakage.specs.Relabelled.{Use, bare, uses_at, uses_in, uses, relabelled}
use Rattle.sse_model.proofs.Counts.{AllByRecursion-append, AllByRecursion-each}
use Rattle.sse_model.proofs.Members.{Contains-map}
use Rattle.sse_model.proofs.SameName.{same_name-Decides}
use Rattle.sse_model.specs.Drawn.{is_compared, drawn, probed, IsCollisionFree}
use Rattle.sse_model.specs.Names.{Name, Class, ListLabels, CellPads, BlockPads, PlaceTags, Table, name, PlusLabel, PlusPad, class_of, same_name}
use Rattle.sse_model.specs.Positions.{Position, word_blocks, entries_from, blocks_from, block_position, dummy_entry, dummy_block, entry_positions, block_positions, addition_positions, fresh_words}
use Rattle.sse_model.specs.Values.{IsValue}
use Rattle.def_relabelling.proofs.Beside.{paired-over}
use Rattle.def_relabelling.proofs.KeptValues.{SearchedTogether, is_searched, searched_together, probed_are_searched, alike_uses, names_used, of_map, first_ranks, values_kept, relabelled_back}
use Rattle.def_relabelling.proofs.OwnValues.{names_in_uses}
use Rattle.def_relabelling.proofs.Pairs.{partner_of, paired-append, paired-both, paired-each, paired-family, paired-flat_map, paired-map, paired-parts, paired-then, paired-weaker}
use Rattle.def_relabelling.proofs.Renamed.{probed_beside, uses_renamed}
use Rattle.def_relabelling.proofs.RenamedSetup.{IsRenamed}
use Rattle.def_relabelling.proofs.SameDrawings.{AreAlike, even_additions, paired-command, setups}
use Rattle.def_relabelling.proofs.SameDraws.{drawn_uses, probed_uses, names_in_lists, alike_drawn}
use Rattle.def_relabelling.specs.Paired.{Paired}

-- Classes.

-- the names of two uses are of one class and one epoch; where values of the class are compared, they are no pads
pub record AreOfOneClass (a b : Use) : Type 0 where
  pub class : class_of a.name ≡ class_of b.name
  pub epoch : a.name.epoch ≡ b.name.epoch
  pub no_pad : is_compared (class_of a.name) ≡ true → a.text ≡ None

-- the names of a position are of these classes and of this epoch
pub record IsOf (epoch : ℕ) (label pad : Class) (p : Position) : Type 0 where
  pub label_is : class_of p.label ≡ label
  pub pad_is : class_of p.pad ≡ pad
  pub label_epoch : p.label.epoch ≡ epoch
  pub pad_epoch : p.pad.epoch ≡ epoch

texts_alike : (ranks : List ℕ) (epoch : ℕ) (label pad : Class) → is_compared pad ≡ false → (p q : Position) → IsOf epoch label pad p → IsOf epoch label pad q → Paired AreOfOneClass (uses_at ranks p) (uses_at ranks q)
texts_alike ranks epoch label pad uncompared p q a b = (
  record { class = a.label_is ∙ sym b.label_is; epoch = a.label_epoch ∙ sym b.label_epoch; no_pad = λ compared. refl },
  (
    record { class = a.pad_is ∙ sym b.pad_is; epoch = a.pad_epoch ∙ sym b.pad_epoch; no_pad = λ compared. absurd (true≢false (sym compared ∙ ap is_compared a.pad_is ∙ uncompared)) },
    tt,
  ),
)

entries_are : (epoch : ℕ) (s : Setup) (first : ℕ) (words : List (List ℕ)) → AllByRecursion (IsOf epoch ListLabels CellPads) (entries_from epoch s first words)
entries_are epoch s first [] = tt
entries_are epoch s first (w ∷ ws) = (record { label_is = refl; pad_is = refl; label_epoch = refl; pad_epoch = refl }, entries_are epoch s (first + word_blocks s w) ws)

each_is : (epoch : ℕ) (s : Setup) (first : ℕ) (w : List ℕ) (numbers : List ℕ) → AllByRecursion (IsOf epoch PlaceTags BlockPads) (map (block_position epoch s first w) numbers)
each_is epoch s first w [] = tt
each_is epoch s first w (n ∷ ns) = (record { label_is = refl; pad_is = refl; label_epoch = refl; pad_epoch = refl }, each_is epoch s first w ns)

blocks_are : (epoch : ℕ) (s : Setup) (first : ℕ) (words : List (List ℕ)) → AllByRecursion (IsOf epoch PlaceTags BlockPads) (blocks_from epoch s first words)
blocks_are epoch s first [] = tt
blocks_are epoch s first (w ∷ ws) =
    AllByRecursion-append (IsOf epoch PlaceTags BlockPads) (map (block_position epoch s first w) (range_with_len 0 (word_blocks s w))) (blocks_from epoch s (first + word_blocks s w) ws)
    (each_is epoch s first w (range_with_len 0 (word_blocks s w))) (blocks_are epoch s (first + word_blocks s w) ws)

pub entry_positions_are : (epoch : ℕ) (s : Setup) → AllByRecursion (IsOf epoch ListLabels CellPads) (entry_positions epoch s)
entry_positions_are epoch s =
    AllByRecursion-append (IsOf epoch ListLabels CellPads) (entries_from epoch s 0 (setup_words s)) (map (dummy_entry epoch s) (range_with_len 0 (dummy_entries s)))
    (entries_are epoch s 0 (setup_words s))
    (AllByRecursion-each (IsOf epoch ListLabels CellPads) (dummy_entry epoch s) (λ i. record { label_is = refl; pad_is = refl; label_epoch = refl; pad_epoch = refl }) (range_with_len 0 (dummy_entries s)))

pub block_positions_are : (epoch : ℕ) (s : Setup) → AllByRecursion (IsOf epoch PlaceTags BlockPads) (block_positions epoch s)
block_positions_are epoch s =
    AllByRecursion-append (IsOf epoch PlaceTags BlockPads) (blocks_from epoch s 0 (setup_words s)) (map (dummy_block epoch s) (range_with_len 0 (dummy_blocks s)))
    (blocks_are epoch s 0 (setup_words s))
    (AllByRecursion-each (IsOf epoch PlaceTags BlockPads) (dummy_block epoch s) (λ j. record { label_is = refl; pad_is = refl; label_epoch = refl; pad_epoch = refl }) (range_with_len 0 (dummy_blocks s)))

-- Names.

-- names that the one has equal, the other has equal
abbrev pub AreMatched : Use → Use → Use → Use → Type 0
AreMatched a b x y = a.name ≡ x.name → b.name ≡ y.name

other_names : (n : Name) (S R : Use → Use → Type 0) (us vs : List Use) → Paired S us vs → AllByRecursion (λ y. same_name n y ≡ false) (map (λ (x : Use). x.name) us)
    → ((x y : Use) → (n ≡ x.name → ⊥) → R x y) → Paired R us vs
other_names n S R [] [] even differ each = tt
other_names n S R [] (v ∷ vs) even differ each = absurd even
other_names n S R (u ∷ us) [] even differ each = absurd even
other_names n S R (u ∷ us) (v ∷ vs) even differ each =
    (each u v (λ same. true≢false (sym ((same_name-Decides n u.name).1 same) ∙ differ.0)), other_names n S R us vs even.1 differ.1 each)

distinct_matched : (S : Use → Use → Type 0) (us vs : List Use) → Paired S us vs → IsDistinct same_name (names_in_uses us) → Paired (λ a b. Paired (AreMatched a b) us vs) us vs
unfolding IsDistinct
distinct_matched S [] [] even differ = tt
distinct_matched S [] (v ∷ vs) even differ = absurd even
distinct_matched S (u ∷ us) [] even differ = absurd even
distinct_matched S (u ∷ us) (v ∷ vs) even differ = (
  ((λ same. refl), other_names u.name S (AreMatched u v) us vs even.1 differ.0 (λ x y differ same. absurd (differ same))),
  paired-then (λ a b. AreMatched a b u v × Paired (AreMatched a b) us vs) (λ a b. Paired (AreMatched a b) (u ∷ us) (v ∷ vs)) us vs
      (paired-both (λ a b. AreMatched a b u v) (λ a b. Paired (AreMatched a b) us vs) us vs
      (other_names u.name S (λ a b. AreMatched a b u v) us vs even.1 differ.0 (λ x y differ same. absurd (differ (sym same))))
      (distinct_matched S us vs even.1 differ.1))
      (λ a b both. both),
)

module _ (o : Offsets) (run other : Run) (t : Table) (history : IsHistory run) (history2 : IsHistory other) (leaks : leak o run ≡ leak o other) where
  abbrev ranks : List ℕ
  ranks = first_ranks o run other t history history2 leaks

  abbrev us : List Use
  us = uses o run ranks

  abbrev vs : List Use
  vs = uses o other ranks

  abbrev OfOneClass : Drawing → Drawing → Type 0
  OfOneClass d d2 = Paired AreOfOneClass (uses_in ranks d) (uses_in ranks d2)

  drawings_alike : Paired (Paired OfOneClass) (drawings o run) (drawings o other)
  drawings_alike =
      let alike = setups o run other leaks in
      let e = entry_positions o.epoch run.setup in
      let e2 = entry_positions o.epoch other.setup in
      let b = block_positions o.epoch run.setup in
      let b2 = block_positions o.epoch other.setup in (
        paired-append OfOneClass (map ForEntry e) (map ForBlock b) (map ForEntry e2) (map ForBlock b2)
            (paired-map OfOneClass ForEntry ForEntry e e2
            (paired-weaker (λ p q. Unit {0}) (λ p q. OfOneClass (ForEntry p) (ForEntry q)) (IsOf o.epoch ListLabels CellPads) (IsOf o.epoch ListLabels CellPads) e e2
            (entry_positions_are o.epoch run.setup) (entry_positions_are o.epoch other.setup) (paired-each (λ p q. Unit {0}) e e2 alike.entries (λ p q. tt))
            (λ p q a a2 unit. texts_alike ranks o.epoch ListLabels CellPads refl p q a a2)))
            (paired-map OfOneClass ForBlock ForBlock b b2
            (paired-weaker (λ p q. Unit {0}) (λ p q. OfOneClass (ForBlock p) (ForBlock q)) (IsOf o.epoch PlaceTags BlockPads) (IsOf o.epoch PlaceTags BlockPads) b b2
            (block_positions_are o.epoch run.setup) (block_positions_are o.epoch other.setup) (paired-each (λ p q. Unit {0}) b b2 alike.blocks (λ p q. tt))
            (λ p q a a2 unit. texts_alike ranks o.epoch PlaceTags BlockPads refl p q a a2))),
        paired-over o run other leaks (Paired OfOneClass) (drawings_by o.epoch run.setup) (drawings_by o.epoch other.setup)
            (λ past past2 c c2 beside. paired-command o run.setup other.setup OfOneClass
            (λ w w2 id id2. (record { class = refl; epoch = refl; no_pad = λ compared. refl }, tt)) (λ w w2. (record { class = refl; epoch = refl; no_pad = λ compared. refl }, tt)) past past2 c c2 beside.same
            (λ d d2 is is2. additions past past2 d d2 (ap (leak_by o run.setup past) (sym is) ∙ beside.same ∙ ap (leak_by o other.setup past2) is2))),
      )
    where
      added_at : Setup → List Command → ℕ → List ℕ → Position
      added_at s past id word = record { label = name o.epoch word PlusLabel (counter s past word); pad = name o.epoch word PlusPad (counter s past word); clear = λ ranks. be64 id }

      additions : (past past2 : List Command) (d d2 : Document) → leak_by o run.setup past (Add d) ≡ leak_by o other.setup past2 (Add d2)
          → Paired (λ p q. Paired AreOfOneClass (uses_in ranks (ForEntry p)) (uses_in ranks (ForEntry q))) (addition_positions o.epoch run.setup past d) (addition_positions o.epoch other.setup past2 d2)
      additions past past2 d d2 same =
          paired-map (λ p q. Paired AreOfOneClass (uses_in ranks (ForEntry p)) (uses_in ranks (ForEntry q))) (λ w. added_at run.setup past d.id w) (λ w. added_at other.setup past2 d2.id w) (fresh_words run.setup past d) (fresh_words other.setup past2 d2)
          (paired-each (λ w w2. Paired AreOfOneClass (uses_in ranks (ForEntry (added_at run.setup past d.id w))) (uses_in ranks (ForEntry (added_at other.setup past2 d2.id w2)))) (fresh_words run.setup past d) (fresh_words other.setup past2 d2)
          (even_additions o run.setup other.setup past past2 d d2 same)
          (λ w w2. (record { class = refl; epoch = refl; no_pad = λ compared. refl }, (record { class = refl; epoch = refl; no_pad = λ compared. absurd (true≢false (sym compared)) }, tt))))

  -- at each place the two names are of one class
  pub classes : Paired AreOfOneClass us vs
  classes =
      paired-append AreOfOneClass (drawn_uses o run ranks) (probed_uses o run) (drawn_uses o other ranks) (probed_uses o other)
      (paired-flat_map AreOfOneClass (flat_map (uses_in ranks)) (flat_map (uses_in ranks)) (drawings o run) (drawings o other)
      (paired-then (Paired OfOneClass) (λ ds ds2. Paired AreOfOneClass (flat_map (uses_in ranks) ds) (flat_map (uses_in ranks) ds2)) (drawings o run) (drawings o other) drawings_alike
      (λ ds ds2 all. paired-flat_map AreOfOneClass (uses_in ranks) (uses_in ranks) ds ds2 all)))
      (paired-map AreOfOneClass bare bare (flat_map (λ ns. ns) (probed o run)) (flat_map (λ ns. ns) (probed o other))
      (paired-flat_map (λ n n2. AreOfOneClass (bare n) (bare n2)) (λ ns. ns) (λ ns. ns) (probed o run) (probed o other)
      (probed_beside o run other history history2 leaks (λ n n2. AreOfOneClass (bare n) (bare n2)) (λ past past2 v v2 beside kind number. record { class = refl; epoch = refl; no_pad = λ compared. refl }))))

  -- of a searched word
  matched_of_word : (w : List ℕ) → SearchedTogether o run other w → Paired (λ a b. a.name.word ≡ w → Paired (AreMatched a b) us vs) us vs
  matched_of_word w at =
      let renamed = uses_renamed o run other history history2 leaks ranks at.front at.front2 w at.w2 at.search in
      paired-then (IsRenamed w at.w2) (λ a b. a.name.word ≡ w → Paired (AreMatched a b) us vs) us vs renamed
      (λ a b ab of. paired-then (IsRenamed w at.w2) (AreMatched a b) us vs renamed
      (λ x y xy e. (ab of).0 ∙ (λ i. name (e i).epoch at.w2 (e i).kind (e i).number) ∙ sym (xy (ap (λ (n : Name). n.word) (sym e) ∙ of)).0))

  matched_searched : Paired (λ a b. is_searched run a.name ≡ true → Paired (AreMatched a b) us vs) us vs
  matched_searched =
      paired-then (λ a b. (i : (w : List ℕ) × SearchedTogether o run other w) → a.name.word ≡ i.0 → Paired (AreMatched a b) us vs) (λ a b. is_searched run a.name ≡ true → Paired (AreMatched a b) us vs) us vs
      (paired-family AreAlike (λ (i : (w : List ℕ) × SearchedTogether o run other w) (a b : Use). a.name.word ≡ i.0 → Paired (AreMatched a b) us vs) us vs (alike_uses o run other t history history2 leaks ranks) (λ i. matched_of_word i.0 i.1))
      (λ a b each searched. each (a.name.word, searched_together o run other leaks a.name.word searched) refl)

  -- any two names: those that are drawn differ, and those that are looked up are of searched words
  pub matched : Paired (λ a b. Paired (AreMatched a b) us vs) us vs
  matched =
      let drawn1 = drawn_uses o run ranks in
      let drawn2 = drawn_uses o other ranks in
      let probed1 = probed_uses o run in
      let probed2 = probed_uses o other in
      let alike = alike_drawn o run other t history2 leaks ranks ranks in
      let Searched = λ (a b : Use). is_searched run a.name ≡ true → Paired (AreMatched a b) us vs in
      let probed_searched = probed_are_searched o run other t history history2 leaks in
      let parts = paired-parts Searched AreAlike drawn1 probed1 drawn2 probed2 alike matched_searched in
      let differ = subst (IsDistinct same_name) (sym (names_in_lists ranks (drawings o run))) (drawings_once o run history) in
      paired-append (λ a b. Paired (AreMatched a b) us vs) drawn1 probed1 drawn2 probed2
      (paired-then (λ a b. Paired (AreMatched a b) drawn1 drawn2 × Searched a b) (λ a b. Paired (AreMatched a b) us vs) drawn1 drawn2
      (paired-both (λ a b. Paired (AreMatched a b) drawn1 drawn2) Searched drawn1 drawn2 (distinct_matched AreAlike drawn1 drawn2 alike differ) parts.0)
      (λ a b both. paired-append (AreMatched a b) drawn1 probed1 drawn2 probed2 both.0
      (paired-then (λ x y. (is_searched run x.name ≡ true) × ((searched : is_searched run a.name ≡ true) → AreMatched a b x y)) (AreMatched a b) probed1 probed2
      (paired-both (λ (x y : Use). is_searched run x.name ≡ true) (λ x y. (searched : is_searched run a.name ≡ true) → AreMatched a b x y) probed1 probed2 probed_searched
      (paired-family (λ (x y : Use). is_searched run x.name ≡ true) (λ (searched : is_searched run a.name ≡ true) (x y : Use). AreMatched a b x y) probed1 probed2 probed_searched
      (λ searched. (paired-parts (AreMatched a b) AreAlike drawn1 probed1 drawn2 probed2 alike (both.1 searched)).1)))
      (λ x y each same. each.1 (ap (is_searched run) same ∙ each.0) same))))
      (paired-then (λ a b. (is_searched run a.name ≡ true) × Searched a b) (λ a b. Paired (AreMatched a b) us vs) probed1 probed2
      (paired-both (λ (a b : Use). is_searched run a.name ≡ true) Searched probed1 probed2 probed_searched parts.1)
      (λ a b both. both.1 both.0))

  abbrev IsKept : Use → Use → Type 0
  IsKept a b = (is_searched run a.name ≡ true) ⊎ (a.text ≡ None) → relabelled o run other t b.name ≡ t a.name

  is_named : (a : Use) → Contains us a → Contains (flat_map (λ ns. ns) (drawn o run ++ probed o run)) a.name
  is_named a within = subst (λ ns. Contains ns a.name) (names_used o run ranks) (Contains-map (λ (x : Use). x.name) us a within)

  used_as : (n : Name) → Contains (flat_map (λ ns. ns) (drawn o other ++ probed o other)) n → (b : Use) × Contains vs b × (b.name ≡ n)
  used_as n within = of_map (λ (x : Use). x.name) vs n (subst (λ ns. Contains ns n) (sym (names_used o other ranks)) within)

  -- Promise P150, also here
  -- without collision for the first run, and so for the other under the relabelled table
  pub collision_free_there : IsCollisionFree t o run → IsCollisionFree (relabelled o run other t) o other
  collision_free_there free x y x_within y_within epoch class compared same =
      let kept = values_kept o run other t history history2 leaks in
      let b = used_as x x_within in
      let b2 = used_as y y_within in
      let one = partner_of (λ a b. AreOfOneClass a b × (IsKept a b × Paired (AreMatched a b) us vs)) us vs
      (paired-both AreOfOneClass (λ a b. IsKept a b × Paired (AreMatched a b) us vs) us vs classes (paired-both IsKept (λ a b. Paired (AreMatched a b) us vs) us vs kept matched)) b.0 b.1 in
      let two = partner_of (λ a2 b2. AreOfOneClass a2 b2 × (IsKept a2 b2 × AreMatched one.0 b.0 a2 b2)) us vs
      (paired-both AreOfOneClass (λ a2 b2. IsKept a2 b2 × AreMatched one.0 b.0 a2 b2) us vs classes (paired-both IsKept (AreMatched one.0 b.0) us vs kept one.2.1.1)) b2.0 b2.1 in
      let class1 : class_of one.0.name ≡ class_of x = one.2.0.class ∙ ap class_of b.2 in
      let class2 : class_of two.0.name ≡ class_of y = two.2.0.class ∙ ap class_of b2.2 in
      let compared1 : is_compared (class_of one.0.name) ≡ true = ap is_compared class1 ∙ compared in
      let compared2 : is_compared (class_of two.0.name) ≡ true = ap is_compared (class2 ∙ sym class) ∙ compared in
      let same_epoch : one.0.name.epoch ≡ two.0.name.epoch =
      (one.2.0.epoch ∙ ap (λ (n : Name). n.epoch) b.2) ∙ epoch ∙ sym (two.2.0.epoch ∙ ap (λ (n : Name). n.epoch) b2.2) in
      let values : t one.0.name ≡ t two.0.name =
      sym (one.2.1.0 (inr (one.2.0.no_pad compared1))) ∙ ap (relabelled o run other t) b.2 ∙ same ∙ ap (relabelled o run other t) (sym b2.2) ∙ two.2.1.0 (inr (two.2.0.no_pad compared2)) in
      sym b.2 ∙ two.2.1.1 (free one.0.name two.0.name (is_named one.0 one.1) (is_named two.0 two.1) same_epoch (class1 ∙ class ∙ sym class2) compared1 values) ∙ b2.2

module _ (o : Offsets) (run other : Run) (t : Table) (history : IsHistory run) (history2 : IsHistory other) (leaks : leak o run ≡ leak o other)
    (values : (n : Name) → Contains (flat_map (λ ns. ns) (drawn o run)) n → IsValue run.setup.shape t n) where
  -- Promise P150, also here
  -- and back
  pub collision_free_back : IsCollisionFree (relabelled o run other t) o other → IsCollisionFree t o run
  collision_free_back free x y x_within y_within epoch class compared same =
      let back = relabelled_back o run other t history history2 leaks values in
      collision_free_there o other run (relabelled o run other t) history2 history (sym leaks) free x y x_within y_within epoch class compared (back x x_within ∙ same ∙ sym (back y y_within))
