-- Which values a relabelled table keeps, and that relabelling back gives the table again.
use Rattle.std.proofs.Common.{◌≡◌, ◌⊎◌, ℕ, Bool, true, false, ◌||◌, List, [], ◌∷◌, ◌++◌, map, refl, sym, ap, ◌∙◌, subst, inr, ⊎_elim, Some, None}
use Rattle.std.specs.Prelude.{Option, Contains, bytes_eq, flat_map, zip, if◌then◌else◌}
use Rattle.std.specs.List.{list_any}
use Rattle.std.specs.Cmp.Lexicographic.{same_text}
use Rattle.std.proofs.lemmas.Bool.{true≢false, or_left, or_right}
use Rattle.std.proofs.lemmas.List.Concat.{flat_map-append}
use Rattle.std.proofs.lemmas.List.Folds.{list_any-append}
use Rattle.std.proofs.lemmas.Slice.Eq.{bytes_eq-Decides}
use Rattle.client_registry.specs.Command.{Command, Add, Delete, Search}
use Rattle.client_registry.specs.Over.{over}
use Rattle.client_registry.specs.Run.{Run, Offsets}
use Rattle.client_registry.specs.Sized.{IsHistory}
use Rattle.def_leakage.proofs.Names.{names_drawn}
use Rattle.def_leakage.specs.DrawnValues.{drawings}
use Rattle.def_leakage.specs.CommandLeaks.{leak}
use Rattle.def_leakage.specs.Relabelled.{Use, bare, uses, shifted, value_for, value_among, relabelled}
use Rattle.sse_model.proofs.Counts.{AllByRecursion-each}
use Rattle.sse_model.proofs.Members.{Contains-nil, Contains-cases, Contains-cons, Contains-head, Contains-map, AllByRecursion-from_members}
use Rattle.sse_model.proofs.SameName.{same_name-Decides}
use Rattle.sse_model.specs.Drawn.{searches_for, drawn, probed}
use Rattle.sse_model.specs.Names.{Name, Table, name, same_name}
use Rattle.sse_model.specs.Positions.{block_positions, ranks_of}
use Rattle.sse_model.specs.Values.{IsValue}
use Rattle.sse_model.specs.Wire.{labels_in}
use Rattle.def_relabelling.proofs.Beside.{Beside, paired-over}
use Rattle.def_relabelling.proofs.OwnValues.{IsOwn, names_in_uses}
use Rattle.def_relabelling.proofs.Pairs.{partner_of, paired-append, paired-both, paired-family, paired-flat_map, paired-map, paired-parts, paired-swap, paired-then, paired-weaker}
use Rattle.def_relabelling.proofs.PartnerWords.{beside-swap}
use Rattle.def_relabelling.proofs.Renamed.{probed_beside, uses_renamed}
use Rattle.def_relabelling.proofs.RenamedSetup.{IsRenamed}
use Rattle.def_relabelling.proofs.SameDrawings.{kind_of, no_add_search, no_delete_search, AreTexts, AreAlike}
use Rattle.def_relabelling.proofs.SameDraws.{drawn_uses, probed_uses, names_in-append, names_in_lists, alike_drawn, own_drawn, ranks_relabelled}
use Rattle.def_relabelling.proofs.Shifts.{shifted_same, shifted_back, bare_same}
use Rattle.def_relabelling.specs.Paired.{Paired}

-- Searched words.

-- a search of the word, and the search of the other run at its place
pub record SearchedTogether (o : Offsets) (run other : Run) (w : List ℕ) : Type 0 where
  pub front : List Command
  pub front2 : List Command
  pub w2 : List ℕ
  pub search : Beside o run other front front2 (Search w) (Search w2)

-- whether the run searches the word of the name
abbrev pub is_searched : Run → Name → Bool
is_searched run n = list_any (searches_for n.word) run.later

-- Values.

-- a name has the value of its first place, where each of its places would give that
value_found : (t : Table) (n : Name) (value : List ℕ) (us vs : List Use) → Paired (λ x y. y.name ≡ n → value_for t x y ≡ value) us vs → Contains (names_in_uses vs) n → value_among t (zip us vs) n ≡ value
value_found t n value [] [] all within = absurd (Contains-nil n within)
value_found t n value [] (v ∷ vs) all within = absurd all
value_found t n value (u ∷ us) [] all within = absurd all
value_found t n value (u ∷ us) (v ∷ vs) all within = by (value_found t n value us vs all.1) (same_name n v.name) refl
  where
    by : (Contains (names_in_uses vs) n → value_among t (zip us vs) n ≡ value) → (b : Bool) → same_name n v.name ≡ b → (if b then value_for t u v else value_among t (zip us vs) n) ≡ value
    by later true is = all.0 (sym ((same_name-Decides n v.name).0 is))
    by later false is =
        ⊎_elim (λ (here : v.name ≡ n). absurd (true≢false (sym ((same_name-Decides n v.name).1 (sym here)) ∙ is))) (λ rest. later rest)
        (Contains-cases v.name (names_in_uses vs) n within)

names_bare : (ns : List Name) → names_in_uses (map bare ns) ≡ ns
names_bare [] = refl
names_bare (n ∷ ns) = ap (λ rest. n ∷ rest) (names_bare ns)

-- the names that a run uses are those that it draws and those that are looked up for it
pub names_used : (o : Offsets) (run : Run) (ranks : List ℕ) → names_in_uses (uses o run ranks) ≡ flat_map (λ ns. ns) (drawn o run ++ probed o run)
names_used o run ranks =
    names_in-append (drawn_uses o run ranks) (probed_uses o run)
    ∙ (λ i. (names_in_lists ranks (drawings o run) ∙ ap (flat_map (λ ns. ns)) (names_drawn o run)) i ++ names_bare (flat_map (λ ns. ns) (probed o run)) i)
    ∙ sym (flat_map-append (λ ns. ns) (drawn o run) (probed o run))

-- what a map gives came from an item
pub of_map : {A B : Type 0} (f : A → B) (xs : List A) (y : B) → Contains (map f xs) y → (x : A) × Contains xs x × (f x ≡ y)
of_map f [] y within = absurd (Contains-nil y within)
of_map f (x ∷ xs) y within =
    ⊎_elim (λ (here : f x ≡ y). (x, Contains-head x xs, here)) (λ rest. let later = of_map f xs y rest in (later.0, Contains-cons x xs later.0 later.1, later.2))
    (Contains-cases (f x) (map f xs) y within)

module _ (o : Offsets) (run other : Run) (leaks : leak o run ≡ leak o other) where
  -- where a word is searched, the other run searches one at the same place
  pub searched_together : (w : List ℕ) → list_any (searches_for w) run.later ≡ true → SearchedTogether o run other w
  searched_together w = find [] [] run.later other.later (paired-over o run other leaks AreBeside (λ past c. (past, c)) (λ past c. (past, c)) (λ past past2 c c2 b. b))
    where
      AreBeside : List Command × Command → List Command × Command → Type 0
      AreBeside x y = Beside o run other x.0 y.0 x.1 y.1

      here : (past past2 : List Command) (x y : Command) → Beside o run other past past2 x y → searches_for w x ≡ true → SearchedTogether o run other w
      here past past2 (Add d) y beside is = absurd (true≢false (sym is))
      here past past2 (Delete id) y beside is = absurd (true≢false (sym is))
      here past past2 (Search v) (Add d) beside is = no_add_search (ap kind_of (sym beside.same))
      here past past2 (Search v) (Delete id) beside is = no_delete_search (ap kind_of (sym beside.same))
      here past past2 (Search v) (Search v2) beside is =
          record { front = past; front2 = past2; w2 = v2; search = subst (λ u. Beside o run other past past2 (Search u) (Search v2)) (sym (same_text w v (sym is))) beside }

      find : (past past2 later later2 : List Command) → Paired (λ (x y : List Command × Command). Beside o run other x.0 y.0 x.1 y.1) (over (λ past c. (past, c)) past later) (over (λ past c. (past, c)) past2 later2)
          → list_any (searches_for w) later ≡ true → SearchedTogether o run other w
      find past past2 [] later2 all h = absurd (true≢false (sym h))
      find past past2 (x ∷ xs) [] all h = absurd all
      find past past2 (x ∷ xs) (y ∷ ys) all h = by (find (past ++ x ∷ []) (past2 ++ y ∷ []) xs ys all.1) (searches_for w x) refl h
        where
          by : (list_any (searches_for w) xs ≡ true → SearchedTogether o run other w) → (b : Bool) → searches_for w x ≡ b → (b || list_any (searches_for w) xs) ≡ true → SearchedTogether o run other w
          by later true is h = here past past2 x y all.0 is
          by later false is h = later h

module _ (o : Offsets) (run other : Run) (t : Table) (history : IsHistory run) (history2 : IsHistory other) (leaks : leak o run ≡ leak o other) where
  abbrev pub first_ranks : List ℕ
  first_ranks = ranks_of (labels_in t (block_positions o.epoch run.setup))

  -- each name that is looked up is of a searched word
  pub probed_are_searched : Paired (λ (a b : Use). is_searched run a.name ≡ true) (probed_uses o run) (probed_uses o other)
  probed_are_searched =
      paired-map (λ (a b : Use). is_searched run a.name ≡ true) bare bare (flat_map (λ ns. ns) (probed o run)) (flat_map (λ ns. ns) (probed o other))
      (paired-flat_map (λ (n n2 : Name). is_searched run n ≡ true) (λ ns. ns) (λ ns. ns) (probed o run) (probed o other)
      (probed_beside o run other history history2 leaks (λ n n2. is_searched run n ≡ true)
      (λ past past2 v v2 beside kind number.
      ap (list_any (searches_for v)) beside.parts ∙ list_any-append (searches_for v) past (Search v ∷ beside.rest)
      ∙ or_right (list_any (searches_for v) past) (bytes_eq v v || list_any (searches_for v) beside.rest)
      (or_left (bytes_eq v v) (list_any (searches_for v) beside.rest) ((bytes_eq-Decides v v).1 refl)))))

  alike_probed : Paired AreAlike (probed_uses o run) (probed_uses o other)
  alike_probed =
      paired-map AreAlike bare bare (flat_map (λ ns. ns) (probed o run)) (flat_map (λ ns. ns) (probed o other))
      (paired-flat_map (λ n n2. AreAlike (bare n) (bare n2)) (λ ns. ns) (λ ns. ns) (probed o run) (probed o other)
      (probed_beside o run other history history2 leaks (λ n n2. AreAlike (bare n) (bare n2)) (λ past past2 v v2 beside kind number. tt)))

  pub alike_uses : (ranks : List ℕ) → Paired AreAlike (uses o run ranks) (uses o other ranks)
  alike_uses ranks = paired-append AreAlike (drawn_uses o run ranks) (probed_uses o run) (drawn_uses o other ranks) (probed_uses o other) (alike_drawn o run other t history2 leaks ranks ranks) alike_probed

  -- two uses at one place, of a searched word: the names differ by the word alone, and so the other way
  abbrev AreBothRenamed : List ℕ → List ℕ → Use → Use → Type 0
  AreBothRenamed w w2 a b = IsRenamed w w2 a b × IsRenamed w2 w b a

  both_renamed : (ranks : List ℕ) (w : List ℕ) (at : SearchedTogether o run other w) → Paired (AreBothRenamed w at.w2) (uses o run ranks) (uses o other ranks)
  both_renamed ranks w at =
      paired-both (IsRenamed w at.w2) (λ a b. IsRenamed at.w2 w b a) (uses o run ranks) (uses o other ranks)
      (uses_renamed o run other history history2 leaks ranks at.front at.front2 w at.w2 at.search)
      (paired-swap (IsRenamed at.w2 w) (λ a b. IsRenamed at.w2 w b a) (uses o other ranks) (uses o run ranks)
      (uses_renamed o other run history2 history (sym leaks) ranks at.front2 at.front at.w2 w (beside-swap o run other at.front at.front2 (Search w) (Search at.w2) at.search)) (λ b a r. r))

  -- so names that are one in the other run are one in this
  same_there : (w w2 : List ℕ) (a b x y : Use) → AreBothRenamed w w2 a b → AreBothRenamed w w2 x y → a.name.word ≡ w → y.name ≡ b.name → (x.name ≡ a.name) × (x.text ≡ y.text)
  same_there w w2 a b x y ab xy of same =
      let b_of : b.name.word ≡ w2 = ap (λ (n : Name). n.word) (ab.0 of).0 in
      let there = xy.1 (ap (λ (n : Name). n.word) same ∙ b_of) in
      (there.0 ∙ (λ i. name (same i).epoch w (same i).kind (same i).number) ∙ sym (ab.1 b_of).0, sym there.1)

  kept_of_word : (w : List ℕ) → SearchedTogether o run other w → Paired (λ a b. a.name.word ≡ w → relabelled o run other t b.name ≡ t a.name) (uses o run first_ranks) (uses o other first_ranks)
  kept_of_word w at =
      let us = uses o run first_ranks in
      let vs = uses o other first_ranks in
      let both = both_renamed first_ranks w at in
      paired-weaker (AreBothRenamed w at.w2) (λ a b. a.name.word ≡ w → relabelled o run other t b.name ≡ t a.name) (λ a. Unit {0}) (λ b. Contains (names_in_uses vs) b.name) us vs
      (AllByRecursion-from_members (λ a. Unit {0}) us (λ a within. tt))
      (AllByRecursion-from_members (λ b. Contains (names_in_uses vs) b.name) vs (λ b within. Contains-map (λ (x : Use). x.name) vs b within))
      both
      (λ a b unit within ab of. value_found t b.name (t a.name) us vs
      (paired-then (AreBothRenamed w at.w2) (λ x y. y.name ≡ b.name → value_for t x y ≡ t a.name) us vs both
      (λ x y xy same.
      let here = same_there w at.w2 a b x y ab xy of same in
      ap (shifted (t x.name) x.text) (sym here.1) ∙ shifted_same (t x.name) x.text ∙ ap t here.0))
      within)

  -- each name of a searched word keeps its value
  kept_searched : Paired (λ (a b : Use). is_searched run a.name ≡ true → relabelled o run other t b.name ≡ t a.name) (uses o run first_ranks) (uses o other first_ranks)
  kept_searched =
      let us = uses o run first_ranks in
      let vs = uses o other first_ranks in
      paired-then (λ a b. (i : (w : List ℕ) × SearchedTogether o run other w) → a.name.word ≡ i.0 → relabelled o run other t b.name ≡ t a.name)
      (λ (a b : Use). is_searched run a.name ≡ true → relabelled o run other t b.name ≡ t a.name) us vs
      (paired-family AreAlike (λ (i : (w : List ℕ) × SearchedTogether o run other w) (a b : Use). a.name.word ≡ i.0 → relabelled o run other t b.name ≡ t a.name) us vs (alike_uses first_ranks) (λ i. kept_of_word i.0 i.1))
      (λ a b each searched. each (a.name.word, searched_together o run other leaks a.name.word searched) refl)

  -- Promise P150, also here
  -- At each place of what the two runs use, the relabelled table gives the other run's name the value that the table gives the first
  -- run's, where the name is of a word that the run searches, or is no pad. So only pads of texts that no search opens are shifted.
  pub values_kept : Paired (λ (a b : Use). (is_searched run a.name ≡ true) ⊎ (a.text ≡ None) → relabelled o run other t b.name ≡ t a.name) (uses o run first_ranks) (uses o other first_ranks)
  values_kept =
      let drawn1 = drawn_uses o run first_ranks in
      let drawn2 = drawn_uses o other first_ranks in
      let probed1 = probed_uses o run in
      let probed2 = probed_uses o other in
      let Kept = λ (a b : Use). is_searched run a.name ≡ true → relabelled o run other t b.name ≡ t a.name in
      let Goal = λ (a b : Use). (is_searched run a.name ≡ true) ⊎ (a.text ≡ None) → relabelled o run other t b.name ≡ t a.name in
      let parts = paired-parts Kept AreAlike drawn1 probed1 drawn2 probed2 (alike_drawn o run other t history2 leaks first_ranks first_ranks) kept_searched in
      paired-append Goal drawn1 probed1 drawn2 probed2
      (paired-then (λ a b. IsOwn (relabelled o run other t) t a b × Kept a b) Goal drawn1 drawn2 (paired-both (IsOwn (relabelled o run other t) t) Kept drawn1 drawn2 (own_drawn o run other t history2 leaks) parts.0)
      (λ a b both. ⊎_elim (λ searched. both.1 searched) (λ plain. both.0 ∙ bare_same t a b plain)))
      (paired-then (λ a b. (is_searched run a.name ≡ true) × Kept a b) Goal probed1 probed2 (paired-both (λ (a b : Use). is_searched run a.name ≡ true) Kept probed1 probed2 probed_are_searched parts.1)
      (λ a b both either. both.1 both.0))

there_and_back : (value : List ℕ) (a b : Option (List ℕ)) → AreTexts a b → shifted (shifted value a b) b a ≡ value
there_and_back value None None alike = refl
there_and_back value (Some text) (Some other) alike = shifted_back value text other
there_and_back value None (Some other) alike = absurd alike
there_and_back value (Some text) None alike = absurd alike

module _ (o : Offsets) (run other : Run) (t : Table) (history : IsHistory run) (history2 : IsHistory other) (leaks : leak o run ≡ leak o other)
    (values : (n : Name) → Contains (flat_map (λ ns. ns) (drawn o run)) n → IsValue run.setup.shape t n) where
  abbrev there : Table
  there = relabelled o run other t

  abbrev back : Table
  back = relabelled o other run (relabelled o run other t)

  abbrev IsBack : Use → Use → Type 0
  IsBack a b = relabelled o other run (relabelled o run other t) a.name ≡ t a.name

  uses_back : Paired IsBack (uses o run (first_ranks o run other t history history2 leaks)) (uses o other (first_ranks o run other t history history2 leaks))
  uses_back =
      let ranks = first_ranks o run other t history history2 leaks in
      let same = ranks_relabelled o run other t history2 leaks history values in
      let drawn1 = drawn_uses o run ranks in
      let drawn2 = drawn_uses o other ranks in
      let probed1 = probed_uses o run in
      let probed2 = probed_uses o other in
      let alike = alike_drawn o run other t history2 leaks ranks ranks in
      let own = own_drawn o run other t history2 leaks in
      let own_back : Paired (λ a b. back a.name ≡ value_for there b a) drawn1 drawn2 =
      paired-swap (IsOwn back there) (λ a b. back a.name ≡ value_for there b a) drawn2 drawn1
      (subst (λ rs. Paired (IsOwn back there) (drawn_uses o other rs) (drawn_uses o run rs)) same (own_drawn o other run there history (sym leaks))) (λ b a e. e) in
      let Kept = λ (a b : Use). is_searched run a.name ≡ true → there b.name ≡ t a.name in
      let KeptBack = λ (b a : Use). (is_searched other b.name ≡ true) ⊎ (b.text ≡ None) → back a.name ≡ there b.name in
      let probed_kept = (paired-parts Kept AreAlike drawn1 probed1 drawn2 probed2 alike (kept_searched o run other t history history2 leaks)).1 in
      let kept_back = (paired-parts KeptBack (λ b a. AreAlike a b) drawn2 probed2 drawn1 probed1 (paired-swap AreAlike (λ b a. AreAlike a b) drawn1 drawn2 alike (λ a b e. e))
      (subst (λ rs. Paired KeptBack (uses o other rs) (uses o run rs)) same (values_kept o other run there history2 history (sym leaks)))).1 in
      paired-append IsBack drawn1 probed1 drawn2 probed2
      (paired-then (λ a b. AreAlike a b × (IsOwn there t a b × (back a.name ≡ value_for there b a))) IsBack drawn1 drawn2
      (paired-both AreAlike (λ a b. IsOwn there t a b × (back a.name ≡ value_for there b a)) drawn1 drawn2 alike
      (paired-both (IsOwn there t) (λ a b. back a.name ≡ value_for there b a) drawn1 drawn2 own own_back))
      (λ a b all. all.1.1 ∙ ap (λ v. shifted v b.text a.text) all.1.0 ∙ there_and_back (t a.name) a.text b.text all.0))
      (paired-weaker (λ a b. (is_searched run a.name ≡ true) × (Kept a b × KeptBack b a)) IsBack (λ a. Unit {0}) (λ (b : Use). b.text ≡ None) probed1 probed2
      (AllByRecursion-from_members (λ a. Unit {0}) probed1 (λ a within. tt))
      (AllByRecursion-each (λ (u : Use). u.text ≡ None) bare (λ n. refl) (flat_map (λ ns. ns) (probed o other)))
      (paired-both (λ (a b : Use). is_searched run a.name ≡ true) (λ a b. Kept a b × KeptBack b a) probed1 probed2 (probed_are_searched o run other t history history2 leaks)
      (paired-both Kept (λ a b. KeptBack b a) probed1 probed2 probed_kept (paired-swap KeptBack (λ a b. KeptBack b a) probed2 probed1 kept_back (λ b a e. e))))
      (λ a b unit plain all. all.1.1 (inr plain) ∙ all.1.0 all.0))

  -- Promise P150, also here
  -- Relabelled to the other run and back, a table has its own values at all names that are drawn or looked up. So the tables for the one
  -- run and those for the other go together one to one.
  pub relabelled_back : (n : Name) → Contains (flat_map (λ ns. ns) (drawn o run ++ probed o run)) n → relabelled o other run (relabelled o run other t) n ≡ t n
  relabelled_back n within =
      let ranks = first_ranks o run other t history history2 leaks in
      let here = of_map (λ (x : Use). x.name) (uses o run ranks) n (subst (λ ns. Contains ns n) (sym (names_used o run ranks)) within) in
      let found = partner_of (λ b a. IsBack a b) (uses o other ranks) (uses o run ranks) (paired-swap IsBack (λ b a. IsBack a b) (uses o run ranks) (uses o other ranks) uses_back (λ a b e. e)) here.0 here.1 in
      ap back (sym here.2) ∙ found.2 ∙ ap t here.2
