-- Values by place: what a loop over the places of names gives, and the tables of another history that are made so.
use Rattle.std.proofs.Common.{◌≡◌, ℕ, zero, suc, ◌<◌, Bool, true, false, ◌||◌, List, [], ◌∷◌, ◌++◌, length, map, get_or, refl, sym, ap, ◌∙◌, subst, arith, ⊎_elim, Option, None, Some, is_some}
use Rattle.std.specs.Prelude.{All, Contains, drop, flat_map, unwrap_or, if◌then◌else◌}
use Rattle.std.specs.List.{list_any}
use Rattle.std.proofs.lemmas.List.{get_or-map, length-map, map-append}
use Rattle.std.proofs.lemmas.List.Concat.{flat_map-append}
use Rattle.std.proofs.lemmas.List.Elements.{All-contains, All-head, All-tail, Contains-append_left}
use Rattle.std.proofs.lemmas.List.Folds.{list_any_at}
use Rattle.std.proofs.lemmas.Bool.{true≢false}
use Rattle.client_registry.specs.Run.{Run, Offsets}
use Rattle.client_registry.specs.Sized.{IsHistory, run_words}
use Rattle.leakage_values.proofs.HeldLaws.{held, marks}
use Rattle.leakage_values.proofs.OnceLaws.{flat-numbered}
use Rattle.leakage_values.proofs.OwnNames.{is_own, own_names, same_numbers-numbered}
use Rattle.leakage_values.specs.Held.{Holds}
use Rattle.leakage_values.specs.NamesOnce.{Marks, same_numbers}
use Rattle.leakage_values.specs.Numbered.{numbered}
use Rattle.keyed_fn.specs.Xored.{xored}
use Rattle.leakage_names.specs.Sheets.{Values, value_at}
use Rattle.leakage_names.specs.declared.name.Name as codes
use Rattle.def_comparison.proofs.UsedNames.{Contains-first_names, Contains-of_first_names}
use Rattle.def_comparison.specs.UsedNames.{all_names, names}
use Rattle.def_leakage.specs.DrawnValues.{draws}
use Rattle.def_leakage.specs.CommandLeaks.{leak}
use Rattle.def_leakage.specs.Relabelled.{relabelled}
use Rattle.sse_model.proofs.Members.{Contains-cases, Contains-cons, Contains-head, Contains-map, Contains-nil}
use Rattle.sse_model.proofs.SameName.{same_name-Decides}
use Rattle.sse_model.specs.Drawn.{drawn, probed}
use Rattle.sse_model.specs.Names.{Name, Table, same_name}
use Rattle.def_relabelling.proofs.ByTexts.{relabelled_by_texts, unshifted_told}
use Rattle.def_relabelling.proofs.OneToOne.{relabelled-agree}
use Rattle.def_relabelling.specs.ByTexts.{drawn_names, masked_by, texts_of, unshifted}
use Rattle.leakage_draws.proofs.SheetDraws.{same_draws}
use Rattle.leakage_draws.specs.Given.{given, sheet_table}
use Rattle.leakage_values.specs.SheetOf.{IsSheetOf}

-- Places.

next_at : (xs : List (List ℕ)) (i : ℕ) → get_or (drop 1 xs) i [] ≡ get_or xs (suc i) []
next_at [] i = refl
next_at (x ∷ xs) i = refl

masked_at : (vs xs ys : List (List ℕ)) (i : ℕ) → i < length vs → get_or (masked_by vs xs ys) i [] ≡ xored (xored (get_or vs i []) (get_or xs i [])) (get_or ys i [])
masked_at [] xs ys i within = absurd (omega (arith, within))
masked_at (v ∷ vs) xs ys zero within = refl
masked_at (v ∷ vs) xs ys (suc i) within =
    masked_at vs (drop 1 xs) (drop 1 ys) i (omega (arith, within)) ∙ (λ j. xored (xored (get_or vs i []) (next_at xs i j)) (next_at ys i j))

pub length-masked_by : (vs xs ys : List (List ℕ)) → length (masked_by vs xs ys) ≡ length vs
length-masked_by [] xs ys = refl
length-masked_by (v ∷ vs) xs ys = ap (λ n. suc n) (length-masked_by vs (drop 1 xs) (drop 1 ys))

-- the value for the name at a place
pub value_here : (values : Values) (value : codes.Name → List ℕ) (from to : List codes.Name) (xs ys : List (List ℕ)) (i : ℕ) (a b : codes.Name) (x y : List ℕ) → length from ≡ length to → i < length from
    → map value to ≡ masked_by (map (given values) from) xs ys → x ≡ get_or xs i [] → y ≡ get_or ys i [] → value (get_or to i b) ≡ xored (xored (given values (get_or from i a)) x) y
value_here values value from to xs ys i a b x y even within are x_is y_is =
    sym (get_or-map value to i b [] (omega (arith, within, even)))
    ∙ ap (λ vs. get_or vs i []) are
    ∙ masked_at (map (given values) from) xs ys i (omega (arith, within, length-map from (given values)))
    ∙ (λ j. xored (xored (get_or-map (given values) from i a [] within j) (sym x_is j)) (sym y_is j))

-- Values of a table by the numbered names of a history.

module _ (words : List (List ℕ)) (t : Table) where
  abbrev own : Name → Type 0
  own n = is_own words n ≡ true

  abbrev value_among : List Name → codes.Name → List ℕ
  value_among [] code = []
  value_among (n ∷ ns) code = if same_numbers code (numbered words n) then t n else value_among ns code

  found : (n : Name) → own n → (ns : List Name) → All own ns → Contains ns n → value_among ns (numbered words n) ≡ t n
  found n one [] all within = absurd (Contains-nil n within)
  found n one (m ∷ ns) all within = by (found n one ns (All-tail own m ns all)) (same_name m n) refl
    where
      step : (b : Bool) → same_name m n ≡ b → value_among (m ∷ ns) (numbered words n) ≡ (if b then t m else value_among ns (numbered words n))
      step b is = ap (λ c. if c then t m else value_among ns (numbered words n)) (same_numbers-numbered words n m one (All-head own m ns all) ∙ is)

      by : (Contains ns n → value_among ns (numbered words n) ≡ t n) → (b : Bool) → same_name m n ≡ b → value_among (m ∷ ns) (numbered words n) ≡ t n
      by later true is = step true is ∙ ap t ((same_name-Decides m n).0 is)
      by later false is =
          step false is
          ∙ ⊎_elim (λ (here : m ≡ n). absurd (true≢false (sym ((same_name-Decides m n).1 here) ∙ is))) later (Contains-cases m ns n within)

  -- of names that are among others
  found_all : (ns : List Name) → All own ns → (ms : List Name) → ((n : Name) → Contains ms n → Contains ns n) → map (value_among ns) (map (numbered words) ms) ≡ map t ms
  found_all ns all [] among = refl
  found_all ns all (m ∷ ms) among = λ i. found m (All-contains own ns m all (among m (Contains-head m ms))) ns all (among m (Contains-head m ms)) i
      ∷ found_all ns all ms (λ n within. among n (Contains-cons m ms n within)) i

map_twice : {A B C : Type 0} (f : A → B) (g : B → C) (xs : List A) → map g (map f xs) ≡ map (λ x. g (f x)) xs
map_twice f g [] = refl
map_twice f g (x ∷ xs) = ap (λ ys. g (f x) ∷ ys) (map_twice f g xs)

-- lists of the same members

any_from : (p : codes.Name → Bool) (f : Name → codes.Name) (ns ms : List Name) → ((n : Name) → Contains ns n → Contains ms n) → list_any p (map f ns) ≡ true → list_any p (map f ms) ≡ true
any_from p f [] ms among e = absurd (true≢false (sym e))
any_from p f (n ∷ ns) ms among e = by (any_from p f ns ms (λ m within. among m (Contains-cons n ns m within))) (p (f n)) refl
  where
    by : (list_any p (map f ns) ≡ true → list_any p (map f ms) ≡ true) → (b : Bool) → p (f n) ≡ b → list_any p (map f ms) ≡ true
    by later true is = let here = Contains-map f ms n (among n (Contains-head n ns)) in list_any_at p (map f ms) here.0 (f n) here.1 (ap p here.2 ∙ is)
    by later false is = later (sym (ap (λ b. b || list_any p (map f ns)) is) ∙ e)

both_same : (a b : Bool) → (a ≡ true → b ≡ true) → (b ≡ true → a ≡ true) → a ≡ b
both_same true b there back = sym (there refl)
both_same false true there back = back refl
both_same false false there back = refl

same_any : (p : codes.Name → Bool) (f : Name → codes.Name) (ns ms : List Name) → ((n : Name) → Contains ns n → Contains ms n) → ((n : Name) → Contains ms n → Contains ns n)
    → list_any p (map f ns) ≡ list_any p (map f ms)
same_any p f ns ms there back = both_same (list_any p (map f ns)) (list_any p (map f ms)) (any_from p f ns ms there) (any_from p f ms ns back)

-- the names of one history and those of another, where the values of the one are placed at the other's

-- a table holds these values by these names, where there is a function that gives the one for the other
abbrev pub IsPlaced : Values → Values → (from to : List codes.Name) → (ones others : List (List ℕ)) → Type 0
IsPlaced values sheet from to ones others = (value : codes.Name → List ℕ) → map value to ≡ masked_by (map (given values) from) ones others → Holds sheet to value

-- the numbered names of all that a history draws, and of all that it uses
pub drawn_flat : (words : List (List ℕ)) (o : Offsets) (run : Run) (lists : List (List codes.Name)) → lists ≡ map (map (numbered words)) (drawn o run)
    → flat_map (λ ns. ns) lists ≡ map (numbered words) (drawn_names o run)
drawn_flat words o run lists are = ap (flat_map (λ ns. ns)) are ∙ flat-numbered (numbered words) (drawn o run)

pub used_flat : (words : List (List ℕ)) (o : Offsets) (run : Run) (front all : List codes.Name) (looked : List (List codes.Name)) → front ≡ map (numbered words) (drawn_names o run)
    → looked ≡ map (map (numbered words)) (probed o run) → all ≡ front ++ flat_map (λ ns. ns) looked → all ≡ map (numbered words) (all_names o run)
used_flat words o run front all looked front_is are is =
    is
    ∙ (λ i. front_is i ++ (ap (flat_map (λ ns. ns)) are ∙ flat-numbered (numbered words) (probed o run)) i)
    ∙ sym (map-append (numbered words) (drawn_names o run) (flat_map (λ ns. ns) (probed o run)))
    ∙ ap (map (numbered words)) (sym (flat_map-append (λ ns. ns) (drawn o run) (probed o run)))

-- lists of numbered names are as long as the names
pub even_numbered : (words words2 : List (List ℕ)) (ns ns2 : List Name) (xs ys : List codes.Name) → length ns ≡ length ns2 → xs ≡ map (numbered words) ns → ys ≡ map (numbered words2) ns2 → length xs ≡ length ys
even_numbered words words2 ns ns2 xs ys even are are2 = ap length are ∙ length-map ns (numbered words) ∙ even ∙ sym (length-map ns2 (numbered words2)) ∙ sym (ap length are2)

-- each name of a history has a value in a sheet that has all of these
pub has_values : (values : Values) (words : List (List ℕ)) (o : Offsets) (run : Run) (from : List codes.Name) → from ≡ map (numbered words) (all_names o run)
    → All (λ n. is_some (value_at values n) ≡ true) from → IsSheetOf values words (names o run) (sheet_table values words)
has_values values words o run from are all n within =
    let used = Contains-of_first_names (all_names o run) n within in
    let here : Contains from (numbered words n) = subst (λ ns. Contains ns (numbered words n)) (sym are) (Contains-map (numbered words) (all_names o run) n used) in
    by (value_at values (numbered words n)) (All-contains (λ k. is_some (value_at values k) ≡ true) from (numbered words n) all here)
  where
    by : (o : Option (List ℕ)) → is_some o ≡ true → o ≡ Some (unwrap_or o [])
    by (Some value) some = refl
    by None some = absurd (true≢false (sym some))

module _ (values : Values) (o : Offsets) (run other : Run) (history : IsHistory run) (history2 : IsHistory other) (leaks : leak o run ≡ leak o other) where
  abbrev first_table : Table
  first_table = sheet_table values (run_words run)

  abbrev words2 : List (List ℕ)
  words2 = run_words other

  pub even_drawn : length (drawn_names o run) ≡ length (drawn_names o other)
  even_drawn =
      sym (length-masked_by (map first_table (drawn_names o run)) [] [] ∙ length-map (drawn_names o run) first_table)
      ∙ ap length (unshifted_told o run other first_table history history2 leaks)
      ∙ length-map (drawn_names o other) (unshifted o run other first_table)

  pub even_used : length (all_names o run) ≡ length (all_names o other)
  even_used =
      let ones = texts_of (draws first_table o run) in
      let others = texts_of (draws (unshifted o run other first_table) o other) in
      sym (length-masked_by (map first_table (all_names o run)) ones others ∙ length-map (all_names o run) first_table)
      ∙ ap length (relabelled_by_texts o run other first_table history history2 leaks)
      ∙ length-map (all_names o other) (relabelled o run other first_table)

  -- what is drawn of the sheet by places is what is drawn under the table by places
  pub unshifted_draws : (sheet : Values) (from to : List codes.Name) → from ≡ map (numbered (run_words run)) (drawn_names o run) → to ≡ map (numbered words2) (drawn_names o other)
      → IsPlaced values sheet from to [] [] → draws (sheet_table sheet words2) o other ≡ draws (unshifted o run other first_table) o other
  unshifted_draws sheet from to from_is to_is placed =
      let u = unshifted o run other first_table in
      let ns = all_names o other in
      let ms = drawn_names o other in
      let value = value_among words2 u ns in
      let among : (n : Name) → Contains ms n → Contains ns n =
      λ n within. subst (λ ks. Contains ks n) (sym (flat_map-append (λ ns. ns) (drawn o other) (probed o other)))
      (Contains-append_left ms (flat_map (λ ns. ns) (probed o other)) n within) in
      let holds : Holds sheet to value =
      placed value
      (ap (map value) to_is ∙ found_all words2 u ns (own_names o other) ms among ∙ sym (unshifted_told o run other first_table history history2 leaks)
      ∙ ap (λ vs. masked_by vs [] []) (sym (ap (map (given values)) from_is ∙ map_twice (numbered (run_words run)) (given values) (drawn_names o run)))) in
      same_draws (sheet_table sheet words2) u o other
      (λ n within.
      ap (λ o. unwrap_or o []) (held sheet to value (numbered words2) ms holds to_is n within)
      ∙ found words2 u n (All-contains (own words2 u) ns n (own_names o other) (among n within)) ns (own_names o other) (among n within))

  module _ (sheet : Values) (from to : List codes.Name) (ones others : List (List ℕ)) (from_is : from ≡ map (numbered (run_words run)) (all_names o run)) (to_is : to ≡ map (numbered words2) (all_names o other))
      (ones_are : ones ≡ texts_of (draws first_table o run)) (others_are : others ≡ texts_of (draws (unshifted o run other first_table) o other)) (placed : IsPlaced values sheet from to ones others) where
    abbrev moved : codes.Name → List ℕ
    moved = value_among words2 (relabelled o run other first_table) (all_names o other)

    holds_moved : Holds sheet to moved
    holds_moved =
        let m = relabelled o run other first_table in
        let ns = all_names o other in
        placed moved
        (ap (map moved) to_is ∙ found_all words2 m ns (own_names o other) ns (λ n within. within) ∙ sym (relabelled_by_texts o run other first_table history history2 leaks)
        ∙ (λ i. masked_by (sym (ap (map (given values)) from_is ∙ map_twice (numbered (run_words run)) (given values) (all_names o run)) i) (sym ones_are i) (sym others_are i)))

    -- the sheet has the values of the table that is relabelled from any table whose values the first sheet has
    pub moved_values : (t : Table) → IsSheetOf values (run_words run) (names o run) t → IsSheetOf sheet words2 (names o other) (relabelled o run other t)
    moved_values t is n within =
        let m = relabelled o run other first_table in
        let ns = all_names o other in
        let here : Contains ns n = Contains-of_first_names ns n within in
        held sheet to moved (numbered words2) ns holds_moved to_is n here
        ∙ ap (λ v. Some v)
        (found words2 m n (All-contains (own words2 m) ns n (own_names o other) here) ns (own_names o other) here
        ∙ relabelled-agree o run other first_table t
        (λ k inside. ap (λ o. unwrap_or o []) (is k (Contains-first_names (all_names o run) k inside))) n)

    -- and no other name has one
    pub moved_names : Marks sheet (map (numbered words2) (names o other))
    moved_names k =
        let ns = all_names o other in
        marks sheet to moved holds_moved k
        ∙ ap (list_any (same_numbers k)) to_is
        ∙ same_any (same_numbers k) (numbered words2) ns (names o other) (Contains-first_names ns) (Contains-of_first_names ns)
