-- What a table of words is after a word is numbered, after a count is set, and where a word stands in it.
use Rattle.std.proofs.Common.{◌≡◌, ℕ, zero, suc, ◌+◌, ◌≤◌, ◌<◌, Bool, true, false, cond, not, ◌||◌, ◌&&◌, List, [], ◌∷◌, ◌++◌, length, map, take, get_or, set, Option, None, Some, is_some, position, refl, sym, ap, ◌∙◌, subst, arith, append_assoc}
use Rattle.std.specs.Prelude.{All, if◌then◌else◌, nat_eq, slice_get}
use Rattle.std.specs.List.{list_any, AllByRecursion, IsDistinct}
use Rattle.std.specs.Map.{lookup, keys_of, values_of}
use Rattle.std.specs.Option.{option_map}
use Rattle.std.specs.Str.{bytes_eq}
use Rattle.indexmap.specs.IndexMap.{insert_entry, set_value_at}
use Rattle.std.proofs.lemmas.Bool.{true≢false, eqb-true, eqb-false, eq-eqb}
use Rattle.std.proofs.lemmas.Cmp.{nat_eq_equiv, nat_list_eq_equiv}
use Rattle.std.proofs.lemmas.List.{get_or-map, length-map, map-append, take_all}
use Rattle.std.proofs.lemmas.List.Elements.{All-cons, All-nil}
use Rattle.std.proofs.lemmas.List.Folds.{list_any-append}
use Rattle.client_registry.specs.WordTable.{GivesNumbers}
use Rattle.client_registry.proofs.NumberLaws.{keys-counts, same_bytes}
use Rattle.client_registry.proofs.Positions.{position-cons}
use Rattle.client_registry.proofs.PushLaws.{IsDistinct-push}

module _ {K : Type 0} (bytes : K → List ℕ) where
  abbrev words : List (K × ℕ) → List (List ℕ)
  words es = map (λ e. bytes e.0) es

  abbrev same : K → K → Bool
  same a b = bytes_eq (bytes a) (bytes b)

  -- a word has an entry exactly where it is one of the words
  pub is_some-words : (bs : List ℕ) (es : List (K × ℕ)) → is_some (lookup (λ k. bytes_eq bs (bytes k)) es) ≡ list_any (bytes_eq bs) (words es)
  is_some-words bs [] = refl
  is_some-words bs (e ∷ es) = by (bytes_eq bs (bytes e.0)) (is_some-words bs es)
    where
      by : (b : Bool) → is_some (lookup (λ k. bytes_eq bs (bytes k)) es) ≡ list_any (bytes_eq bs) (words es)
          → is_some (cond b (Some e.1) (lookup (λ k. bytes_eq bs (bytes k)) es)) ≡ (b || list_any (bytes_eq bs) (words es))
      by true h = refl
      by false h = h

  -- a word that isn't there goes last
  pub insert_entry-words : (k : K) (v : ℕ) (es : List (K × ℕ)) → list_any (bytes_eq (bytes k)) (words es) ≡ false → insert_entry same es k v ≡ es ++ (k, v) ∷ []
  insert_entry-words k v [] absent = refl
  insert_entry-words k v (e ∷ es) absent = by (bytes_eq (bytes k) (bytes e.0)) absent (insert_entry-words k v es)
    where
      by : (b : Bool) → (b || list_any (bytes_eq (bytes k)) (words es)) ≡ false
          → (list_any (bytes_eq (bytes k)) (words es) ≡ false → insert_entry same es k v ≡ es ++ (k, v) ∷ [])
          → (if b then (e.0, v) ∷ es else e ∷ insert_entry same es k v) ≡ e ∷ es ++ (k, v) ∷ []
      by true h rest = absurd (true≢false h)
      by false h rest = ap (λ r. e ∷ r) (rest h)

  -- words that differ, and one more that is none of them
  pub words_differ-push : (k : K) (v : ℕ) (es : List (K × ℕ)) → list_any (bytes_eq (bytes k)) (words es) ≡ false → IsDistinct bytes_eq (words es) → IsDistinct bytes_eq (words (es ++ (k, v) ∷ []))
  words_differ-push k v es absent differ =
      subst (IsDistinct bytes_eq) (sym (map-append (λ e. bytes e.0) es ((k, v) ∷ [])))
      (IsDistinct-push bytes_eq (λ x y. nat_list_eq_equiv.symm x y) (words es) (bytes k) differ absent)

  -- the last of them stands after the others
  pub last_word : (k : K) (v : ℕ) (es : List (K × ℕ)) → slice_get (words (es ++ (k, v) ∷ [])) (length es) ≡ Some (bytes k)
  last_word k v [] = refl
  last_word k v (e ∷ es) = last_word k v es

  -- the last of them is one of them
  pub last_numbered : (k : K) (v : ℕ) (es : List (K × ℕ)) → list_any (bytes_eq (bytes k)) (words (es ++ (k, v) ∷ [])) ≡ true
  last_numbered k v es =
      ap (list_any (bytes_eq (bytes k))) (map-append (λ e. bytes e.0) es ((k, v) ∷ []))
      ∙ list_any-append (bytes_eq (bytes k)) (words es) (bytes k ∷ [])
      ∙ ap (λ b. list_any (bytes_eq (bytes k)) (words es) || (b || false)) (nat_list_eq_equiv.refl (bytes k))
      ∙ or_last (list_any (bytes_eq (bytes k)) (words es))
    where
      or_last : (b : Bool) → (b || true) ≡ true
      or_last true = refl
      or_last false = refl

  -- a count that is set leaves the words
  pub words-set_value_at : (es : List (K × ℕ)) (i w : ℕ) → words (set_value_at es i w) ≡ words es
  words-set_value_at [] i w = refl
  words-set_value_at (e ∷ es) zero w = refl
  words-set_value_at (e ∷ es) (suc i) w = ap (λ ws. bytes e.0 ∷ ws) (words-set_value_at es i w)

  -- a count, by the word or by its number
  pub lookup-values : (bs : List ℕ) (es : List (K × ℕ)) → lookup (bytes_eq bs) (map (λ e. (bytes e.0, e.1)) es) ≡ option_map (λ n. get_or (values_of es) n 0) (position (bytes_eq bs) (words es))
  lookup-values bs [] = refl
  lookup-values bs (e ∷ es) =
      by (bytes_eq bs (bytes e.0)) (position (bytes_eq bs) (words es)) (lookup-values bs es)
      ∙ ap (option_map (λ n. get_or (values_of (e ∷ es)) n 0)) (sym (position-cons (bytes_eq bs) (bytes e.0) (words es)))
    where
      by : (b : Bool) (o : Option ℕ) → lookup (bytes_eq bs) (map (λ x. (bytes x.0, x.1)) es) ≡ option_map (λ n. get_or (values_of es) n 0) o
          → cond b (Some e.1) (lookup (bytes_eq bs) (map (λ x. (bytes x.0, x.1)) es)) ≡ option_map (λ n. get_or (e.1 ∷ values_of es) n 0) (cond b (Some 0) (option_map (λ n. suc n) o))
      by true o h = refl
      by false None h = h
      by false (Some n) h = h

-- the first front of entries whose counts were set to 0
pub All-zero-set : {K : Type 0} (es : List (K × ℕ)) (i : ℕ) → i < length es → All (λ e. e.1 ≡ 0) (take i es) → All (λ e. e.1 ≡ 0) (take (suc i) (set_value_at es i 0))
All-zero-set [] i within all = absurd (omega (arith, within))
All-zero-set (e ∷ es) zero within all = All-cons (λ x. x.1 ≡ 0) (e.0, 0) [] refl (All-nil (λ x. x.1 ≡ 0))
All-zero-set (e ∷ es) (suc i) within all =
    All-cons (λ x. x.1 ≡ 0) e (take (suc i) (set_value_at es i 0)) (all 0 e (omega arith)) (All-zero-set es i (omega (arith, within)) (λ k d lt. all (suc k) d (omega (arith, lt))))

-- as many entries
pub length-set_value : {K : Type 0} (es : List (K × ℕ)) (i w : ℕ) → length (set_value_at es i w) ≡ length es
length-set_value [] i w = refl
length-set_value (e ∷ es) zero w = refl
length-set_value (e ∷ es) (suc i) w = ap suc (length-set_value es i w)

-- a count that is set, among the counts
pub values-set_value_at : {K : Type 0} (es : List (K × ℕ)) (i w : ℕ) → values_of (set_value_at es i w) ≡ set (values_of es) i w
values-set_value_at [] i w = refl
values-set_value_at (e ∷ es) zero w = refl
values-set_value_at (e ∷ es) (suc i) w = ap (λ ws. e.1 ∷ ws) (values-set_value_at es i w)

-- a count of so many entries that are all cleared
pub All-cleared : {K : Type 0} (es : List (K × ℕ)) (i : ℕ) → length es ≤ i → All (λ e. e.1 ≡ 0) (take i es) → All (λ e. e.1 ≡ 0) es
All-cleared es i all cleared = subst (All (λ e. e.1 ≡ 0)) (take_all i es all) cleared

-- a number stands nowhere before its place among numbers that differ
pub not_before : (xs : List ℕ) (k : ℕ) → IsDistinct nat_eq xs → k < length xs → list_any (nat_eq (get_or xs k 0)) (take k xs) ≡ false
unfolding IsDistinct
not_before [] k differ within = absurd (omega (arith, within))
not_before (x ∷ xs) zero differ within = refl
not_before (x ∷ xs) (suc k) differ within =
    ap (λ b. b || list_any (nat_eq (get_or xs k 0)) (take k xs)) (nat_eq_equiv.symm (get_or xs k 0) x ∙ at xs k (omega (arith, within)) differ.0)
    ∙ not_before xs k differ.1 (omega (arith, within))
  where
    at : (ys : List ℕ) (j : ℕ) → j < length ys → AllByRecursion (λ y. nat_eq x y ≡ false) ys → nat_eq x (get_or ys j 0) ≡ false
    at [] j lt all = absurd (omega (arith, lt))
    at (y ∷ ys) zero lt all = all.0
    at (y ∷ ys) (suc j) lt all = at ys j (omega (arith, lt)) all.1

-- where a word is found it stands
pub found_at : (ws : List (List ℕ)) (bs : List ℕ) (n : ℕ) → position (bytes_eq bs) ws ≡ Some n → slice_get ws n ≡ Some bs
found_at [] bs n at = absurd (cc)
found_at (w ∷ ws) bs n at = by (bytes_eq bs w) refl (position (bytes_eq bs) ws) (sym (position-cons (bytes_eq bs) w ws) ∙ at) (found_at ws bs)
  where
    by : (b : Bool) → bytes_eq bs w ≡ b → (o : Option ℕ) → cond b (Some 0) (option_map (λ k. suc k) o) ≡ Some n → ((m : ℕ) → o ≡ Some m → slice_get ws m ≡ Some bs) → slice_get (w ∷ ws) n ≡ Some bs
    by true is o e rest = let first : 0 ≡ n = cc in subst (λ m. slice_get (w ∷ ws) m ≡ Some bs) first (ap (λ v. Some v) (sym (same_bytes bs w is)))
    by false is None e rest = absurd (cc)
    by false is (Some m) e rest = let next : suc m ≡ n = cc in subst (λ k. slice_get (w ∷ ws) k ≡ Some bs) next (rest m refl)

-- Words that are given numbers.

pub GivesNumbers-trans : (es fs gs : List (List ℕ × ℕ)) → GivesNumbers es fs → GivesNumbers fs gs → GivesNumbers es gs
GivesNumbers-trans es fs gs first second = (
  first.0 ++ second.0,
  second.1 ∙ ap (λ xs. xs ++ map (λ w. (w, 0)) second.0) first.1 ∙ append_assoc es (map (λ w. (w, 0)) first.0) (map (λ w. (w, 0)) second.0) ∙ ap (λ xs. es ++ xs) (sym (map-append (λ w. (w, 0)) first.0 second.0)),
)

keys-given : (ws : List (List ℕ)) → keys_of {X = ℕ} (map (λ w. (w, 0)) ws) ≡ ws
keys-given [] = refl
keys-given (w ∷ ws) = ap (λ vs. w ∷ vs) (keys-given ws)

-- the words that had a number, and those that have one now
pub keys-GivesNumbers : (es fs : List (List ℕ × ℕ)) → (given : GivesNumbers es fs) → keys_of fs ≡ keys_of es ++ given.0
keys-GivesNumbers es fs given = ap keys_of given.1 ∙ map-append (λ e. e.0) es (map (λ w. (w, 0)) given.0) ∙ ap (λ ws. keys_of es ++ ws) (keys-given given.0)

module _ {K : Type 0} (bytes : K → List ℕ) (es fs : List (K × ℕ)) (given : GivesNumbers (map (λ e. (bytes e.0, e.1)) es) (map (λ e. (bytes e.0, e.1)) fs)) where
  -- words that are given numbers stand after those that had one
  pub table_given : map (λ e. bytes e.0) fs ≡ map (λ e. bytes e.0) es ++ given.0
  table_given =
      sym (keys-counts bytes fs) ∙ keys-GivesNumbers (map (λ e. (bytes e.0, e.1)) es) (map (λ e. (bytes e.0, e.1)) fs) given ∙ ap (λ ws. ws ++ given.0) (keys-counts bytes es)

  pub table_numbered_still : (w : List ℕ) → list_any (bytes_eq w) (map (λ e. bytes e.0) es) ≡ true → list_any (bytes_eq w) (map (λ e. bytes e.0) fs) ≡ true
  table_numbered_still w there =
      ap (list_any (bytes_eq w)) table_given ∙ list_any-append (bytes_eq w) (map (λ e. bytes e.0) es) given.0 ∙ ap (λ b. b || list_any (bytes_eq w) given.0) there

-- a word of a list of words that have numbers has one
pub numbered_at : {K : Type 0} (bytes : K → List ℕ) (of : List K) (table : List (List ℕ)) (i : ℕ) (k : K) → i < length of → k ≡ get_or of i k
    → All (λ word. list_any (bytes_eq word) table ≡ true) (map bytes of) → list_any (bytes_eq (bytes k)) table ≡ true
numbered_at bytes of table i k within is all =
    let here = get_or-map bytes of i k (bytes k) within in
    subst (λ w. list_any (bytes_eq w) table ≡ true) (here ∙ ap bytes (sym is)) (all i (bytes k) (omega (arith, length-map of bytes, within)))

-- how much the count of a number rises by these numbers, of which those that are listed don't count
abbrev pub rise : List ℕ → List ℕ → ℕ → ℕ
rise listed numbers n = if list_any (nat_eq n) numbers && not (list_any (nat_eq n) listed) then 1 else 0

module _ (listed front : List ℕ) (n : ℕ) (old now : ℕ → ℕ) (had : (m : ℕ) → now m ≡ old m + rise listed front m) where
  among_more : (m : ℕ) (b : Bool) → nat_eq m n ≡ b → list_any (nat_eq m) (front ++ n ∷ []) ≡ (list_any (nat_eq m) front || (b || false))
  among_more m b is = list_any-append (nat_eq m) front (n ∷ []) ∙ ap (λ c. list_any (nat_eq m) front || (c || false)) is

  last_false : (b : Bool) → (b || (false || false)) ≡ b
  last_false true = refl
  last_false false = refl

  others : (m : ℕ) → nat_eq m n ≡ false → rise listed (front ++ n ∷ []) m ≡ rise listed front m
  others m differ = ap (λ b. if b && not (list_any (nat_eq m) listed) then 1 else 0) (among_more m false differ ∙ last_false (list_any (nat_eq m) front))

  -- one number more, whose count went up by one since it isn't listed
  pub counted_new : (new : ℕ → ℕ) → list_any (nat_eq n) listed ≡ false → list_any (nat_eq n) front ≡ false → new n ≡ now n + 1 → ((m : ℕ) → (m ≡ n → ⊥) → new m ≡ now m) → (m : ℕ) → new m ≡ old m + rise listed (front ++ n ∷ []) m
  counted_new new fresh first up stay m = by (nat_eq m n) refl
    where
      by : (b : Bool) → nat_eq m n ≡ b → new m ≡ old m + rise listed (front ++ n ∷ []) m
      by true is =
          let same : m ≡ n = eqb-true m n is in
          let was : now n ≡ old n + 0 = had n ∙ ap (λ b. old n + (if b && not (list_any (nat_eq n) listed) then 1 else 0)) first in
          let there = among_more n true (eq-eqb n n refl) ∙ ap (λ b. b || (true || false)) first in
          let is_one : rise listed (front ++ n ∷ []) n ≡ 1 = ap (λ b. if b && not (list_any (nat_eq n) listed) then 1 else 0) there ∙ ap (λ b. if true && not b then 1 else 0) fresh in
          let here : new n ≡ old n + 1 = omega (arith, up, was) in
          subst (λ k. new k ≡ old k + rise listed (front ++ n ∷ []) k) (sym same) (here ∙ ap (λ r. old n + r) (sym is_one))
      by false is =
          stay m (eqb-false m n is) ∙ had m ∙ ap (λ r. old m + r) (sym (others m is))

  -- one number more, that is listed
  pub counted_old : list_any (nat_eq n) listed ≡ true → (m : ℕ) → now m ≡ old m + rise listed (front ++ n ∷ []) m
  counted_old there m = by (nat_eq m n) refl
    where
      none : (b : Bool) → (b && false) ≡ false
      none true = refl
      none false = refl

      zero_for : (ns : List ℕ) → m ≡ n → rise listed ns m ≡ 0
      zero_for ns alike =
          ap (λ b. if list_any (nat_eq m) ns && not b then 1 else 0) (ap (λ k. list_any (nat_eq k) listed) alike ∙ there)
          ∙ ap (λ b. if b then 1 else 0) (none (list_any (nat_eq m) ns))

      by : (b : Bool) → nat_eq m n ≡ b → now m ≡ old m + rise listed (front ++ n ∷ []) m
      by true is = let same = eqb-true m n is in had m ∙ ap (λ r. old m + r) (zero_for front same ∙ sym (zero_for (front ++ n ∷ []) same))
      by false is = had m ∙ ap (λ r. old m + r) (sym (others m is))
