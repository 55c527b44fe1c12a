-- Names by first appearance differ, are the same names, and of a history they are those that it draws and then those that were only looked up.
use Rattle.std.proofs.Common.{◌≡◌, Bool, true, false, cond, not, ◌||◌, List, [], ◌∷◌, ◌++◌, filter, refl, sym, ap, ◌∙◌, subst, ⊎_elim}
use Rattle.std.specs.Prelude.{Contains, flat_map}
use Rattle.std.specs.List.{list_any, IsDistinct, AllByRecursion}
use Rattle.std.proofs.lemmas.Bool.{true≢false}
use Rattle.std.proofs.lemmas.List.Concat.{flat_map-append}
use Rattle.std.proofs.lemmas.List.Elements.{filter-append}
use Rattle.client_registry.specs.Run.{Run, Offsets}
use Rattle.client_registry.specs.Sized.{IsHistory}
use Rattle.def_comparison.specs.UsedNames.{first_names, names}
use Rattle.sse_model.proofs.DrawnOnce.{drawn_once-history}
use Rattle.sse_model.proofs.Members.{Contains-head, Contains-cons, Contains-cases, Contains-filter, Contains-of_filter}
use Rattle.sse_model.proofs.SameName.{same_name-Decides}
use Rattle.sse_model.specs.Drawn.{drawn, probed}
use Rattle.sse_model.specs.Names.{Name, same_name}

-- Lists.

module _ {A : Type 0} where
  AllByRecursion-filter : (P : A → Type 0) (p : A → Bool) (xs : List A) → AllByRecursion P xs → AllByRecursion P (filter p xs)
  AllByRecursion-filter P p [] all = tt
  AllByRecursion-filter P p (x ∷ xs) all = by (p x) (AllByRecursion-filter P p xs all.1)
    where
      by : (b : Bool) → AllByRecursion P (filter p xs) → AllByRecursion P (cond b (x ∷ filter p xs) (filter p xs))
      by true rest = (all.0, rest)
      by false rest = rest

  -- a filter that drops none
  filter_none : (p : A → Bool) (xs : List A) → AllByRecursion (λ y. p y ≡ false) xs → filter (λ y. not (p y)) xs ≡ xs
  filter_none p [] all = refl
  filter_none p (x ∷ xs) all = by (p x) all.0 (filter_none p xs all.1)
    where
      by : (b : Bool) → b ≡ false → filter (λ y. not (p y)) xs ≡ xs → cond (not b) (x ∷ filter (λ y. not (p y)) xs) (filter (λ y. not (p y)) xs) ≡ x ∷ xs
      by true e rest = absurd (true≢false e)
      by false e rest = ap (λ ys. x ∷ ys) rest

  -- one filter after the other drops what either drops
  filter_twice : (p q : A → Bool) (xs : List A) → filter (λ y. not (p y)) (filter (λ y. not (q y)) xs) ≡ filter (λ y. not (p y || q y)) xs
  filter_twice p q [] = refl
  filter_twice p q (x ∷ xs) = by (q x) (p x) refl (filter_twice p q xs)
    where
      kept : List A
      kept = filter (λ y. not (q y)) xs

      both : List A
      both = filter (λ y. not (p y || q y)) xs

      by : (b c : Bool) → p x ≡ c → filter (λ y. not (p y)) kept ≡ both → filter (λ y. not (p y)) (cond (not b) (x ∷ kept) kept) ≡ cond (not (c || b)) (x ∷ both) both
      by true true is rest = rest
      by true false is rest = rest
      by false true is rest = ap (λ c. cond (not c) (x ∷ filter (λ y. not (p y)) kept) (filter (λ y. not (p y)) kept)) is ∙ rest
      by false false is rest = ap (λ c. cond (not c) (x ∷ filter (λ y. not (p y)) kept) (filter (λ y. not (p y)) kept)) is ∙ ap (λ ys. x ∷ ys) rest

-- Each of them once.

IsDistinct-filter : (p : Name → Bool) (ns : List Name) → IsDistinct same_name ns → IsDistinct same_name (filter p ns)
unfolding IsDistinct
IsDistinct-filter p [] differ = tt
IsDistinct-filter p (n ∷ ns) differ = by (p n) (IsDistinct-filter p ns differ.1)
  where
    by : (b : Bool) → IsDistinct same_name (filter p ns) → IsDistinct same_name (cond b (n ∷ filter p ns) (filter p ns))
    by true rest = (AllByRecursion-filter (λ y. same_name n y ≡ false) p ns differ.0, rest)
    by false rest = rest

others_differ : (n : Name) (ns : List Name) → AllByRecursion (λ y. same_name n y ≡ false) (filter (λ other. not (same_name n other)) ns)
others_differ n [] = tt
others_differ n (m ∷ ms) = by (same_name n m) refl (others_differ n ms)
  where
    rest : List Name
    rest = filter (λ other. not (same_name n other)) ms

    by : (b : Bool) → same_name n m ≡ b → AllByRecursion (λ y. same_name n y ≡ false) rest → AllByRecursion (λ y. same_name n y ≡ false) (cond (not b) (m ∷ rest) rest)
    by true is all = all
    by false is all = (is, all)

-- Promise P154 (inside): The names that two histories of equal leakage use correspond place by place, each once, with related values.
--   assumes: equal leakage, kept limits
-- no two of them are one name
pub IsDistinct-first_names : (ns : List Name) → IsDistinct same_name (first_names ns)
unfolding IsDistinct
IsDistinct-first_names [] = tt
IsDistinct-first_names (n ∷ ns) = (others_differ n (first_names ns), IsDistinct-filter (λ other. not (same_name n other)) (first_names ns) (IsDistinct-first_names ns))

-- each name is among them
pub Contains-first_names : (ns : List Name) (n : Name) → Contains ns n → Contains (first_names ns) n
Contains-first_names [] n within = within
Contains-first_names (m ∷ ms) n within =
    ⊎_elim (λ (here : m ≡ n). subst (Contains (first_names (m ∷ ms))) here (Contains-head m rest)) (λ later. by (same_name m n) refl (Contains-first_names ms n later))
    (Contains-cases m ms n within)
  where
    rest : List Name
    rest = filter (λ other. not (same_name m other)) (first_names ms)

    by : (b : Bool) → same_name m n ≡ b → Contains (first_names ms) n → Contains (m ∷ rest) n
    by true is later = subst (Contains (m ∷ rest)) ((same_name-Decides m n).0 is) (Contains-head m rest)
    by false is later = Contains-cons m rest n (Contains-filter (λ other. not (same_name m other)) (first_names ms) n later (ap not is))

-- and no other
pub Contains-of_first_names : (ns : List Name) (n : Name) → Contains (first_names ns) n → Contains ns n
Contains-of_first_names [] n within = within
Contains-of_first_names (m ∷ ms) n within =
    let rest = filter (λ other. not (same_name m other)) (first_names ms) in
    ⊎_elim (λ (here : m ≡ n). subst (Contains (m ∷ ms)) here (Contains-head m ms))
    (λ later. Contains-cons m ms n (Contains-of_first_names ms n (Contains-of_filter (λ other. not (same_name m other)) (first_names ms) n later).0))
    (Contains-cases m rest n within)

-- Of a history.

-- whether the name is one of these
abbrev pub is_among : List Name → Name → Bool
is_among ns n = list_any (λ m. same_name m n) ns

-- behind names that differ stand those that aren't among them
pub first_names-append : (ns more : List Name) → IsDistinct same_name ns → first_names (ns ++ more) ≡ ns ++ filter (λ n. not (is_among ns n)) (first_names more)
unfolding IsDistinct
first_names-append [] more differ = sym (filter_none (is_among []) (first_names more) (none (first_names more)))
  where
    none : (ns : List Name) → AllByRecursion (λ n. is_among [] n ≡ false) ns
    none [] = tt
    none (n ∷ ns) = (refl, none ns)
first_names-append (n ∷ ns) more differ =
    let is_other = λ (other : Name). not (same_name n other) in
    let behind = filter (λ m. not (is_among ns m)) (first_names more) in
    ap (λ rest. n ∷ rest)
    (ap (filter is_other) (first_names-append ns more differ.1)
    ∙ filter-append is_other ns behind
    ∙ (λ i. filter_none (same_name n) ns differ.0 i ++ filter_twice (same_name n) (is_among ns) (first_names more) i))

-- Promise P154, also here
-- the names of a history are all that it draws, in that order, and then those that are looked up and weren't drawn
pub names-drawn : (o : Offsets) (run : Run) → IsHistory run
    → names o run ≡ flat_map (λ ns. ns) (drawn o run) ++ filter (λ n. not (is_among (flat_map (λ ns. ns) (drawn o run)) n)) (first_names (flat_map (λ ns. ns) (probed o run)))
names-drawn o run history =
    ap first_names (flat_map-append (λ ns. ns) (drawn o run) (probed o run))
    ∙ first_names-append (flat_map (λ ns. ns) (drawn o run)) (flat_map (λ ns. ns) (probed o run)) (drawn_once-history o run history)
