-- Each identifier that a search shows is shown once.
use Rattle.std.proofs.Common.{◌≡◌, ℕ, true, false, not, List, [], ◌∷◌, ◌++◌, map, sym, ap, ◌∙◌, subst, ⊎_elim, append_assoc}
use Rattle.std.specs.Prelude.{◌==◌}
use Rattle.std.specs.List.{AllByRecursion, IsDistinct}
use Rattle.std.proofs.lemmas.Bool.{or_parts, not-true}
use Rattle.std.proofs.lemmas.Bool.Decides.{Decides-eqb}
use Rattle.std.proofs.lemmas.Cmp.{nat_eq_equiv}
use Rattle.std.proofs.lemmas.List.{append-nil}
use Rattle.std.proofs.lemmas.List.Elements.{All-nil, All-cons, All-from_recursion}
use Rattle.client_registry.proofs.FromEnd.{from_end}
use Rattle.client_registry.proofs.LiveLaws.{among, is_listed-lists}
use Rattle.client_registry.proofs.OrderLaws.{AreApart, AreApart-from_IsDistinct, AreApart-map_filter}
use Rattle.client_registry.specs.Command.{Command, Add, Delete, Search}
use Rattle.client_registry.specs.Documents.{has_word, IsCollected}
use Rattle.client_registry.specs.Live.{is_listed, is_live_with, added_list}
use Rattle.client_registry.specs.Setup.{Setup, setup_list}
use Rattle.sse_model.proofs.Apart.{IsDistinct-filter, IsDistinct-append}
use Rattle.sse_model.proofs.Members.{Contains-of_filter}
use Rattle.def_agreement.proofs.Counted.{added-cases, added-delete, added-search}
use Rattle.def_agreement.specs.Agreement.{ShownOnce}

abbrev Differ : List ℕ → Type 0
Differ ids = IsDistinct (λ x y. x == y) ids

Differ-from_AreApart : (ids : List ℕ) → AreApart ids → Differ ids
unfolding IsDistinct
Differ-from_AreApart [] apart = tt
Differ-from_AreApart (id ∷ ids) apart = (each ids apart.0, Differ-from_AreApart ids apart.1)
  where
    each : (others : List ℕ) → among id others ≡ false → AllByRecursion (λ y. (id == y) ≡ false) others
    each [] none = tt
    each (y ∷ others) none =
        let parts = or_parts (y == id) (among id others) none in
        (nat_eq_equiv.symm id y ∙ parts.0, each others parts.1)

others : (id : ℕ) (ids : List ℕ) → among id ids ≡ false → AllByRecursion (λ y. not (y == id) ≡ true) ids
others id [] none = tt
others id (y ∷ ids) none = let parts = or_parts (y == id) (among id ids) none in (ap not parts.0, others id ids parts.1)

-- the identifiers that are listed for a word differ
listed_once : (s : Setup) (word : List ℕ) → IsCollected s.documents → (cs : List Command) → Differ (setup_list s word ++ added_list s cs word)
unfolding IsDistinct
listed_once s word collected = from_end (λ xs. Differ (setup_list s word ++ added_list s xs word)) start push
  where
    start : Differ (setup_list s word ++ [])
    start =
        subst Differ (sym (append-nil (setup_list s word)))
        (Differ-from_AreApart (setup_list s word) (AreApart-map_filter (λ d. d.id) (has_word word) s.documents (AreApart-from_IsDistinct (map (λ d. d.id) s.documents) collected.different)))

    push : (xs : List Command) (x : Command) → Differ (setup_list s word ++ added_list s xs word) → Differ (setup_list s word ++ added_list s (xs ++ x ∷ []) word)
    push xs x had = by x
      where
        both : List ℕ
        both = setup_list s word ++ added_list s xs word

        same : (y : Command) → added_list s (xs ++ y ∷ []) word ≡ added_list s xs word → Differ (setup_list s word ++ added_list s (xs ++ y ∷ []) word)
        same y e = subst (λ ids. Differ (setup_list s word ++ ids)) (sym e) had

        one_more : (id : ℕ) → among id both ≡ false → Differ (both ++ id ∷ [])
        one_more id new =
            IsDistinct-append (λ x y. x == y) Decides-eqb (λ y. not (y == id)) both (id ∷ []) (All-from_recursion (λ y. not (y == id) ≡ true) both (others id both new))
            (All-cons (λ y. not (y == id) ≡ false) id [] (ap not (nat_eq_equiv.refl id)) (All-nil (λ y. not (y == id) ≡ false))) had (tt, tt)

        by : (y : Command) → Differ (setup_list s word ++ added_list s (xs ++ y ∷ []) word)
        by (Add d) =
            ⊎_elim (same (Add d))
            (λ new.
            let fresh : is_listed s xs word d.id ≡ false = not-true (is_listed s xs word d.id) (Contains-of_filter (λ w. not (is_listed s xs w d.id)) d.words word new.1).1 in
            subst Differ (append_assoc (setup_list s word) (added_list s xs word) (d.id ∷ []) ∙ ap (λ ids. setup_list s word ++ ids) (sym new.0))
            (one_more d.id (sym (is_listed-lists s word d.id xs) ∙ fresh)))
            (added-cases s xs word d)
        by (Delete id) = same (Delete id) (added-delete s xs word id)
        by (Search other) = same (Search other) (added-search s xs word other)

-- Promise P149, also here
pub shown_once : ShownOnce
shown_once run word history =
    IsDistinct-filter (λ x y. x == y) Decides-eqb (is_live_with run.setup run.later word) (setup_list run.setup word ++ added_list run.setup run.later word)
    (listed_once run.setup word history.collected run.later)
