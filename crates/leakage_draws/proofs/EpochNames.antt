-- The names that a history uses are those of its epochs, one epoch after another: names of two epochs differ.
use Rattle.std.proofs.Common.{◌≡◌, ◌≢◌, ◌≤◌, Bool, true, false, cond, not, List, [], ◌∷◌, ◌++◌, filter, refl, ap, ◌∙◌, arith, ⊎_elim}
use Rattle.std.specs.Prelude.{Contains}
use Rattle.std.proofs.lemmas.List.Elements.{Contains-append_cases, filter-append}
use Rattle.client_registry.specs.Epochs.{begins, joined, next_begins}
use Rattle.client_registry.specs.Run.{Epochs, From, Renewed}
use Rattle.def_comparison.proofs.UsedNames.{Contains-of_first_names}
use Rattle.def_comparison.specs.UsedNames.{all_names, first_names, names}
use Rattle.def_relabelling.proofs.OwnEpoch.{own_names}
use Rattle.def_relabelling.specs.Comparison.{names_in}
use Rattle.def_relabelling.specs.Histories.{all_names_in}
use Rattle.sse_model.proofs.Members.{Contains-cons, Contains-head}
use Rattle.sse_model.proofs.SameName.{same_name-Decides}
use Rattle.sse_model.specs.Names.{Name, same_name}

-- no name is in both lists
abbrev AreApart : List Name → List Name → Type 0
AreApart xs ys = (x y : Name) → Contains xs x → Contains ys y → x ≢ y

-- a filter for names other than one drops none of others
others_stay : (x : Name) (ys : List Name) → ((y : Name) → Contains ys y → x ≢ y) → filter (λ other. not (same_name x other)) ys ≡ ys
others_stay x [] differ = refl
others_stay x (y ∷ ys) differ = by (same_name x y) refl (others_stay x ys (λ z within. differ z (Contains-cons y ys z within)))
  where
    rest : List Name
    rest = filter (λ other. not (same_name x other)) ys

    by : (b : Bool) → same_name x y ≡ b → rest ≡ ys → cond (not b) (y ∷ rest) rest ≡ y ∷ ys
    by true is same = absurd (differ y (Contains-head y ys) ((same_name-Decides x y).0 is))
    by false is same = ap (λ zs. y ∷ zs) same

-- names by first appearance of two lists that have none in common
first_names-apart : (xs ys : List Name) → AreApart xs ys → first_names (xs ++ ys) ≡ first_names xs ++ first_names ys
first_names-apart [] ys apart = refl
first_names-apart (x ∷ xs) ys apart =
    let is_other = λ (other : Name). not (same_name x other) in
    ap (λ ns. x ∷ filter is_other ns) (first_names-apart xs ys (λ a b within within2. apart a b (Contains-cons x xs a within) within2))
    ∙ ap (λ ns. x ∷ ns)
    (filter-append is_other (first_names xs) (first_names ys)
    ∙ ap (λ ns. filter is_other (first_names xs) ++ ns)
    (others_stay x (first_names ys) (λ y within. apart x y (Contains-head x xs) (Contains-of_first_names ys y within))))

-- each name is of one of the epochs
of_epochs : (es : Epochs) (n : Name) → Contains (all_names_in es) n → n.epoch ≤ (begins es).epoch
of_epochs (From o run) n within = omega (arith, own_names o run n within)
of_epochs (Renewed before key run) n within =
    ⊎_elim (λ (first : Contains (all_names_in before) n). let le : n.epoch ≤ (begins before).epoch = of_epochs before n first in omega (arith, le))
    (λ (later : Contains (all_names (next_begins before) run) n). omega (arith, own_names (next_begins before) run n later))
    (Contains-append_cases (all_names_in before) (all_names (next_begins before) run) n within)

-- so each epoch's names stand behind those of the epochs before
pub names_in-epochs : (es : Epochs) → names_in es ≡ joined (λ key o run. names o run) [] es
names_in-epochs (From o run) = refl
names_in-epochs (Renewed before key run) =
    first_names-apart (all_names_in before) (all_names (next_begins before) run)
    (λ a b within within2 same.
    let le : a.epoch ≤ (begins before).epoch = of_epochs before a within in
    omega (arith, le, own_names (next_begins before) run b within2, ap (λ (n : Name). n.epoch) same))
    ∙ ap (λ front. front ++ names (next_begins before) run) (names_in-epochs before)
