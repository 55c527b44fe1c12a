-- Where the other run uses names that differ, the relabelled table gives each the value of its own place.
use Rattle.std.proofs.Common.{◌≡◌, Bool, true, false, List, [], ◌∷◌, ◌++◌, map, refl, sym, ap, ◌∙◌}
use Rattle.std.specs.Prelude.{zip, if◌then◌else◌}
use Rattle.std.specs.List.{IsDistinct, AllByRecursion}
use Rattle.std.proofs.lemmas.Bool.{true≢false}
use Rattle.def_leakage.specs.Relabelled.{Use, value_for, value_among}
use Rattle.sse_model.proofs.SameName.{same_name-Decides}
use Rattle.sse_model.specs.Names.{Name, Table, same_name}
use Rattle.def_relabelling.specs.Paired.{Paired}

-- the table gives the second name the value of its own place
abbrev pub IsOwn : Table → Table → Use → Use → Type 0
IsOwn m t one other = m other.name ≡ value_for t one other

abbrev pub names_in_uses : List Use → List Name
names_in_uses us = map (λ (x : Use). x.name) us

pub same_name-self : (n : Name) → same_name n n ≡ true
same_name-self n = (same_name-Decides n n).1 refl

flipped : (a b : Name) → same_name b a ≡ false → same_name a b ≡ false
flipped a b e = by (same_name a b) refl
  where
    by : (r : Bool) → same_name a b ≡ r → same_name a b ≡ false
    by false is = is
    by true is = absurd (true≢false (sym ((same_name-Decides b a).1 (sym ((same_name-Decides a b).0 is))) ∙ e))

-- a name that isn't the first's is looked for among the others
skipped : (t : Table) (u v : Use) (pairs : List (Use × Use)) (us vs : List Use) → AllByRecursion (λ y. same_name v.name y ≡ false) (map (λ (x : Use). x.name) vs)
    → Paired (IsOwn (value_among t pairs) t) us vs → Paired (IsOwn (value_among t ((u, v) ∷ pairs)) t) us vs
skipped t u v pairs [] [] differ own = tt
skipped t u v pairs [] (y ∷ ys) differ own = absurd own
skipped t u v pairs (x ∷ xs) [] differ own = absurd own
skipped t u v pairs (x ∷ xs) (y ∷ ys) differ own = (
  ap (λ b. if b then value_for t u v else value_among t pairs y.name) (flipped y.name v.name differ.0) ∙ own.0,
  skipped t u v pairs xs ys differ.1 own.1,
)

pub own_values : (t : Table) (S : Use → Use → Type 0) (us vs : List Use) (more : List (Use × Use)) → Paired S us vs → IsDistinct same_name (names_in_uses vs)
    → Paired (IsOwn (value_among t (zip us vs ++ more)) t) us vs
unfolding IsDistinct
own_values t S [] [] more even differ = tt
own_values t S [] (v ∷ vs) more even differ = absurd even
own_values t S (u ∷ us) [] more even differ = absurd even
own_values t S (u ∷ us) (v ∷ vs) more even differ = (
  ap (λ b. if b then value_for t u v else value_among t (zip us vs ++ more) v.name) (same_name-self v.name),
  skipped t u v (zip us vs ++ more) us vs differ.0 (own_values t S us vs more even.1 differ.1),
)
