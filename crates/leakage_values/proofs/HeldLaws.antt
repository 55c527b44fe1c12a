-- A table that has certain names' values, with one more; and what it gives the names of a history.
use Rattle.std.proofs.Common.{◌≡◌, ◌≢◌, ℕ, Bool, true, false, ◌||◌, List, [], ◌∷◌, ◌++◌, map, None, Some, is_some, refl, sym, ap, ◌∙◌, subst}
use Rattle.std.specs.Prelude.{Contains, if◌then◌else◌}
use Rattle.std.specs.List.{list_any}
use Rattle.std.specs.Cmp.Lexicographic.{same_text}
use Rattle.std.proofs.lemmas.Bool.{true≢false}
use Rattle.std.proofs.lemmas.Cmp.{nat_list_eq_equiv}
use Rattle.std.proofs.lemmas.List.Folds.{list_any-append, list_any_at}
use Rattle.leakage_values.specs.NamesOnce.{Marks, same_numbers}
use Rattle.leakage_names.proofs.SheetLaws.{same_key}
use Rattle.leakage_names.specs.Keys.{key_of}
use Rattle.leakage_names.specs.Sheets.{Values, value_at}
use Rattle.leakage_names.specs.declared.name.Name.{Name}
use Rattle.sse_model.proofs.Members.{Contains-map}
use Rattle.sse_model.specs.Names as model
use Rattle.leakage_values.specs.Held.{Holds}

or_false : (b : Bool) → (b || false) ≡ b
or_false true = refl
or_false false = refl

or_true : (b : Bool) → (b || true) ≡ true
or_true true = refl
or_true false = refl

-- one value more
pub holds_one : (old new : Values) (names : List Name) (value : Name → List ℕ) (name : Name) → Holds old names value
    → value_at new name ≡ Some (value name) → ((other : Name) → other ≢ name → value_at new other ≡ value_at old other)
    → Holds new (names ++ name ∷ []) value
holds_one old new names value name had given others n =
    by (same_numbers n name) refl
    ∙ sym (ap (λ b. if b then Some (value n) else None) (list_any-append (same_numbers n) names (name ∷ [])))
  where
    by : (b : Bool) → same_numbers n name ≡ b → value_at new n ≡ (if list_any (same_numbers n) names || (same_numbers n name || false) then Some (value n) else None)
    by true is =
        let same : n ≡ name = same_key n name (same_text (key_of n) (key_of name) (sym is)) in
        ap (value_at new) same ∙ given ∙ ap (λ m. Some (value m)) (sym same)
        ∙ sym (ap (λ b. if list_any (same_numbers n) names || (b || false) then Some (value n) else None) is
        ∙ ap (λ b. if b then Some (value n) else None) (or_true (list_any (same_numbers n) names)))
    by false is =
        others n (λ same. true≢false (sym (nat_list_eq_equiv.refl (key_of n)) ∙ ap (same_numbers n) same ∙ is))
        ∙ had n
        ∙ sym (ap (λ b. if list_any (same_numbers n) names || (b || false) then Some (value n) else None) is
        ∙ ap (λ b. if b then Some (value n) else None) (or_false (list_any (same_numbers n) names)))

-- it has a value for each of the names and for no other
pub marks : (sheet : Values) (names : List Name) (value : Name → List ℕ) → Holds sheet names value → Marks sheet names
marks sheet names value holds n = ap is_some (holds n) ∙ by (list_any (same_numbers n) names)
  where
    by : (b : Bool) → is_some (if b then Some (value n) else None) ≡ b
    by true = refl
    by false = refl

-- the value of one of the names
pub held : (sheet : Values) (names : List Name) (value : Name → List ℕ) (f : model.Name → Name) (used : List model.Name) → Holds sheet names value → names ≡ map f used
    → (n : model.Name) → Contains used n → value_at sheet (f n) ≡ Some (value (f n))
held sheet names value f used holds are n within =
    let here = subst (λ ns. Contains ns (f n)) (sym are) (Contains-map f used n within) in
    holds (f n)
    ∙ ap (λ b. if b then Some (value (f n)) else None)
    (list_any_at (same_numbers (f n)) names here.0 (f n) here.1 (ap (same_numbers (f n)) here.2 ∙ nat_list_eq_equiv.refl (key_of (f n))))
