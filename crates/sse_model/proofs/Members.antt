-- Members of lists: of a list with one more in front, mapped, filtered and joined.
use Rattle.std.proofs.Common.{◌≡◌, ℕ, Bool, true, false, cond, List, [], ◌∷◌, map, filter, refl, sym, ap, ◌∙◌, subst, inl, inr, ⊎_elim, ◌⊎◌, arith}
use Rattle.std.specs.Prelude.{Contains, flat_map, bytes_eq}
use Rattle.std.specs.List.{list_any, AllByRecursion}
use Rattle.std.specs.Cmp.Lexicographic.{same_text}
use Rattle.std.proofs.lemmas.Bool.{or_cases, true≢false}
use Rattle.std.proofs.lemmas.List.{length-map, get_or-map}
use Rattle.std.proofs.lemmas.List.Elements.{Contains-append_left, Contains-append_right, Contains-append_cases, Contains-push, Contains-push_cases}

-- a list's first is a member
pub Contains-head : {X : Type 0} (x : X) (xs : List X) → Contains (x ∷ xs) x
Contains-head x xs = Contains-append_left (x ∷ []) xs x (Contains-push [] x)

-- and each of the rest
pub Contains-cons : {X : Type 0} (y : X) (xs : List X) (x : X) → Contains xs x → Contains (y ∷ xs) x
Contains-cons y xs x within = Contains-append_right (y ∷ []) xs x within

-- the empty list has none
pub Contains-nil : {X : Type 0} (x : X) → Contains [] x → ⊥
Contains-nil x within = omega (arith, within.1)

-- a member is the first or one of the rest
pub Contains-cases : {X : Type 0} (y : X) (xs : List X) (x : X) → Contains (y ∷ xs) x → (y ≡ x) ⊎ Contains xs x
Contains-cases y xs x within =
    ⊎_elim (λ first. ⊎_elim (λ none. absurd (Contains-nil x none)) (λ same. inl same) (Contains-push_cases [] y x first)) (λ rest. inr rest)
    (Contains-append_cases (y ∷ []) xs x within)

-- what holds of each member holds of all
pub AllByRecursion-from_members : {X : Type 0} (P : X → Type 0) (xs : List X) → ((x : X) → Contains xs x → P x) → AllByRecursion P xs
AllByRecursion-from_members P [] each = tt
AllByRecursion-from_members P (x ∷ xs) each = (each x (Contains-head x xs), AllByRecursion-from_members P xs (λ y within. each y (Contains-cons x xs y within)))

-- the result of a member is one of the results
pub Contains-map : {X Y : Type 0} (f : X → Y) (xs : List X) (x : X) → Contains xs x → Contains (map f xs) (f x)
Contains-map f xs x within = (within.0, omega (arith, length-map xs f, within.1), get_or-map f xs within.0 x (f x) within.1 ∙ ap f within.2)

-- a member that passes is kept by a filter
pub Contains-filter : {X : Type 0} (p : X → Bool) (xs : List X) (x : X) → Contains xs x → p x ≡ true → Contains (filter p xs) x
Contains-filter p [] x within passes = absurd (Contains-nil x within)
Contains-filter {X} p (y ∷ ys) x within passes = by (p y) refl (λ rest. Contains-filter p ys x rest passes) (Contains-cases y ys x within)
  where
    by : (b : Bool) → p y ≡ b → (Contains ys x → Contains (filter p ys) x) → (y ≡ x) ⊎ Contains ys x → Contains (cond b (y ∷ filter p ys) (filter p ys)) x
    by true e later (inl same) = subst (Contains (y ∷ filter p ys)) same (Contains-head y (filter p ys))
    by true e later (inr rest) = Contains-cons y (filter p ys) x (later rest)
    by false e later (inl same) = absurd (true≢false (sym passes ∙ ap p (sym same) ∙ e))
    by false e later (inr rest) = later rest

-- and back: what a filter keeps was a member, and passes
pub Contains-of_filter : {X : Type 0} (p : X → Bool) (xs : List X) (x : X) → Contains (filter p xs) x → Contains xs x × (p x ≡ true)
Contains-of_filter p [] x within = absurd (Contains-nil x within)
Contains-of_filter {X} p (y ∷ ys) x within = by (p y) refl (λ later. Contains-of_filter p ys x later) within
  where
    by : (b : Bool) → p y ≡ b → (Contains (filter p ys) x → Contains ys x × (p x ≡ true)) → Contains (cond b (y ∷ filter p ys) (filter p ys)) x → Contains (y ∷ ys) x × (p x ≡ true)
    by true e later h =
        ⊎_elim (λ (same : y ≡ x). (subst (Contains (y ∷ ys)) same (Contains-head y ys), ap p (sym same) ∙ e))
        (λ rest. (Contains-cons y ys x (later rest).0, (later rest).1)) (Contains-cases y (filter p ys) x h)
    by false e later h = (Contains-cons y ys x (later h).0, (later h).1)

-- a member of a member's list is one of the lists joined
pub Contains-flat_map : {X Y : Type 0} (f : X → List Y) (xs : List X) (x : X) (y : Y) → Contains xs x → Contains (f x) y → Contains (flat_map f xs) y
Contains-flat_map f [] x y within here = absurd (Contains-nil x within)
Contains-flat_map f (z ∷ zs) x y within here =
    ⊎_elim (λ (same : z ≡ x). Contains-append_left (f z) (flat_map f zs) y (subst (λ w. Contains (f w) y) (sym same) here))
    (λ rest. Contains-append_right (f z) (flat_map f zs) y (Contains-flat_map f zs x y rest here)) (Contains-cases z zs x within)

-- a word that stands among these is a member
pub Contains-from_list_any : (word : List ℕ) (words : List (List ℕ)) → list_any (bytes_eq word) words ≡ true → Contains words word
Contains-from_list_any word [] h = absurd (true≢false (sym h))
Contains-from_list_any word (w ∷ ws) h =
    ⊎_elim (λ (here : bytes_eq word w ≡ true). subst (Contains (w ∷ ws)) (sym (same_text word w (sym here))) (Contains-head w ws))
    (λ rest. Contains-cons w ws word (Contains-from_list_any word ws rest)) (or_cases (bytes_eq word w) (list_any (bytes_eq word) ws) h)
