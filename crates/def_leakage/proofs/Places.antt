-- Items at places, and what came first.
use Rattle.std.proofs.Common.{◌≡◌, ℕ, zero, suc, ◌+◌, Bool, true, false, ◌||◌, List, [], ◌∷◌, ◌++◌, length, map, refl, sym, ap, ◌∙◌, arith, Some, None}
use Rattle.std.specs.Prelude.{Option, bytes_eq, if◌then◌else◌, option_map}
use Rattle.std.specs.List.{list_any, slice_get}
use Rattle.std.specs.Option.{option_or}
use Rattle.std.specs.Cmp.Lexicographic.{same_text}
use Rattle.std.proofs.lemmas.Bool.{true≢false}
use Rattle.client_registry.proofs.OverLaws.{over-append, length-over}
use Rattle.client_registry.specs.Command.{Command}
use Rattle.def_leakage.specs.Firsts.{origin, first_place, earliest, place_where, place_of}
use Rattle.client_registry.specs.Over.{over}
use Rattle.client_registry.specs.Run.{Offsets}
use Rattle.sse_simulator.specs.Leaks.{Origin}

pub none_is_some : {A B : Type 0} (x : A) → None ≡ Some x → B
none_is_some x e = absurd (let no : None ≡ Some x = e in cc)

-- an item stays where it is
pub slice_get-append : {A : Type 0} (xs ys : List A) (i : ℕ) (x : A) → slice_get xs i ≡ Some x → slice_get (xs ++ ys) i ≡ Some x
slice_get-append [] ys i x e = none_is_some x e
slice_get-append (y ∷ xs) ys zero x e = e
slice_get-append (y ∷ xs) ys (suc i) x e = slice_get-append xs ys i x e

-- and one more stands after
pub slice_get-behind : {A : Type 0} (xs : List A) (y : A) → slice_get (xs ++ y ∷ []) (length xs) ≡ Some y
slice_get-behind [] y = refl
slice_get-behind (x ∷ xs) y = slice_get-behind xs y

-- the result of a word stands at the word's place
pub slice_get-place_of : {A : Type 0} (g : List ℕ → A) (word : List ℕ) (words : List (List ℕ)) → list_any (bytes_eq word) words ≡ true → slice_get (map g words) (place_of word words) ≡ Some (g word)
slice_get-place_of g word [] h = absurd (true≢false (sym h))
slice_get-place_of {A} g word (w ∷ ws) h = by (λ rest. slice_get-place_of g word ws rest) (bytes_eq word w) refl h
  where
    by : (list_any (bytes_eq word) ws ≡ true → slice_get (map g ws) (place_of word ws) ≡ Some (g word)) → (b : Bool) → bytes_eq word w ≡ b → (b || list_any (bytes_eq word) ws) ≡ true → slice_get (g w ∷ map g ws) (if b then 0 else suc (place_of word ws)) ≡ Some (g word)
    by had true e h = ap (λ x. Some (g x)) (sym (same_text word w (sym e)))
    by had false e h = had h

-- What came first.

pub first_place-push : (k : ℕ) (xs : List (Option ℕ)) (m : Option ℕ) → first_place k (xs ++ m ∷ []) ≡ option_or (first_place k xs) (option_map (origin (k + length xs)) m)
first_place-push k [] None = refl
first_place-push k [] (Some place) = ap (λ n. Some (origin n place)) (let e : k ≡ k + 0 = omega arith in e)
first_place-push k (None ∷ xs) m =
    first_place-push (k + 1) xs m ∙ ap (λ n. option_or (first_place (k + 1) xs) (option_map (origin n) m)) (let e : k + 1 + length xs ≡ k + suc (length xs) = omega arith in e)
first_place-push k (Some place ∷ xs) m = refl

pub earliest-push : (o : Offsets) (f : List Command → Command → Option ℕ) (past : List Command) (c : Command)
    → earliest o f (past ++ c ∷ []) ≡ option_or (earliest o f past) (option_map (origin (o.command + 1 + length past)) (f past c))
earliest-push o f past c =
    ap (first_place (o.command + 1)) (over-append f [] past (c ∷ []))
    ∙ first_place-push (o.command + 1) (over f [] past) (f past c)
    ∙ ap (λ n. option_or (earliest o f past) (option_map (origin (o.command + 1 + n)) (f past c))) (length-over f [] past)

-- none came where no command passes, and one where one does
pub first_place-passes : (word : List ℕ) (g : List Command → Command → Bool) (words : List Command → Command → List (List ℕ)) (k : ℕ) (past xs : List Command)
    → first_place k (over (λ before c. place_where (g before c) word (words before c)) past xs) ≡ None → list_any (λ passes. passes) (over g past xs) ≡ false
first_place-passes word g words k past [] e = refl
first_place-passes word g words k past (x ∷ xs) e = by (first_place-passes word g words (k + 1) (past ++ x ∷ []) xs) (g past x) e
  where
    by : (first_place (k + 1) (over (λ before c. place_where (g before c) word (words before c)) (past ++ x ∷ []) xs) ≡ None → list_any (λ passes. passes) (over g (past ++ x ∷ []) xs) ≡ false) → (b : Bool) → first_place k (place_where b word (words past x) ∷ over (λ before c. place_where (g before c) word (words before c)) (past ++ x ∷ []) xs) ≡ None
        → (b || list_any (λ passes. passes) (over g (past ++ x ∷ []) xs)) ≡ false
    by had true e = none_is_some (origin k (place_of word (words past x))) (sym e)
    by had false e = had e

pub first_place-some : (word : List ℕ) (g : List Command → Command → Bool) (words : List Command → Command → List (List ℕ)) (k : ℕ) (past xs : List Command) (first : Origin)
    → first_place k (over (λ before c. place_where (g before c) word (words before c)) past xs) ≡ Some first → list_any (λ passes. passes) (over g past xs) ≡ true
first_place-some word g words k past [] first e = none_is_some first e
first_place-some word g words k past (x ∷ xs) first e = by (first_place-some word g words (k + 1) (past ++ x ∷ []) xs first) (g past x) e
  where
    by : (first_place (k + 1) (over (λ before c. place_where (g before c) word (words before c)) (past ++ x ∷ []) xs) ≡ Some first → list_any (λ passes. passes) (over g (past ++ x ∷ []) xs) ≡ true) → (b : Bool) → first_place k (place_where b word (words past x) ∷ over (λ before c. place_where (g before c) word (words before c)) (past ++ x ∷ []) xs) ≡ Some first
        → (b || list_any (λ passes. passes) (over g (past ++ x ∷ []) xs)) ≡ true
    by had true e = refl
    by had false e = had e
