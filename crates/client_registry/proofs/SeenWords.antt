-- A loop over a list of words that keeps what it has seen.
use Rattle.std.proofs.Common.{◌≡◌, ℕ, ◌+◌, ◌<◌, Bool, true, false, cond, ◌||◌, List, [], ◌∷◌, ◌++◌, length, take, drop, map, get_or, refl, sym, ap, ◌∙◌, arith}
use Rattle.std.specs.List.{list_any}
use Rattle.std.specs.Str.{bytes_eq}
use Rattle.std.proofs.lemmas.Cmp.{nat_list_eq_equiv}
use Rattle.std.proofs.lemmas.List.{length-map, map_more, map-append, take-append-drop, length-take-le}
use Rattle.std.proofs.lemmas.List.Folds.{list_any-append}

or_last : (a b : Bool) → cond b true a ≡ (a || (b || false))
or_last true true = refl
or_last true false = refl
or_last false true = refl
or_last false false = refl

-- what a set has after a word is inserted, where it had the words before
pub list_any-push : (q w : List ℕ) (front : List (List ℕ)) (had : Bool) → had ≡ list_any (bytes_eq q) front → cond (bytes_eq w q) true had ≡ list_any (bytes_eq q) (front ++ w ∷ [])
list_any-push q w front had e =
    or_last had (bytes_eq w q)
    ∙ ap (λ b. had || (b || false)) (nat_list_eq_equiv.symm w q)
    ∙ ap (λ b. b || (bytes_eq q w || false)) e
    ∙ sym (list_any-append (bytes_eq q) front (w ∷ []))

module _ {X : Type 0} (f : X → List ℕ) (xs : List X) (i : ℕ) (x : X) (w : List ℕ) (within : i < length xs) (at : x ≡ get_or xs i x) (is : w ≡ f x) where
  -- the word at i after those before it
  pub front_more : map f (take (i + 1) xs) ≡ map f (take i xs) ++ w ∷ []
  front_more = map_more f xs i x within ∙ ap (λ y. map f (take i xs) ++ f y ∷ []) (sym at) ∙ ap (λ v. map f (take i xs) ++ v ∷ []) (sym is)

  -- and all of them
  pub front_and_rest : map f xs ≡ map f (take i xs) ++ w ∷ [] ++ map f (drop (i + 1) xs)
  front_and_rest =
      ap (map f) (sym (take-append-drop (i + 1) xs))
      ∙ map-append f (take (i + 1) xs) (drop (i + 1) xs)
      ∙ ap (λ front. front ++ map f (drop (i + 1) xs)) front_more

  pub length_front : length (map f (take i xs)) ≡ i
  length_front = length-map (take i xs) f ∙ length-take-le i xs (omega arith)
