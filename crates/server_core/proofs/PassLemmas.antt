-- A search that passes identifiers of the list that comes: what it has handed out, and what still comes.
use Rattle.std.proofs.Common.{◌≡◌, ℕ, zero, suc, ◌+◌, ◌-◌, ◌<◌, ◌≤◌, Bool, true, cond, get_or, List, [], ◌∷◌, ◌++◌, length, drop, take, Option, Some, None, refl, sym, ap, ◌∙◌, arith}
use Rattle.std.specs.List.{filter}
use Rattle.std.specs.Option.{option_map}
use Rattle.std.proofs.Math.Seq.{drop-append-add}
use Rattle.std.proofs.lemmas.List.{drop-append-le, drop-drop, take-append-drop, append_assoc, append-nil}
use Rattle.std.proofs.lemmas.List.Elements.{filter-append}
use Rattle.two_level.specs.Opened.{joined}
use Rattle.server_core.proofs.SearchLemmas.{joined-joined}

drop_at : (n : ℕ) (xs : List ℕ) → n < length xs → drop n xs ≡ get_or xs n 0 ∷ drop (suc n) xs
drop_at n [] lt = absurd (omega arith)
drop_at zero (x ∷ xs) lt = refl
drop_at (suc n) (x ∷ xs) lt = drop_at n xs (omega arith)

pub at-drop : (k n : ℕ) (xs : List ℕ) → get_or (drop k xs) n 0 ≡ get_or xs (k + n) 0
at-drop zero n xs = let e : n ≡ 0 + n = omega arith in ap (λ m. get_or xs m 0) e
at-drop (suc k) n [] = refl
at-drop (suc k) n (x ∷ xs) = at-drop k n xs ∙ (let e : suc k + n ≡ suc (k + n) = omega arith in ap (λ m. get_or (x ∷ xs) m 0) (sym e))

module _ (p : ℕ → Bool) where
  -- what still comes of a list of which so many were passed
  abbrev pub still : Option (List ℕ) → ℕ → Option (List ℕ)
  still o k = option_map (λ ids. filter p (drop k ids)) o

  parts : (xs ys : List ℕ) (k q : ℕ) → k + q ≤ length xs → drop k (xs ++ ys) ≡ take q (drop k xs) ++ drop (k + q) (xs ++ ys)
  parts xs ys k q fits =
      drop-append-le k xs ys (omega (arith, fits))
      ∙ ap (λ l. l ++ ys) (sym (take-append-drop q (drop k xs)))
      ∙ append_assoc (take q (drop k xs)) (drop q (drop k xs)) ys
      ∙ ap (λ l. take q (drop k xs) ++ l) (ap (λ l. l ++ ys) (drop-drop q k xs) ∙ sym (drop-append-le (k + q) xs ys fits))

  -- some of the identifiers of a place are passed
  pub com-part : (xs : List ℕ) (o later : Option (List ℕ)) (k q : ℕ) → o ≡ joined (Some xs) later → k + q ≤ length xs → still o k ≡ joined (Some (filter p (take q (drop k xs)))) (still o (k + q))
  com-part xs o None k q is fits = ap (λ a. still a k) is ∙ ap (λ a. joined (Some (filter p (take q (drop k xs)))) (still a (k + q))) (sym is)
  com-part xs o (Some ys) k q is fits =
      ap (λ a. still a k) is
      ∙ ap (λ l. Some l) (ap (filter p) (parts xs ys k q fits) ∙ filter-append p (take q (drop k xs)) (drop (k + q) (xs ++ ys)))
      ∙ ap (λ a. joined (Some (filter p (take q (drop k xs)))) (still a (k + q))) (sym is)

  -- all of them were
  pub com-behind : (xs : List ℕ) (o later : Option (List ℕ)) (k : ℕ) → o ≡ joined (Some xs) later → length xs ≤ k → still o k ≡ still later (k - length xs)
  com-behind xs o None k is past = ap (λ a. still a k) is
  com-behind xs o (Some ys) k is past =
      let sum : k ≡ length xs + (k - length xs) = omega arith in
      ap (λ a. still a k) is ∙ ap (λ l. Some (filter p l)) (ap (λ n. drop n (xs ++ ys)) sum ∙ drop-append-add xs ys (k - length xs))

  -- the rest of them is
  pub com-rest : (xs : List ℕ) (o later : Option (List ℕ)) (k q : ℕ) → o ≡ joined (Some xs) later → k + q ≡ length xs → still o k ≡ joined (Some (filter p (take q (drop k xs)))) (still later 0)
  com-rest xs o later k q is whole =
      let none : k + q - length xs ≡ 0 = omega (arith, whole) in
      com-part xs o later k q is (omega (arith, whole))
      ∙ ap (joined (Some (filter p (take q (drop k xs))))) (com-behind xs o later (k + q) is (omega (arith, whole)) ∙ ap (still later) none)

  -- the next identifier is shown, so something comes
  pub com-stops : (xs : List ℕ) (o later : Option (List ℕ)) (n : ℕ) → o ≡ joined (Some xs) later → n < length xs → p (get_or xs n 0) ≡ true → still o n ≡ Some [] → ⊥
  com-stops xs o None n is lt this none = let no : None ≡ Some [] = sym (ap (λ a. still a n) is) ∙ none in cc
  com-stops xs o (Some ys) n is lt this none =
      let front = drop-append-le n xs ys (omega (arith, lt)) ∙ ap (λ l. l ++ ys) (drop_at n xs lt) in
      let some : Some (filter p (get_or xs n 0 ∷ (drop (suc n) xs ++ ys))) ≡ Some [] = sym (ap (λ a. still a n) is ∙ ap (λ l. Some (filter p l)) front) ∙ none in
      let first : Some (get_or xs n 0 ∷ filter p (drop (suc n) xs ++ ys)) ≡ Some [] = sym (ap (λ b. Some (cond b (get_or xs n 0 ∷ filter p (drop (suc n) xs ++ ys)) (filter p (drop (suc n) xs ++ ys)))) this) ∙ some in
      cc

  -- what was handed out and what still comes is all that came: up to inside a place
  pub handed-part : (total : Option (List ℕ)) (front all xs : List ℕ) (o later : Option (List ℕ)) (k q start : ℕ) → total ≡ joined (Some front) (still o k) → o ≡ joined (Some xs) later → start ≡ k → start + q ≤ length xs → all ≡ front ++ filter p (take q (drop start xs)) → total ≡ joined (Some all) (still o (start + q))
  handed-part total front all xs o later k q start before is same fits piece =
      before ∙ ap (λ n. joined (Some front) (still o n)) (sym same)
      ∙ ap (joined (Some front)) (com-part xs o later start q is fits)
      ∙ joined-joined front (filter p (take q (drop start xs))) (still o (start + q))
      ∙ ap (λ l. joined (Some l) (still o (start + q))) (sym piece)

  -- to the end of one
  pub handed-rest : (total : Option (List ℕ)) (front all xs : List ℕ) (o later : Option (List ℕ)) (k q start : ℕ) → total ≡ joined (Some front) (still o k) → o ≡ joined (Some xs) later → start ≡ k → start + q ≡ length xs → all ≡ front ++ filter p (take q (drop start xs)) → total ≡ joined (Some all) (still later (k - start))
  handed-rest total front all xs o later k q start before is same whole piece =
      let none : 0 ≡ k - start = omega (arith, same) in
      before ∙ ap (λ n. joined (Some front) (still o n)) (sym same)
      ∙ ap (joined (Some front)) (com-rest xs o later start q is whole)
      ∙ joined-joined front (filter p (take q (drop start xs))) (still later 0)
      ∙ (λ i. joined (Some (sym piece i)) (still later (none i)))

  -- past one
  pub handed-past : (total : Option (List ℕ)) (front all xs : List ℕ) (o later : Option (List ℕ)) (k q start : ℕ) → total ≡ joined (Some front) (still o k) → o ≡ joined (Some xs) later → start ≡ length xs → length xs ≤ k → start + q ≡ length xs → all ≡ front ++ filter p (take q (drop start xs)) → total ≡ joined (Some all) (still later (k - start))
  handed-past total front all xs o later k q start before is same past whole piece =
      let none : q ≡ 0 = omega (arith, same, whole) in
      let same_all : all ≡ front = piece ∙ ap (λ n. front ++ filter p (take n (drop start xs))) none ∙ append-nil front in
      before ∙ ap (joined (Some front)) (com-behind xs o later k is past)
      ∙ (λ i. joined (Some (sym same_all i)) (still later (k - sym same i)))
