-- The laws of `over`: joining, prefix, independence.
use Rattle.std.proofs.Common.{◌≡◌, ℕ, zero, suc, Bool, true, false, cond, List, [], ◌∷◌, ◌++◌, length, take, filter, refl, sym, ap, ◌∙◌, append_assoc}
use Rattle.std.specs.Prelude.{flat_map}
use Rattle.std.proofs.lemmas.List.{append-nil}
use Rattle.std.proofs.lemmas.List.Elements.{filter-append}
use Rattle.client_registry.specs.Over.{over, kept_by}

module _ {A B : Type 0} (f : List A → A → B) where
  -- the results of a list and another after it are those of both, the second with the first in its past
  pub over-append : (past xs ys : List A) → over f past (xs ++ ys) ≡ over f past xs ++ over f (past ++ xs) ys
  over-append past [] ys = ap (λ before. over f before ys) (sym (append-nil past))
  over-append past (x ∷ xs) ys =
      ap (λ rest. f past x ∷ rest) (over-append (past ++ x ∷ []) xs ys ∙ ap (λ before. over f (past ++ x ∷ []) xs ++ over f before ys) (append_assoc past (x ∷ []) xs))

  -- the first results are those of the first items
  pub take-over : (n : ℕ) (past xs : List A) → take n (over f past xs) ≡ over f past (take n xs)
  take-over zero past xs = refl
  take-over (suc n) past [] = refl
  take-over (suc n) past (x ∷ xs) = ap (λ rest. f past x ∷ rest) (take-over n (past ++ x ∷ []) xs)

  -- one result for each item
  pub length-over : (past xs : List A) → length (over f past xs) ≡ length xs
  length-over past [] = refl
  length-over past (x ∷ xs) = ap (λ n. suc n) (length-over (past ++ x ∷ []) xs)

  module _ (keep : A → Bool) (same : (past : List A) (x : A) → keep x ≡ true → f (filter keep past) x ≡ f past x) where
    filter-push : (past : List A) (x : A) (b : Bool) → keep x ≡ b → filter keep (past ++ x ∷ []) ≡ filter keep past ++ cond b (x ∷ []) []
    filter-push past x b e = filter-append keep past (x ∷ []) ∙ ap (λ t. filter keep past ++ cond t (x ∷ []) []) e

    -- where the dropped items of the past change no result, the results of the kept items are the kept results
    pub over-filter : (past xs : List A) → over f (filter keep past) (filter keep xs) ≡ kept_by keep xs (over f past xs)
    over-filter past [] = refl
    over-filter past (x ∷ xs) = by (keep x) refl (over-filter (past ++ x ∷ []) xs)
      where
        rest : List B
        rest = over f (past ++ x ∷ []) xs

        by : (b : Bool) → keep x ≡ b → over f (filter keep (past ++ x ∷ [])) (filter keep xs) ≡ kept_by keep xs rest
            → over f (filter keep past) (cond b (x ∷ filter keep xs) (filter keep xs)) ≡ cond b (f past x ∷ kept_by keep xs rest) (kept_by keep xs rest)
        by true e h = λ i. same past x e i ∷ (ap (λ before. over f before (filter keep xs)) (sym (filter-push past x true e)) ∙ h) i
        by false e h = ap (λ before. over f before (filter keep xs)) (sym (filter-push past x false e ∙ append-nil (filter keep past))) ∙ h

module _ {A B : Type 0} (f : List A → A → List B) (keep : A → Bool) (same : (past : List A) (x : A) → keep x ≡ true → f (filter keep past) x ≡ f past x) (nothing : (past : List A) (x : A) → keep x ≡ false → f past x ≡ []) where
  -- where the dropped items have no result either, all results together are the same
  pub flat-over-filter : (past xs : List A) → flat_map (λ r. r) (over f (filter keep past) (filter keep xs)) ≡ flat_map (λ r. r) (over f past xs)
  flat-over-filter past xs = ap (flat_map (λ r. r)) (over-filter f keep same past xs) ∙ flat past xs
    where
      flat : (before ys : List A) → flat_map (λ r. r) (kept_by keep ys (over f before ys)) ≡ flat_map (λ r. r) (over f before ys)
      flat before [] = refl
      flat before (y ∷ ys) = by (keep y) refl (flat (before ++ y ∷ []) ys)
        where
          rest : List (List B)
          rest = over f (before ++ y ∷ []) ys

          by : (b : Bool) → keep y ≡ b → flat_map (λ r. r) (kept_by keep ys rest) ≡ flat_map (λ r. r) rest
              → flat_map (λ r. r) (cond b (f before y ∷ kept_by keep ys rest) (kept_by keep ys rest)) ≡ f before y ++ flat_map (λ r. r) rest
          by true e h = ap (λ r. f before y ++ r) h
          by false e h = h ∙ ap (λ r. r ++ flat_map (λ r. r) rest) (sym (nothing before y e))
