-- What is gathered from different words, where their order doesn't matter.
use Rattle.std.proofs.Common.{◌≡◌, ℕ, Bool, true, false, cond, not, ◌&&◌, ◌||◌, List, [], ◌∷◌, filter, refl, sym, ap, ◌∙◌, subst}
use Rattle.std.specs.Prelude.{bytes_eq}
use Rattle.std.specs.List.{list_any, IsDistinct, AllByRecursion}
use Rattle.std.specs.Cmp.Lexicographic.{same_text}
use Rattle.std.proofs.lemmas.Bool.{true≢false}
use Rattle.std.proofs.lemmas.Slice.Eq.{bytes_eq-Decides}
use Rattle.sse_model.proofs.Apart.{IsDistinct-filter}
use Rattle.def_relabelling.proofs.Orderly.{flipped}

-- the same words in whatever order, none twice
pub record AreSame (ws vs : List (List ℕ)) : Type 0 where
  pub differ : IsDistinct bytes_eq ws
  pub differ2 : IsDistinct bytes_eq vs
  pub same : (w : List ℕ) → list_any (bytes_eq w) ws ≡ list_any (bytes_eq w) vs

-- what these words make of a beginning, the last one first
abbrev pub gathered : {C : Type 0} → (List ℕ → C → C) → C → List (List ℕ) → C
gathered act e [] = e
gathered act e (w ∷ ws) = act w (gathered act e ws)

abbrev but : List ℕ → List (List ℕ) → List (List ℕ)
but w vs = filter (λ v. not (bytes_eq w v)) vs

-- what passes is among those that pass
pub list_any-filter : (u : List ℕ) (p : List ℕ → Bool) (vs : List (List ℕ)) → list_any (bytes_eq u) (filter p vs) ≡ (list_any (bytes_eq u) vs && p u)
list_any-filter u p [] = refl
list_any-filter u p (v ∷ vs) = by (p v) (bytes_eq u v) refl refl (list_any-filter u p vs)
  where
    by : (keep same : Bool) → p v ≡ keep → bytes_eq u v ≡ same → list_any (bytes_eq u) (filter p vs) ≡ (list_any (bytes_eq u) vs && p u)
        → list_any (bytes_eq u) (cond keep (v ∷ filter p vs) (filter p vs)) ≡ ((same || list_any (bytes_eq u) vs) && p u)
    by true true is e rest = ap (λ b. b || list_any (bytes_eq u) (filter p vs)) e ∙ sym (ap p (same_text u v (sym e)) ∙ is)
    by true false is e rest = ap (λ b. b || list_any (bytes_eq u) (filter p vs)) e ∙ rest
    by false true is e rest = rest ∙ ap (λ b. list_any (bytes_eq u) vs && b) dropped ∙ and_false (list_any (bytes_eq u) vs) ∙ sym dropped
      where
        dropped : p u ≡ false
        dropped = ap p (same_text u v (sym e)) ∙ is

        and_false : (b : Bool) → (b && false) ≡ false
        and_false true = refl
        and_false false = refl
    by false false is e rest = rest

-- none of these is the word
none_of : (w : List ℕ) (vs : List (List ℕ)) → AllByRecursion (λ v. bytes_eq w v ≡ false) vs → list_any (bytes_eq w) vs ≡ false
none_of w [] all = refl
none_of w (v ∷ vs) all = λ i. all.0 i || none_of w vs all.1 i

all_kept : (w : List ℕ) (vs : List (List ℕ)) → AllByRecursion (λ v. bytes_eq w v ≡ false) vs → but w vs ≡ vs
all_kept w [] all = refl
all_kept w (v ∷ vs) all = ap (λ b. cond (not b) (v ∷ but w vs) (but w vs)) all.0 ∙ ap (λ rest. v ∷ rest) (all_kept w vs all.1)

-- without the first
behind_first : (w : List ℕ) (ws vs : List (List ℕ)) → AreSame (w ∷ ws) vs → AreSame ws (but w vs)
unfolding IsDistinct
behind_first w ws vs s = record {
  differ = s.differ.1;
  differ2 = IsDistinct-filter bytes_eq bytes_eq-Decides (λ v. not (bytes_eq w v)) vs s.differ2;
  same = λ u. by u (bytes_eq u w) refl (s.same u) ∙ sym (list_any-filter u (λ v. not (bytes_eq w v)) vs);
}
  where
    and_true : (b : Bool) → b ≡ (b && true)
    and_true true = refl
    and_true false = refl

    and_false : (b : Bool) → false ≡ (b && false)
    and_false true = refl
    and_false false = refl

    by : (u : List ℕ) (b : Bool) → bytes_eq u w ≡ b → (b || list_any (bytes_eq u) ws) ≡ list_any (bytes_eq u) vs → list_any (bytes_eq u) ws ≡ (list_any (bytes_eq u) vs && not (bytes_eq w u))
    by u true is e =
        let own : w ≡ u = sym (same_text u w (sym is)) in
        ap (λ x. list_any (bytes_eq x) ws) (sym own) ∙ none_of w ws s.differ.0 ∙ and_false (list_any (bytes_eq u) vs)
        ∙ ap (λ b. list_any (bytes_eq u) vs && not b) (sym ((bytes_eq-Decides w u).1 own))
    by u false is e = e ∙ and_true (list_any (bytes_eq u) vs) ∙ ap (λ b. list_any (bytes_eq u) vs && not b) (sym (flipped w u is))

module _ {C : Type 0} (act : List ℕ → C → C) (e : C) (Known : List ℕ → Type 0)
    (commutes : (v w : List ℕ) → Known v → Known w → (v ≡ w → ⊥) → (c : C) → act v (act w c) ≡ act w (act v c)) where
  -- one of them may be taken first
  taken : (w : List ℕ) → Known w → (vs : List (List ℕ)) → IsDistinct bytes_eq vs → AllByRecursion Known vs → list_any (bytes_eq w) vs ≡ true → gathered act e vs ≡ act w (gathered act e (but w vs))
  unfolding IsDistinct
  taken w k [] differ known h = absurd (true≢false (sym h))
  taken w k (v ∷ vs) differ known h = by (bytes_eq w v) refl h (taken w k vs differ.1 known.1)
    where
      by : (b : Bool) → bytes_eq w v ≡ b → (b || list_any (bytes_eq w) vs) ≡ true → (list_any (bytes_eq w) vs ≡ true → gathered act e vs ≡ act w (gathered act e (but w vs)))
          → act v (gathered act e vs) ≡ act w (gathered act e (cond (not b) (v ∷ but w vs) (but w vs)))
      by true is h later =
          let own : v ≡ w = sym (same_text w v (sym is)) in
          λ i. act (own i) (gathered act e (sym (all_kept w vs (subst (λ x. AllByRecursion (λ y. bytes_eq x y ≡ false) vs) own differ.0)) i))
      by false is h later = ap (act v) (later h) ∙ commutes v w known.0 k (λ same. true≢false (sym ((bytes_eq-Decides w v).1 (sym same)) ∙ is)) (gathered act e (but w vs))

  known_kept : (p : List ℕ → Bool) (vs : List (List ℕ)) → AllByRecursion Known vs → AllByRecursion Known (filter p vs)
  known_kept p [] known = tt
  known_kept p (v ∷ vs) known = by (p v) (known_kept p vs known.1)
    where
      by : (b : Bool) → AllByRecursion Known (filter p vs) → AllByRecursion Known (cond b (v ∷ filter p vs) (filter p vs))
      by true rest = (known.0, rest)
      by false rest = rest

  -- where any two commute, the order doesn't matter
  pub gathered_same : (ws vs : List (List ℕ)) → AreSame ws vs → AllByRecursion Known ws → AllByRecursion Known vs → gathered act e ws ≡ gathered act e vs
  gathered_same [] [] s known known2 = refl
  gathered_same [] (v ∷ vs) s known known2 = absurd (true≢false (sym (ap (λ b. b || list_any (bytes_eq v) vs) ((bytes_eq-Decides v v).1 refl)) ∙ sym (s.same v)))
  gathered_same (w ∷ ws) vs s known known2 =
      ap (act w) (gathered_same ws (but w vs) (behind_first w ws vs s) known.1 (known_kept (λ v. not (bytes_eq w v)) vs known2))
      ∙ sym (taken w known.0 vs s.differ2 known2 (sym (s.same w) ∙ ap (λ b. b || list_any (bytes_eq w) ws) ((bytes_eq-Decides w w).1 refl)))
