-- Values that differ: the words by first appearance, those of a document, and lists without a clash.
use Rattle.std.proofs.Common.{◌≡◌, ℕ, zero, suc, ◌<◌, Bool, true, false, cond, not, ◌||◌, List, [], ◌∷◌, ◌++◌, length, filter, get_or, Option, None, Some, is_some, nat_lt, position, refl, sym, ap, ◌∙◌, subst, arith}
use Rattle.std.specs.Prelude.{option_map}
use Rattle.std.specs.List.{list_any, position_or_len, IsDistinct, AllByRecursion}
use Rattle.std.specs.Option.{option_or}
use Rattle.std.specs.Str.{bytes_eq}
use Rattle.std.proofs.lemmas.Bool.{ltb-true}
use Rattle.std.proofs.lemmas.Cmp.{nat_list_eq_equiv}
use Rattle.std.proofs.lemmas.List.{get_or_append_left, get_or_push, length_push}
use Rattle.std.proofs.lemmas.List.Sums.{passes_at_first}
use Rattle.std.specs.Cmp.Lexicographic.{same_text}
use Rattle.client_registry.proofs.FirstClashLaws.{first_clash-push}
use Rattle.client_registry.proofs.FromEnd.{from_end}
use Rattle.client_registry.proofs.Positions.{is_some-position, position-cons}
use Rattle.client_registry.proofs.PushLaws.{IsDistinct-push}
use Rattle.client_registry.proofs.WordsLaws.{accepted_words}
use Rattle.client_registry.specs.DocumentRule.{doc_refusal}
use Rattle.client_registry.specs.Documents.{first_seen}
use Rattle.client_registry.specs.FirstClash.{first_clash}

-- The words by first appearance.

list_any-other : (v w : List ℕ) (ws : List (List ℕ)) → bytes_eq w v ≡ false → list_any (bytes_eq v) (filter (λ o. not (bytes_eq w o)) ws) ≡ list_any (bytes_eq v) ws
list_any-other v w [] differ = refl
list_any-other v w (x ∷ xs) differ = by (bytes_eq w x) refl (list_any-other v w xs differ)
  where
    rest : List (List ℕ)
    rest = filter (λ o. not (bytes_eq w o)) xs

    by : (b : Bool) → bytes_eq w x ≡ b → list_any (bytes_eq v) rest ≡ list_any (bytes_eq v) xs → list_any (bytes_eq v) (cond (not b) (x ∷ rest) rest) ≡ (bytes_eq v x || list_any (bytes_eq v) xs)
    by true e h =
        let other : bytes_eq v x ≡ false = nat_list_eq_equiv.symm v x ∙ sym (nat_list_eq_equiv.congr w x v e) ∙ differ in
        h ∙ ap (λ b. b || list_any (bytes_eq v) xs) (sym other)
    by false e h = ap (λ b. bytes_eq v x || b) h

-- they are the same words
pub list_any-first_seen : (v : List ℕ) (ws : List (List ℕ)) → list_any (bytes_eq v) (first_seen ws) ≡ list_any (bytes_eq v) ws
list_any-first_seen v [] = refl
list_any-first_seen v (w ∷ ws) = by (bytes_eq v w) refl (list_any-first_seen v ws)
  where
    rest : List (List ℕ)
    rest = filter (λ o. not (bytes_eq w o)) (first_seen ws)

    by : (b : Bool) → bytes_eq v w ≡ b → list_any (bytes_eq v) (first_seen ws) ≡ list_any (bytes_eq v) ws → (b || list_any (bytes_eq v) rest) ≡ (b || list_any (bytes_eq v) ws)
    by true e h = refl
    by false e h = list_any-other v w (first_seen ws) (nat_list_eq_equiv.symm w v ∙ e) ∙ h

AllByRecursion-filter : {K : Type 0} (P : K → Type 0) (p : K → Bool) (ks : List K) → AllByRecursion P ks → AllByRecursion P (filter p ks)
AllByRecursion-filter P p [] all = tt
AllByRecursion-filter P p (k ∷ ks) all = by (p k) (AllByRecursion-filter P p ks all.1)
  where
    by : (b : Bool) → AllByRecursion P (filter p ks) → AllByRecursion P (cond b (k ∷ filter p ks) (filter p ks))
    by true h = (all.0, h)
    by false h = h

IsDistinct-filter : (p : List ℕ → Bool) (ws : List (List ℕ)) → IsDistinct bytes_eq ws → IsDistinct bytes_eq (filter p ws)
unfolding IsDistinct
IsDistinct-filter p [] d = tt
IsDistinct-filter p (w ∷ ws) d = by (p w) (IsDistinct-filter p ws d.1)
  where
    by : (b : Bool) → IsDistinct bytes_eq (filter p ws) → IsDistinct bytes_eq (cond b (w ∷ filter p ws) (filter p ws))
    by true h = (AllByRecursion-filter (λ y. bytes_eq w y ≡ false) p ws d.0, h)
    by false h = h

others_differ : (w : List ℕ) (ws : List (List ℕ)) → AllByRecursion (λ y. bytes_eq w y ≡ false) (filter (λ o. not (bytes_eq w o)) ws)
others_differ w [] = tt
others_differ w (x ∷ xs) = by (bytes_eq w x) refl (others_differ w xs)
  where
    rest : List (List ℕ)
    rest = filter (λ o. not (bytes_eq w o)) xs

    by : (b : Bool) → bytes_eq w x ≡ b → AllByRecursion (λ y. bytes_eq w y ≡ false) rest → AllByRecursion (λ y. bytes_eq w y ≡ false) (cond (not b) (x ∷ rest) rest)
    by true e h = h
    by false e h = (e, h)

-- and differ
pub IsDistinct-first_seen : (ws : List (List ℕ)) → IsDistinct bytes_eq (first_seen ws)
unfolding IsDistinct
IsDistinct-first_seen [] = tt
IsDistinct-first_seen (w ∷ ws) = (others_differ w (first_seen ws), IsDistinct-filter (λ o. not (bytes_eq w o)) (first_seen ws) (IsDistinct-first_seen ws))

-- Lists without a clash.

no_value : (o p : Option (ℕ × ℕ)) → option_or o p ≡ None → (o ≡ None) × (p ≡ None)
no_value None p h = (refl, h)
no_value (Some c) p h = absurd (cc)

no_place : {B : Type 0} (f : ℕ → B) (o : Option ℕ) → option_map f o ≡ None → is_some o ≡ false
no_place f None h = refl
no_place f (Some i) h = absurd (cc)

-- without a clash all values differ
pub IsDistinct-first_clash : (xs : List (List ℕ)) → first_clash xs ≡ None → IsDistinct bytes_eq xs
unfolding IsDistinct
IsDistinct-first_clash = from_end (λ xs. first_clash xs ≡ None → IsDistinct bytes_eq xs) (λ _. tt) push
  where
    push : (xs : List (List ℕ)) (x : List ℕ) → (first_clash xs ≡ None → IsDistinct bytes_eq xs) → first_clash (xs ++ x ∷ []) ≡ None → IsDistinct bytes_eq (xs ++ x ∷ [])
    push xs x had none =
        let parts = no_value (first_clash xs) (option_map (λ i. (i, length xs)) (position (bytes_eq x) xs)) (sym (first_clash-push xs x) ∙ none) in
        IsDistinct-push bytes_eq nat_list_eq_equiv.symm xs x (had parts.0) (sym (is_some-position (bytes_eq x) xs) ∙ no_place (λ i. (i, length xs)) (position (bytes_eq x) xs) parts.1)

-- the words of a document differ
pub IsDistinct-words : (words : List (List ℕ)) → doc_refusal words ≡ None → IsDistinct bytes_eq words
IsDistinct-words words h = IsDistinct-first_clash words (by (first_clash words) (accepted_words words h))
  where
    by : (o : Option (ℕ × ℕ)) → option_map (λ (places : ℕ × ℕ). places.1) o ≡ None → o ≡ None
    by None e = refl
    by (Some c) e = absurd (cc)

-- two places hold the same value, the first before the second
pub record AreEqualPlaces (xs : List (List ℕ)) (i j : ℕ) : Type 0 where
  pub order : i < j
  pub within : j < length xs
  pub same : get_or xs i [] ≡ get_or xs j []

-- the first place that passes lies within, and passes
position-Some : (p : List ℕ → Bool) (xs : List (List ℕ)) (i : ℕ) → position p xs ≡ Some i → (i < length xs) × (p (get_or xs i []) ≡ true)
position-Some p xs i at = by (nat_lt (position_or_len p xs) (length xs)) refl at
  where
    by : (b : Bool) → nat_lt (position_or_len p xs) (length xs) ≡ b → cond b (Some (position_or_len p xs)) None ≡ Some i → (i < length xs) × (p (get_or xs i []) ≡ true)
    by true e h =
        let is : position_or_len p xs ≡ i = cc in
        let within = ltb-true (position_or_len p xs) (length xs) e in
        (subst (λ k. k < length xs) is within, subst (λ k. p (get_or xs k []) ≡ true) is (passes_at_first p xs [] within))
    by false e h = absurd (cc)

some_pair : (p q : ℕ × ℕ) → Some p ≡ Some q → p ≡ q
some_pair p q h = cc

-- what is named as a clash is one
pub first_clash-places : (xs : List (List ℕ)) (i j : ℕ) → first_clash xs ≡ Some (i, j) → AreEqualPlaces xs i j
first_clash-places xs i j = from_end (λ ys. first_clash ys ≡ Some (i, j) → AreEqualPlaces ys i j) none push xs
  where
    none : first_clash [] ≡ Some (i, j) → AreEqualPlaces [] i j
    none e = absurd (cc)

    push : (ys : List (List ℕ)) (y : List ℕ) → (first_clash ys ≡ Some (i, j) → AreEqualPlaces ys i j) → first_clash (ys ++ y ∷ []) ≡ Some (i, j) → AreEqualPlaces (ys ++ y ∷ []) i j
    push ys y had at = by (first_clash ys) (position (bytes_eq y) ys) refl refl (sym (first_clash-push ys y) ∙ at)
      where
        all : List (List ℕ)
        all = ys ++ y ∷ []

        by : (c : Option (ℕ × ℕ)) (o : Option ℕ) → first_clash ys ≡ c → position (bytes_eq y) ys ≡ o → option_or c (option_map (λ k. (k, length ys)) o) ≡ Some (i, j) → AreEqualPlaces all i j
        by None None e f h = absurd (cc)
        by None (Some k) e f h =
            let places = some_pair (k, length ys) (i, j) h in
            let first : k ≡ i = ap (λ (p : ℕ × ℕ). p.0) places in
            let second : length ys ≡ j = ap (λ (p : ℕ × ℕ). p.1) places in
            let there = position-Some (bytes_eq y) ys k f in
            let value : y ≡ get_or ys k [] = same_text y (get_or ys k []) (sym there.1) in
            subst (λ m. AreEqualPlaces all m j) first
            (subst (λ n. AreEqualPlaces all k n) second (record {
              order = there.0;
              within = omega (arith, length_push ys y);
              same = get_or_append_left ys (y ∷ []) [] k there.0 ∙ sym value ∙ sym (get_or_push ys y [] (length ys) refl);
            }))
        by (Some c) o e f h =
            let before = had (e ∙ h) in
            record {
              order = before.order;
              within = omega (arith, length_push ys y, before.within);
              same = get_or_append_left ys (y ∷ []) [] i (omega (arith, before.order, before.within)) ∙ before.same ∙ sym (get_or_append_left ys (y ∷ []) [] j before.within);
            }

-- among words that differ each stands first at its own place
pub position-at : (ws : List (List ℕ)) → IsDistinct bytes_eq ws → (n : ℕ) → n < length ws → position (bytes_eq (get_or ws n [])) ws ≡ Some n
unfolding IsDistinct
position-at [] apart n within = absurd (omega (arith, within))
position-at (w ∷ ws) apart zero within =
    position-cons (bytes_eq w) w ws ∙ ap (λ b. cond b (Some 0) (option_map (λ n. suc n) (position (bytes_eq w) ws))) (nat_list_eq_equiv.refl w)
position-at (w ∷ ws) apart (suc n) within =
    let lt : n < length ws = omega (arith, within) in
    let v = get_or ws n [] in
    position-cons (bytes_eq v) w ws
    ∙ ap (λ b. cond b (Some 0) (option_map (λ k. suc k) (position (bytes_eq v) ws))) (nat_list_eq_equiv.symm v w ∙ AllByRecursion-at ws n lt apart.0)
    ∙ ap (option_map (λ k. suc k)) (position-at ws apart.1 n lt)
  where
    AllByRecursion-at : (vs : List (List ℕ)) (k : ℕ) → k < length vs → AllByRecursion (λ y. bytes_eq w y ≡ false) vs → bytes_eq w (get_or vs k []) ≡ false
    AllByRecursion-at [] k lt all = absurd (omega (arith, lt))
    AllByRecursion-at (v ∷ vs) zero lt all = all.0
    AllByRecursion-at (v ∷ vs) (suc k) lt all = AllByRecursion-at vs k (omega (arith, lt)) all.1
