-- What one more document does to the words, the identifiers and the limits.
use Rattle.std.proofs.Common.{◌≡◌, ℕ, ◌+◌, ◌<◌, ◌≤◌, ◌^◌, Bool, true, false, ◌||◌, List, [], ◌∷◌, ◌++◌, length, map, get_or, refl, sym, ap, ◌∙◌, subst, arith}
use Rattle.std.specs.Prelude.{All, nat_eq, ◌==◌}
use Rattle.std.specs.List.{list_any, IsDistinct, AllByRecursion}
use Rattle.std.proofs.lemmas.Bool.{true≢false}
use Rattle.std.proofs.lemmas.Cmp.{nat_eq_equiv}
use Rattle.std.proofs.lemmas.List.{append-nil, length-append, length_push, map-append}
use Rattle.std.proofs.lemmas.List.Concat.{flat_map-append}
use Rattle.std.proofs.lemmas.List.Elements.{All-push}
use Rattle.client_registry.proofs.TallyLaws.{tally-below}
use Rattle.client_registry.specs.Document.{Document}
use Rattle.client_registry.specs.DocumentRule.{IsDocument}
use Rattle.client_registry.specs.Documents.{all_words, is_live, pairs_of, IsCollected}
use Rattle.client_registry.specs.Tally.{tally}

nat_eq-symm : (a b : ℕ) → nat_eq a b ≡ nat_eq b a
nat_eq-symm a b = nat_eq_equiv.symm a b

AllByRecursion-push : {K : Type 0} (P : K → Type 0) (ks : List K) (k : K) → AllByRecursion P ks → P k → AllByRecursion P (ks ++ k ∷ [])
AllByRecursion-push P [] k all p = (p, tt)
AllByRecursion-push P (x ∷ ks) k all p = (all.0, AllByRecursion-push P ks k all.1 p)

or_false : (a b : Bool) → (a || b) ≡ false → (a ≡ false) × (b ≡ false)
or_false false false h = (refl, refl)
or_false true b h = absurd (true≢false h)
or_false false true h = absurd (true≢false h)

-- different values, and one more that is none of them
pub IsDistinct-push : {K : Type 0} (eq : K → K → Bool) (symm : (x y : K) → eq x y ≡ eq y x) (ks : List K) (k : K) → IsDistinct eq ks → list_any (eq k) ks ≡ false → IsDistinct eq (ks ++ k ∷ [])
unfolding IsDistinct
IsDistinct-push eq symm [] k d new = (tt, tt)
IsDistinct-push eq symm (x ∷ ks) k d new =
    let parts = or_false (eq k x) (list_any (eq k) ks) new in
    (AllByRecursion-push (λ y. eq x y ≡ false) ks k d.0 (symm x k ∙ parts.0), IsDistinct-push eq symm ks k d.1 parts.1)

-- a test of a mapped list
pub list_any-map : {X Y : Type 0} (p : Y → Bool) (f : X → Y) (xs : List X) → list_any p (map f xs) ≡ list_any (λ x. p (f x)) xs
list_any-map p f [] = refl
list_any-map p f (x ∷ xs) = ap (λ b. p (f x) || b) (list_any-map p f xs)

module _ (docs : List Document) (doc : Document) where
  -- the words of one more document stand after the others
  pub all_words-push : all_words (docs ++ doc ∷ []) ≡ all_words docs ++ doc.words
  all_words-push = flat_map-append (λ d. d.words) docs (doc ∷ []) ∙ ap (λ r. all_words docs ++ r) (append-nil doc.words)

  pub pairs_of-push : pairs_of (docs ++ doc ∷ []) ≡ pairs_of docs + length doc.words
  pairs_of-push = ap length all_words-push ∙ length-append (all_words docs) doc.words

  -- within the limits, and with an identifier of its own, it leaves all as a collected list is
  pub IsCollected-push : IsCollected docs → IsDocument doc → is_live docs doc.id ≡ false → length docs + 1 ≤ 2 ^ 18 → pairs_of docs + length doc.words ≤ 2 ^ 20 → IsCollected (docs ++ doc ∷ [])
  IsCollected-push had valid new documents pairs = record {
    documents = omega (arith, length_push docs doc);
    pairs = omega (arith, pairs_of-push);
    different =
        subst (IsDistinct (λ x y. x == y)) (sym (map-append (λ (d : Document). d.id) docs (doc ∷ [])))
        (IsDistinct-push nat_eq nat_eq-symm (map (λ d. d.id) docs) doc.id had.different (list_any-map (nat_eq doc.id) (λ (d : Document). d.id) docs ∙ new));
    are_documents = All-push IsDocument docs doc had.are_documents valid;
  }

-- counts of at most 2^20 words have room for as many more
pub tally-room : (ws : List (List ℕ)) (more : ℕ) → length ws + more ≤ 2 ^ 20 → All (λ e. e.1 + more < 2 ^ 32) (tally ws)
tally-room ws more room =
    λ k d lt.
    let le : (get_or (tally ws) k d).1 ≤ length ws = tally-below ws k d lt in
    omega (arith, le, room)
