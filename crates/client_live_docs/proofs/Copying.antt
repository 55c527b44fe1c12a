-- Documents that were collected can be collected again, in their order or by rising identifier.
use Rattle.std.proofs.Common.{◌≡◌, ℕ, zero, suc, ◌+◌, ◌^◌, Bool, true, false, ◌||◌, nat_eq, nat_lt, List, [], ◌∷◌, length, map, take, None, Some, refl, sym, ap, ◌∙◌, arith}
use Rattle.std.specs.Prelude.{◌==◌, nat_le, if◌then◌else◌, slice_get}
use Rattle.std.specs.List.{IsDistinct, AllByRecursion}
use Rattle.std.proofs.lemmas.Bool.{le-ltb}
use Rattle.std.proofs.lemmas.Cmp.{nat_eq_equiv}
use Rattle.std.proofs.lemmas.List.{length-append}
use Rattle.client_registry.proofs.LiveOnce.{by_id-rising}
use Rattle.client_registry.proofs.OrderLaws.{AreApart, AreApart-from_IsDistinct}
use Rattle.client_registry.proofs.Restarted.{ids_of, words_with_id-by_id}
use Rattle.client_registry.specs.Document.{Document}
use Rattle.client_registry.specs.Documents.{all_words, docs_refusal, is_live, pairs_of, IsCollected}
use Rattle.client_registry.specs.Epochs.{insert_by_id, by_id}
use Rattle.client_registry.specs.Facts.{words_with_id}
use Rattle.client_registry.specs.declared.faults.DocsFault.TheVariants.{TooManyDocuments, TooManyPairs}
use Rattle.client_live_docs.proofs.Pushing.{collected_where}
use Rattle.client_live_docs.specs.AreLive.{AreLive}
use Rattle.client_live_docs.specs.LiveAfter.{live_refusal}

same_there : {A : Type 0} (x y : A) → Some x ≡ Some y → x ≡ y
same_there x y e = cc

other_first : (x : ℕ) (docs : List Document) (i : ℕ) (d : Document) → AllByRecursion (λ y. nat_eq x y ≡ false) (map (λ d. d.id) docs) → slice_get docs i ≡ Some d → nat_eq x d.id ≡ false
other_first x [] i d all at = absurd (cc)
other_first x (e ∷ docs) zero d all at = ap (λ (o : Document). nat_eq x o.id) (sym (same_there e d at)) ∙ all.0
other_first x (e ∷ docs) (suc i) d all at = other_first x docs i d all.1 at

-- no document before one of different identifiers has its identifier
dead_before : (docs : List Document) (i : ℕ) (d : Document) → IsDistinct (λ x y. x == y) (map (λ d. d.id) docs) → slice_get docs i ≡ Some d → is_live (take i docs) d.id ≡ false
unfolding IsDistinct
dead_before [] i d distinct at = absurd (cc)
dead_before (e ∷ docs) zero d distinct at = refl
dead_before (e ∷ docs) (suc i) d distinct at =
    ap (λ b. b || is_live (take i docs) d.id) (nat_eq_equiv.symm d.id e.id ∙ other_first e.id docs i d distinct.0 at) ∙ dead_before docs i d distinct.1 at

-- each of the documents that were collected is collected after those before it
pub collected_again : (docs : List Document) (i : ℕ) (d : Document) → IsCollected docs → slice_get docs i ≡ Some d → docs_refusal (take i docs) d ≡ None
collected_again docs i d collected at = collected_where docs i d (dead_before docs i d collected.different at) collected.documents collected.pairs at

-- By rising identifier.

pairs_of-first : (d : Document) (docs : List Document) → pairs_of (d ∷ docs) ≡ length d.words + pairs_of docs
pairs_of-first d docs = length-append d.words (all_words docs)

-- they are as many, with as many pairs
length-insert : (d : Document) (docs : List Document) → length (insert_by_id d docs) ≡ 1 + length docs
length-insert d [] = omega arith
length-insert d (e ∷ docs) = by (nat_le d.id e.id) (length-insert d docs)
  where
    by : (b : Bool) → length (insert_by_id d docs) ≡ 1 + length docs → length (if b then d ∷ e ∷ docs else e ∷ insert_by_id d docs) ≡ 1 + length (e ∷ docs)
    by true rest = omega arith
    by false rest = omega (arith, rest)

pairs_of-insert : (d : Document) (docs : List Document) → pairs_of (insert_by_id d docs) ≡ length d.words + pairs_of docs
pairs_of-insert d [] = pairs_of-first d []
pairs_of-insert d (e ∷ docs) = by (nat_le d.id e.id) (pairs_of-insert d docs)
  where
    by : (b : Bool) → pairs_of (insert_by_id d docs) ≡ length d.words + pairs_of docs
        → pairs_of (if b then d ∷ e ∷ docs else e ∷ insert_by_id d docs) ≡ length d.words + pairs_of (e ∷ docs)
    by true rest = pairs_of-first d (e ∷ docs)
    by false rest = omega (arith, pairs_of-first e (insert_by_id d docs), rest, pairs_of-first e docs)

length-by_id : (docs : List Document) → length (by_id docs) ≡ length docs
length-by_id [] = refl
length-by_id (d ∷ docs) = omega (arith, length-insert d (by_id docs), length-by_id docs)

pairs_of-by_id : (docs : List Document) → pairs_of (by_id docs) ≡ pairs_of docs
pairs_of-by_id [] = refl
pairs_of-by_id (d ∷ docs) = omega (arith, pairs_of-insert d (by_id docs), pairs_of-by_id docs, pairs_of-first d docs)

few : (many pairs : Bool) (n p : ℕ) → many ≡ false → pairs ≡ false → (if many then Some (TooManyDocuments n) else if pairs then Some (TooManyPairs p) else None) ≡ None
few true pairs n p a b = absurd (cc)
few false true n p a b = absurd (cc)
few false false n p a b = refl

-- so they aren't refused
pub not_refused-by_id : (docs : List Document) → IsCollected docs → live_refusal (by_id docs) ≡ None
not_refused-by_id docs collected =
    few (nat_lt (2 ^ 18) (length (by_id docs))) (nat_lt (2 ^ 20) (pairs_of (by_id docs))) (length (by_id docs)) (pairs_of (by_id docs))
    (le-ltb (2 ^ 18) (length (by_id docs)) (omega (arith, length-by_id docs, collected.documents)))
    (le-ltb (2 ^ 20) (pairs_of (by_id docs)) (omega (arith, pairs_of-by_id docs, collected.pairs)))

-- and they are what is live
pub are_live-by_id : (docs : List Document) → IsCollected docs → AreLive (words_with_id docs) (by_id docs)
are_live-by_id docs collected =
    let apart : AreApart (ids_of docs) = AreApart-from_IsDistinct (ids_of docs) collected.different in
    record { rising = by_id-rising docs apart; same = λ id. words_with_id-by_id docs id apart }
