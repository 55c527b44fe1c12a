-- What the entries of a table of pairs stand for once one of them is sent again, and what is found among them.
use Rattle.std.proofs.Common.{◌≡◌, ℕ, suc, Bool, true, false, cond, ◌||◌, List, [], ◌∷◌, ◌++◌, find, position, nat_eq, is_some, refl, sym, ap, ◌∙◌, subst, Some, None}
use Rattle.std.specs.Prelude.{Option, if◌then◌else◌, slice_get, ◌==◌}
use Rattle.std.specs.List.{AllByRecursion, IsDistinct}
use Rattle.std.specs.Map.{lookup, keys_of, values_of}
use Rattle.std.specs.Option.{option_and_then, option_map, option_or}
use Rattle.std.proofs.lemmas.Bool.{true≢false, eqb-true, or_parts, or_from}
use Rattle.indexmap.specs.IndexMap.{insert_entry, set_value_at}
use Rattle.client_registry.proofs.Positions.{position-cons}
use Rattle.client_registry.specs.IdNumber.{id_number}
use Rattle.client_registry.specs.declared.doc_id.DocId.{DocId}
use Rattle.leakage_frames.specs.Views.{origin_view}
use Rattle.sse_simulator.specs.Leaks.{ListedLeak, Origin}
use Rattle.leakage_model.specs.Pairs.{pair_view, pairs_in}
use Rattle.leakage_model.specs.WordFacts.{lists, number_among, sent_among, sent_pair}
use Rattle.leakage_model.specs.declared.pair.Pair.{Pair}

-- where no pair has the identifier, none is sent
pub sent-absent : (id : ℕ) (there : Origin) (revoked : Bool) (ps : List ListedLeak) → lists id ps ≡ false → sent_among id there revoked ps ≡ ps
sent-absent id there revoked [] none = refl
sent-absent id there revoked (p ∷ ps) none =
    let parts = or_parts (id == p.id) (lists id ps) none in
    λ i. (if parts.0 i then sent_pair there revoked p else p) ∷ sent-absent id there revoked ps parts.1 i

-- a pair is there where its identifier has an entry
pub lists-lookup : (id : ℕ) (es : List (DocId × Pair)) → lists id (pairs_in es) ≡ is_some (lookup (λ k. nat_eq id (id_number k)) es)
lists-lookup id [] = refl
lists-lookup id (e ∷ es) = by (nat_eq id (id_number e.0)) (lists-lookup id es)
  where
    by : (b : Bool) → lists id (pairs_in es) ≡ is_some (lookup (λ k. nat_eq id (id_number k)) es) → (b || lists id (pairs_in es)) ≡ is_some (cond b (Some e.1) (lookup (λ k. nat_eq id (id_number k)) es))
    by true had = refl
    by false had = had

-- its number is that of the entry
pub number-lookup : (id : ℕ) (es : List (DocId × Pair)) → number_among id (pairs_in es) ≡ option_and_then (λ (v : Pair). option_map origin_view v.number) (lookup (λ k. nat_eq id (id_number k)) es)
number-lookup id [] = refl
number-lookup id (e ∷ es) = by (nat_eq id (id_number e.0)) (number-lookup id es)
  where
    by : (b : Bool) → number_among id (pairs_in es) ≡ option_and_then (λ (v : Pair). option_map origin_view v.number) (lookup (λ k. nat_eq id (id_number k)) es)
        → option_and_then (λ (p : ListedLeak). p.number) (cond b (Some (pair_view e)) (find (λ p. id == p.id) (pairs_in es)))
        ≡ option_and_then (λ (v : Pair). option_map origin_view v.number) (cond b (Some e.1) (lookup (λ k. nat_eq id (id_number k)) es))
    by true had = refl
    by false had = had

-- a new value is that of a pair which is sent there
pub record IsSent (old new : Pair) (there : Origin) (is_revoked : Bool) : Type 0 where
  pub origin : new.origin ≡ old.origin
  pub number : option_map origin_view new.number ≡ option_or (option_map origin_view old.number) (Some there)
  pub revoked : new.revoked ≡ is_revoked

-- so the pair of the identifier is sent, and no other
pub sent-set : (es : List (DocId × Pair)) (id i : ℕ) (old new : Pair) (there : Origin) (revoked : Bool) → IsDistinct (λ a b. nat_eq (id_number a) (id_number b)) (keys_of es)
    → position (λ k. nat_eq id (id_number k)) (keys_of es) ≡ Some i → slice_get (values_of es) i ≡ Some old → IsSent old new there revoked
    → pairs_in (set_value_at es i new) ≡ sent_among id there revoked (pairs_in es)
unfolding IsDistinct
sent-set [] id i old new there revoked apart at was sent = absurd (cc)
sent-set (e ∷ es) id i old new there revoked apart at was sent =
    by (nat_eq id (id_number e.0)) refl (position (λ k. nat_eq id (id_number k)) (keys_of es)) (sym (position-cons (λ k. nat_eq id (id_number k)) e.0 (keys_of es)) ∙ at)
    (λ j here value. sent-set es id j old new there revoked apart.1 here value sent)
  where
    none : (rest : List (DocId × Pair)) → AllByRecursion (λ k. nat_eq id (id_number k) ≡ false) (keys_of rest) → lists id (pairs_in rest) ≡ false
    none [] all = refl
    none (x ∷ rest) all = or_from (nat_eq id (id_number x.0)) (lists id (pairs_in rest)) all.0 (none rest all.1)

    others : nat_eq id (id_number e.0) ≡ true → lists id (pairs_in es) ≡ false
    others is = none es (subst (λ n. AllByRecursion (λ (k : DocId). nat_eq n (id_number k) ≡ false) (keys_of es)) (sym (eqb-true id (id_number e.0) is)) apart.0)

    by : (b : Bool) → nat_eq id (id_number e.0) ≡ b → (o : Option ℕ) → cond b (Some 0) (option_map (λ n. suc n) o) ≡ Some i
        → ((j : ℕ) → o ≡ Some j → slice_get (values_of es) j ≡ Some old → pairs_in (set_value_at es j new) ≡ sent_among id there revoked (pairs_in es))
        → pairs_in (set_value_at (e ∷ es) i new) ≡ (if b then sent_pair there revoked (pair_view e) else pair_view e) ∷ sent_among id there revoked (pairs_in es)
    by true is o place rest =
        let first : 0 ≡ i = cc in
        let same : e.1 ≡ old = value i first was in
        subst (λ n. pairs_in (set_value_at (e ∷ es) n new) ≡ sent_pair there revoked (pair_view e) ∷ sent_among id there revoked (pairs_in es)) first
        (λ j. record {
          id = id_number e.0;
          origin = origin_view ((sent.origin ∙ ap (λ (p : Pair). p.origin) (sym same)) j);
          number = (sent.number ∙ ap (λ (p : Pair). option_or (option_map origin_view p.number) (Some there)) (sym same)) j;
          revoked = sent.revoked j;
        } ∷ sym (sent-absent id there revoked (pairs_in es) (others is)) j)
      where
        value : (n : ℕ) → 0 ≡ n → slice_get (values_of (e ∷ es)) n ≡ Some old → e.1 ≡ old
        value n zero_is was = let here : Some e.1 ≡ Some old = ap (slice_get (values_of (e ∷ es))) zero_is ∙ was in cc
    by false is None place rest = absurd (cc)
    by false is (Some j) place rest =
        let next : suc j ≡ i = cc in
        subst (λ n. pairs_in (set_value_at (e ∷ es) n new) ≡ pair_view e ∷ sent_among id there revoked (pairs_in es)) next
        (ap (λ ps. pair_view e ∷ ps) (rest j refl (ap (slice_get (values_of (e ∷ es))) next ∙ was)))

-- a pair that has no entry goes last
pub pairs-new : (es : List (DocId × Pair)) (k : DocId) (v : Pair) → lists (id_number k) (pairs_in es) ≡ false
    → pairs_in (insert_entry (λ a b. nat_eq (id_number a) (id_number b)) es k v) ≡ pairs_in es ++ pair_view (k, v) ∷ []
pairs-new [] k v none = refl
pairs-new (e ∷ es) k v none = by (nat_eq (id_number k) (id_number e.0)) none (pairs-new es k v)
  where
    by : (b : Bool) → (b || lists (id_number k) (pairs_in es)) ≡ false
        → (lists (id_number k) (pairs_in es) ≡ false → pairs_in (insert_entry (λ a b. nat_eq (id_number a) (id_number b)) es k v) ≡ pairs_in es ++ pair_view (k, v) ∷ [])
        → pairs_in (if b then (e.0, v) ∷ es else e ∷ insert_entry (λ a b. nat_eq (id_number a) (id_number b)) es k v) ≡ pair_view e ∷ pairs_in es ++ pair_view (k, v) ∷ []
    by true none rest = absurd (true≢false none)
    by false none rest = ap (λ ps. pair_view e ∷ ps) (rest none)
