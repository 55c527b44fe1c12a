-- Counts of documents one after another, in whatever order.
use Rattle.std.proofs.Common.{◌≡◌, ℕ, ◌+◌, ◌≤◌, ◌<◌, ◌^◌, Bool, true, false, List, [], ◌∷◌, ◌++◌, length, None, Some, is_some, nat_le, nat_lt, refl, sym, ap, ◌∙◌, subst, arith}
use Rattle.std.specs.Prelude.{if◌then◌else◌, Option, unwrap_or}
use Rattle.std.proofs.lemmas.Bool.{le-ltb, lt-ltb}
use Rattle.std.proofs.lemmas.List.{length-append, map-append}
use Rattle.client_registry.proofs.LiveListed.{document_live, documents_live}
use Rattle.client_registry.specs.Command.{Command}
use Rattle.client_registry.specs.Document.{Document}
use Rattle.client_registry.specs.Documents.{all_words, pairs_of}
use Rattle.client_registry.specs.Facts.{Facts}
use Rattle.client_registry.specs.Live.{in_order, insert_in_order}
use Rattle.client_registry.specs.declared.faults.DocsFault.TheVariants.{TooManyDocuments, TooManyPairs}
use Rattle.client_live_docs.proofs.LiveIds.{ids_among-none, ids_among-some, live_added, live_other}
use Rattle.client_live_docs.specs.Counts.{Counts}
use Rattle.client_live_docs.specs.LiveAfter.{added_by, added_id, ids_among, live_after, live_refusal, other_live}
use Rattle.client_live_docs.specs.declared.counted.Counted.{Counted}

module _ (known : ℕ → Option (List (List ℕ))) where
  pairs-first : (id : ℕ) (ids : List ℕ) → pairs_of (documents_live known (id ∷ ids)) ≡ length (document_live known id).words + pairs_of (documents_live known ids)
  pairs-first id ids = length-append (document_live known id).words (all_words (documents_live known ids))

  pairs-insert : (id : ℕ) (ids : List ℕ) → pairs_of (documents_live known (insert_in_order id ids)) ≡ length (document_live known id).words + pairs_of (documents_live known ids)
  pairs-insert id [] = pairs-first id []
  pairs-insert id (x ∷ ids) = by (nat_le id x) (pairs-insert id ids)
    where
      by : (b : Bool) → pairs_of (documents_live known (insert_in_order id ids)) ≡ length (document_live known id).words + pairs_of (documents_live known ids)
          → pairs_of (documents_live known (if b then id ∷ x ∷ ids else x ∷ insert_in_order id ids))
          ≡ length (document_live known id).words + pairs_of (documents_live known (x ∷ ids))
      by true h = pairs-first id (x ∷ ids)
      by false h = omega (arith, h, pairs-first x (insert_in_order id ids), pairs-first x ids)

  pairs-in_order : (ids : List ℕ) → pairs_of (documents_live known (in_order ids)) ≡ pairs_of (documents_live known ids)
  pairs-in_order [] = refl
  pairs-in_order (id ∷ ids) = omega (arith, pairs-insert id (in_order ids), pairs-in_order ids, pairs-first id ids)

  count-insert : (id : ℕ) (ids : List ℕ) → length (documents_live known (insert_in_order id ids)) ≡ length (documents_live known ids) + 1
  count-insert id [] = refl
  count-insert id (x ∷ ids) = by (nat_le id x) (count-insert id ids)
    where
      by : (b : Bool) → length (documents_live known (insert_in_order id ids)) ≡ length (documents_live known ids) + 1
          → length (documents_live known (if b then id ∷ x ∷ ids else x ∷ insert_in_order id ids)) ≡ length (documents_live known (x ∷ ids)) + 1
      by true h = omega arith
      by false h = omega (arith, h)

  count-in_order : (ids : List ℕ) → length (documents_live known (in_order ids)) ≡ length (documents_live known ids)
  count-in_order [] = refl
  count-in_order (id ∷ ids) = omega (arith, count-insert id (in_order ids), count-in_order ids)

  -- counts don't depend on the order
  pub Counts-in_order : (counted : Counted) (ids : List ℕ) → Counts counted (documents_live known ids) → Counts counted (documents_live known (in_order ids))
  Counts-in_order counted ids counts = record {
    documents = counts.documents ∙ sym (count-in_order ids);
    pairs = λ few. counts.pairs (omega (arith, few, count-in_order ids)) ∙ sym (pairs-in_order ids);
    few = counts.few;
  }

-- one entry more
module _ (f : Facts) (c : Option Command) (ids : List ℕ) (id : ℕ) where
  abbrev before : List Document
  before = documents_live (live_after f c) (ids_among f c ids)

  abbrev with_it : List Document
  with_it = documents_live (live_after f c) (ids_among f c (ids ++ id ∷ []))

  pub Counts-next : (words : List (List ℕ)) (n : ℕ) (old new : Counted) → Some words ≡ other_live f c id → length words ≡ n → Counts old before
      → ((docs : List Document) (d : Document) → Counts old docs → length d.words ≡ n → Counts new (docs ++ d ∷ [])) → Counts new with_it
  Counts-next words n old new live many counts next =
      let known = live_after f c in
      let some : is_some (other_live f c id) ≡ true = ap is_some (sym live) in
      let here : (document_live known id).words ≡ words = ap (λ o. unwrap_or o []) (live_other f c id some ∙ sym live) in
      subst (Counts new)
      (sym (ap (documents_live known) (ids_among-some f c ids id some) ∙ map-append (document_live known) (ids_among f c ids) (id ∷ [])))
      (next before (document_live known id) counts (ap length here ∙ many))

  pub Counts-same : (counted : Counted) → None ≡ other_live f c id → Counts counted before → Counts counted with_it
  Counts-same counted dead counts = subst (λ found. Counts counted (documents_live (live_after f c) found)) (sym (ids_among-none f c ids id (ap is_some (sym dead)))) counts

none_counted : (counted : Counted) → counted ≡ record { documents = 0; pairs = 0 } → Counts counted []
none_counted counted is = record {
  documents = ap (λ (x : Counted). x.documents) is;
  pairs = λ few. ap (λ (x : Counted). x.pairs) is;
  few = omega (arith, ap (λ (x : Counted). x.pairs) is);
}

-- before any entry, with what the update adds
module _ (f : Facts) (c : Option Command) where
  pub Counts-none : (counted : Counted) → added_by c ≡ None → counted ≡ record { documents = 0; pairs = 0 } → Counts counted (documents_live (live_after f c) (ids_among f c []))
  Counts-none counted adds is = subst (λ o. Counts counted (documents_live (live_after f c) (added_id o ++ []))) (sym adds) (none_counted counted is)

  pub Counts-added : (d : Document) (n : ℕ) (old new : Counted) → added_by c ≡ Some d → length d.words ≡ n → old ≡ record { documents = 0; pairs = 0 }
      → ((docs : List Document) (d : Document) → Counts old docs → length d.words ≡ n → Counts new (docs ++ d ∷ []))
      → Counts new (documents_live (live_after f c) (ids_among f c []))
  Counts-added d n old new adds many is next =
      let here : (document_live (live_after f c) d.id).words ≡ d.words = ap (λ o. unwrap_or o []) (live_added f c d adds) in
      subst (λ o. Counts new (documents_live (live_after f c) (added_id o ++ []))) (sym adds)
      (next [] (document_live (live_after f c) d.id) (none_counted old is) (ap length here ∙ many))

-- the refusal of documents by their counts
module _ (counted : Counted) (docs : List Document) (counts : Counts counted docs) where
  refusal_is : (many more : Bool) → nat_lt (2 ^ 18) (length docs) ≡ many → nat_lt (2 ^ 20) (pairs_of docs) ≡ more
      → live_refusal docs ≡ (if many then Some (TooManyDocuments (length docs)) else if more then Some (TooManyPairs (pairs_of docs)) else None)
  refusal_is many more a b = λ i. if a i then Some (TooManyDocuments (length docs)) else if b i then Some (TooManyPairs (pairs_of docs)) else None

  pub refusal-documents : 2 ^ 18 < counted.documents → Some (TooManyDocuments counted.documents) ≡ live_refusal docs
  refusal-documents many =
      ap (λ n. Some (TooManyDocuments n)) counts.documents
      ∙ sym (refusal_is true (nat_lt (2 ^ 20) (pairs_of docs)) (lt-ltb (2 ^ 18) (length docs) (omega (arith, many, counts.documents))) refl)

  pub refusal-pairs : counted.documents ≤ 2 ^ 18 → 2 ^ 20 < counted.pairs → Some (TooManyPairs counted.pairs) ≡ live_refusal docs
  refusal-pairs few many =
      let within : length docs ≤ 2 ^ 18 = omega (arith, few, counts.documents) in
      ap (λ n. Some (TooManyPairs n)) (counts.pairs within)
      ∙ sym (refusal_is false true (le-ltb (2 ^ 18) (length docs) within) (lt-ltb (2 ^ 20) (pairs_of docs) (omega (arith, many, counts.pairs within))))

  pub refusal-none : counted.documents ≤ 2 ^ 18 → counted.pairs ≤ 2 ^ 20 → None ≡ live_refusal docs
  refusal-none few fewer =
      let within : length docs ≤ 2 ^ 18 = omega (arith, few, counts.documents) in
      sym (refusal_is false false (le-ltb (2 ^ 18) (length docs) within) (le-ltb (2 ^ 20) (pairs_of docs) (omega (arith, fewer, counts.pairs within))))
