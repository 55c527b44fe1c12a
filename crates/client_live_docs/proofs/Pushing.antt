-- Documents that are too few to be refused are collected one after the other.
use Rattle.std.proofs.Common.{◌≡◌, ℕ, zero, suc, ◌+◌, ◌<◌, ◌≤◌, ◌^◌, Bool, true, false, ◌||◌, nat_eq, nat_lt, List, [], ◌∷◌, ◌++◌, length, map, take, drop, get_or, Option, None, Some, is_some, refl, sym, ap, subst, ◌∙◌, arith, ltb-false}
use Rattle.std.specs.Prelude.{if◌then◌else◌, option_map, slice_get}
use Rattle.std.specs.List.{IsDistinct}
use Rattle.std.proofs.lemmas.Bool.{le-ltb, ne_eqb}
use Rattle.std.proofs.lemmas.Cmp.{nat_eq_equiv}
use Rattle.std.proofs.lemmas.List.{length-append, length-take-le, take-append-drop}
use Rattle.std.proofs.lemmas.Option.{slice_get_within, slice_get-get_or, slice_get-map}
use Rattle.std.proofs.lemmas.List.Concat.{flat_map-append}
use Rattle.client_registry.proofs.LiveLaws.{among}
use Rattle.client_registry.proofs.LiveListed.{document_live}
use Rattle.client_registry.proofs.LiveOnce.{AllAbove, Rising}
use Rattle.client_registry.proofs.OrderLaws.{AreApart-from_IsDistinct}
use Rattle.client_registry.proofs.PushLaws.{pairs_of-push}
use Rattle.client_registry.specs.Command.{Command}
use Rattle.client_registry.specs.Document.{Document}
use Rattle.client_registry.specs.Documents.{all_words, docs_refusal, is_live, pairs_of}
use Rattle.client_registry.specs.IdNumber.{id_number}
use Rattle.client_registry.specs.Live.{in_order}
use Rattle.client_registry.specs.Registered.{Registered, facts}
use Rattle.client_registry.specs.declared.doc_id.DocId.{DocId}
use Rattle.client_registry.specs.declared.faults.DocsFault.TheVariants.{AlreadyLive, TooManyDocuments, TooManyPairs}
use Rattle.client_live_docs.proofs.KeptIds.{kept_ids}
use Rattle.client_live_docs.proofs.LiveIds.{documents_after-are_live, live_in_order}
use Rattle.client_live_docs.specs.LiveAfter.{documents_after, live_after, live_ids, live_refusal}

same_there : {A : Type 0} (x y : A) → Some x ≡ Some y → x ≡ y
same_there x y e = cc

-- an element with those before it
take-next : {A : Type 0} (xs : List A) (i : ℕ) (x : A) → slice_get xs i ≡ Some x → take (suc i) xs ≡ take i xs ++ x ∷ []
take-next [] i x at = absurd (cc)
take-next (y ∷ ys) zero x at = ap (λ z. z ∷ []) (same_there y x at)
take-next (y ∷ ys) (suc i) x at = ap (λ zs. y ∷ zs) (take-next ys i x at)

pub take-one_more : {A : Type 0} (xs : List A) (i : ℕ) (x : A) → slice_get xs i ≡ Some x → take (i + 1) xs ≡ take i xs ++ x ∷ []
take-one_more xs i x at = let next : i + 1 ≡ suc i = omega arith in ap (λ n. take n xs) next ∙ take-next xs i x at

-- an element is among all
pub among-at : (xs : List ℕ) (i : ℕ) (x : ℕ) → slice_get xs i ≡ Some x → among x xs ≡ true
among-at [] i x at = absurd (cc)
among-at (y ∷ ys) zero x at = ap (λ b. b || among x ys) (ap (λ z. nat_eq y z) (sym (same_there y x at)) ∙ nat_eq_equiv.refl y)
among-at (y ∷ ys) (suc i) x at = ap (λ b. nat_eq y x || b) (among-at ys i x at) ∙ or_true (nat_eq y x)
  where
    or_true : (b : Bool) → (b || true) ≡ true
    or_true true = refl
    or_true false = refl

above_first : (x : ℕ) (docs : List Document) (i : ℕ) (d : Document) → AllAbove x docs → slice_get docs i ≡ Some d → x < d.id
above_first x [] i d all at = absurd (cc)
above_first x (e ∷ docs) zero d all at = subst (λ (o : Document). x < o.id) (same_there e d at) all.0
above_first x (e ∷ docs) (suc i) d all at = above_first x docs i d all.1 at

-- of rising documents none before one has its identifier
dead_before : (docs : List Document) (i : ℕ) (d : Document) → Rising docs → slice_get docs i ≡ Some d → is_live (take i docs) d.id ≡ false
dead_before [] i d rising at = absurd (cc)
dead_before (e ∷ docs) zero d rising at = refl
dead_before (e ∷ docs) (suc i) d rising at =
    let lt = above_first e.id docs i d rising.0 at in
    ap (λ b. b || is_live (take i docs) d.id) (ne_eqb d.id e.id (λ same. omega (arith, lt, same))) ∙ dead_before docs i d rising.1 at

-- a front has no more pairs
pairs_of-front : (n : ℕ) (docs : List Document) → pairs_of (take n docs) ≤ pairs_of docs
pairs_of-front n docs =
    let whole = ap (λ ds. length (all_words ds)) (take-append-drop n docs) in
    let parts = ap length (flat_map-append (λ (d : Document). d.words) (take n docs) (drop n docs)) in
    omega (arith, sym whole ∙ parts, length-append (all_words (take n docs)) (all_words (drop n docs)))

not_refused : (live many pairs : Bool) (n p : ℕ) (id : ℕ) → live ≡ false → many ≡ false → pairs ≡ false
    → (if live then Some (AlreadyLive id) else if many then Some (TooManyDocuments n) else if pairs then Some (TooManyPairs p) else None) ≡ None
not_refused true many pairs n p id a b c = absurd (cc)
not_refused false true pairs n p id a b c = absurd (cc)
not_refused false false true n p id a b c = absurd (cc)
not_refused false false false n p id a b c = refl

-- documents that aren't refused are few
pub few_documents : (docs : List Document) → live_refusal docs ≡ None → (length docs ≤ 2 ^ 18) × (pairs_of docs ≤ 2 ^ 20)
few_documents docs accepted = by (nat_lt (2 ^ 18) (length docs)) (nat_lt (2 ^ 20) (pairs_of docs)) refl refl accepted
  where
    by : (many more : Bool) → nat_lt (2 ^ 18) (length docs) ≡ many → nat_lt (2 ^ 20) (pairs_of docs) ≡ more
        → (if many then Some (TooManyDocuments (length docs)) else if more then Some (TooManyPairs (pairs_of docs)) else None) ≡ None
        → (length docs ≤ 2 ^ 18) × (pairs_of docs ≤ 2 ^ 20)
    by true more a b e = absurd (cc)
    by false true a b e = absurd (cc)
    by false false a b e = (omega (arith, ltb-false (2 ^ 18) (length docs) a), omega (arith, ltb-false (2 ^ 20) (pairs_of docs) b))

-- a document whose identifier none before it has is collected after them, where all are few
pub collected_where : (docs : List Document) (i : ℕ) (d : Document) → is_live (take i docs) d.id ≡ false → length docs ≤ 2 ^ 18 → pairs_of docs ≤ 2 ^ 20 → slice_get docs i ≡ Some d
    → docs_refusal (take i docs) d ≡ None
collected_where docs i d dead documents pairs at =
    let within : i < length docs = slice_get_within docs i d at in
    let count : length (take i docs) ≡ i = length-take-le i docs (omega (arith, within)) in
    let more : pairs_of (take i docs) + length d.words ≤ pairs_of docs =
    omega (arith, pairs_of-front (i + 1) docs, ap pairs_of (take-one_more docs i d at), pairs_of-push (take i docs) d) in
    not_refused (is_live (take i docs) d.id) (nat_lt (2 ^ 18) (length (take i docs) + 1)) (nat_lt (2 ^ 20) (pairs_of (take i docs) + length d.words))
    (length (take i docs) + 1) (pairs_of (take i docs) + length d.words) d.id
    dead
    (le-ltb (2 ^ 18) (length (take i docs) + 1) (omega (arith, within, count, documents)))
    (le-ltb (2 ^ 20) (pairs_of (take i docs) + length d.words) (omega (arith, more, pairs)))

-- so each of rising ones is collected after those before it
collected_next : (docs : List Document) (i : ℕ) (d : Document) → Rising docs → live_refusal docs ≡ None → slice_get docs i ≡ Some d → docs_refusal (take i docs) d ≡ None
collected_next docs i d rising accepted at = let few = few_documents docs accepted in collected_where docs i d (dead_before docs i d rising at) few.0 few.1 at

-- the document of the identifier at a place among rising ones
module _ (r : Registered) (c : Option Command) (ids : List DocId) (i : ℕ) (id : DocId)
    (all : map id_number ids ≡ in_order (live_ids r c)) (within : i < length ids) (is : id ≡ get_or ids i id) where
  number_at : slice_get (in_order (live_ids r c)) i ≡ Some (id_number id)
  number_at =
      ap (λ ns. slice_get ns i) (sym all)
      ∙ slice_get-map id_number ids i
      ∙ ap (option_map id_number) (slice_get-get_or ids i id within)
      ∙ ap (λ (x : DocId). Some (id_number x)) (sym is)

  pub document_at : slice_get (documents_after r c) i ≡ Some (document_live (live_after (facts r) c) (id_number id))
  document_at =
      slice_get-map (document_live (live_after (facts r) c)) (in_order (live_ids r c)) i
      ∙ ap (option_map (document_live (live_after (facts r) c))) number_at

  pub live_at : IsDistinct nat_eq (kept_ids r) → is_some (live_after (facts r) c (id_number id)) ≡ true
  live_at different = live_in_order r (AreApart-from_IsDistinct (kept_ids r) different) c (id_number id) (among-at (in_order (live_ids r c)) i (id_number id) number_at)

  pub collected_at : (d : Document) → d ≡ document_live (live_after (facts r) c) (id_number id) → IsDistinct nat_eq (kept_ids r) → live_refusal (documents_after r c) ≡ None
      → docs_refusal (take i (documents_after r c)) d ≡ None
  collected_at d here different few =
      collected_next (documents_after r c) i d (documents_after-are_live r (AreApart-from_IsDistinct (kept_ids r) different) c).rising few
      (document_at ∙ ap (λ (x : Document). Some x) (sym here))
