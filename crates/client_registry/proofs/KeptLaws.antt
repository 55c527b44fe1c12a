-- What documents that are kept by numbers are, as the table of words grows and one more is kept.
use Rattle.std.proofs.Common.{◌≡◌, ℕ, ◌≤◌, ◌<◌, Bool, true, false, cond, ◌||◌, List, [], ◌∷◌, ◌++◌, length, map, take, Some, is_some, refl, sym, ap, ◌∙◌, subst, arith}
use Rattle.std.specs.Prelude.{All, fold, nat_eq, if◌then◌else◌}
use Rattle.std.specs.List.{IsDistinct}
use Rattle.std.specs.Map.{keys_of, lookup}
use Rattle.std.proofs.Math.Seq.{take-append_seam}
use Rattle.std.proofs.lemmas.Bool.{true≢false}
use Rattle.std.proofs.lemmas.List.{length-map, length-append, map-append}
use Rattle.std.proofs.lemmas.List.Elements.{All-head, All-nil, All-push, All-tail, All-weaker}
use Rattle.indexmap.specs.IndexMap.{hasher_of, insert_entry}
use Rattle.client_registry.specs.Document.{Document}
use Rattle.client_registry.specs.DocumentRule.{IsDocument}
use Rattle.client_registry.specs.Documents.{all_words, first_seen, is_live, pairs_of, IsCollected}
use Rattle.client_registry.specs.DocsView.{documents_of, kept_document, IsIndexed}
use Rattle.client_registry.specs.IdNumber.{id_number}
use Rattle.client_registry.specs.Numbered.{words_by_number}
use Rattle.client_registry.specs.Tally.{counted_up, counts_of, tally}
use Rattle.client_registry.specs.WordBytes.{word_bytes}
use Rattle.client_registry.specs.WordTable.{table_words}
use Rattle.client_registry.specs.declared.collected.Docs.TheInside.{Inside}
use Rattle.client_registry.specs.declared.doc_id.DocId.{DocId}
use Rattle.client_registry.specs.declared.listed.Listed.{Listed}
use Rattle.client_registry.specs.declared.word.Word.{Word}
use Rattle.client_registry.proofs.NumberLaws.{keys-counts, words_by_number-grown}
use Rattle.client_registry.proofs.PushLaws.{all_words-push}
use Rattle.client_registry.proofs.TallyLaws.{tally-append}
use Rattle.client_registry.proofs.WordsLaws.{keys-fold, new_to}

-- documents are the same once the table has grown
pub kept-grown : (ws vs : List (List ℕ)) → take (length ws) vs ≡ ws → (es : List (DocId × Listed)) → All (λ e. All (λ n. n < length ws) e.1.numbers.items) es → map (kept_document vs) es ≡ map (kept_document ws) es
kept-grown ws vs same [] all = refl
kept-grown ws vs same (e ∷ es) all =
    let first = words_by_number-grown ws vs same e.1.numbers.items (All-head (λ (x : DocId × Listed). All (λ n. n < length ws) x.1.numbers.items) e es all) in
    λ i. record { id = id_number e.0; words = first i } ∷ kept-grown ws vs same es (All-tail (λ (x : DocId × Listed). All (λ n. n < length ws) x.1.numbers.items) e es all) i

-- an identifier has an entry where a document of it is kept
pub is_some-kept : (ws : List (List ℕ)) (id : ℕ) (es : List (DocId × Listed)) → is_some (lookup (λ k. nat_eq id (id_number k)) es) ≡ is_live (map (kept_document ws) es) id
is_some-kept ws id [] = refl
is_some-kept ws id (e ∷ es) = by (nat_eq id (id_number e.0)) (is_some-kept ws id es)
  where
    by : (b : Bool) → is_some (lookup (λ k. nat_eq id (id_number k)) es) ≡ is_live (map (kept_document ws) es) id
        → is_some (cond b (Some e.1) (lookup (λ k. nat_eq id (id_number k)) es)) ≡ (b || is_live (map (kept_document ws) es) id)
    by true h = refl
    by false h = h

module _ (es fs : List (Word × ℕ)) (ws : List (List ℕ)) (counted : counts_of fs ≡ fold counted_up (counts_of es) ws) where
  -- words counted more stand after those that were there
  pub words_behind : (vs : List (List ℕ)) × (table_words fs ≡ table_words es ++ vs)
  words_behind = (
    new_to (keys_of (counts_of es)) (first_seen ws),
    sym (keys-counts word_bytes fs) ∙ ap keys_of counted ∙ keys-fold ws (counts_of es) ∙ ap (λ ks. ks ++ new_to (keys_of (counts_of es)) (first_seen ws)) (keys-counts word_bytes es),
  )

  pub front_stays : take (length (table_words es)) (table_words fs) ≡ table_words es
  front_stays = ap (take (length (table_words es))) words_behind.1 ∙ take-append_seam (table_words es) words_behind.0

  pub no_fewer : length es ≤ length fs
  no_fewer =
      omega (arith, length-map {B = List ℕ} es (λ e. word_bytes e.0), length-map {B = List ℕ} fs (λ e. word_bytes e.0), ap length words_behind.1, length-append (table_words es) words_behind.0)

-- with no entries there are no documents, and all is as it is to be
pub indexed_empty : (docs : Inside) → docs.documents.entries ≡ [] → docs.words.entries ≡ [] → docs.pairs ≡ 0 → hasher_of docs.documents ≡ hasher_of docs.words → IsIndexed docs
unfolding IsDistinct
indexed_empty docs none empty zero hashers =
    let nothing : documents_of docs ≡ [] = ap (map (kept_document (table_words docs.words.entries))) none in
    record {
      numbered = subst (All (λ e. All (λ n. n < length docs.words.entries) e.1.numbers.items)) (sym none) (All-nil _);
      whole = subst (All (λ e. e.1.live ≡ Some (length e.1.numbers.items))) (sym none) (All-nil _);
      counts = ap counts_of empty ∙ ap (λ ds. tally (all_words ds)) (sym nothing);
      pairs = zero ∙ ap pairs_of (sym nothing);
      collected = subst IsCollected (sym nothing) (record { documents = omega arith; pairs = omega arith; different = tt; are_documents = All-nil IsDocument });
      hashers = hashers;
    }

-- an identifier that isn't live goes last
pub insert_entry-kept : (ws : List (List ℕ)) (id : DocId) (listed : Listed) (es : List (DocId × Listed)) → is_live (map (kept_document ws) es) (id_number id) ≡ false
    → insert_entry (λ a b. nat_eq (id_number a) (id_number b)) es id listed ≡ es ++ (id, listed) ∷ []
insert_entry-kept ws id listed [] absent = refl
insert_entry-kept ws id listed (e ∷ es) absent =
    by (nat_eq (id_number id) (id_number e.0)) absent (insert_entry-kept ws id listed es)
  where
    by : (b : Bool) → (b || is_live (map (kept_document ws) es) (id_number id)) ≡ false
        → (is_live (map (kept_document ws) es) (id_number id) ≡ false → insert_entry (λ a b. nat_eq (id_number a) (id_number b)) es id listed ≡ es ++ (id, listed) ∷ [])
        → (if b then (e.0, listed) ∷ es else e ∷ insert_entry (λ a b. nat_eq (id_number a) (id_number b)) es id listed) ≡ e ∷ es ++ (id, listed) ∷ []
    by true h rest = absurd (true≢false h)
    by false h rest = ap (λ r. e ∷ r) (rest h)

module _ (docs : Inside) (indexed : IsIndexed docs) (doc : Document) (id : DocId) (listed : Listed) (es : List (DocId × Listed)) (fs : List (Word × ℕ))
    (is : id_number id ≡ doc.id) (absent : is_live (documents_of docs) doc.id ≡ false)
    (inserted : es ≡ insert_entry (λ a b. nat_eq (id_number a) (id_number b)) docs.documents.entries id listed)
    (counted : counts_of fs ≡ fold counted_up (counts_of docs.words.entries) doc.words)
    (numbers : words_by_number (table_words fs) listed.numbers.items ≡ doc.words) where
  pub entries_pushed : es ≡ docs.documents.entries ++ (id, listed) ∷ []
  entries_pushed = inserted ∙ insert_entry-kept (table_words docs.words.entries) id listed docs.documents.entries (ap (is_live (documents_of docs)) is ∙ absent)

  numbered_by_words : All (λ e. All (λ n. n < length (table_words docs.words.entries)) e.1.numbers.items) docs.documents.entries
  numbered_by_words =
      let len = length-map {B = List ℕ} docs.words.entries (λ e. word_bytes e.0) in
      All-weaker (λ e. All (λ n. n < length docs.words.entries) e.1.numbers.items) (λ e. All (λ n. n < length (table_words docs.words.entries)) e.1.numbers.items)
      (λ e all. All-weaker (λ n. n < length docs.words.entries) (λ n. n < length (table_words docs.words.entries)) (λ n lt. omega (arith, len, lt)) e.1.numbers.items all)
      docs.documents.entries indexed.numbered

  -- the documents with one more
  pub documents_pushed : map (kept_document (table_words fs)) es ≡ documents_of docs ++ doc ∷ []
  documents_pushed =
      ap (map (kept_document (table_words fs))) entries_pushed
      ∙ map-append (kept_document (table_words fs)) docs.documents.entries ((id, listed) ∷ [])
      ∙ ap (λ ds. ds ++ kept_document (table_words fs) (id, listed) ∷ []) (kept-grown (table_words docs.words.entries) (table_words fs) (front_stays docs.words.entries fs doc.words counted) docs.documents.entries numbered_by_words)
      ∙ (λ i. documents_of docs ++ record { id = is i; words = numbers i } ∷ [])

  -- whose numbers lie in the table
  pub numbered_pushed : All (λ n. n < length fs) listed.numbers.items → All (λ e. All (λ n. n < length fs) e.1.numbers.items) es
  numbered_pushed here =
      let grown = no_fewer docs.words.entries fs doc.words counted in
      subst (All (λ e. All (λ n. n < length fs) e.1.numbers.items)) (sym entries_pushed)
      (All-push (λ e. All (λ n. n < length fs) e.1.numbers.items) docs.documents.entries (id, listed)
      (All-weaker (λ e. All (λ n. n < length docs.words.entries) e.1.numbers.items) (λ e. All (λ n. n < length fs) e.1.numbers.items)
      (λ e all. All-weaker (λ n. n < length docs.words.entries) (λ n. n < length fs) (λ n lt. omega (arith, grown, lt)) e.1.numbers.items all)
      docs.documents.entries indexed.numbered)
      here)

  -- and all of whose words are live
  pub whole_pushed : listed.live ≡ Some (length listed.numbers.items) → All (λ e. e.1.live ≡ Some (length e.1.numbers.items)) es
  whole_pushed here =
      subst (All (λ e. e.1.live ≡ Some (length e.1.numbers.items))) (sym entries_pushed)
      (All-push (λ e. e.1.live ≡ Some (length e.1.numbers.items)) docs.documents.entries (id, listed) indexed.whole here)

  -- and whose words the table counts
  pub counts_pushed : counts_of fs ≡ tally (all_words (map (kept_document (table_words fs)) es))
  counts_pushed =
      counted
      ∙ ap (λ cs. fold counted_up cs doc.words) indexed.counts
      ∙ sym (tally-append [] (all_words (documents_of docs)) doc.words)
      ∙ ap tally (sym (all_words-push (documents_of docs) doc))
      ∙ ap (λ ds. tally (all_words ds)) (sym documents_pushed)
