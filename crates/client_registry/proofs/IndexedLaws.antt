-- What the counts beside the documents tell of a collected list.
use Rattle.std.proofs.Common.{◌≡◌, ℕ, ◌<◌, ◌≤◌, ◌^◌, List, [], ◌∷◌, length, map, Some, refl, sym, ap, ◌∙◌, subst, arith}
use Rattle.std.specs.Prelude.{All, slice_get, unwrap_or, option_map}
use Rattle.std.specs.Map.{lookup, keys_of}
use Rattle.std.specs.Str.{bytes_eq}
use Rattle.std.proofs.lemmas.List.{length-map}
use Rattle.std.proofs.lemmas.List.Elements.{All-weaker}
use Rattle.std.proofs.lemmas.Option.{get_or_from_slice_get, slice_get-map, slice_get_within}
use Rattle.client_registry.proofs.TallyLaws.{lookup-counts, lookup-All, tally-some}
use Rattle.client_registry.proofs.WordsLaws.{keys-tally, length-first_seen, count_at-tally, length-ids_with, ids_with-below}
use Rattle.client_registry.specs.Documents.{all_words, words_of, ids_with, list_lengths}
use Rattle.client_registry.specs.DocumentRule.{IsDocument}
use Rattle.client_registry.specs.DocsView.{documents_of, kept_document, IsIndexed}
use Rattle.client_registry.specs.Tally.{counts_of}
use Rattle.client_registry.specs.WordBytes.{word_bytes}
use Rattle.client_registry.specs.WordTable.{table_words}
use Rattle.client_registry.specs.declared.doc_id.DocId.{DocId}
use Rattle.client_registry.specs.declared.listed.Listed.{Listed}
use Rattle.client_registry.specs.declared.collected.Docs.TheInside.{Inside}
use Rattle.client_registry.specs.declared.word.Word.{Word}

keys-counts_of : (es : List (Word × ℕ)) → keys_of (counts_of es) ≡ map (λ e. word_bytes e.0) es
keys-counts_of [] = refl
keys-counts_of (e ∷ es) = ap (λ ks. word_bytes e.0 ∷ ks) (keys-counts_of es)

module _ (docs : Inside) (indexed : IsIndexed docs) where
  -- the counted words are those of the documents by first appearance
  pub counted_words : map (λ e. word_bytes e.0) docs.words.entries ≡ words_of (documents_of docs)
  counted_words =
      sym (keys-counts_of docs.words.entries) ∙ ap keys_of indexed.counts ∙ keys-tally (all_words (documents_of docs))

  -- there are as many as entries
  pub length-counted_words : length docs.words.entries ≡ length (words_of (documents_of docs))
  length-counted_words =
      sym (length-map docs.words.entries (λ e. word_bytes e.0)) ∙ ap length counted_words

  -- and at most 2^20
  pub words_within : length docs.words.entries ≤ 2 ^ 20
  words_within = omega (arith, length-counted_words, length-first_seen (all_words (documents_of docs)), indexed.collected.pairs)

  -- the count of a word is how many documents hold it
  pub count_found : (bs : List ℕ) (n : ℕ) → lookup (λ k. bytes_eq bs (word_bytes k)) docs.words.entries ≡ Some n → length (ids_with (documents_of docs) bs) ≡ n
  count_found bs n at =
      sym (length-ids_with (documents_of docs) bs indexed.collected.are_documents)
      ∙ sym (count_at-tally (all_words (documents_of docs)) bs)
      ∙ ap (λ es. unwrap_or (lookup (bytes_eq bs) es) 0) (sym indexed.counts)
      ∙ ap (λ o. unwrap_or o 0) (sym (lookup-counts word_bytes bs docs.words.entries) ∙ at)

  module _ (bs : List ℕ) (n : ℕ) (at : lookup (λ k. bytes_eq bs (word_bytes k)) docs.words.entries ≡ Some n) where
    -- at least one document holds a word that is counted
    pub count_some : 1 ≤ n
    count_some =
        lookup-All (bytes_eq bs) (λ m. 1 ≤ m) (counts_of docs.words.entries) n (subst (All (λ e. 1 ≤ e.1)) (sym indexed.counts) (tally-some (all_words (documents_of docs)))) (sym (lookup-counts word_bytes bs docs.words.entries) ∙ at)

    -- and no more than there are
    pub count_within : n ≤ length (documents_of docs)
    count_within = omega (arith, count_found bs n at, ids_with-below (documents_of docs) bs)

  module _ (w : ℕ) (word : Word) (n : ℕ) (at : slice_get docs.words.entries w ≡ Some (word, n)) where
    -- the word at a place of the entries has this number
    pub word_at : slice_get (words_of (documents_of docs)) w ≡ Some (word_bytes word)
    word_at =
        ap (λ ws. slice_get ws w) (sym counted_words) ∙ slice_get-map (λ e. word_bytes e.0) docs.words.entries w ∙ ap (option_map (λ e. word_bytes e.0)) at

    -- and its count stands by this number
    pub list_length_at : lookup (λ k. bytes_eq (word_bytes word) (word_bytes k)) docs.words.entries ≡ Some n → slice_get (list_lengths (documents_of docs)) w ≡ Some n
    list_length_at found =
        slice_get-map (λ v. length (ids_with (documents_of docs) v)) (words_of (documents_of docs)) w
        ∙ ap (option_map (λ v. length (ids_with (documents_of docs) v))) word_at
        ∙ ap (λ m. Some m) (count_found (word_bytes word) n found)

  -- a number within the entries is within the words
  words_as_entries : (n : ℕ) → n < length docs.words.entries → n < length (words_of (documents_of docs))
  words_as_entries n lt = omega (arith, lt, length-counted_words)

  module _ (i : ℕ) (e : DocId × Listed) (at : slice_get docs.documents.entries i ≡ Some e) where
    abbrev all_words_of : List (List ℕ)
    all_words_of = words_of (documents_of docs)

    -- the document at a place of the entries
    pub document_at : slice_get (documents_of docs) i ≡ Some (kept_document all_words_of e)
    document_at =
        slice_get-map (kept_document (table_words docs.words.entries)) docs.documents.entries i
        ∙ ap (option_map (kept_document (table_words docs.words.entries))) at
        ∙ ap (λ ws. Some (kept_document ws e)) counted_words

    -- its numbers are numbers of words
    pub numbers_at : All (λ n. n < length all_words_of) e.1.numbers.items
    numbers_at =
        let within = slice_get_within docs.documents.entries i e at in
        let here = get_or_from_slice_get docs.documents.entries i e e at in
        All-weaker (λ n. n < length docs.words.entries) (λ n. n < length all_words_of) words_as_entries e.1.numbers.items
        (subst (λ (x : DocId × Listed). All (λ n. n < length docs.words.entries) x.1.numbers.items) here (indexed.numbered i e within))

    -- and it keeps the limits of a document
    pub valid_at : IsDocument (kept_document all_words_of e)
    valid_at =
        let doc = kept_document all_words_of e in
        let within = slice_get_within (documents_of docs) i doc document_at in
        subst IsDocument (get_or_from_slice_get (documents_of docs) i doc doc document_at) (indexed.collected.are_documents i doc within)
