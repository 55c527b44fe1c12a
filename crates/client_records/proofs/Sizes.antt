-- How many bytes words, documents and setups take.
use Rattle.std.proofs.Common.{◌≡◌, ℕ, ◌+◌, ◌*◌, ◌^◌, ◌<◌, ◌≤◌, List, [], ◌∷◌, ◌++◌, length, map, get_or, take, Some, sym, ap, append_assoc, ◌∙◌, arith}
use Rattle.std.specs.Prelude.{All, slice_get, slice_index_or}
use Rattle.std.specs.Int.{w16, w64, to_be_bytes}
use Rattle.std.specs.List.{flat_map}
use Rattle.std.proofs.lemmas.List.{append-nil, get_or-map, length-append, length-map, take_more}
use Rattle.std.proofs.lemmas.List.Concat.{flat_map-append}
use Rattle.std.proofs.lemmas.List.Elements.{All-head, All-tail}
use Rattle.std.proofs.lemmas.List.Folds.{length-flat_map-take}
use Rattle.std.proofs.lemmas.Option.{get_or_from_slice_get}
use Rattle.client_registry.proofs.WordLaws.{length-word}
use Rattle.client_registry.specs.Document.{Document}
use Rattle.client_registry.specs.DocumentRule.{IsDocument}
use Rattle.client_registry.specs.Documents.{all_words, pairs_of, IsCollected}
use Rattle.client_registry.specs.Numbered.{words_by_number}
use Rattle.client_registry.specs.Setup.{Setup}
use Rattle.client_registry.specs.WordBytes.{word_bytes}
use Rattle.client_registry.specs.declared.word.Word.{Word}
use Rattle.client_records.specs.Records.{word_field, document_field, documents_field, setup_record}
use Rattle.client_records.specs.ReaderFaults.{IsWord}
use Rattle.client_records.proofs.Setups.{setup_record-tail}

-- what one more of them adds
pub flat_more : {A : Type 0} (field : A → List ℕ) (xs : List A) (i : ℕ) (x d : A) → i < length xs → get_or xs i d ≡ x → flat_map field (take (i + 1) xs) ≡ flat_map field (take i xs) ++ field x
flat_more {A} field xs i x d lt is =
    ap (flat_map field) (take_more xs i d lt)
    ∙ flat_map-append field (take i xs) (get_or xs i d ∷ [])
    ∙ ap (λ (l : List ℕ). flat_map field (take i xs) ++ l) (append-nil (field (get_or xs i d)))
    ∙ ap (λ (y : A). flat_map field (take i xs) ++ field y) is

-- a word takes at most 65 bytes
pub words_size : (words : List (List ℕ)) → All IsWord words → length (flat_map word_field words) ≤ 65 * length words
words_size [] all = omega arith
words_size (word ∷ words) all =
    omega (arith, (length-word word (All-head IsWord word words all)).1, words_size words (All-tail IsWord word words all), length-append word (flat_map word_field words))

-- a document 10 more
pub documents_size : (docs : List Document) → All IsDocument docs → length (flat_map document_field docs) ≤ 10 * length docs + 65 * pairs_of docs
documents_size [] all = omega arith
documents_size (d ∷ docs) all =
    omega (arith, words_size d.words (All-head IsDocument d docs all).are_words, documents_size docs (All-tail IsDocument d docs all), length-append (flat_map word_field d.words) (flat_map document_field docs), length-append d.words (all_words docs))

-- the record of a setup has less than 2^27 bytes
pub setup_size : (mark : List ℕ) (s : Setup) → length mark ≡ 16 → IsCollected s.documents → length (setup_record mark s) ≤ 27 + 10 * 2 ^ 18 + 65 * 2 ^ 20
setup_size mark s size is =
    omega (arith, ap length (setup_record-tail mark s), length-append mark (to_be_bytes w16 s.shape.b ++ (to_be_bytes w16 s.shape.big ++ (to_be_bytes w16 s.pad ++ documents_field s.documents))), size, documents_size s.documents is.are_documents, is.documents, is.pairs)

module _ {A : Type 0} (field : A → List ℕ) (xs : List A) (i : ℕ) (x d : A) (lt : i < length xs) (is : get_or xs i d ≡ x) where
  -- how many bytes one more of them adds
  pub length-more : length (flat_map field (take (i + 1) xs)) ≡ length (flat_map field (take i xs)) + length (field x)
  length-more = ap length (flat_more field xs i x d lt is) ∙ length-append (flat_map field (take i xs)) (field x)

  -- it is one of all
  pub fits_more : length (flat_map field (take i xs)) + length (field x) ≤ length (flat_map field xs)
  fits_more = omega (arith, length-flat_map-take field xs i d lt, ap (λ (y : A). length (field y)) is)

  -- bytes with one more of them
  pub put_more : (start now next : List ℕ) → next ≡ now ++ field x → now ≡ start ++ flat_map field (take i xs) → next ≡ start ++ flat_map field (take (i + 1) xs)
  put_more start now next put so_far =
      put
      ∙ ap (λ (l : List ℕ). l ++ field x) so_far
      ∙ append_assoc start (flat_map field (take i xs)) (field x)
      ∙ ap (λ (l : List ℕ). start ++ l) (sym (flat_more field xs i x d lt is))

-- the word at a place of words of the code
pub word_at : (words : List Word) (i : ℕ) (w : Word) → i < length words → w ≡ get_or words i w → get_or (map word_bytes words) i [] ≡ word_bytes w
word_at words i w lt is = get_or-map word_bytes words i w [] lt ∙ ap word_bytes (sym is)

-- the word at a place of words by number
pub numbered_at : (known : List (List ℕ)) (numbers : List ℕ) (i : ℕ) (word : List ℕ) → i < length numbers → slice_get known (get_or numbers i 0) ≡ Some word
    → get_or (words_by_number known numbers) i [] ≡ word
numbered_at known numbers i word lt is = get_or-map (λ (n : ℕ). slice_index_or known n []) numbers i 0 [] lt ∙ get_or_from_slice_get known (get_or numbers i 0) word [] is

-- what is put of an addition is its record
pub addition_put : (start kind head all : List ℕ) (d : Document) (id : ℕ) (words : List Word) → kind ≡ start ++ 0x12 ∷ [] → head ≡ kind ++ (to_be_bytes w64 id ++ to_be_bytes w16 (length words))
    → all ≡ head ++ flat_map word_field (map word_bytes words) → id ≡ d.id → map word_bytes words ≡ d.words → all ≡ start ++ (0x12 ∷ document_field d)
addition_put start kind head all d id words put_kind put_head put_words is_id is_words =
    let bytes : List ℕ = flat_map word_field (map word_bytes words) in
    let front : List ℕ = to_be_bytes w64 id ++ to_be_bytes w16 (length words) in
    let same : start ++ (0x12 ∷ document_field (record { id = id; words = map word_bytes words })) ≡ start ++ (0x12 ∷ document_field d) =
    λ i. start ++ (0x12 ∷ document_field (record { id = is_id i; words = is_words i })) in
    put_words
    ∙ ap (λ (l : List ℕ). l ++ bytes) (put_head ∙ ap (λ (l : List ℕ). l ++ front) put_kind)
    ∙ append_assoc (start ++ 0x12 ∷ []) front bytes
    ∙ append_assoc start (0x12 ∷ []) (front ++ bytes)
    ∙ ap (λ (n : ℕ). start ++ (0x12 ∷ (to_be_bytes w64 id ++ to_be_bytes w16 n ++ bytes))) (sym (length-map words word_bytes))
    ∙ same
