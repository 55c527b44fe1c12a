-- Why nothing is spelled in front of bytes, or by all of them.
use Rattle.std.proofs.Common.{◌≡◌, ℕ, ◌+◌, ◌^◌, ◌<◌, ◌≤◌, Bool, false, ◌||◌, List, [], ◌∷◌, ◌++◌, length, map, Option, None, Some, nat_lt, refl, sym, ap, subst, ◌∙◌, append_assoc, arith}
use Rattle.std.specs.Prelude.{All, ◌==◌, if◌then◌else◌}
use Rattle.std.specs.Int.{w16, w32, w64, to_be_bytes}
use Rattle.std.specs.List.{flat_map, AllByRecursion, IsDistinct}
use Rattle.std.proofs.Math.Seq.{get_or-append_seam}
use Rattle.std.proofs.lemmas.Bool.{le-ltb}
use Rattle.std.proofs.lemmas.Cmp.{nat_eq_equiv}
use Rattle.std.proofs.lemmas.List.{append-nil, length-append, length_push}
use Rattle.std.proofs.lemmas.List.Concat.{flat_map-append}
use Rattle.std.proofs.lemmas.List.Elements.{All-push}
use Rattle.std.proofs.lemmas.Map.Keys.{IsDistinct-head, IsDistinct-tail}
use Rattle.client_registry.specs.Document.{Document}
use Rattle.client_registry.specs.DocumentRule.{IsDocument, doc_refusal}
use Rattle.client_registry.specs.Documents.{all_words, docs_refusal, is_live, pairs_of, IsCollected}
use Rattle.client_registry.specs.declared.faults.DocsFault.{DocsFault}
use Rattle.client_registry.specs.declared.faults.DocsFault.TheVariants.{AlreadyLive, TooManyDocuments, TooManyPairs}
use Rattle.client_records.specs.Records.{word_field, document_field, documents_field}
use Rattle.client_records.specs.ReaderFaults.{IsWord, AreDocuments, AreWords, IsNotInFront, IsNotWhole}
use Rattle.client_records.proofs.Once.{number16_once, number32_once, number64_once, word_once, front_once, all_once, few_words, document_once}

-- where some were read and no other stands behind them, there aren't more
module _ {A : Type 0} (field : A → List ℕ) (keeps : A → Type 0) (once : (x y : A) (r s : List ℕ) → keeps x → keeps y → field x ++ r ≡ field y ++ s → (x ≡ y) × (r ≡ s)) (bytes rest more : List ℕ)
    (done : List A) (read : bytes ≡ flat_map field done ++ rest) (kept : All keeps done) where
  pub no_more : (xs : List A) → All keeps xs → length done < length xs → bytes ≡ flat_map field xs ++ more → IsNotInFront field keeps rest → ⊥
  no_more xs keep lt e none =
      let front = front_once field keeps once done xs rest more kept keep (omega (arith, lt)) (sym read ∙ e) in
      by front.0 front.1 front.2
    where
      by : (zs : List A) → xs ≡ done ++ zs → rest ≡ flat_map field zs ++ more → ⊥
      by [] is there = omega (arith, lt, ap length is, length-append done [])
      by (z ∷ zs) is there =
          let all : All keeps (done ++ z ∷ zs) = subst (All keeps) is keep in
          let this : keeps z = subst keeps (get_or-append_seam done z zs z) (all (length done) z (omega (arith, length-append done (z ∷ zs)))) in
          none z (flat_map field zs ++ more) this (there ∙ append_assoc (field z) (flat_map field zs) more)

-- one more that was read
pub one_more : {A : Type 0} (field : A → List ℕ) (bytes rest more : List ℕ) (done : List A) (x : A) → bytes ≡ flat_map field done ++ rest → rest ≡ field x ++ more → bytes ≡ flat_map field (done ++ x ∷ []) ++ more
one_more {A} field bytes rest more done x read next =
    let whole : flat_map field (done ++ x ∷ []) ≡ flat_map field done ++ field x = flat_map-append field done (x ∷ []) ∙ ap (λ (l : List ℕ). flat_map field done ++ l) (append-nil (field x)) in
    read ∙ ap (λ (l : List ℕ). flat_map field done ++ l) next ∙ sym (append_assoc (flat_map field done) (field x) more) ∙ ap (λ (l : List ℕ). l ++ more) (sym whole)

-- words of which the next isn't there
pub no_words : (count : ℕ) (bytes rest : List ℕ) (done : List (List ℕ)) → bytes ≡ flat_map word_field done ++ rest → All IsWord done → length done < count → IsNotInFront word_field IsWord rest
    → IsNotInFront (flat_map word_field) (AreWords count) bytes
no_words count bytes rest done read kept lt none words more are e =
    no_more word_field IsWord (λ v w x y _ _ h. word_once v w x y h) bytes rest more done read kept words are.each (omega (arith, lt, are.count_is)) e none

-- documents of which the next isn't there
pub no_documents : (count : ℕ) (bytes rest : List ℕ) (done : List Document) → bytes ≡ flat_map document_field done ++ rest → All IsDocument done → length done < count → IsNotInFront document_field IsDocument rest
    → IsNotInFront (flat_map document_field) (AreDocuments count) bytes
no_documents count bytes rest done read kept lt none docs more are e =
    no_more document_field IsDocument document_once bytes rest more done read kept docs are.collected.are_documents (omega (arith, lt, are.count_is)) e none

-- an identifier that stands behind others is none of theirs
apart : (docs : List Document) (d : Document) (more : List Document) (id : ℕ) → AllByRecursion (λ other. (id == other) ≡ false) (map (λ e. e.id) (docs ++ d ∷ more)) → (id == d.id) ≡ false
apart [] d more id all = all.0
apart (e ∷ docs) d more id all = apart docs d more id all.1

not_live : (docs : List Document) (d : Document) (more : List Document) → IsDistinct (λ x y. x == y) (map (λ e. e.id) (docs ++ d ∷ more)) → is_live docs d.id ≡ false
not_live [] d more differ = refl
not_live (e ∷ docs) d more differ =
    let first = apart docs d more e.id (IsDistinct-head (λ (x : ℕ) (y : ℕ). x == y) e.id (map (λ e. e.id) (docs ++ d ∷ more)) differ) in
    ap (λ (b : Bool). b || is_live docs d.id) (nat_eq_equiv.symm d.id e.id ∙ first)
    ∙ not_live docs d more (IsDistinct-tail (λ (x : ℕ) (y : ℕ). x == y) e.id (map (λ e. e.id) (docs ++ d ∷ more)) differ)

-- each document that is collected was taken after those before it
taken : (docs : List Document) (d : Document) (more : List Document) → IsCollected (docs ++ d ∷ more) → docs_refusal docs d ≡ None
taken docs d more is =
    let pairs : pairs_of docs + length d.words ≤ 2 ^ 20 =
    omega (arith, is.pairs, ap length (flat_map-append (λ (e : Document). e.words) docs (d ∷ more)), length-append (all_words docs) (d.words ++ all_words more), length-append d.words (all_words more)) in
    let many : length docs + 1 ≤ 2 ^ 18 = omega (arith, is.documents, length-append docs (d ∷ more)) in
    let over : Option DocsFault = if nat_lt (2 ^ 20) (pairs_of docs + length d.words) then Some (TooManyPairs (pairs_of docs + length d.words)) else None in
    ap (λ (b : Bool). if b then Some (AlreadyLive d.id) else if nat_lt (2 ^ 18) (length docs + 1) then Some (TooManyDocuments (length docs + 1)) else over) (not_live docs d more is.different)
    ∙ ap (λ (b : Bool). if b then Some (TooManyDocuments (length docs + 1)) else over) (le-ltb (2 ^ 18) (length docs + 1) many)
    ∙ ap (λ (b : Bool). if b then Some (TooManyPairs (pairs_of docs + length d.words)) else None) (le-ltb (2 ^ 20) (pairs_of docs + length d.words) pairs)

-- documents of which the next is refused after those before it
pub no_documents_refused : (count : ℕ) (bytes rest tail : List ℕ) (done : List Document) (d : Document) → bytes ≡ flat_map document_field done ++ rest → All IsDocument done → length done < count
    → rest ≡ document_field d ++ tail → IsDocument d → (docs_refusal done d ≡ None → ⊥) → IsNotInFront (flat_map document_field) (AreDocuments count) bytes
no_documents_refused count bytes rest tail done d read kept lt next is bad docs more are e =
    let front = front_once document_field IsDocument document_once (done ++ d ∷ []) docs tail more (All-push IsDocument done d kept is) are.collected.are_documents
    (omega (arith, lt, are.count_is, length_push done d)) (sym (one_more document_field bytes rest tail done d read next) ∙ e) in
    let whole : docs ≡ done ++ d ∷ front.0 = front.1 ∙ append_assoc done (d ∷ []) front.0 in
    bad (taken done d front.0 (subst IsCollected whole are.collected))

module _ (bytes rest : List ℕ) (id : ℕ) (fits : id < 2 ^ 64) (first : bytes ≡ to_be_bytes w64 id ++ rest) where
  -- what a document in front has
  document_is : (d : Document) (more : List ℕ) → IsDocument d → bytes ≡ document_field d ++ more → (id ≡ d.id) × (rest ≡ to_be_bytes w16 (length d.words) ++ (flat_map word_field d.words ++ more))
  document_is d more is e =
      number64_once id d.id rest (to_be_bytes w16 (length d.words) ++ (flat_map word_field d.words ++ more)) fits is.fits (sym first ∙ e)

  module _ (tail : List ℕ) (count : ℕ) (small : count < 2 ^ 16) (second : rest ≡ to_be_bytes w16 count ++ tail) where
    words_are : (d : Document) (more : List ℕ) → IsDocument d → bytes ≡ document_field d ++ more → (count ≡ length d.words) × (tail ≡ flat_map word_field d.words ++ more)
    words_are d more is e =
        let few : length d.words < 2 ^ 16 = omega (arith, few_words d.words is.accepted) in
        number16_once count (length d.words) tail (flat_map word_field d.words ++ more) small few (sym second ∙ (document_is d more is e).1)

    -- its words are none of a document
    pub no_document_refused : (words : List (List ℕ)) (behind : List ℕ) → tail ≡ flat_map word_field words ++ behind → AreWords count words → (doc_refusal words ≡ None → ⊥)
        → IsNotInFront document_field IsDocument bytes
    no_document_refused words behind there are bad d more is e =
        let parts = words_are d more is e in
        let same = all_once word_field IsWord (λ v w x y _ _ h. word_once v w x y h) d.words words more behind is.are_words are.each (sym parts.0 ∙ sym are.count_is) (sym parts.1 ∙ there) in
        bad (subst (λ (ws : List (List ℕ)). doc_refusal ws ≡ None) same.0 is.accepted)

-- a document that isn't the whole of the bytes
pub no_document_more : (bytes rest : List ℕ) (d : Document) → IsDocument d → bytes ≡ document_field d ++ rest → 0 < length rest → IsNotWhole document_field IsDocument bytes
no_document_more bytes rest d is read some e is_e whole =
    let same = document_once d e rest [] is is_e (sym read ∙ whole ∙ sym (append-nil (document_field e))) in
    absurd (omega (arith, some, ap length same.1))

module _ (bytes rest : List ℕ) (count : ℕ) (fits : count < 2 ^ 32) (first : bytes ≡ to_be_bytes w32 count ++ rest) where
  documents_are : (ds : List Document) → IsCollected ds → bytes ≡ documents_field ds → (count ≡ length ds) × (rest ≡ flat_map document_field ds)
  documents_are ds is e = number32_once count (length ds) rest (flat_map document_field ds) fits (omega (arith, is.documents)) (sym first ∙ e)

  -- so many documents aren't there
  pub no_documents_whole : IsNotInFront (flat_map document_field) (AreDocuments count) rest → IsNotWhole documents_field IsCollected bytes
  no_documents_whole none ds is e =
      let parts = documents_are ds is e in
      none ds [] (record { count_is = sym parts.0; collected = is }) (parts.1 ∙ sym (append-nil (flat_map document_field ds)))

  -- they aren't the whole of the bytes
  pub no_documents_more : (ds : List Document) (tail : List ℕ) → AreDocuments count ds → rest ≡ flat_map document_field ds ++ tail → 0 < length tail → IsNotWhole documents_field IsCollected bytes
  no_documents_more ds tail are read some es is e =
      let parts = documents_are es is e in
      let same = all_once document_field IsDocument document_once ds es tail [] are.collected.are_documents is.are_documents (are.count_is ∙ parts.0) (sym read ∙ parts.1 ∙ sym (append-nil (flat_map document_field es))) in
      absurd (omega (arith, some, ap length same.1))
