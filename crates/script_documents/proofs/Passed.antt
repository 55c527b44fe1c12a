-- What isn't refused keeps the limits: a word, the fields of a document, a document, and those that are collected.
use Rattle.std.proofs.Common.{◌≡◌, ◌≢◌, ℕ, ◌+◌, ◌^◌, ◌<◌, ◌≤◌, Bool, true, false, List, [], ◌∷◌, length, nat_lt, refl, sym, arith}
use Rattle.std.specs.Prelude.{◌==◌, All, Option, None, Some, if◌then◌else◌}
use Rattle.std.specs.Option.{option_and_then, option_or, option_map}
use Rattle.std.proofs.lemmas.Bool.{eqb-false, ltb-false}
use Rattle.std.proofs.lemmas.List.Elements.{All-nil, All-cons}
use Rattle.std.proofs.lemmas.Option.{none-some}
use Rattle.client_registry.specs.declared.faults.WordFault.TheVariants as words
use Rattle.client_registry.specs.declared.faults.DocFault.TheVariants as documents
use Rattle.client_registry.specs.declared.faults.DocsFault.TheVariants as collected
use Rattle.client_registry.specs.WordRule.{word_refusal, clean_len}
use Rattle.client_registry.specs.Document.{Document}
use Rattle.client_registry.specs.DocumentRule.{IsDocument, doc_refusal, first_repeat}
use Rattle.client_registry.specs.Documents.{docs_refusal, is_live, pairs_of}
use Rattle.sse_script.specs.declared.refusal.Refusal.TheVariants.{Zero}
use Rattle.script_documents.specs.LineDocument.{document}
use Rattle.script_documents.specs.Refused.{word_refused, doc_refused, docs_refused, bad_word, document_refusal}

-- something isn't nothing
pub some-none : {A : Type 0} (x : A) → Some x ≡ None → ⊥
some-none x e = none-some x (sym e)

-- neither of two causes stands
pub neither : {A : Type 0} (a b : Option A) → option_or a b ≡ None → (a ≡ None) × (b ≡ None)
neither None b h = (refl, h)
neither (Some x) b h = absurd (some-none x h)

-- a cause that is tested first doesn't stand, nor what is tested after it
pub passed : {A : Type 0} (b : Bool) (x : A) (rest : Option A) → (if b then Some x else rest) ≡ None → (b ≡ false) × (rest ≡ None)
passed true x rest h = absurd (some-none x h)
passed false x rest h = (refl, h)

-- Each fault is a refusal, but for want of memory, which no rule names.

pub word_passed : (position : ℕ) (word : List ℕ) → option_and_then (word_refused position) (word_refusal word) ≡ None → word_refusal word ≡ None
word_passed position word = by (length word == 0) (nat_lt 64 (length word)) (nat_lt (clean_len word) (length word))
  where
    by : (a b c : Bool) →
        option_and_then (word_refused position) (if a then Some words.Empty else if b then Some (words.TooLong (length word)) else if c then Some (words.BadByte (clean_len word)) else None) ≡ None →
        (if a then Some words.Empty else if b then Some (words.TooLong (length word)) else if c then Some (words.BadByte (clean_len word)) else None) ≡ None
    by true b c h = absurd (some-none _ h)
    by false true c h = absurd (some-none _ h)
    by false false true h = absurd (some-none _ h)
    by false false false h = refl

abbrev IsWord : List ℕ → Type 0
IsWord word = word_refusal word ≡ None

words_passed : (position : ℕ) (fields : List (List ℕ)) → bad_word position fields ≡ None → All IsWord fields
words_passed position [] h = All-nil IsWord
words_passed position (word ∷ later) h =
    let both = neither _ (bad_word (position + 1) later) h in
    All-cons IsWord word later (word_passed position word both.0) (words_passed (position + 1) later both.1)

doc_passed : (fields : List (List ℕ)) → option_and_then doc_refused (doc_refusal fields) ≡ None → doc_refusal fields ≡ None
doc_passed fields = by (nat_lt 4096 (length fields)) (first_repeat fields)
  where
    by : (many : Bool) (repeat : Option ℕ) →
        option_and_then doc_refused (if many then Some (documents.TooManyWords (length fields)) else option_map (λ position. documents.RepeatedWord position) repeat) ≡ None →
        (if many then Some (documents.TooManyWords (length fields)) else option_map (λ position. documents.RepeatedWord position) repeat) ≡ None
    by true repeat h = absurd (some-none _ h)
    by false None h = refl
    by false (Some position) h = absurd (some-none _ h)

-- what is left of the fields of a document that isn't refused
pub document_passed : (id : ℕ) (fields : List (List ℕ)) → id < 2 ^ 64 → document_refusal id fields ≡ None → IsDocument (document id fields)
document_passed id fields fits h =
    let whole = passed (id == 0) Zero _ h in
    let both = neither (bad_word 0 fields) _ whole.1 in
    let some : id ≢ 0 = eqb-false id 0 whole.0 in record {
      some = omega (arith, some);
      fits = fits;
      accepted = doc_passed fields both.1;
      are_words = words_passed 0 fields both.0;
    }

-- what is so of a document that the others take
pub record IsTaken (docs : List Document) (d : Document) : Type 0 where
  pub new : is_live docs d.id ≡ false
  pub documents : length docs + 1 ≤ 2 ^ 18
  pub pairs : pairs_of docs + length d.words ≤ 2 ^ 20

pub docs_passed : (docs : List Document) (d : Document) → option_and_then docs_refused (docs_refusal docs d) ≡ None → IsTaken docs d
docs_passed docs d = by (is_live docs d.id) (nat_lt (2 ^ 18) (length docs + 1)) (nat_lt (2 ^ 20) (pairs_of docs + length d.words)) refl refl refl
  where
    by : (a b c : Bool) → is_live docs d.id ≡ a → nat_lt (2 ^ 18) (length docs + 1) ≡ b → nat_lt (2 ^ 20) (pairs_of docs + length d.words) ≡ c →
        option_and_then docs_refused (if a then Some (collected.AlreadyLive d.id) else if b then Some (collected.TooManyDocuments (length docs + 1)) else if c then Some (collected.TooManyPairs (pairs_of docs + length d.words)) else None) ≡ None →
        IsTaken docs d
    by true b c e f g h = absurd (some-none _ h)
    by false true c e f g h = absurd (some-none _ h)
    by false false true e f g h = absurd (some-none _ h)
    by false false false e f g h = record { new = e; documents = ltb-false _ _ f; pairs = ltb-false _ _ g }
