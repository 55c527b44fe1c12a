-- What is spelled in front of other bytes is spelled there in one way.
use Rattle.std.proofs.Common.{◌≡◌, ℕ, ◌^◌, ◌<◌, ◌≤◌, Bool, true, false, List, [], ◌∷◌, ◌++◌, length, get_or, take, drop, None, Some, nat_lt, refl, sym, ap, ◌∙◌, append_assoc, arith}
use Rattle.std.specs.Prelude.{All, option_map, if◌then◌else◌}
use Rattle.std.specs.Int.{w16, w32, w64, to_be_bytes, from_be_bytes}
use Rattle.std.specs.List.{flat_map}
use Rattle.std.proofs.Math.Seq.{take-append_seam, drop-append_seam}
use Rattle.std.proofs.lemmas.Bool.{ltb-false}
use Rattle.std.proofs.lemmas.List.{append-nil, length-append, nil_from_length}
use Rattle.std.proofs.lemmas.List.Elements.{All-head, All-tail}
use Rattle.std.proofs.lemmas.Nat.{from_be_bytes-to_be_bytes_2, from_be_bytes-to_be_bytes_4, from_be_bytes-to_be_bytes_8}
use Rattle.client_registry.specs.Document.{Document}
use Rattle.client_registry.specs.DocumentRule.{IsDocument, doc_refusal, first_repeat}
use Rattle.client_registry.specs.Documents.{IsCollected}
use Rattle.client_registry.specs.declared.faults.DocFault.TheVariants.{TooManyWords, RepeatedWord}
use Rattle.client_records.specs.Records.{word_field, document_field, documents_field}
use Rattle.client_records.specs.ReaderFaults.{IsWord}

-- bytes that are cut at one place
pub cut_once : (a b r s : List ℕ) → length a ≡ length b → a ++ r ≡ b ++ s → (a ≡ b) × (r ≡ s)
cut_once a b r s len e = (
  sym (take-append_seam a r) ∙ ap (take (length a)) e ∙ ap (λ (n : ℕ). take n (b ++ s)) len ∙ take-append_seam b s,
  sym (drop-append_seam a r) ∙ ap (drop (length a)) e ∙ ap (λ (n : ℕ). drop n (b ++ s)) len ∙ drop-append_seam b s,
)

-- numbers of 16, 32 and 64 bits
pub number16_once : (n m : ℕ) (r s : List ℕ) → n < 2 ^ 16 → m < 2 ^ 16 → to_be_bytes w16 n ++ r ≡ to_be_bytes w16 m ++ s → (n ≡ m) × (r ≡ s)
number16_once n m r s a b e =
    let parts = cut_once (to_be_bytes w16 n) (to_be_bytes w16 m) r s refl e in
    (sym (from_be_bytes-to_be_bytes_2 n a) ∙ ap (from_be_bytes w16) parts.0 ∙ from_be_bytes-to_be_bytes_2 m b, parts.1)

pub number32_once : (n m : ℕ) (r s : List ℕ) → n < 2 ^ 32 → m < 2 ^ 32 → to_be_bytes w32 n ++ r ≡ to_be_bytes w32 m ++ s → (n ≡ m) × (r ≡ s)
number32_once n m r s a b e =
    let parts = cut_once (to_be_bytes w32 n) (to_be_bytes w32 m) r s refl e in
    (sym (from_be_bytes-to_be_bytes_4 n a) ∙ ap (from_be_bytes w32) parts.0 ∙ from_be_bytes-to_be_bytes_4 m b, parts.1)

pub number64_once : (n m : ℕ) (r s : List ℕ) → n < 2 ^ 64 → m < 2 ^ 64 → to_be_bytes w64 n ++ r ≡ to_be_bytes w64 m ++ s → (n ≡ m) × (r ≡ s)
number64_once n m r s a b e =
    let parts = cut_once (to_be_bytes w64 n) (to_be_bytes w64 m) r s refl e in
    (sym (from_be_bytes-to_be_bytes_8 n a) ∙ ap (from_be_bytes w64) parts.0 ∙ from_be_bytes-to_be_bytes_8 m b, parts.1)

-- a word
pub word_once : (v w r s : List ℕ) → word_field v ++ r ≡ word_field w ++ s → (v ≡ w) × (r ≡ s)
word_once v w r s e = cut_once v w r s (ap (λ (l : List ℕ). get_or l 0 0) e) (ap (drop 1) e)

-- things one after the other, each of which is spelled in one way
module _ {A : Type 0} (field : A → List ℕ) (keeps : A → Type 0) (once : (x y : A) (r s : List ℕ) → keeps x → keeps y → field x ++ r ≡ field y ++ s → (x ≡ y) × (r ≡ s)) where
  -- some of them are the first of more
  pub front_once : (xs ys : List A) (r s : List ℕ) → All keeps xs → All keeps ys → length xs ≤ length ys → flat_map field xs ++ r ≡ flat_map field ys ++ s
      → (zs : List A) × (ys ≡ xs ++ zs) × (r ≡ flat_map field zs ++ s)
  front_once [] ys r s kx ky le e = (ys, refl, e)
  front_once (x ∷ xs) [] r s kx ky le e = absurd (omega (arith, le))
  front_once (x ∷ xs) (y ∷ ys) r s kx ky le e =
      let whole : field x ++ (flat_map field xs ++ r) ≡ field y ++ (flat_map field ys ++ s) =
      sym (append_assoc (field x) (flat_map field xs) r) ∙ e ∙ append_assoc (field y) (flat_map field ys) s in
      let first = once x y (flat_map field xs ++ r) (flat_map field ys ++ s) (All-head keeps x xs kx) (All-head keeps y ys ky) whole in
      let rest = front_once xs ys r s (All-tail keeps x xs kx) (All-tail keeps y ys ky) (omega (arith, le)) first.1 in
      (rest.0, ap (λ (z : A). z ∷ ys) (sym first.0) ∙ ap (λ (zs : List A). x ∷ zs) rest.1, rest.2)

  -- so many of them
  pub all_once : (xs ys : List A) (r s : List ℕ) → All keeps xs → All keeps ys → length xs ≡ length ys → flat_map field xs ++ r ≡ flat_map field ys ++ s → (xs ≡ ys) × (r ≡ s)
  all_once xs ys r s kx ky len e =
      let front = front_once xs ys r s kx ky (omega (arith, len)) e in
      let none : front.0 ≡ [] = nil_from_length front.0 (omega (arith, len, ap length front.1, length-append xs front.0)) in
      (sym (front.1 ∙ ap (λ (zs : List A). xs ++ zs) none ∙ append-nil xs), front.2 ∙ ap (λ (zs : List A). flat_map field zs ++ s) none)

-- a document has at most 4,096 words
pub few_words : (words : List (List ℕ)) → doc_refusal words ≡ None → length words ≤ 4096
few_words words h = by (nat_lt 4096 (length words)) refl h
  where
    by : (b : Bool) → nat_lt 4096 (length words) ≡ b → (if b then Some (TooManyWords (length words)) else option_map (λ position. RepeatedWord position) (first_repeat words)) ≡ None
        → length words ≤ 4096
    by true a e = absurd (cc)
    by false a e = ltb-false 4096 (length words) a

-- a document
pub document_once : (d e : Document) (r s : List ℕ) → IsDocument d → IsDocument e → document_field d ++ r ≡ document_field e ++ s → (d ≡ e) × (r ≡ s)
document_once d e r s is_d is_e same =
    let ids = number64_once d.id e.id (to_be_bytes w16 (length d.words) ++ (flat_map word_field d.words ++ r)) (to_be_bytes w16 (length e.words) ++ (flat_map word_field e.words ++ s)) is_d.fits is_e.fits same in
    let few_d : length d.words < 2 ^ 16 = omega (arith, few_words d.words is_d.accepted) in
    let few_e : length e.words < 2 ^ 16 = omega (arith, few_words e.words is_e.accepted) in
    let counts = number16_once (length d.words) (length e.words) (flat_map word_field d.words ++ r) (flat_map word_field e.words ++ s) few_d few_e ids.1 in
    let words = all_once word_field IsWord (λ v w x y _ _ h. word_once v w x y h) d.words e.words r s is_d.are_words is_e.are_words counts.0 counts.1 in
    (λ i. record { id = ids.0 i; words = words.0 i }, words.1)

-- the documents of a setup
pub documents_once : (ds es : List Document) → IsCollected ds → IsCollected es → documents_field ds ≡ documents_field es → ds ≡ es
documents_once ds es is_d is_e same =
    let counts = number32_once (length ds) (length es) (flat_map document_field ds) (flat_map document_field es) (omega (arith, is_d.documents)) (omega (arith, is_e.documents)) same in
    (all_once document_field IsDocument document_once ds es [] [] is_d.are_documents is_e.are_documents counts.0 (ap (λ (l : List ℕ). l ++ []) counts.1)).0
