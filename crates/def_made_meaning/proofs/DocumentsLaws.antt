-- The documents of a made script, as they are collected.
use Rattle.std.proofs.Common.{◌≡◌, ◌≢◌, ℕ, zero, suc, ◌+◌, ◌*◌, ◌<◌, ◌≤◌, ◌^◌, ◌==◌, Bool, true, false, ◌||◌, List, [], length, map, refl, sym, ap, subst, ◌∙◌, arith}
use Rattle.std.specs.Prelude.{None, Some, if◌then◌else◌}
use Rattle.std.specs.List.{range_with_len}
use Rattle.std.specs.Option.{option_and_then, option_or}
use Rattle.std.proofs.lemmas.Bool.{eqb-false, le-ltb, ne_eqb}
use Rattle.std.proofs.lemmas.List.{length-append}
use Rattle.std.proofs.lemmas.List.FromFn.{length-map-range_with_len, map-range_with_len_more}
use Rattle.client_registry.proofs.PushLaws.{IsCollected-push}
use Rattle.client_registry.specs.Document.{Document}
use Rattle.client_registry.specs.DocumentRule.{IsDocument}
use Rattle.client_registry.specs.Documents.{IsCollected, all_words, docs_refusal, is_live, pairs_of}
use Rattle.client_registry.specs.declared.faults.DocsFault.TheVariants.{AlreadyLive, TooManyDocuments, TooManyPairs}
use Rattle.script_documents.specs.LineDocument.{document}
use Rattle.script_documents.specs.Refused.{collect_refusal, docs_refused, document_refusal}
use Rattle.script_documents.proofs.Passed.{document_passed}
use Rattle.script_made_documents.proofs.MadeDocuments.{document_refusal-made}
use Rattle.script_made_lines.specs.Words.{made_words}
use Rattle.def_script_meaning.proofs.Kept.{IsKeptAt-opened}

-- the document of this number
abbrev pub made_doc : (seed i : ℕ) → Document
made_doc seed i = document i (made_words seed i)

-- the first so many
abbrev pub made_docs : (seed k : ℕ) → List Document
made_docs seed k = map (made_doc seed) (range_with_len 1 k)

-- those of a row of numbers are live,
pub live_within : (seed a k x : ℕ) → a ≤ x → x < a + k → is_live (map (made_doc seed) (range_with_len a k)) x ≡ true
live_within seed a zero x low high = absurd (omega (arith, low, high))
live_within seed a (suc k) x low high = by (x == a) refl (λ other. live_within seed (a + 1) k x (omega (arith, low, other)) (omega (arith, high)))
  where
    by : (b : Bool) → (x == a) ≡ b → (x ≢ a → is_live (map (made_doc seed) (range_with_len (a + 1) k)) x ≡ true) → (b || is_live (map (made_doc seed) (range_with_len (a + 1) k)) x) ≡ true
    by true e later = refl
    by false e later = later (eqb-false x a e)

-- and none behind them
pub live_behind : (seed a k x : ℕ) → a + k ≤ x → is_live (map (made_doc seed) (range_with_len a k)) x ≡ false
live_behind seed a zero x high = refl
live_behind seed a (suc k) x high =
    ap (λ (b : Bool). b || is_live (map (made_doc seed) (range_with_len (a + 1) k)) x) (ne_eqb x a (λ e. omega (arith, e, high)))
    ∙ live_behind seed (a + 1) k x (omega (arith, high))

-- each has 60 words
pub length-all_words : (seed a k : ℕ) → length (all_words (map (made_doc seed) (range_with_len a k))) ≡ 60 * k
length-all_words seed a zero = refl
length-all_words seed a (suc k) =
    let rest = all_words (map (made_doc seed) (range_with_len (a + 1) k)) in
    let own : length (made_words seed a) ≡ 60 = refl in
    omega (arith, length-append (made_words seed a) rest, own, length-all_words seed (a + 1) k)

module _ (seed k : ℕ) (few : k < 10000) where
  abbrev docs : List Document
  docs = made_docs seed k

  abbrev next : Document
  next = made_doc seed (k + 1)

  new : is_live docs (k + 1) ≡ false
  new = live_behind seed 1 k (k + 1) (omega arith)

  count : length docs + 1 ≤ 2 ^ 18
  count = omega (arith, few, length-map-range_with_len (made_doc seed) 1 k)

  pairs : pairs_of docs + length (made_words seed (k + 1)) ≤ 2 ^ 20
  pairs =
      let own : length (made_words seed (k + 1)) ≡ 60 = refl in
      omega (arith, few, own, length-all_words seed 1 k)

  docs_refusal-next : docs_refusal docs next ≡ None
  docs_refusal-next =
      λ i. if new i then Some (AlreadyLive (k + 1))
      else if le-ltb (2 ^ 18) (length docs + 1) count i then Some (TooManyDocuments (length docs + 1))
      else if le-ltb (2 ^ 20) (pairs_of docs + length (made_words seed (k + 1))) pairs i then Some (TooManyPairs (pairs_of docs + length (made_words seed (k + 1))))
      else None

  document_refusal-next : document_refusal (k + 1) (made_words seed (k + 1)) ≡ None
  document_refusal-next = document_refusal-made seed (k + 1) (omega arith) (omega (arith, few))

  -- the next one is collected
  pub collect_refusal-next : collect_refusal (made_docs seed k) (made_doc seed (k + 1)) ≡ None
  collect_refusal-next = λ i. option_or (document_refusal-next i) (option_and_then docs_refused (docs_refusal-next i))

  next_is_document : IsDocument next
  next_is_document = document_passed (k + 1) (made_words seed (k + 1)) (omega (arith, few)) document_refusal-next

  pub collected-next : IsCollected (made_docs seed k) → IsCollected (made_docs seed (k + 1))
  collected-next were =
      subst IsCollected (sym (map-range_with_len_more (made_doc seed) 1 k (k + 1) (omega arith)))
      (IsCollected-push docs next were next_is_document new count pairs)

-- all of them keep the limits
pub collected-made : (seed k : ℕ) → k ≤ 10000 → IsCollected (made_docs seed k)
collected-made seed zero few = let kept = IsKeptAt-opened None 0 [] in kept.documents
collected-made seed (suc k) few =
    let same : k + 1 ≡ suc k = omega arith in
    subst (λ m. IsCollected (made_docs seed m)) same (collected-next seed k (omega (arith, few)) (collected-made seed k (omega (arith, few))))
