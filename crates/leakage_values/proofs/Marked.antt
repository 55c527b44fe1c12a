-- What is among marked pairs and words after one more.
use Rattle.std.proofs.Common.{◌≡◌, ℕ, Bool, true, false, ◌&&◌, ◌||◌, List, [], ◌∷◌, ◌++◌, refl, sym, ap, ◌∙◌, eqb-true}
use Rattle.std.specs.Prelude.{bytes_eq, ◌==◌, if◌then◌else◌}
use Rattle.std.specs.List.{list_any}
use Rattle.std.specs.Cmp.Lexicographic.{same_text}
use Rattle.std.proofs.lemmas.Bool.{and_parts, true≢false}
use Rattle.std.proofs.lemmas.List.Folds.{list_any-append}
use Rattle.client_registry.specs.IdNumber.{id_number}
use Rattle.client_registry.specs.WordBytes.{word_bytes}
use Rattle.client_registry.specs.declared.doc_id.DocId.{DocId}
use Rattle.client_registry.specs.declared.word.Word.{Word}
use Rattle.indexmap.specs.IndexSet.{insert_key}
use Rattle.leakage_values.specs.Replayed.{has_pair, has_search}

or_false : (b : Bool) → (b || false) ≡ b
or_false true = refl
or_false false = refl

-- where an equal key is among them, a test that equal keys pass alike finds nothing more by it
among_keys : {T : Type 0} (eq : T → T → Bool) (p : T → Bool) → ((k x : T) → eq k x ≡ true → p x ≡ p k) → (ks : List T) (k : T)
    → list_any (eq k) ks ≡ true → list_any p ks ≡ (list_any p ks || p k)
among_keys eq p alike [] k found = absurd (true≢false (sym found))
among_keys eq p alike (x ∷ ks) k found = by (eq k x) refl found (among_keys eq p alike ks k)
  where
    by : (b : Bool) → eq k x ≡ b → (b || list_any (eq k) ks) ≡ true → (list_any (eq k) ks ≡ true → list_any p ks ≡ (list_any p ks || p k)) → (p x || list_any p ks) ≡ ((p x || list_any p ks) || p k)
    by true same h rest = here (p x) (p k) (list_any p ks) (alike k x same)
      where
        here : (a b c : Bool) → a ≡ b → (a || c) ≡ ((a || c) || b)
        here true b c e = refl
        here false true c e = absurd (true≢false (sym e))
        here false false c e = sym (or_false c)
    by false other h rest = there (p x) (rest h)
      where
        there : (a : Bool) → list_any p ks ≡ (list_any p ks || p k) → (a || list_any p ks) ≡ ((a || list_any p ks) || p k)
        there true e = refl
        there false e = e

-- of keys with one more
list_any-insert_key : {T : Type 0} (eq : T → T → Bool) (p : T → Bool) → ((k x : T) → eq k x ≡ true → p x ≡ p k) → (ks : List T) (k : T)
    → list_any p (insert_key eq ks k) ≡ (list_any p ks || p k)
list_any-insert_key eq p alike ks k = by (list_any (eq k) ks) refl
  where
    by : (b : Bool) → list_any (eq k) ks ≡ b → list_any p (if b then ks else ks ++ k ∷ []) ≡ (list_any p ks || p k)
    by true found = among_keys eq p alike ks k found
    by false absent = list_any-append p ks (k ∷ []) ∙ ap (λ b. list_any p ks || b) (or_false (p k))

abbrev same_pair : Word × DocId → Word × DocId → Bool
same_pair one other = bytes_eq (word_bytes one.0) (word_bytes other.0) && id_number one.1 == id_number other.1

pub has_pair-insert : (w : List ℕ) (n : ℕ) (pairs : List (Word × DocId)) (word : Word) (id : DocId)
    → has_pair w n (insert_key same_pair pairs (word, id)) ≡ (has_pair w n pairs || bytes_eq w (word_bytes word) && n == id_number id)
has_pair-insert w n pairs word id = list_any-insert_key same_pair (λ pair. bytes_eq w (word_bytes pair.0) && n == id_number pair.1) alike pairs (word, id)
  where
    alike : (k x : Word × DocId) → same_pair k x ≡ true → (bytes_eq w (word_bytes x.0) && n == id_number x.1) ≡ (bytes_eq w (word_bytes k.0) && n == id_number k.1)
    alike k x same =
        let parts = and_parts (bytes_eq (word_bytes k.0) (word_bytes x.0)) (id_number k.1 == id_number x.1) same in
        λ i. bytes_eq w (sym (same_text (word_bytes k.0) (word_bytes x.0) (sym parts.0)) i) && n == sym (eqb-true (id_number k.1) (id_number x.1) parts.1) i

abbrev same_word : Word → Word → Bool
same_word one other = bytes_eq (word_bytes one) (word_bytes other)

pub has_search-insert : (w : List ℕ) (words : List Word) (word : Word) → has_search w (insert_key same_word words word) ≡ (has_search w words || bytes_eq w (word_bytes word))
has_search-insert w words word = list_any-insert_key same_word (λ other. bytes_eq w (word_bytes other)) alike words word
  where
    alike : (k x : Word) → same_word k x ≡ true → bytes_eq w (word_bytes x) ≡ bytes_eq w (word_bytes k)
    alike k x same = ap (bytes_eq w) (sym (same_text (word_bytes k) (word_bytes x) (sym same)))
