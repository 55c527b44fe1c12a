-- The registry of a setup tells the facts of the setup.
use Rattle.std.proofs.Common.{◌≡◌, ℕ, ◌<◌, ◌≤◌, Bool, true, false, cond, ◌||◌, ◌&&◌, List, [], ◌∷◌, length, map, take, drop, find, Some, nat_eq, unwrap_or, refl, sym, ap, ◌∙◌, subst, arith}
use Rattle.std.specs.Prelude.{All, ◌==◌, option_map, option_and_then}
use Rattle.std.specs.List.{list_any, AllByRecursion, IsDistinct}
use Rattle.std.specs.List.Sorted.{IsNonDecreasing}
use Rattle.std.specs.Map.{lookup}
use Rattle.std.specs.Option.{option_map_or}
use Rattle.std.specs.Str.{bytes_eq}
use Rattle.std.proofs.lemmas.Bool.{eqb-true}
use Rattle.std.proofs.lemmas.Cmp.{nat_eq_equiv}
use Rattle.std.proofs.lemmas.List.{drop_all, length-map, take_all}
use Rattle.std.proofs.lemmas.List.Elements.{All-cons, All-nil, All-head, All-tail, All-weaker}
use Rattle.two_level.specs.Shape.{Shape}
use Rattle.indexmap.specs.IndexMap.{hasher_of}
use Rattle.client_registry.specs.Document.{Document}
use Rattle.client_registry.specs.DocumentRule.{IsDocument}
use Rattle.client_registry.specs.Documents.{has_word, words_of}
use Rattle.client_registry.specs.DocsView.{documents_of, kept_document, IsIndexed}
use Rattle.client_registry.specs.Facts.{words_with_id}
use Rattle.client_registry.specs.IdNumber.{id_number}
use Rattle.client_registry.specs.Live.{holds_pair}
use Rattle.client_registry.specs.Numbered.{words_by_number}
use Rattle.client_registry.specs.Registered.{known_words, Kept, Represents}
use Rattle.client_registry.specs.RegistryView.{kept_entry, registered_of, IsKept, IsSound}
use Rattle.client_registry.specs.Tally.{counts_of}
use Rattle.client_registry.specs.WordBytes.{word_bytes}
use Rattle.client_registry.specs.WordTable.{table_words}
use Rattle.client_registry.specs.declared.collected.Docs.TheInside.{Inside as Collected}
use Rattle.client_registry.specs.declared.doc_id.DocId.{DocId}
use Rattle.client_registry.specs.declared.listed.Listed.{Listed}
use Rattle.client_registry.specs.declared.registry.Registry.TheInside.{Inside}
use Rattle.client_registry.specs.declared.word.Word.{Word}
use Rattle.client_registry.proofs.BoundLaws.{bound-zeros}
use Rattle.client_registry.proofs.DistinctLaws.{IsDistinct-first_seen}
use Rattle.client_registry.proofs.IndexedLaws.{counted_words, words_within}
use Rattle.client_registry.proofs.RegistryLaws.{known_table}

abbrev Whole : DocId × Listed → Type 0
Whole e = e.1.live ≡ Some (length e.1.numbers.items)

module _ (ws : List (List ℕ)) where
  -- all documents are live
  setup_live : (es : List (DocId × Listed)) → All Whole es → (id : ℕ)
      → option_and_then (λ (k : Kept). option_map (λ n. words_by_number ws (take n k.numbers)) k.live) (find (λ k. nat_eq id k.id) (map kept_entry es)) ≡ words_with_id (map (kept_document ws) es) id
  setup_live [] all id = refl
  setup_live (e ∷ es) all id = by (nat_eq id (id_number e.0)) (setup_live es (All-tail Whole e es all) id)
    where
      by : (b : Bool) → option_and_then (λ (k : Kept). option_map (λ n. words_by_number ws (take n k.numbers)) k.live) (find (λ k. nat_eq id k.id) (map kept_entry es)) ≡ words_with_id (map (kept_document ws) es) id
          → option_and_then (λ (k : Kept). option_map (λ n. words_by_number ws (take n k.numbers)) k.live) (cond b (Some (kept_entry e)) (find (λ k. nat_eq id k.id) (map kept_entry es)))
          ≡ option_map (λ (d : Document). d.words) (cond b (Some (kept_document ws e)) (find (λ (d : Document). id == d.id) (map (kept_document ws) es)))
      by true h =
          ap (option_map (λ n. words_by_number ws (take n e.1.numbers.items))) (All-head Whole e es all)
          ∙ ap (λ ns. Some (words_by_number ws ns)) (take_all (length e.1.numbers.items) e.1.numbers.items (omega arith))
      by false h = h

  -- no document of an identifier that others have
  none_with : (es : List (DocId × Listed)) (word : List ℕ) (id : ℕ) → AllByRecursion (λ y. (id == y) ≡ false) (map (λ (d : Document). d.id) (map (kept_document ws) es)) → holds_pair (map (kept_document ws) es) word id ≡ false
  none_with [] word id all = refl
  none_with (e ∷ es) word id all =
      ap (λ b. b && has_word word (kept_document ws e) || holds_pair (map (kept_document ws) es) word id) (nat_eq_equiv.symm (id_number e.0) id ∙ all.0) ∙ none_with es word id all.1

  -- the pairs of the documents are listed
  setup_listed : (es : List (DocId × Listed)) → IsDistinct (λ x y. x == y) (map (λ (d : Document). d.id) (map (kept_document ws) es)) → (word : List ℕ) (id : ℕ)
      → option_map_or (λ (k : Kept). list_any (bytes_eq word) (words_by_number ws k.numbers)) (find (λ k. nat_eq id k.id) (map kept_entry es)) false ≡ (holds_pair (map (kept_document ws) es) word id || false)
  unfolding IsDistinct
  setup_listed [] differ word id = refl
  setup_listed (e ∷ es) differ word id = by (nat_eq id (id_number e.0)) refl (setup_listed es differ.1 word id)
    where
      or_false : (b : Bool) → b ≡ (b || false || false)
      or_false true = refl
      or_false false = refl

      by : (b : Bool) → nat_eq id (id_number e.0) ≡ b
          → option_map_or (λ (k : Kept). list_any (bytes_eq word) (words_by_number ws k.numbers)) (find (λ k. nat_eq id k.id) (map kept_entry es)) false ≡ (holds_pair (map (kept_document ws) es) word id || false)
          → option_map_or (λ (k : Kept). list_any (bytes_eq word) (words_by_number ws k.numbers)) (cond b (Some (kept_entry e)) (find (λ k. nat_eq id k.id) (map kept_entry es))) false
          ≡ (((id_number e.0 == id) && has_word word (kept_document ws e) || holds_pair (map (kept_document ws) es) word id) || false)
      by true is h =
          let same = eqb-true id (id_number e.0) is in
          let others : holds_pair (map (kept_document ws) es) word id ≡ false = ap (holds_pair (map (kept_document ws) es) word) same ∙ none_with es word (id_number e.0) differ.0 in
          or_false (list_any (bytes_eq word) (words_by_number ws e.1.numbers.items))
          ∙ sym (λ i. ((nat_eq_equiv.symm (id_number e.0) id ∙ is) i && has_word word (kept_document ws e) || others i) || false)
      by false is h =
          h ∙ sym (ap (λ b. (b && has_word word (kept_document ws e) || holds_pair (map (kept_document ws) es) word id) || false) (nat_eq_equiv.symm (id_number e.0) id ∙ is))

-- all counters are 0
setup_counter : (es : List (Word × ℕ)) → All (λ e. e.1 ≡ 0) es → (word : List ℕ) → unwrap_or (lookup (bytes_eq word) (counts_of es)) 0 ≡ 0
setup_counter [] all word = refl
setup_counter (e ∷ es) all word = by (bytes_eq word (word_bytes e.0)) (setup_counter es (All-tail (λ (x : Word × ℕ). x.1 ≡ 0) e es all) word)
  where
    by : (b : Bool) → unwrap_or (lookup (bytes_eq word) (counts_of es)) 0 ≡ 0 → unwrap_or (cond b (Some e.1) (lookup (bytes_eq word) (counts_of es))) 0 ≡ 0
    by true h = All-head (λ (x : Word × ℕ). x.1 ≡ 0) e es all
    by false h = h

module _ (docs : Collected) (indexed : IsIndexed docs) (r : Inside) (same_documents : r.documents.entries ≡ docs.documents.entries)
    (same_words : table_words r.words.entries ≡ table_words docs.words.entries) (cleared : All (λ e. e.1 ≡ 0) r.words.entries) where
  pub known_setup : known_words (registered_of r) ≡ words_of (documents_of docs)
  known_setup = known_table r ∙ same_words ∙ counted_words docs indexed

  -- the registry of a setup represents the setup
  pub Represents-setup : (shape : Shape) (pad : ℕ) → Represents (registered_of r) (record { documents = documents_of docs; shape = shape; pad = pad }) []
  Represents-setup shape pad =
      let table = known_table r ∙ same_words in
      λ i. record {
        live = λ id. (ap (λ ws. option_and_then (λ (k : Kept). option_map (λ n. words_by_number ws (take n k.numbers)) k.live) (find (λ k. nat_eq id k.id) (map kept_entry r.documents.entries))) table
            ∙ ap (λ es. option_and_then (λ (k : Kept). option_map (λ n. words_by_number (table_words docs.words.entries) (take n k.numbers)) k.live) (find (λ k. nat_eq id k.id) (map kept_entry es))) same_documents
            ∙ setup_live (table_words docs.words.entries) docs.documents.entries indexed.whole id) i;
        listed = λ word id. (ap (λ ws. option_map_or (λ (k : Kept). list_any (bytes_eq word) (words_by_number ws k.numbers)) (find (λ k. nat_eq id k.id) (map kept_entry r.documents.entries)) false) table
            ∙ ap (λ es. option_map_or (λ (k : Kept). list_any (bytes_eq word) (words_by_number (table_words docs.words.entries) k.numbers)) (find (λ k. nat_eq id k.id) (map kept_entry es)) false) same_documents
            ∙ setup_listed (table_words docs.words.entries) docs.documents.entries indexed.collected.different word id) i;
        counter = λ word. setup_counter r.words.entries cleared word i;
      }

  -- and is sound
  kept_setup : (es : List (DocId × Listed)) → All (λ e. All (λ n. n < length docs.words.entries) e.1.numbers.items) es → All Whole es → All IsDocument (map (kept_document (table_words docs.words.entries)) es)
      → All (λ e. IsKept (table_words docs.words.entries) (kept_entry e)) es
  kept_setup [] numbered whole valid = All-nil (λ e. IsKept (table_words docs.words.entries) (kept_entry e))
  kept_setup (e ∷ es) numbered whole valid =
      All-cons (λ x. IsKept (table_words docs.words.entries) (kept_entry x)) e es here
      (kept_setup es (All-tail (λ (x : DocId × Listed). All (λ n. n < length docs.words.entries) x.1.numbers.items) e es numbered) (All-tail Whole e es whole)
      (All-tail IsDocument (kept_document (table_words docs.words.entries) e) (map (kept_document (table_words docs.words.entries)) es) valid))
    where
      numbers : List ℕ
      numbers = e.1.numbers.items

      all_live : Whole e
      all_live = All-head Whole e es whole

      here : IsKept (table_words docs.words.entries) (kept_entry e)
      here = record {
        numbered =
            All-weaker (λ n. n < length docs.words.entries) (λ n. n < length (table_words docs.words.entries)) (λ n lt. omega (arith, lt, length-map {B = List ℕ} docs.words.entries (λ x. word_bytes x.0))) numbers
            (All-head (λ (x : DocId × Listed). All (λ n. n < length docs.words.entries) x.1.numbers.items) e es numbered);
        within = subst (λ o. unwrap_or o 0 ≤ length numbers) (sym all_live) (omega arith);
        in_order = subst (λ o. IsNonDecreasing (drop (unwrap_or o 0) numbers)) (sym all_live) (subst IsNonDecreasing (sym (drop_all (length numbers) numbers (omega arith))) (λ i j d le lt. absurd (omega (arith, lt))));
        valid = λ n live.
            let same : length numbers ≡ n = cc (all_live, live) in
            subst (λ ns. IsDocument (record { id = id_number e.0; words = words_by_number (table_words docs.words.entries) ns }))
            (sym (take_all n numbers (omega (arith, same))))
            (All-head IsDocument (kept_document (table_words docs.words.entries) e) (map (kept_document (table_words docs.words.entries)) es) valid);
      }

  pub sound_setup : r.next.items ≡ [] → r.again.items ≡ [] → hasher_of r.documents ≡ hasher_of r.words → IsSound r
  sound_setup next again hashers = record {
    words_differ = subst (IsDistinct bytes_eq) (sym (same_words ∙ counted_words docs indexed)) (IsDistinct-first_seen _);
    kept =
        subst (λ ws. All (λ e. IsKept ws (kept_entry e)) r.documents.entries) (sym same_words)
        (subst (All (λ e. IsKept (table_words docs.words.entries) (kept_entry e))) (sym same_documents)
        (kept_setup docs.documents.entries indexed.numbered indexed.whole indexed.collected.are_documents));
    few =
        omega (arith, length-map {B = List ℕ} r.words.entries (λ x. word_bytes x.0), length-map {B = List ℕ} docs.words.entries (λ x. word_bytes x.0), ap length same_words, words_within docs indexed);
    next = next;
    again = again;
    hashers = hashers;
    bound = λ free. bound-zeros r.words.entries r.most cleared;
  }
