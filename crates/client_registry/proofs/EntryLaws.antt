-- What a registry tells once the entry of an identifier is another.
use Rattle.std.proofs.Common.{◌≡◌, ℕ, suc, ◌<◌, ◌≤◌, Bool, true, false, cond, List, [], ◌∷◌, ◌++◌, length, take, drop, get_or, Option, None, Some, nat_eq, position, unwrap_or, refl, sym, ap, ◌∙◌, subst, arith}
use Rattle.std.specs.Prelude.{All, if◌then◌else◌, option_map, option_and_then}
use Rattle.std.specs.List.{list_any}
use Rattle.std.specs.List.Sorted.{IsNonDecreasing, IsPermutation}
use Rattle.std.specs.Map.{keys_of, lookup}
use Rattle.std.specs.Str.{bytes_eq}
use Rattle.std.specs.Option.{option_map_or, option_or}
use Rattle.std.proofs.lemmas.Bool.{true≢false, eqb-true, eq-eqb}
use Rattle.std.proofs.lemmas.List.Elements.{All-cons, All-head, All-nil, All-push, All-tail}
use Rattle.std.proofs.lemmas.List.Sorted.{list_any-IsPermutation, All-permutation}
use Rattle.indexmap.specs.IndexMap.{hasher_of, insert_entry, set_value_at, IndexMap}
use Rattle.client_registry.specs.Command.{Delete}
use Rattle.client_registry.specs.Facts.{facts_after}
use Rattle.client_registry.specs.IdNumber.{id_number}
use Rattle.client_registry.specs.Numbered.{words_by_number}
use Rattle.client_registry.specs.Registered.{facts, kept_of, known_words, Kept}
use Rattle.client_registry.specs.RegistryView.{kept_entry, registered_of, IsKept, IsSound}
use Rattle.client_registry.specs.WordTable.{table_words}
use Rattle.client_registry.specs.declared.doc_id.DocId.{DocId}
use Rattle.client_registry.specs.declared.hash_keys.HashKeys.{HashKeys}
use Rattle.client_registry.specs.declared.listed.Listed.{Listed}
use Rattle.client_registry.specs.declared.registry.Registry.TheInside.{Inside}
use Rattle.client_registry.proofs.Positions.{position-cons}
use Rattle.client_registry.proofs.PushLaws.{list_any-map}
use Rattle.client_registry.proofs.RegistryLaws.{kept_as, kept_found, known_table, listed_found, live_found}

-- an identifier is looked up among entries of which one is another
pub lookup_replaced : (es : List (DocId × Listed)) (id p : ℕ) → position (λ k. nat_eq id (id_number k)) (keys_of es) ≡ Some p → (new : Listed) (q : ℕ)
    → lookup (λ k. nat_eq q (id_number k)) (set_value_at es p new) ≡ (if nat_eq q id then Some new else lookup (λ k. nat_eq q (id_number k)) es)
lookup_replaced [] id p at new q = absurd (cc)
lookup_replaced (e ∷ es) id p at new q =
    by (nat_eq id (id_number e.0)) refl (position (λ k. nat_eq id (id_number k)) (keys_of es)) (sym (position-cons (λ k. nat_eq id (id_number k)) e.0 (keys_of es)) ∙ at) (λ m h. lookup_replaced es id m h new q)
  where
    Test : ℕ → DocId → Bool
    Test n k = nat_eq n (id_number k)

    first : (b c : Bool) → b ≡ c → cond b (Some new) (lookup (λ k. nat_eq q (id_number k)) es) ≡ (if c then Some new else cond b (Some e.1) (lookup (λ k. nat_eq q (id_number k)) es))
    first true true same = refl
    first true false same = absurd (true≢false same)
    first false true same = absurd (true≢false (sym same))
    first false false same = refl

    later : (b c : Bool) → (c ≡ true → b ≡ false) → cond b (Some e.1) (if c then Some new else lookup (λ k. nat_eq q (id_number k)) es) ≡ (if c then Some new else cond b (Some e.1) (lookup (λ k. nat_eq q (id_number k)) es))
    later true true apart = absurd (true≢false (apart refl))
    later true false apart = refl
    later false true apart = refl
    later false false apart = refl

    by : (b : Bool) → nat_eq id (id_number e.0) ≡ b → (o : Option ℕ) → cond b (Some 0) (option_map (λ k. suc k) o) ≡ Some p
        → ((m : ℕ) → o ≡ Some m → lookup (λ k. nat_eq q (id_number k)) (set_value_at es m new) ≡ (if nat_eq q id then Some new else lookup (λ k. nat_eq q (id_number k)) es))
        → lookup (λ k. nat_eq q (id_number k)) (set_value_at (e ∷ es) p new) ≡ (if nat_eq q id then Some new else cond (nat_eq q (id_number e.0)) (Some e.1) (lookup (λ k. nat_eq q (id_number k)) es))
    by true is o h rest =
        let here : 0 ≡ p = cc in
        subst (λ n. lookup (λ k. nat_eq q (id_number k)) (set_value_at (e ∷ es) n new) ≡ (if nat_eq q id then Some new else cond (nat_eq q (id_number e.0)) (Some e.1) (lookup (λ k. nat_eq q (id_number k)) es))) here
        (first (nat_eq q (id_number e.0)) (nat_eq q id) (ap (nat_eq q) (sym (eqb-true id (id_number e.0) is))))
    by false is None h rest = absurd (cc)
    by false is (Some m) h rest =
        let next : suc m ≡ p = cc in
        subst (λ n. lookup (λ k. nat_eq q (id_number k)) (set_value_at (e ∷ es) n new) ≡ (if nat_eq q id then Some new else cond (nat_eq q (id_number e.0)) (Some e.1) (lookup (λ k. nat_eq q (id_number k)) es))) next
        (ap (cond (nat_eq q (id_number e.0)) (Some e.1)) (rest m refl)
        ∙ later (nat_eq q (id_number e.0)) (nat_eq q id) (λ same. ap (λ n. nat_eq n (id_number e.0)) (eqb-true q id same) ∙ is))

-- what is so of all that is kept is so of all, where it is so of the new entry
pub All_replaced : (P : Kept → Type 0) (es : List (DocId × Listed)) (id p : ℕ) → position (λ k. nat_eq id (id_number k)) (keys_of es) ≡ Some p → (new : Listed)
    → P (kept_as id new) → All (λ e. P (kept_entry e)) es → All (λ e. P (kept_entry e)) (set_value_at es p new)
All_replaced P [] id p at new here all = absurd (cc)
All_replaced P (e ∷ es) id p at new here all =
    by (nat_eq id (id_number e.0)) refl (position (λ k. nat_eq id (id_number k)) (keys_of es)) (sym (position-cons (λ k. nat_eq id (id_number k)) e.0 (keys_of es)) ∙ at)
    (λ m h. All_replaced P es id m h new here (All-tail (λ x. P (kept_entry x)) e es all))
  where
    by : (b : Bool) → nat_eq id (id_number e.0) ≡ b → (o : Option ℕ) → cond b (Some 0) (option_map (λ k. suc k) o) ≡ Some p
        → ((m : ℕ) → o ≡ Some m → All (λ x. P (kept_entry x)) (set_value_at es m new)) → All (λ x. P (kept_entry x)) (set_value_at (e ∷ es) p new)
    by true is o h rest =
        let zero_is : 0 ≡ p = cc in
        subst (λ n. All (λ x. P (kept_entry x)) (set_value_at (e ∷ es) n new)) zero_is
        (All-cons (λ x. P (kept_entry x)) (e.0, new) es (subst (λ n. P (kept_as n new)) (eqb-true id (id_number e.0) is) here) (All-tail (λ x. P (kept_entry x)) e es all))
    by false is None h rest = absurd (cc)
    by false is (Some m) h rest =
        let next : suc m ≡ p = cc in
        subst (λ n. All (λ x. P (kept_entry x)) (set_value_at (e ∷ es) n new)) next
        (All-cons (λ x. P (kept_entry x)) e (set_value_at es m new) (All-head (λ x. P (kept_entry x)) e es all) (rest m refl))

module _ (r s : Inside) (id p : ℕ) (new : Listed) (place : position (λ k. nat_eq id (id_number k)) (keys_of r.documents.entries) ≡ Some p)
    (entries : s.documents.entries ≡ set_value_at r.documents.entries p new) (words : table_words s.words.entries ≡ table_words r.words.entries) where
  pub known_same : known_words (registered_of s) ≡ known_words (registered_of r)
  known_same = known_table s ∙ words ∙ sym (known_table r)

  found : (q : ℕ) → (if nat_eq q id then Some new else lookup (λ k. nat_eq q (id_number k)) r.documents.entries) ≡ lookup (λ k. nat_eq q (id_number k)) s.documents.entries
  found q = sym (ap (lookup (λ k. nat_eq q (id_number k))) entries ∙ lookup_replaced r.documents.entries id p place new q)

  -- what is live
  pub live_replaced : (q : ℕ) → (facts (registered_of s)).live q ≡ (if nat_eq q id then option_map (λ n. words_by_number (known_words (registered_of r)) (take n new.numbers.items)) new.live else (facts (registered_of r)).live q)
  live_replaced q =
      live_found s q (if nat_eq q id then Some new else lookup (λ k. nat_eq q (id_number k)) r.documents.entries) (found q)
      ∙ ap (λ ws. option_and_then (λ l. option_map (λ n. words_by_number ws (take n l.numbers.items)) l.live) (if nat_eq q id then Some new else lookup (λ k. nat_eq q (id_number k)) r.documents.entries)) known_same
      ∙ by (nat_eq q id)
    where
      by : (b : Bool) → option_and_then (λ l. option_map (λ n. words_by_number (known_words (registered_of r)) (take n l.numbers.items)) l.live) (if b then Some new else lookup (λ k. nat_eq q (id_number k)) r.documents.entries)
          ≡ (if b then option_map (λ n. words_by_number (known_words (registered_of r)) (take n new.numbers.items)) new.live else (facts (registered_of r)).live q)
      by true = refl
      by false = sym (live_found r q (lookup (λ k. nat_eq q (id_number k)) r.documents.entries) refl)

  -- what is listed
  pub listed_replaced : (word : List ℕ) (q : ℕ) → (facts (registered_of s)).listed word q ≡ (if nat_eq q id then list_any (bytes_eq word) (words_by_number (known_words (registered_of r)) new.numbers.items) else (facts (registered_of r)).listed word q)
  listed_replaced word q =
      listed_found s q (if nat_eq q id then Some new else lookup (λ k. nat_eq q (id_number k)) r.documents.entries) (found q) word
      ∙ ap (λ ws. option_map_or (λ l. list_any (bytes_eq word) (words_by_number ws l.numbers.items)) (if nat_eq q id then Some new else lookup (λ k. nat_eq q (id_number k)) r.documents.entries) false) known_same
      ∙ by (nat_eq q id)
    where
      by : (b : Bool) → option_map_or (λ l. list_any (bytes_eq word) (words_by_number (known_words (registered_of r)) l.numbers.items)) (if b then Some new else lookup (λ k. nat_eq q (id_number k)) r.documents.entries) false
          ≡ (if b then list_any (bytes_eq word) (words_by_number (known_words (registered_of r)) new.numbers.items) else (facts (registered_of r)).listed word q)
      by true = refl
      by false = sym (listed_found r q (lookup (λ k. nat_eq q (id_number k)) r.documents.entries) refl word)

-- An entry whose document is no longer live.

-- what is kept is sound once nothing is live and the numbers are in order
pub IsKept-retired : (words : List (List ℕ)) (id : ℕ) (old new : Listed) → IsKept words (kept_as id old) → new.live ≡ None → IsPermutation old.numbers.items new.numbers.items → IsNonDecreasing new.numbers.items → IsKept words (kept_as id new)
IsKept-retired words id old new had gone permuted rising = record {
  numbered = All-permutation (λ n. n < length words) old.numbers.items new.numbers.items permuted had.numbered;
  within = subst (λ o. unwrap_or o 0 ≤ length new.numbers.items) (sym gone) (omega arith);
  in_order = subst (λ o. IsNonDecreasing (drop (unwrap_or o 0) new.numbers.items)) (sym gone) rising;
  valid = λ n live. absurd (cc (live, gone));
}

-- the facts after a deletion
pub facts-retired : (r : Inside) (documents : IndexMap DocId Listed HashKeys) (id p : ℕ) (old new : Listed)
    → position (λ k. nat_eq id (id_number k)) (keys_of r.documents.entries) ≡ Some p → documents.entries ≡ set_value_at r.documents.entries p new
    → Some old ≡ lookup (λ k. nat_eq id (id_number k)) r.documents.entries → new.live ≡ None → IsPermutation old.numbers.items new.numbers.items
    → facts (registered_of (record r { documents = documents })) ≡ facts_after (facts (registered_of r)) (Delete id)
facts-retired r documents id p old new place entries at gone permuted = λ i. record {
  live = λ q. (live_replaced r s id p new place entries refl q ∙ ap (λ o. if nat_eq q id then option_map (λ n. words_by_number known (take n new.numbers.items)) o else (facts (registered_of r)).live q) gone) i;
  listed = λ word q. (listed_replaced r s id p new place entries refl word q ∙ same word q (nat_eq q id) refl) i;
  counter = (facts (registered_of r)).counter;
}
  where
    s : Inside
    s = record r { documents = documents }

    known : List (List ℕ)
    known = known_words (registered_of r)

    members : (word : List ℕ) → list_any (bytes_eq word) (words_by_number known new.numbers.items) ≡ (facts (registered_of r)).listed word id
    members word =
        list_any-map (bytes_eq word) (λ n. get_or known n []) new.numbers.items
        ∙ sym (list_any-IsPermutation (λ n. bytes_eq word (get_or known n [])) old.numbers.items new.numbers.items permuted)
        ∙ sym (list_any-map (bytes_eq word) (λ n. get_or known n []) old.numbers.items)
        ∙ sym (listed_found r id (Some old) at word)

    same : (word : List ℕ) (q : ℕ) (b : Bool) → nat_eq q id ≡ b → (if b then list_any (bytes_eq word) (words_by_number known new.numbers.items) else (facts (registered_of r)).listed word q) ≡ (facts (registered_of r)).listed word q
    same word q true is = members word ∙ ap ((facts (registered_of r)).listed word) (sym (eqb-true q id is))
    same word q false is = refl

-- An entry of an identifier that had none.

module _ (id : DocId) (empty : Listed) where
  -- it goes last
  pub insert_entry-made : (es : List (DocId × Listed)) → lookup (λ k. nat_eq (id_number id) (id_number k)) es ≡ None → insert_entry (λ a b. nat_eq (id_number a) (id_number b)) es id empty ≡ es ++ (id, empty) ∷ []
  insert_entry-made [] none = refl
  insert_entry-made (e ∷ es) none = by (nat_eq (id_number id) (id_number e.0)) none (insert_entry-made es)
    where
      by : (b : Bool) → cond b (Some e.1) (lookup (λ k. nat_eq (id_number id) (id_number k)) es) ≡ None
          → (lookup (λ k. nat_eq (id_number id) (id_number k)) es ≡ None → insert_entry (λ a b. nat_eq (id_number a) (id_number b)) es id empty ≡ es ++ (id, empty) ∷ [])
          → (if b then (e.0, empty) ∷ es else e ∷ insert_entry (λ a b. nat_eq (id_number a) (id_number b)) es id empty) ≡ e ∷ es ++ (id, empty) ∷ []
      by true h rest = absurd (cc)
      by false h rest = ap (λ r. e ∷ r) (rest h)

  -- and it is looked up after the others
  lookup-made : (es : List (DocId × Listed)) (q : ℕ) → lookup (λ k. nat_eq q (id_number k)) (es ++ (id, empty) ∷ []) ≡ option_or (lookup (λ k. nat_eq q (id_number k)) es) (if nat_eq q (id_number id) then Some empty else None)
  lookup-made [] q = refl
  lookup-made (e ∷ es) q = by (nat_eq q (id_number e.0)) (lookup-made es q)
    where
      last : Option Listed
      last = if nat_eq q (id_number id) then Some empty else None

      by : (b : Bool) → lookup (λ k. nat_eq q (id_number k)) (es ++ (id, empty) ∷ []) ≡ option_or (lookup (λ k. nat_eq q (id_number k)) es) last
          → cond b (Some e.1) (lookup (λ k. nat_eq q (id_number k)) (es ++ (id, empty) ∷ [])) ≡ option_or (cond b (Some e.1) (lookup (λ k. nat_eq q (id_number k)) es)) last
      by true h = refl
      by false h = h

  module _ (r : Inside) (documents : IndexMap DocId Listed HashKeys) (entries : documents.entries ≡ r.documents.entries ++ (id, empty) ∷ [])
      (none : empty.live ≡ None) (nothing : empty.numbers.items ≡ []) where
    abbrev made : Inside
    made = record r { documents = documents }

    looked : (q : ℕ) → option_or (lookup (λ k. nat_eq q (id_number k)) r.documents.entries) (if nat_eq q (id_number id) then Some empty else None) ≡ lookup (λ k. nat_eq q (id_number k)) documents.entries
    looked q = sym (ap (lookup (λ k. nat_eq q (id_number k))) entries ∙ lookup-made r.documents.entries q)

    -- it tells the same facts
    pub facts-made : facts (registered_of made) ≡ facts (registered_of r)
    facts-made = λ i. record {
      live = λ q. (live_found made q (option_or (lookup (λ k. nat_eq q (id_number k)) r.documents.entries) (if nat_eq q (id_number id) then Some empty else None)) (looked q)
          ∙ alive q (lookup (λ k. nat_eq q (id_number k)) r.documents.entries) (nat_eq q (id_number id))
          ∙ sym (live_found r q (lookup (λ k. nat_eq q (id_number k)) r.documents.entries) refl)) i;
      listed = λ word q. (listed_found made q (option_or (lookup (λ k. nat_eq q (id_number k)) r.documents.entries) (if nat_eq q (id_number id) then Some empty else None)) (looked q) word
          ∙ among word q (lookup (λ k. nat_eq q (id_number k)) r.documents.entries) (nat_eq q (id_number id))
          ∙ sym (listed_found r q (lookup (λ k. nat_eq q (id_number k)) r.documents.entries) refl word)) i;
      counter = (facts (registered_of r)).counter;
    }
      where
        alive : (q : ℕ) (o : Option Listed) (b : Bool) → option_and_then (λ l. option_map (λ n. words_by_number (known_words (registered_of r)) (take n l.numbers.items)) l.live) (option_or o (if b then Some empty else None))
            ≡ option_and_then (λ l. option_map (λ n. words_by_number (known_words (registered_of r)) (take n l.numbers.items)) l.live) o
        alive q (Some l) b = refl
        alive q None true = ap (option_map (λ n. words_by_number (known_words (registered_of r)) (take n empty.numbers.items))) none
        alive q None false = refl

        among : (word : List ℕ) (q : ℕ) (o : Option Listed) (b : Bool) → option_map_or (λ l. list_any (bytes_eq word) (words_by_number (known_words (registered_of r)) l.numbers.items)) (option_or o (if b then Some empty else None)) false
            ≡ option_map_or (λ l. list_any (bytes_eq word) (words_by_number (known_words (registered_of r)) l.numbers.items)) o false
        among word q (Some l) b = refl
        among word q None true = ap (λ ns. list_any (bytes_eq word) (words_by_number (known_words (registered_of r)) ns)) nothing
        among word q None false = refl

    -- and is sound
    pub sound-made : hasher_of made.documents ≡ hasher_of r.documents → IsSound r → IsSound made
    sound-made same had = record {
      words_differ = had.words_differ;
      kept = subst (All (λ e. IsKept (table_words r.words.entries) (kept_entry e))) (sym entries)
          (All-push (λ e. IsKept (table_words r.words.entries) (kept_entry e)) r.documents.entries (id, empty) had.kept (record {
            numbered = subst (All (λ n. n < length (table_words r.words.entries))) (sym nothing) (All-nil _);
            within = subst (λ o. unwrap_or o 0 ≤ length empty.numbers.items) (sym none) (omega arith);
            in_order = subst (λ o. IsNonDecreasing (drop (unwrap_or o 0) empty.numbers.items)) (sym none) (subst (λ ns. IsNonDecreasing (drop 0 ns)) (sym nothing) (λ i j d le lt. absurd (omega (arith, lt))));
            valid = λ n live. absurd (cc (live, none));
          }));
      few = had.few;
      next = had.next;
      again = had.again;
      hashers = same ∙ had.hashers;
      bound = had.bound;
    }

    -- the identifier has the new entry, where it had none
    pub kept-made : lookup (λ k. nat_eq (id_number id) (id_number k)) r.documents.entries ≡ None → kept_of (registered_of made) (id_number id) ≡ Some (kept_as (id_number id) empty)
    kept-made absent =
        kept_found made (id_number id) (lookup (λ k. nat_eq (id_number id) (id_number k)) documents.entries) refl
        ∙ ap (option_map (kept_as (id_number id)))
        (sym (looked (id_number id)) ∙ ap (λ o. option_or o (if nat_eq (id_number id) (id_number id) then Some empty else None)) absent ∙ ap (λ b. if b then Some empty else None) (eq-eqb (id_number id) (id_number id) refl))
