-- What an entry of a registry tells of its identifier.
use Rattle.std.proofs.Common.{◌≡◌, ℕ, zero, suc, ◌<◌, Bool, true, false, cond, ◌||◌, List, [], ◌∷◌, length, map, take, get_or, Option, None, Some, find, nat_eq, position, unwrap_or, refl, sym, ap, ◌∙◌, subst, arith}
use Rattle.std.specs.Prelude.{All, is_some, option_map, option_and_then}
use Rattle.std.specs.List.{list_any, IsDistinct}
use Rattle.std.specs.Map.{keys_of, lookup, values_of}
use Rattle.std.specs.Str.{bytes_eq}
use Rattle.std.specs.Option.{option_map_or}
use Rattle.std.proofs.lemmas.Bool.{true≢false, eqb-true, eq-eqb, or_parts}
use Rattle.std.proofs.lemmas.Cmp.{nat_list_eq_equiv}
use Rattle.std.proofs.lemmas.List.Elements.{All-head, All-tail}
use Rattle.client_registry.specs.IdNumber.{id_number}
use Rattle.client_registry.specs.Numbered.{words_by_number}
use Rattle.client_registry.specs.Registered.{facts, kept_of, known_words, Kept, Registered}
use Rattle.client_registry.specs.RegistryView.{kept_entry, registered_of, IsKept, IsSound}
use Rattle.client_registry.specs.WordBytes.{word_bytes}
use Rattle.client_registry.specs.WordTable.{table_words}
use Rattle.client_registry.specs.declared.doc_id.DocId.{DocId}
use Rattle.client_registry.specs.declared.listed.Listed.{Listed}
use Rattle.client_registry.specs.declared.registry.Registry.TheInside.{Inside}
use Rattle.client_registry.proofs.DistinctLaws.{position-at}
use Rattle.client_registry.proofs.NumberLaws.{keys-counts, same_bytes}
use Rattle.client_registry.proofs.Positions.{position-map}
use Rattle.client_registry.proofs.TableLaws.{lookup-values}

-- what is kept of an identifier with this entry
abbrev pub kept_as : ℕ → Listed → Kept
kept_as id listed = record { id = id; numbers = listed.numbers.items; live = listed.live }

-- what is kept of an identifier is what its entry holds
pub find-kept : (id : ℕ) (es : List (DocId × Listed)) → find (λ k. nat_eq id k.id) (map kept_entry es) ≡ option_map (kept_as id) (lookup (λ k. nat_eq id (id_number k)) es)
find-kept id [] = refl
find-kept id (e ∷ es) = by (nat_eq id (id_number e.0)) refl (find-kept id es)
  where
    by : (b : Bool) → nat_eq id (id_number e.0) ≡ b → find (λ k. nat_eq id k.id) (map kept_entry es) ≡ option_map (kept_as id) (lookup (λ k. nat_eq id (id_number k)) es)
        → cond b (Some (kept_entry e)) (find (λ k. nat_eq id k.id) (map kept_entry es)) ≡ option_map (kept_as id) (cond b (Some e.1) (lookup (λ k. nat_eq id (id_number k)) es))
    by true is h = let same = eqb-true id (id_number e.0) is in λ i. Some (record { id = sym same i; numbers = e.1.numbers.items; live = e.1.live })
    by false is h = h

-- what is so of all entries is so of the one that is found, under the identifier asked for
pub entry_found : (P : Kept → Type 0) (id : ℕ) (es : List (DocId × Listed)) (listed : Listed) → All (λ e. P (kept_entry e)) es → lookup (λ k. nat_eq id (id_number k)) es ≡ Some listed → P (kept_as id listed)
entry_found P id [] listed all at = absurd (cc)
entry_found P id (e ∷ es) listed all at =
    by (nat_eq id (id_number e.0)) refl at (λ h. entry_found P id es listed (All-tail (λ x. P (kept_entry x)) e es all) h)
  where
    by : (b : Bool) → nat_eq id (id_number e.0) ≡ b → cond b (Some e.1) (lookup (λ k. nat_eq id (id_number k)) es) ≡ Some listed
        → (lookup (λ k. nat_eq id (id_number k)) es ≡ Some listed → P (kept_as id listed)) → P (kept_as id listed)
    by true is h rest =
        let alike : e.1 ≡ listed = cc in
        subst (λ l. P (kept_as id l)) alike (subst (λ n. P (kept_as n e.1)) (sym (eqb-true id (id_number e.0) is)) (All-head (λ x. P (kept_entry x)) e es all))
    by false is h rest = rest h

module _ (r : Inside) where
  -- the words by number are those of the table
  pub known_table : known_words (registered_of r) ≡ table_words r.words.entries
  known_table = keys-counts word_bytes r.words.entries

  -- the number of a word is its place among the entries
  pub number_place : (bs : List ℕ) → position (λ k. bytes_eq bs (word_bytes k)) (keys_of r.words.entries) ≡ position (bytes_eq bs) (known_words (registered_of r))
  number_place bs =
      position-map (λ k. bytes_eq bs (word_bytes k)) (λ e. e.0) r.words.entries
      ∙ sym (position-map (bytes_eq bs) (λ e. word_bytes e.0) r.words.entries)
      ∙ ap (position (bytes_eq bs)) (sym known_table)

  -- the place of an identifier's entry is its place among what is kept
  pub entry_place : (id : ℕ) → position (λ k. nat_eq id (id_number k)) (keys_of r.documents.entries) ≡ position (λ (k : Kept). nat_eq id k.id) (registered_of r).kept
  entry_place id =
      position-map (λ k. nat_eq id (id_number k)) (λ e. e.0) r.documents.entries
      ∙ sym (position-map (λ (k : Kept). nat_eq id k.id) kept_entry r.documents.entries)

  module _ (id : ℕ) (found : Option Listed) (at : found ≡ lookup (λ k. nat_eq id (id_number k)) r.documents.entries) where
    pub kept_found : kept_of (registered_of r) id ≡ option_map (kept_as id) found
    kept_found = find-kept id r.documents.entries ∙ ap (option_map (kept_as id)) (sym at)

    -- the live document of the identifier
    pub live_found : (facts (registered_of r)).live id ≡ option_and_then (λ l. option_map (λ n. words_by_number (known_words (registered_of r)) (take n l.numbers.items)) l.live) found
    live_found =
        ap (option_and_then (λ (k : Kept). option_map (λ n. words_by_number (known_words (registered_of r)) (take n k.numbers)) k.live)) kept_found ∙ by found
      where
        by : (o : Option Listed) → option_and_then (λ (k : Kept). option_map (λ n. words_by_number (known_words (registered_of r)) (take n k.numbers)) k.live) (option_map (kept_as id) o)
            ≡ option_and_then (λ l. option_map (λ n. words_by_number (known_words (registered_of r)) (take n l.numbers.items)) l.live) o
        by None = refl
        by (Some l) = refl

    -- and whether a word is listed with it
    pub listed_found : (word : List ℕ) → (facts (registered_of r)).listed word id ≡ option_map_or (λ l. list_any (bytes_eq word) (words_by_number (known_words (registered_of r)) l.numbers.items)) found false
    listed_found word =
        ap (λ o. option_map_or (λ (k : Kept). list_any (bytes_eq word) (words_by_number (known_words (registered_of r)) k.numbers)) o false) kept_found ∙ by found
      where
        by : (o : Option Listed) → option_map_or (λ (k : Kept). list_any (bytes_eq word) (words_by_number (known_words (registered_of r)) k.numbers)) (option_map (kept_as id) o) false
            ≡ option_map_or (λ l. list_any (bytes_eq word) (words_by_number (known_words (registered_of r)) l.numbers.items)) o false
        by None = refl
        by (Some l) = refl

-- Words by number, where they differ.

module _ (ws : List (List ℕ)) (differ : IsDistinct bytes_eq ws) (n : ℕ) (within : n < length ws) where
  same_number : (m : ℕ) → m < length ws → nat_eq n m ≡ bytes_eq (get_or ws n []) (get_or ws m [])
  same_number m lt = by (nat_eq n m) refl (bytes_eq (get_or ws n []) (get_or ws m [])) refl
    where
      by : (a : Bool) → nat_eq n m ≡ a → (b : Bool) → bytes_eq (get_or ws n []) (get_or ws m []) ≡ b → nat_eq n m ≡ bytes_eq (get_or ws n []) (get_or ws m [])
      by true is b at = is ∙ sym (ap (λ k. bytes_eq (get_or ws n []) (get_or ws k [])) (sym (eqb-true n m is)) ∙ nat_list_eq_equiv.refl (get_or ws n []))
      by false is true at =
          let alike = same_bytes (get_or ws n []) (get_or ws m []) at in
          let first : Some n ≡ Some m = sym (position-at ws differ n within) ∙ ap (λ w. position (bytes_eq w) ws) alike ∙ position-at ws differ m lt in
          let e : n ≡ m = cc in
          absurd (true≢false (sym (eq-eqb n m e) ∙ is))
      by false is false at = is ∙ sym at

  -- a number is among others exactly where its word is among theirs
  pub number_among : (ns : List ℕ) → All (λ m. m < length ws) ns → list_any (nat_eq n) ns ≡ list_any (bytes_eq (get_or ws n [])) (words_by_number ws ns)
  number_among [] all = refl
  number_among (m ∷ ns) all = λ i. same_number m (All-head (λ k. k < length ws) m ns all) i || number_among ns (All-tail (λ k. k < length ws) m ns all) i

-- a word with no number is among none of them
pub unnumbered : (ws : List (List ℕ)) (bs : List ℕ) → list_any (bytes_eq bs) ws ≡ false → (ns : List ℕ) → All (λ m. m < length ws) ns → list_any (bytes_eq bs) (words_by_number ws ns) ≡ false
unnumbered ws bs absent [] all = refl
unnumbered ws bs absent (m ∷ ns) all =
    ap (λ b. b || list_any (bytes_eq bs) (words_by_number ws ns)) (other ws absent m (All-head (λ k. k < length ws) m ns all)) ∙ unnumbered ws bs absent ns (All-tail (λ k. k < length ws) m ns all)
  where
    other : (vs : List (List ℕ)) → list_any (bytes_eq bs) vs ≡ false → (k : ℕ) → k < length vs → bytes_eq bs (get_or vs k []) ≡ false
    other [] none k lt = absurd (omega (arith, lt))
    other (v ∷ vs) none zero lt = (or_parts (bytes_eq bs v) (list_any (bytes_eq bs) vs) none).0
    other (v ∷ vs) none (suc k) lt = other vs (or_parts (bytes_eq bs v) (list_any (bytes_eq bs) vs) none).1 k (omega (arith, lt))

module _ (r : Inside) (sound : IsSound r) where
  -- what is kept of an identifier with this entry is sound
  pub kept_sound : (id : ℕ) (listed : Listed) → Some listed ≡ lookup (λ k. nat_eq id (id_number k)) r.documents.entries → IsKept (table_words r.words.entries) (kept_as id listed)
  kept_sound id listed at = entry_found (IsKept (table_words r.words.entries)) id r.documents.entries listed sound.kept (sym at)

  -- a word with no number is listed with no identifier
  pub unlisted : (bs : List ℕ) → list_any (bytes_eq bs) (known_words (registered_of r)) ≡ false → (id : ℕ) → (facts (registered_of r)).listed bs id ≡ false
  unlisted bs absent id = listed_found r id (lookup (λ k. nat_eq id (id_number k)) r.documents.entries) refl bs ∙ by (lookup (λ k. nat_eq id (id_number k)) r.documents.entries) refl
    where
      by : (o : Option Listed) → o ≡ lookup (λ k. nat_eq id (id_number k)) r.documents.entries → option_map_or (λ l. list_any (bytes_eq bs) (words_by_number (known_words (registered_of r)) l.numbers.items)) o false ≡ false
      by None at = refl
      by (Some l) at =
          unnumbered (known_words (registered_of r)) bs absent l.numbers.items
          (subst (λ ws. All (λ m. m < length ws) l.numbers.items) (sym (known_table r)) (kept_sound id l at).numbered)

  -- the counter of a word is the count at its number
  pub counter_known : (n : ℕ) → n < length (table_words r.words.entries) → (facts (registered_of r)).counter (get_or (table_words r.words.entries) n []) ≡ get_or (values_of r.words.entries) n 0
  counter_known n within =
      let w = get_or (table_words r.words.entries) n [] in
      ap (λ o. unwrap_or o 0)
      (lookup-values word_bytes w r.words.entries ∙ ap (option_map (λ k. get_or (values_of r.words.entries) k 0)) (position-at (table_words r.words.entries) sound.words_differ n within))

-- an identifier of which a document is live has an entry
pub has_entry : (r : Inside) (id : ℕ) → is_some ((facts (registered_of r)).live id) ≡ true → is_some (lookup (λ k. nat_eq id (id_number k)) r.documents.entries) ≡ true
has_entry r id live = by (lookup (λ k. nat_eq id (id_number k)) r.documents.entries) (sym (ap is_some (live_found r id (lookup (λ k. nat_eq id (id_number k)) r.documents.entries) refl)) ∙ live)
  where
    by : (o : Option Listed) → is_some (option_and_then (λ l. option_map (λ n. words_by_number (known_words (registered_of r)) (take n l.numbers.items)) l.live) o) ≡ true → is_some o ≡ true
    by None h = h
    by (Some l) h = refl

-- an identifier of which something is kept has an entry
pub has_kept : (r : Inside) (id : ℕ) (k : Kept) → kept_of (registered_of r) id ≡ Some k → is_some (lookup (λ k. nat_eq id (id_number k)) r.documents.entries) ≡ true
has_kept r id k kept = by (lookup (λ k. nat_eq id (id_number k)) r.documents.entries) (sym (ap is_some (kept_found r id (lookup (λ k. nat_eq id (id_number k)) r.documents.entries) refl)) ∙ ap is_some kept)
  where
    by : (o : Option Listed) → is_some (option_map (kept_as id) o) ≡ true → is_some o ≡ true
    by None h = h
    by (Some l) h = refl

-- what a registry tells depends on its counts and on what it keeps
pub facts_by : (a b : Registered) → a.counts ≡ b.counts → a.kept ≡ b.kept → facts a ≡ facts b
facts_by a b counts kept = λ i. facts (record { counts = counts i; kept = kept i; room = a.room; keys = a.keys })

pub none_there : {X : Type 0} (o : Option X) → is_some o ≡ false → o ≡ None
none_there None h = refl
none_there (Some x) h = absurd (true≢false h)
