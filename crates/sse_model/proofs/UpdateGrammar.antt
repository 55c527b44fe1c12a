-- The frame of an addition, of a deletion and of a search is in the grammar.
use Rattle.std.proofs.Common.{◌≡◌, ℕ, ◌≤◌, Bool, true, false, not, List, [], ◌∷◌, ◌++◌, length, map, refl, sym, ap, ◌∙◌, subst, arith, nat_lt, eqb-true}
use Rattle.std.specs.Prelude.{None, Some, All, Contains, bytes_eq, option_map, ◌==◌, if◌then◌else◌}
use Rattle.std.specs.Cmp.Lexicographic.{bytes_decides}
use Rattle.std.specs.List.{AllByRecursion, IsDistinct}
use Rattle.std.proofs.lemmas.Bool.{or_parts, ltb-false}
use Rattle.std.proofs.lemmas.List.{length-append, length-map, map-id}
use Rattle.std.proofs.lemmas.List.Elements.{All-head, All-tail}
use Rattle.std.proofs.lemmas.List.Filters.{length-filter_both}
use Rattle.client_registry.proofs.DistinctLaws.{IsDistinct-words}
use Rattle.client_registry.proofs.LiveLaws.{among}
use Rattle.client_registry.proofs.OrderLaws.{AreApart}
use Rattle.client_registry.specs.Command.{Command}
use Rattle.client_registry.specs.Document.{Document}
use Rattle.client_registry.specs.DocumentRule.{first_repeat, doc_refusal, IsDocument}
use Rattle.client_registry.specs.Live.{is_listed, counter}
use Rattle.client_registry.specs.Setup.{Setup}
use Rattle.client_registry.specs.declared.faults.DocFault.TheVariants.{TooManyWords, RepeatedWord}
use Rattle.sse_frames.proofs.Sorted.{AllDiffer, Rises-by_bytes, All-by_bytes, length-by_bytes}
use Rattle.sse_frames.specs.Frames.{Entry, be64, IsNumber, IsBytes, IsEntry, Rises, IsAdd, IsDelete}
use Rattle.sse_frames.specs.Order.{by_bytes}
use Rattle.sse_model.proofs.Apart.{IsDistinct-filter}
use Rattle.sse_model.proofs.Counts.{AllByRecursion-each}
use Rattle.sse_model.proofs.Members.{Contains-map, AllByRecursion-from_members, Contains-head, Contains-cons}
use Rattle.sse_model.proofs.SealedEntries.{IsTold, IsNamed, HasNames, entries_are, AllDiffer-names}
use Rattle.sse_model.proofs.Texts.{HasText, IsBytes-be64}
use Rattle.sse_model.specs.Names.{Name, name, PlusLabel, PlusPad, Revocation, Table}
use Rattle.sse_model.specs.Positions.{Position, addition_positions, fresh_words, listed_words, sealed}
use Rattle.sse_model.specs.Wire.{numbers_of_words, words_live}

-- Documents.

-- a document has at most 4,096 words
pub few_words : (words : List (List ℕ)) → doc_refusal words ≡ None → length words ≤ 4096
few_words words h = by (nat_lt 4096 (length words)) refl h
  where
    by : (b : Bool) → nat_lt 4096 (length words) ≡ b
        → (if b then Some (TooManyWords (length words)) else option_map (λ position. RepeatedWord position) (first_repeat words)) ≡ None → length words ≤ 4096
    by true e g = absurd (cc)
    by false e g = ltb-false 4096 (length words) e

no_live_words : (docs : List Document) (id : ℕ) → among id (map (λ d. d.id) docs) ≡ false → length (words_live docs id) ≡ 0
no_live_words [] id none = refl
no_live_words (d ∷ docs) id none =
    let parts = or_parts (d.id == id) (among id (map (λ (e : Document). e.id) docs)) none in
    ap (λ b. length ((if b then d.words else []) ++ words_live docs id)) parts.0 ∙ no_live_words docs id parts.1

-- the live words of an identifier are those of one document
pub few_words_live : (docs : List Document) (id : ℕ) → AreApart (map (λ d. d.id) docs) → All IsDocument docs → length (words_live docs id) ≤ 4096
few_words_live [] id apart valid = omega arith
few_words_live (d ∷ docs) id apart valid = by (d.id == id) refl (few_words_live docs id apart.1 (All-tail IsDocument d docs valid))
  where
    by : (b : Bool) → (d.id == id) ≡ b → length (words_live docs id) ≤ 4096 → length ((if b then d.words else []) ++ words_live docs id) ≤ 4096
    by true e h =
        let none = no_live_words docs id (subst (λ n. among n (map (λ (x : Document). x.id) docs) ≡ false) (eqb-true d.id id e) apart.0) in
        omega (arith, none, length-append d.words (words_live docs id), few_words d.words (All-head IsDocument d docs valid).accepted)
    by false e h = h

-- Numbers.

module _ (t : Table) (epoch : ℕ) (s : Setup) (names : List Name) (told : IsTold s.shape t names) (id : ℕ) (words : List (List ℕ))
    (distinct : IsDistinct bytes_eq words) (named : (w : List ℕ) → Contains words w → Contains names (name epoch w Revocation id)) where
  abbrev values : List (List ℕ)
  values = map (λ word. t (name epoch word Revocation id)) words

  -- the numbers of different words with one identifier rise, where their names are told
  pub numbers_rise : Rises (numbers_of_words t epoch id words)
  numbers_rise =
      let differ = AllDiffer-names s.shape t names epoch Revocation (λ w. id) words told (λ v w. refl) (λ w. refl) distinct named in
      subst Rises (map-id (by_bytes (λ number. number) values))
      (Rises-by_bytes (λ number. number) values (subst AllDiffer (sym (map-id values)) differ))

  -- and have 16 bytes each
  pub numbers_are : AllByRecursion (IsBytes 16) (numbers_of_words t epoch id words)
  numbers_are = All-by_bytes (λ number. number) (IsBytes 16) values (each words named)
    where
      each : (ws : List (List ℕ)) → ((w : List ℕ) → Contains ws w → Contains names (name epoch w Revocation id))
          → AllByRecursion (IsBytes 16) (map (λ word. t (name epoch word Revocation id)) ws)
      each [] here = tt
      each (w ∷ ws) here = (told.values (name epoch w Revocation id) (here w (Contains-head w ws)), each ws (λ v within. here v (Contains-cons w ws v within)))

  -- one for each word
  pub length-numbers_of_words : length (numbers_of_words t epoch id words) ≡ length words
  length-numbers_of_words = length-by_bytes (λ number. number) values ∙ length-map words (λ word. t (name epoch word Revocation id))

  -- a deletion's frame of them is in the grammar
  pub delete_in_grammar : (q : ℕ) → IsNumber q → length words ≤ 4096 → IsDelete q (numbers_of_words t epoch id words)
  delete_in_grammar q number few =
      record { number = number; count = omega (arith, few, length-numbers_of_words); each_number = numbers_are; numbers_rise = numbers_rise }

-- Additions.

module _ (t : Table) (epoch : ℕ) (s : Setup) (names : List Name) (told : IsTold s.shape t names) (past : List Command) (d : Document) (valid : IsDocument d)
    (named : (p : Position) → Contains (addition_positions epoch s past d) p → IsNamed names p)
    (sent : (w : List ℕ) → Contains (listed_words s past d) w → Contains names (name epoch w Revocation d.id)) where
  abbrev added : List ℕ → Position
  added word = record {
    label = name epoch word PlusLabel (counter s past word);
    pad = name epoch word PlusPad (counter s past word);
    clear = λ ranks. be64 d.id;
  }

  abbrev entries : List Entry
  entries = map (sealed t []) (addition_positions epoch s past d)

  labels_are : (words : List (List ℕ)) → map (λ (entry : Entry). entry.label) (map (sealed t []) (map added words)) ≡ map (λ word. t (name epoch word PlusLabel (counter s past word))) words
  labels_are [] = refl
  labels_are (word ∷ words) = ap (λ rest. t (name epoch word PlusLabel (counter s past word)) ∷ rest) (labels_are words)

  distinct : IsDistinct bytes_eq d.words
  distinct = IsDistinct-words d.words valid.accepted

  fresh_distinct : IsDistinct bytes_eq (fresh_words s past d)
  fresh_distinct = IsDistinct-filter bytes_eq bytes_decides (λ word. not (is_listed s past word d.id)) d.words distinct

  listed_distinct : IsDistinct bytes_eq (listed_words s past d)
  listed_distinct = IsDistinct-filter bytes_eq bytes_decides (λ word. is_listed s past word d.id) d.words distinct

  entries_are_8 : AllByRecursion (IsEntry 8) entries
  entries_are_8 =
      entries_are s.shape t names 8 [] (addition_positions epoch s past d) told
      (AllByRecursion-each (HasText 8 []) added (λ word. IsBytes-be64 d.id) (fresh_words s past d))
      (AllByRecursion-each (HasNames s.shape 8) added (λ word. (refl, refl)) (fresh_words s past d))
      (AllByRecursion-from_members (IsNamed names) (addition_positions epoch s past d) named)

  labels_differ : AllDiffer (map (λ (entry : Entry). entry.label) entries)
  labels_differ =
      subst AllDiffer (sym (labels_are (fresh_words s past d)))
      (AllDiffer-names s.shape t names epoch PlusLabel (counter s past) (fresh_words s past d) told (λ v w. refl) (λ w. refl) fresh_distinct
      (λ w within. (named (added w) (Contains-map added (fresh_words s past d) w within)).0))

  -- the frame of an addition whose names are told is in the grammar
  pub add_in_grammar : (q : ℕ) → IsNumber q
      → IsAdd q (by_bytes (λ entry. entry.label) entries) (numbers_of_words t epoch d.id (listed_words s past d))
  add_in_grammar q number = record {
    number = number;
    count = omega (
      arith,
      length-by_bytes (λ (entry : Entry). entry.label) entries,
      length-map (addition_positions epoch s past d) (sealed t []),
      length-map (fresh_words s past d) added,
      length-numbers_of_words t epoch s names told d.id (listed_words s past d) listed_distinct sent,
      length-filter_both (λ word. is_listed s past word d.id) (λ word. not (is_listed s past word d.id)) (λ word. refl) d.words,
      few_words d.words valid.accepted,
    );
    each = All-by_bytes (λ (entry : Entry). entry.label) (IsEntry 8) entries entries_are_8;
    rises = Rises-by_bytes (λ (entry : Entry). entry.label) entries labels_differ;
    each_number = numbers_are t epoch s names told d.id (listed_words s past d) listed_distinct sent;
    numbers_rise = numbers_rise t epoch s names told d.id (listed_words s past d) listed_distinct sent;
  }
