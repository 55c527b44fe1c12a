-- What doesn't see the order of the words in documents: which pairs are live and listed, the lists of words, the counters.
use Rattle.std.proofs.Common.{◌≡◌, ℕ, Bool, true, false, not, ◌&&◌, ◌||◌, List, [], ◌∷◌, ◌++◌, length, map, filter, refl, sym, ap, ◌∙◌}
use Rattle.std.specs.Prelude.{bytes_eq, flat_map, if◌then◌else◌, ◌==◌}
use Rattle.std.specs.List.{list_any}
use Rattle.std.proofs.lemmas.List.Folds.{list_any-append}
use Rattle.client_registry.proofs.DistinctLaws.{list_any-first_seen}
use Rattle.client_registry.specs.Command.{Command, Add, Delete, Search, is_update}
use Rattle.client_registry.specs.Document.{Document}
use Rattle.client_registry.specs.Documents.{all_words, has_word, ids_with}
use Rattle.client_registry.specs.Live.{after, live, holds_pair, adds_pair, is_listed, newly_listed, added_list, counter, shown}
use Rattle.client_registry.specs.Over.{over}
use Rattle.client_registry.specs.Setup.{Setup, setup_words, setup_list}
use Rattle.sse_model.specs.Wire.{words_live}
use Rattle.def_relabelling.proofs.Pairs.{paired-append, paired-filter, paired-length}
use Rattle.def_relabelling.specs.Paired.{Paired}
use Rattle.def_relabelling.specs.Reordered.{HasSameWords, IsSameCommand}

-- Documents.

pub holds_same : (docs docs2 : List Document) → Paired HasSameWords docs docs2 → (word : List ℕ) (id : ℕ) → holds_pair docs word id ≡ holds_pair docs2 word id
holds_same [] [] all word id = refl
holds_same [] (d2 ∷ ds2) all word id = absurd all
holds_same (d ∷ ds) [] all word id = absurd all
holds_same (d ∷ ds) (d2 ∷ ds2) all word id = λ i. (all.0.0 i == id && all.0.1 word i) || holds_same ds ds2 all.1 word id i

ids_same : (docs docs2 : List Document) → Paired HasSameWords docs docs2 → (word : List ℕ) → ids_with docs word ≡ ids_with docs2 word
ids_same docs docs2 all word = go (filter (has_word word) docs) (filter (has_word word) docs2) (paired-filter HasSameWords (has_word word) (has_word word) docs docs2 all (λ d d2 same. same.1 word))
  where
    go : (ds ds2 : List Document) → Paired HasSameWords ds ds2 → map (λ (d : Document). d.id) ds ≡ map (λ (d : Document). d.id) ds2
    go [] [] all = refl
    go [] (d2 ∷ ds2) all = absurd all
    go (d ∷ ds) [] all = absurd all
    go (d ∷ ds) (d2 ∷ ds2) all = λ i. all.0.0 i ∷ go ds ds2 all.1 i

all_words_same : (docs docs2 : List Document) → Paired HasSameWords docs docs2 → (word : List ℕ) → list_any (bytes_eq word) (all_words docs) ≡ list_any (bytes_eq word) (all_words docs2)
all_words_same [] [] all word = refl
all_words_same [] (d2 ∷ ds2) all word = absurd all
all_words_same (d ∷ ds) [] all word = absurd all
all_words_same (d ∷ ds) (d2 ∷ ds2) all word =
    list_any-append (bytes_eq word) d.words (all_words ds) ∙ (λ i. all.0.1 word i || all_words_same ds ds2 all.1 word i) ∙ sym (list_any-append (bytes_eq word) d2.words (all_words ds2))

pub words_live_same : (docs docs2 : List Document) → Paired HasSameWords docs docs2 → (word : List ℕ) (id : ℕ) → list_any (bytes_eq word) (words_live docs id) ≡ list_any (bytes_eq word) (words_live docs2 id)
words_live_same [] [] all word id = refl
words_live_same [] (d2 ∷ ds2) all word id = absurd all
words_live_same (d ∷ ds) [] all word id = absurd all
words_live_same (d ∷ ds) (d2 ∷ ds2) all word id =
    list_any-append (bytes_eq word) (if d.id == id then d.words else []) (words_live ds id)
    ∙ (λ i. own (d.id == id) i || words_live_same ds ds2 all.1 word id i)
    ∙ ap (λ n. list_any (bytes_eq word) (if n == id then d2.words else []) || list_any (bytes_eq word) (words_live ds2 id)) all.0.0
    ∙ sym (list_any-append (bytes_eq word) (if d2.id == id then d2.words else []) (words_live ds2 id))
  where
    own : (b : Bool) → list_any (bytes_eq word) (if b then d.words else []) ≡ list_any (bytes_eq word) (if b then d2.words else [])
    own true = all.0.1 word
    own false = refl

-- Commands.

after_same : (docs docs2 : List Document) → Paired HasSameWords docs docs2 → (c c2 : Command) → IsSameCommand c c2 → Paired HasSameWords (after docs c) (after docs2 c2)
after_same docs docs2 all (Add d) (Add d2) same = paired-append HasSameWords docs (d ∷ []) docs2 (d2 ∷ []) all (same, tt)
after_same docs docs2 all (Delete id) (Delete id2) same =
    paired-filter HasSameWords (λ d. not (d.id == id)) (λ d. not (d.id == id2)) docs docs2 all (λ d d2 words. λ i. not (words.0 i == same i))
after_same docs docs2 all (Search word) (Search word2) same = all
after_same docs docs2 all (Add d) (Delete id) same = absurd same
after_same docs docs2 all (Add d) (Search word) same = absurd same
after_same docs docs2 all (Delete id) (Add d) same = absurd same
after_same docs docs2 all (Delete id) (Search word) same = absurd same
after_same docs docs2 all (Search word) (Add d) same = absurd same
after_same docs docs2 all (Search word) (Delete id) same = absurd same

pub live_same : (docs docs2 : List Document) → Paired HasSameWords docs docs2 → (cs cs2 : List Command) → Paired IsSameCommand cs cs2 → Paired HasSameWords (live docs cs) (live docs2 cs2)
live_same docs docs2 all [] [] same = all
live_same docs docs2 all [] (c2 ∷ cs2) same = absurd same
live_same docs docs2 all (c ∷ cs) [] same = absurd same
live_same docs docs2 all (c ∷ cs) (c2 ∷ cs2) same = live_same (after docs c) (after docs2 c2) (after_same docs docs2 all c c2 same.0) cs cs2 same.1

adds_same : (word : List ℕ) (id : ℕ) (cs cs2 : List Command) → Paired IsSameCommand cs cs2 → list_any (adds_pair word id) cs ≡ list_any (adds_pair word id) cs2
adds_same word id [] [] same = refl
adds_same word id [] (c2 ∷ cs2) same = absurd same
adds_same word id (c ∷ cs) [] same = absurd same
adds_same word id (c ∷ cs) (c2 ∷ cs2) same = λ i. one c c2 same.0 i || adds_same word id cs cs2 same.1 i
  where
    one : (x y : Command) → IsSameCommand x y → adds_pair word id x ≡ adds_pair word id y
    one (Add d) (Add d2) same = λ i. same.0 i == id && same.1 word i
    one (Delete i) (Delete j) same = refl
    one (Search u) (Search v) same = refl
    one (Add d) (Delete i) same = absurd same
    one (Add d) (Search u) same = absurd same
    one (Delete i) (Add d) same = absurd same
    one (Delete i) (Search u) same = absurd same
    one (Search u) (Add d) same = absurd same
    one (Search u) (Delete i) same = absurd same

pub updates_same : (cs cs2 : List Command) → Paired IsSameCommand cs cs2 → length (filter is_update cs) ≡ length (filter is_update cs2)
updates_same cs cs2 same = go cs cs2 same
  where
    one : (x y : Command) → IsSameCommand x y → is_update x ≡ is_update y
    one (Add d) (Add d2) same = refl
    one (Delete i) (Delete j) same = refl
    one (Search u) (Search v) same = refl
    one (Add d) (Delete i) same = absurd same
    one (Add d) (Search u) same = absurd same
    one (Delete i) (Add d) same = absurd same
    one (Delete i) (Search u) same = absurd same
    one (Search u) (Add d) same = absurd same
    one (Search u) (Delete i) same = absurd same

    go : (xs ys : List Command) → Paired IsSameCommand xs ys → length (filter is_update xs) ≡ length (filter is_update ys)
    go xs ys all = paired-length IsSameCommand (filter is_update xs) (filter is_update ys) (paired-filter IsSameCommand is_update is_update xs ys all one)

-- what each command gives with those before it
pub over_same : {A : Type 0} (f g : List Command → Command → A)
    → ((past past2 : List Command) (c c2 : Command) → Paired IsSameCommand past past2 → IsSameCommand c c2 → f past c ≡ g past2 c2)
    → (past past2 later later2 : List Command) → Paired IsSameCommand past past2 → Paired IsSameCommand later later2 → over f past later ≡ over g past2 later2
over_same f g each past past2 [] [] before same = refl
over_same f g each past past2 [] (y ∷ ys) before same = absurd same
over_same f g each past past2 (x ∷ xs) [] before same = absurd same
over_same f g each past past2 (x ∷ xs) (y ∷ ys) before same =
    λ i. each past past2 x y before same.0 i
    ∷ over_same f g each (past ++ x ∷ []) (past2 ++ y ∷ []) xs ys (paired-append IsSameCommand past (x ∷ []) past2 (y ∷ []) before (same.0, tt)) same.1 i

abbrev listing : Bool → Bool → ℕ → List ℕ
listing has new id = if has && new then id ∷ [] else []

module _ (s s2 : Setup) (documents : Paired HasSameWords s.documents s2.documents) where
  pub setup_list_same : (word : List ℕ) → setup_list s word ≡ setup_list s2 word
  setup_list_same = ids_same s.documents s2.documents documents

  pub setup_words_same : (word : List ℕ) → list_any (bytes_eq word) (setup_words s) ≡ list_any (bytes_eq word) (setup_words s2)
  setup_words_same word =
      list_any-first_seen word (all_words s.documents) ∙ all_words_same s.documents s2.documents documents word ∙ sym (list_any-first_seen word (all_words s2.documents))

  pub is_listed_same : (past past2 : List Command) → Paired IsSameCommand past past2 → (word : List ℕ) (id : ℕ) → is_listed s past word id ≡ is_listed s2 past2 word id
  is_listed_same past past2 same word id = λ i. holds_same s.documents s2.documents documents word id i || adds_same word id past past2 same i

  newly_same : (word : List ℕ) (past past2 : List Command) (c c2 : Command) → Paired IsSameCommand past past2 → IsSameCommand c c2 → newly_listed s word past c ≡ newly_listed s2 word past2 c2
  newly_same word past past2 (Add d) (Add d2) before same =
      λ i. listing (same.1 word i) (not ((is_listed_same past past2 before word d.id ∙ ap (is_listed s2 past2 word) same.0) i)) (same.0 i)
  newly_same word past past2 (Delete id) (Delete id2) before same = refl
  newly_same word past past2 (Search v) (Search v2) before same = refl
  newly_same word past past2 (Add d) (Delete id) before same = absurd same
  newly_same word past past2 (Add d) (Search v) before same = absurd same
  newly_same word past past2 (Delete id) (Add d) before same = absurd same
  newly_same word past past2 (Delete id) (Search v) before same = absurd same
  newly_same word past past2 (Search v) (Add d) before same = absurd same
  newly_same word past past2 (Search v) (Delete id) before same = absurd same

  pub added_list_same : (past past2 : List Command) → Paired IsSameCommand past past2 → (word : List ℕ) → added_list s past word ≡ added_list s2 past2 word
  added_list_same past past2 same word = ap (flat_map (λ ids. ids)) (over_same (newly_listed s word) (newly_listed s2 word) (newly_same word) [] [] past past2 tt same)

  pub counter_same : (past past2 : List Command) → Paired IsSameCommand past past2 → (word : List ℕ) → counter s past word ≡ counter s2 past2 word
  counter_same past past2 same word = ap length (added_list_same past past2 same word)

  pub shown_same : (past past2 : List Command) → Paired IsSameCommand past past2 → (word : List ℕ) → shown s past word ≡ shown s2 past2 word
  shown_same past past2 same word =
      λ i. filter (λ id. holds_same (live s.documents past) (live s2.documents past2) (live_same s.documents s2.documents documents past past2 same) word id i) (setup_list_same word i ++ added_list_same past past2 same word i)
