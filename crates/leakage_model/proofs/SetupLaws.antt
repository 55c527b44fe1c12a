-- What is told of a word while the documents of a setup are listed one after the other.
use Rattle.std.proofs.Common.{◌≡◌, ℕ, zero, suc, ◌+◌, ◌<◌, ◌≤◌, Bool, true, false, cond, not, ◌||◌, List, [], ◌∷◌, ◌++◌, length, map, filter, take, get_or, position, refl, sym, ap, ◌∙◌, arith, Some, None}
use Rattle.std.specs.Prelude.{bytes_eq, if◌then◌else◌, option_map, sum_by, ◌==◌}
use Rattle.std.specs.List.{enumerate_from, list_any, range_with_len, AllByRecursion, IsDistinct}
use Rattle.std.proofs.lemmas.Bool.{true≢false, or_parts, or_from}
use Rattle.std.proofs.lemmas.Cmp.{nat_eq_equiv}
use Rattle.std.proofs.lemmas.List.{append-nil, length-map, map-append}
use Rattle.std.proofs.lemmas.List.Elements.{filter-append}
use Rattle.client_registry.proofs.LiveLaws.{among, among-ids_with}
use Rattle.client_registry.proofs.NumberLaws.{same_bytes}
use Rattle.client_registry.proofs.Positions.{position-cons}
use Rattle.std.proofs.lemmas.List.Sums.{sum_by-cons}
use Rattle.two_level.specs.Plan.{block_count, plan}
use Rattle.client_registry.specs.Acceptance.{blocks_of}
use Rattle.client_registry.specs.Document.{Document}
use Rattle.client_registry.specs.Documents.{has_word, ids_with}
use Rattle.client_registry.specs.Live.{holds_pair}
use Rattle.client_registry.specs.Run.{Offsets}
use Rattle.client_registry.specs.Setup.{Setup, setup_list, setup_words}
use Rattle.def_leakage.specs.Firsts.{origin, place_of}
use Rattle.def_leakage.specs.CommandLeaks.{home, listed_in_setup, pair_leak}
use Rattle.sse_model.specs.Positions.{word_blocks}
use Rattle.sse_simulator.specs.Leaks.{Home, ListedLeak}
use Rattle.leakage_model.specs.WordFacts.{WordFacts, listed_leaks, lists, new_pair, placed_at, sent_among, set_up_with, unnamed, word_facts}

-- the pairs of a word that these identifiers list, in the order of the documents, from this place on, where the setup is the command of
-- this number
abbrev pub setup_pairs_from : (first : ℕ) → ℕ → List ℕ → List ListedLeak
setup_pairs_from first n ids = map (λ item. new_pair item.1 (origin first item.0)) (enumerate_from n ids)

abbrev pub setup_pairs : (first : ℕ) → List ℕ → List ListedLeak
setup_pairs first ids = setup_pairs_from first 0 ids

-- what is told of a word that these documents list
abbrev pub told_of : (first : ℕ) → Setup → List Document → List ℕ → WordFacts
told_of first s docs word = record { search = None; home = home s word; listed = setup_pairs first (ids_with docs word) }

pairs-push : (first n : ℕ) (ids : List ℕ) (id : ℕ) → setup_pairs_from first n (ids ++ id ∷ []) ≡ setup_pairs_from first n ids ++ new_pair id (origin first (n + length ids)) ∷ []
pairs-push first n [] id = ap (λ k. new_pair id (origin first k) ∷ []) (let same : n ≡ n + 0 = omega arith in same)
pairs-push first n (x ∷ ids) id =
    ap (λ rest. new_pair x (origin first n) ∷ rest) (pairs-push first (n + 1) ids id ∙ ap (λ k. setup_pairs_from first (n + 1) ids ++ new_pair id (origin first k) ∷ []) (let same : n + 1 + length ids ≡ n + suc (length ids) = omega arith in same))

length-pairs : (first n : ℕ) (ids : List ℕ) → length (setup_pairs_from first n ids) ≡ length ids
length-pairs first n [] = refl
length-pairs first n (x ∷ ids) = ap (λ k. suc k) (length-pairs first (n + 1) ids)

lists-pairs : (first id n : ℕ) (ids : List ℕ) → lists id (setup_pairs_from first n ids) ≡ among id ids
lists-pairs first id n [] = refl
lists-pairs first id n (x ∷ ids) = λ i. nat_eq_equiv.symm id x i || lists-pairs first id (n + 1) ids i

ids_with-push : (docs : List Document) (d : Document) (word : List ℕ) → ids_with (docs ++ d ∷ []) word ≡ ids_with docs word ++ (if has_word word d then d.id ∷ [] else [])
ids_with-push docs d word =
    ap (map (λ x. x.id)) (filter-append (has_word word) docs (d ∷ [])) ∙ map-append (λ x. x.id) (filter (has_word word) docs) (filter (has_word word) (d ∷ []))
    ∙ ap (λ rest. ids_with docs word ++ rest) (by (has_word word d))
  where
    by : (b : Bool) → map (λ (x : Document). x.id) (cond b (d ∷ []) []) ≡ (if b then d.id ∷ [] else [])
    by true = refl
    by false = refl

-- an identifier of no document is none of those with the word
not_with : (docs : List Document) (word : List ℕ) (id : ℕ) → among id (map (λ d. d.id) docs) ≡ false → among id (ids_with docs word) ≡ false
not_with [] word id none = refl
not_with (d ∷ docs) word id none =
    let parts = or_parts (d.id == id) (among id (map (λ (x : Document). x.id) docs)) none in
    by (has_word word d) parts.0 (not_with docs word id parts.1)
  where
    by : (b : Bool) → (d.id == id) ≡ false → among id (ids_with docs word) ≡ false → among id (map (λ (x : Document). x.id) (cond b (d ∷ filter (has_word word) docs) (filter (has_word word) docs))) ≡ false
    by true own rest = or_from (d.id == id) (among id (ids_with docs word)) own rest
    by false own rest = rest

-- one document more, whose identifier is new
pub told_of-push : (first : ℕ) (s : Setup) (docs : List Document) (d : Document) (word : List ℕ) → among d.id (map (λ x. x.id) docs) ≡ false
    → (if has_word word d then set_up_with first d.id (told_of first s docs word) else told_of first s docs word) ≡ told_of first s (docs ++ d ∷ []) word
told_of-push first s docs d word new =
    by (has_word word d) ∙ ap (λ ids. record { search = None; home = home s word; listed = setup_pairs first ids }) (sym (ids_with-push docs d word))
  where
    none : lists d.id (setup_pairs first (ids_with docs word)) ≡ false
    none = lists-pairs first d.id 0 (ids_with docs word) ∙ not_with docs word d.id new

    by : (b : Bool) → (if b then set_up_with first d.id (told_of first s docs word) else told_of first s docs word) ≡ record { search = None; home = home s word; listed = setup_pairs first (ids_with docs word ++ (if b then d.id ∷ [] else [])) }
    by true = λ i. record {
      search = None;
      home = home s word;
      listed =
          (ap (λ b. if b then sent_among d.id (origin first (length (setup_pairs first (ids_with docs word)))) false (setup_pairs first (ids_with docs word)) else setup_pairs first (ids_with docs word) ++ new_pair d.id (origin first (length (setup_pairs first (ids_with docs word)))) ∷ []) none
          ∙ ap (λ n. setup_pairs first (ids_with docs word) ++ new_pair d.id (origin first n) ∷ []) (length-pairs first 0 (ids_with docs word) ∙ (let same : length (ids_with docs word) ≡ 0 + length (ids_with docs word) = omega arith in same))
          ∙ sym (pairs-push first 0 (ids_with docs word) d.id)) i;
    }
    by false = ap (λ ids. record { search = None; home = home s word; listed = setup_pairs first ids }) (sym (append-nil (ids_with docs word)))

-- no more pairs than documents
pub few_pairs : (first : ℕ) (s : Setup) (docs : List Document) (word : List ℕ) → length (told_of first s docs word).listed ≤ length docs
few_pairs first s docs word = omega (arith, length-pairs first 0 (ids_with docs word), length-map (filter (has_word word) docs) (λ d. d.id), few docs)
  where
    few : (ds : List Document) → length (filter (has_word word) ds) ≤ length ds
    few [] = omega arith
    few (d ∷ ds) = by (has_word word d) (few ds)
      where
        by : (b : Bool) → length (filter (has_word word) ds) ≤ length ds → length (cond b (d ∷ filter (has_word word) ds) (filter (has_word word) ds)) ≤ suc (length ds)
        by true h = omega (arith, h)
        by false h = omega (arith, h)

-- all documents of a setup
pub told_of-all : (o : Offsets) (s : Setup) (word : List ℕ) → told_of o.command s s.documents word ≡ word_facts o s [] word
told_of-all o s word = λ i. record { search = None; home = home s word; listed = sym listed i }
  where
    each : (n : ℕ) (ids : List ℕ) → ((id : ℕ) → among id ids ≡ true → holds_pair s.documents word id ≡ true)
        → map (pair_leak o s [] word) (map (λ (item : ℕ × ℕ). (item.1, origin o.command item.0)) (enumerate_from n ids)) ≡ setup_pairs_from o.command n ids
    each n [] held = refl
    each n (id ∷ ids) held =
        let own : holds_pair s.documents word id ≡ true = held id (ap (λ b. b || among id ids) (nat_eq_equiv.refl id)) in
        λ i. record { id = id; origin = origin o.command n; number = None; revoked = not (own i) } ∷ each (n + 1) ids (λ other there. held other (later (id == other) (among other ids) there)) i
      where
        later : (a b : Bool) → b ≡ true → (a || b) ≡ true
        later true b h = refl
        later false b h = h

    listed : listed_leaks o s [] word ≡ setup_pairs o.command (setup_list s word)
    listed = ap (map (pair_leak o s [] word)) (append-nil (listed_in_setup o s word)) ∙ each 0 (setup_list s word) (λ id there. sym (among-ids_with s.documents word id) ∙ there)

-- the identifier of a document is none of those before it
pub new_id : (docs : List Document) (i : ℕ) (d : Document) → IsDistinct (λ x y. x == y) (map (λ x. x.id) docs) → i < length docs → get_or docs i d ≡ d → among d.id (map (λ x. x.id) (take i docs)) ≡ false
unfolding IsDistinct
new_id [] i d apart within is = absurd (omega (arith, within))
new_id (x ∷ docs) zero d apart within is = refl
new_id (x ∷ docs) (suc i) d apart within is =
    let lt : i < length docs = omega (arith, within) in
    or_from (x.id == d.id) (among d.id (map (λ y. y.id) (take i docs))) (ap (λ y. x.id == y.id) (sym is) ∙ at docs i lt apart.0) (new_id docs i d apart.1 lt is)
  where
    at : (ds : List Document) (k : ℕ) → k < length ds → AllByRecursion (λ n. (x.id == n) ≡ false) (map (λ y. y.id) ds) → (x.id == (get_or ds k d).id) ≡ false
    at [] k lt all = absurd (omega (arith, lt))
    at (y ∷ ds) zero lt all = all.0
    at (y ∷ ds) (suc k) lt all = at ds k (omega (arith, lt)) all.1

-- Where a setup holds its words.

-- the place that the entry at this number stands for
abbrev pub home_at : Setup → List (List ℕ) → ℕ → Home
home_at s words place = record { entry = place; blocks = range_with_len (sum_by (word_blocks s) (take place words)) (word_blocks s (get_or words place [])) }

place-position : (w : List ℕ) (words : List (List ℕ)) → position (bytes_eq w) words ≡ (if list_any (bytes_eq w) words then Some (place_of w words) else None)
place-position w [] = refl
place-position w (v ∷ words) = position-cons (bytes_eq w) v words ∙ by (bytes_eq w v) (place-position w words)
  where
    rest : (b : Bool) → option_map (λ n. suc n) (if b then Some (place_of w words) else None) ≡ (if b then Some (suc (place_of w words)) else None)
    rest true = refl
    rest false = refl

    by : (b : Bool) → position (bytes_eq w) words ≡ (if list_any (bytes_eq w) words then Some (place_of w words) else None)
        → cond b (Some 0) (option_map (λ n. suc n) (position (bytes_eq w) words)) ≡ (if b || list_any (bytes_eq w) words then Some (if b then 0 else suc (place_of w words)) else None)
    by true had = refl
    by false had = ap (option_map (λ n. suc n)) had ∙ rest (list_any (bytes_eq w) words)

own_place : (w : List ℕ) (words : List (List ℕ)) → list_any (bytes_eq w) words ≡ true → get_or words (place_of w words) [] ≡ w
own_place w [] here = absurd (true≢false (sym here))
own_place w (v ∷ words) here = by (bytes_eq w v) refl here (own_place w words)
  where
    by : (b : Bool) → bytes_eq w v ≡ b → (b || list_any (bytes_eq w) words) ≡ true → (list_any (bytes_eq w) words ≡ true → get_or words (place_of w words) [] ≡ w) → get_or (v ∷ words) (if b then 0 else suc (place_of w words)) [] ≡ w
    by true is here rest = sym (same_bytes w v is)
    by false is here rest = rest here

-- each word at its place among those of the setup
pub home-placed : (s : Setup) (w : List ℕ)
    → (if list_any (bytes_eq w) (setup_words s) then Some (home_at s (setup_words s) (place_of w (setup_words s))) else None) ≡ home s w
home-placed s w =
    by (list_any (bytes_eq w) (setup_words s)) refl
    ∙ ap (option_map place_view) (sym (place-position w (setup_words s)))
  where
    place_view : ℕ → Home
    place_view i = record { entry = i; blocks = range_with_len (sum_by (word_blocks s) (take i (setup_words s))) (word_blocks s w) }

    by : (b : Bool) → list_any (bytes_eq w) (setup_words s) ≡ b
        → (if b then Some (home_at s (setup_words s) (place_of w (setup_words s))) else None) ≡ option_map place_view (if b then Some (place_of w (setup_words s)) else None)
    by true here =
        ap (λ v. Some (record { entry = place_of w (setup_words s); blocks = range_with_len (sum_by (word_blocks s) (take (place_of w (setup_words s)) (setup_words s))) (word_blocks s v) })) (own_place w (setup_words s) here)
    by false here = refl

-- what is told of a word once all words have their places
pub placed-words : (s : Setup) (w : List ℕ)
    → (if list_any (bytes_eq w) (setup_words s) then placed_at (home_at s (setup_words s) (place_of w (setup_words s))) unnamed else unnamed) ≡ record { search = None; home = home s w; listed = [] }
placed-words s w = by (list_any (bytes_eq w) (setup_words s)) ∙ ap (λ h. record { search = None; home = h; listed = [] }) (home-placed s w)
  where
    by : (b : Bool) → (if b then placed_at (home_at s (setup_words s) (place_of w (setup_words s))) unnamed else unnamed)
        ≡ record { search = None; home = if b then Some (home_at s (setup_words s) (place_of w (setup_words s))) else None; listed = [] }
    by true = refl
    by false = refl

-- the blocks of the lists of all words
pub sum-word_blocks : (s : Setup) → sum_by (word_blocks s) (setup_words s) ≡ blocks_of s
sum-word_blocks s = by (setup_words s)
  where
    by : (ws : List (List ℕ)) → sum_by (word_blocks s) ws ≡ sum_by (λ n. block_count (plan s.shape n)) (map (λ word. length (ids_with s.documents word)) ws)
    by [] = refl
    by (w ∷ ws) =
        sum_by-cons (word_blocks s) w ws ∙ ap (λ n. word_blocks s w + n) (by ws)
        ∙ sym (sum_by-cons (λ n. block_count (plan s.shape n)) (length (ids_with s.documents w)) (map (λ word. length (ids_with s.documents word)) ws))
