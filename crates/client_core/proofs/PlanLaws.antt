-- What an update's places are to the words of its document, and what its values are.
use Rattle.std.proofs.Common.{◌≡◌, ◌≢◌, ◌+◌, ◌-◌, ◌<◌, ◌^◌, ◌||◌, ℕ, Bool, true, false, cond, not, List, [], ◌∷◌, length, map, filter, nat_lt, Option, Some, None, refl, sym, ap, ◌∙◌, subst, arith, Ok, Err}
use Rattle.std.specs.Prelude.{All, option_map, slice_index, slice_index_or, if◌then◌else◌, IfSome, IsErrAnd, Result}
use Rattle.std.specs.List.{list_all, range_with_len}
use Rattle.std.specs.Option.{option_or}
use Rattle.std.proofs.lemmas.Bool.{and_parts, ltb-true}
use Rattle.std.proofs.lemmas.List.{get_or-map, length-map}
use Rattle.std.proofs.lemmas.List.Elements.{All-cons, All-nil}
use Rattle.std.proofs.lemmas.List.Filters.{length-filter_both}
use Rattle.std.proofs.lemmas.Simd.{map-map}
use Rattle.add_counters.specs.NewEntry.{entry_text}
use Rattle.add_counters.specs.declared.entry.Entry.{Entry as Made}
use Rattle.client_registry.specs.Document.{Document}
use Rattle.client_registry.specs.Facts.{has_counters}
use Rattle.client_registry.specs.FirstClash.{first_clash}
use Rattle.client_registry.specs.Numbered.{words_by_number}
use Rattle.client_registry.specs.Registered.{Registered, facts, known_words}
use Rattle.keyed_fn.specs.KeyedFn.{KeyedFn}
use Rattle.revocation_ids.proofs.PlaceLaws.{fresh-words, listed-words, positions_of_places}
use Rattle.revocation_ids.specs.Places.{fresh_places, listed_places, places_from, word_at}
use Rattle.revocation_ids.specs.declared.numbered_word.NumberedWord.{NumberedWord}
use Rattle.sse_frames.specs.Frames.{Entry}
use Rattle.sse_frames.specs.Order.{is_below, insert_by, by_bytes}
use Rattle.sse_model.specs.Compared.{Collision, Labels, Numbers, positions_of, equal_among}
use Rattle.client_core.specs.UpdateFaults.{clash_fault, equal_at}
use Rattle.client_core.specs.UpdateTexts.{next_entry_of, number_of, entries_added, numbers_added}
use Rattle.client_core.specs.declared.command_fault.CommandFault.{CommandFault}
use Rattle.client_core.specs.declared.command_fault.CommandFault.TheVariants.{LabelClash, NoMemory, NumberClash}

-- what is so of the values of a list is so of their places
pub All-unmap : {X Y : Type 0} (P : Y → Type 0) (f : X → Y) (xs : List X) → All P (map f xs) → All (λ x. P (f x)) xs
All-unmap P f xs all = λ k d lt. subst P (get_or-map f xs k d (f d) lt) (all k (f d) (omega (arith, lt, length-map xs f)))

-- words that aren't at their last counter where their pair is new
free_words : (listed : List ℕ → Bool) (counter : List ℕ → ℕ) (n : ℕ) (ws : List (List ℕ)) → list_all (λ w. listed w || nat_lt (counter w) n) ws ≡ true
    → All (λ w. counter w < n) (filter (λ w. not (listed w)) ws)
free_words listed counter n [] all = All-nil (λ w. counter w < n)
free_words listed counter n (w ∷ ws) all =
    let parts = and_parts (listed w || nat_lt (counter w) n) (list_all (λ v. listed v || nat_lt (counter v) n) ws) all in
    by (listed w) parts.0 (free_words listed counter n ws parts.1)
  where
    by : (b : Bool) → (b || nat_lt (counter w) n) ≡ true → All (λ v. counter v < n) (filter (λ v. not (listed v)) ws)
        → All (λ v. counter v < n) (cond (not b) (w ∷ filter (λ v. not (listed v)) ws) (filter (λ v. not (listed v)) ws))
    by true here rest = rest
    by false here rest = All-cons (λ v. counter v < n) w (filter (λ v. not (listed v)) ws) (ltb-true (counter w) n here) rest

-- items by a key that their images have
map-insert_by : {X Y : Type 0} (h : X → Y) (key : Y → List ℕ) (x : X) (xs : List X) → map h (insert_by (λ z. key (h z)) x xs) ≡ insert_by key (h x) (map h xs)
map-insert_by h key x [] = refl
map-insert_by h key x (y ∷ ys) = by (is_below (key (h y)) (key (h x))) (map-insert_by h key x ys)
  where
    by : (b : Bool) → map h (insert_by (λ z. key (h z)) x ys) ≡ insert_by key (h x) (map h ys)
        → map h (if b then y ∷ insert_by (λ z. key (h z)) x ys else x ∷ y ∷ ys) ≡ (if b then h y ∷ insert_by key (h x) (map h ys) else h x ∷ h y ∷ map h ys)
    by true rest = ap (λ zs. h y ∷ zs) rest
    by false rest = refl

pub map-by_bytes : {X Y : Type 0} (h : X → Y) (key : Y → List ℕ) (xs : List X) → map h (by_bytes (λ z. key (h z)) xs) ≡ by_bytes key (map h xs)
map-by_bytes h key [] = refl
map-by_bytes h key (x ∷ xs) = map-insert_by h key x (by_bytes (λ z. key (h z)) xs) ∙ ap (insert_by key (h x)) (map-by_bytes h key xs)

-- equal values among the words that pass, by their places
pub equal_at-among : (keep : List ℕ → Bool) (value : List ℕ → List ℕ) (words : List (List ℕ)) (places : List NumberedWord) (values : List (List ℕ))
    → map (λ place. place.position) places ≡ positions_of keep words → values ≡ map value (filter keep words) → equal_at places values ≡ equal_among keep value words
equal_at-among keep value words places values at are =
    ap (λ positions. option_map (λ two. (slice_index positions two.0, slice_index positions two.1)) (first_clash values)) at
    ∙ ap (λ vs. option_map (λ two. (slice_index (positions_of keep words) two.0, slice_index (positions_of keep words) two.1)) (first_clash vs)) are

-- the words of a document by their numbers
module _ (r : Registered) (d : Document) (numbers : List ℕ) (are : words_by_number (known_words r) numbers ≡ d.words) where
  abbrev is_old : List ℕ → Bool
  is_old w = (facts r).listed w d.id

  fresh_words_are : map (word_at r) (fresh_places r d.id numbers) ≡ filter (λ w. not (is_old w)) d.words
  fresh_words_are = fresh-words r d.id numbers ∙ ap (filter (λ w. not (is_old w))) are

  listed_words_are : map (word_at r) (listed_places r d.id numbers) ≡ filter is_old d.words
  listed_words_are = listed-words r d.id numbers ∙ ap (filter is_old) are

  pub fresh_counters : has_counters (facts r) d ≡ true → All (λ place. (facts r).counter (word_at r place) < 2 ^ 32 - 1) (fresh_places r d.id numbers)
  fresh_counters free =
      All-unmap (λ word. (facts r).counter word < 2 ^ 32 - 1) (word_at r) (fresh_places r d.id numbers)
      (subst (All (λ word. (facts r).counter word < 2 ^ 32 - 1)) (sym fresh_words_are) (free_words is_old (facts r).counter (2 ^ 32 - 1) d.words free))

  pub length-places : length (fresh_places r d.id numbers) + length (listed_places r d.id numbers) ≡ length d.words
  length-places = omega (
    arith,
    length-map (fresh_places r d.id numbers) (word_at r),
    length-map (listed_places r d.id numbers) (word_at r),
    ap length fresh_words_are,
    ap length listed_words_are,
    length-filter_both is_old (λ w. not (is_old w)) (λ w. refl) d.words,
  )

  positions_are : (p : List ℕ → Bool) → map (λ place. place.position) (filter (λ place. p (word_at r place)) (places_from 0 numbers)) ≡ positions_of p d.words
  positions_are p =
      let words = words_by_number (known_words r) numbers in
      positions_of_places r p [] numbers 0 refl
      ∙ ap (λ n. filter (λ i. p (slice_index_or words i [])) (range_with_len 0 n)) (sym (length-map numbers (λ n. slice_index_or (known_words r) n [])))
      ∙ ap (positions_of p) are

  pub fresh_positions : map (λ place. place.position) (fresh_places r d.id numbers) ≡ positions_of (λ w. not (is_old w)) d.words
  fresh_positions = positions_are (λ w. not (is_old w))

  pub listed_positions : map (λ place. place.position) (listed_places r d.id numbers) ≡ positions_of is_old d.words
  listed_positions = positions_are is_old

  pub entries_are_added : (f : KeyedFn) (key : List ℕ) (es : List Made) → map entry_text es ≡ map (λ place. next_entry_of f key (facts r) d.id (word_at r place)) (fresh_places r d.id numbers)
      → map entry_text es ≡ entries_added f key (facts r) d
  entries_are_added f key es made =
      made ∙ sym (map-map (next_entry_of f key (facts r) d.id) (word_at r) (fresh_places r d.id numbers)) ∙ ap (map (next_entry_of f key (facts r) d.id)) fresh_words_are

  pub labels_are_added : (f : KeyedFn) (key : List ℕ) (es : List Made) → map entry_text es ≡ map (λ place. next_entry_of f key (facts r) d.id (word_at r place)) (fresh_places r d.id numbers)
      → map (λ e. e.label) es ≡ map (λ w. (next_entry_of f key (facts r) d.id w).label) (filter (λ w. not ((facts r).listed w d.id)) d.words)
  labels_are_added f key es made =
      sym (map-map (λ (entry : Entry). entry.label) entry_text es)
      ∙ ap (map (λ (entry : Entry). entry.label)) (entries_are_added f key es made)
      ∙ map-map (λ (entry : Entry). entry.label) (next_entry_of f key (facts r) d.id) (filter (λ w. not ((facts r).listed w d.id)) d.words)

  pub numbers_are_added : (f : KeyedFn) (key : List ℕ) (ns : List (List ℕ)) → ns ≡ map (λ place. number_of f key d.id (word_at r place)) (listed_places r d.id numbers)
      → ns ≡ numbers_added f key (facts r) d
  numbers_are_added f key ns made =
      made ∙ sym (map-map (number_of f key d.id) (word_at r) (listed_places r d.id numbers)) ∙ ap (map (number_of f key d.id)) listed_words_are

  -- two equal labels, and two equal numbers, by the words that they are of
  pub labels_at : (f : KeyedFn) (key : List ℕ) (es : List Made) → map entry_text es ≡ map (λ place. next_entry_of f key (facts r) d.id (word_at r place)) (fresh_places r d.id numbers)
      → equal_at (fresh_places r d.id numbers) (map (λ e. e.label) es) ≡ equal_among (λ w. not (is_old w)) (λ w. (next_entry_of f key (facts r) d.id w).label) d.words
  labels_at f key es made =
      equal_at-among (λ w. not (is_old w)) (λ w. (next_entry_of f key (facts r) d.id w).label) d.words (fresh_places r d.id numbers) (map (λ e. e.label) es) fresh_positions (labels_are_added f key es made)

  pub numbers_at : (f : KeyedFn) (key : List ℕ) (ns : List (List ℕ)) → ns ≡ map (λ place. number_of f key d.id (word_at r place)) (listed_places r d.id numbers)
      → equal_at (listed_places r d.id numbers) ns ≡ equal_among is_old (number_of f key d.id) d.words
  numbers_at f key ns made = equal_at-among is_old (number_of f key d.id) d.words (listed_places r d.id numbers) ns listed_positions (numbers_are_added f key ns made)

-- where no two are named, no two are equal
pub none_equal : (places : List NumberedWord) (values : List (List ℕ)) → equal_at places values ≡ None → first_clash values ≡ None
none_equal places values none = by (first_clash values) none
  where
    by : (o : Option (ℕ × ℕ)) → option_map {U = ℕ × ℕ} (λ two. (slice_index (map (λ p. p.position) places) two.0, slice_index (map (λ p. p.position) places) two.1)) o ≡ None → o ≡ None
    by None e = refl
    by (Some two) e = absurd (cc)

-- the fault of two equal numbers
pub clash_of_numbers : (m : Option (ℕ × ℕ)) → option_map (λ two. NumberClash two.0 two.1) m ≡ option_map clash_fault (option_map (λ places. Numbers places.0 places.1) m)
clash_of_numbers None = refl
clash_of_numbers (Some two) = refl

filter-all : {X : Type 0} (xs : List X) → filter (λ x. true) xs ≡ xs
filter-all [] = refl
filter-all (x ∷ xs) = ap (λ ys. x ∷ ys) (filter-all xs)

-- all words of a document by their numbers
module _ (table : List (List ℕ)) (numbers : List ℕ) (places : List NumberedWord) (are : map (λ place. place.number) places ≡ numbers) where
  abbrev words_here : List (List ℕ)
  words_here = map (λ n. slice_index_or table n []) numbers

  pub all_positions : map (λ place. place.position) places ≡ range_with_len 0 (length numbers) → map (λ place. place.position) places ≡ positions_of (λ w. true) words_here
  all_positions at =
      at ∙ ap (range_with_len 0) (sym (length-map numbers (λ n. slice_index_or table n []))) ∙ sym (filter-all (range_with_len 0 (length words_here)))

  pub all_values : (value : List ℕ → List ℕ) (ns : List (List ℕ)) → ns ≡ map (λ place. value (slice_index_or table place.number [])) places → ns ≡ map value words_here
  all_values value ns is =
      is ∙ sym (map-map (λ n. value (slice_index_or table n [])) (λ (place : NumberedWord). place.number) places)
      ∙ ap (map (λ n. value (slice_index_or table n []))) are
      ∙ sym (map-map value (λ n. slice_index_or table n []) numbers)

  pub all_equal : (value : List ℕ → List ℕ) (ns : List (List ℕ)) → map (λ place. place.position) places ≡ range_with_len 0 (length numbers) → ns ≡ map (λ place. value (slice_index_or table place.number [])) places
      → equal_at places ns ≡ equal_among (λ w. true) value words_here
  all_equal value ns at is =
      equal_at-among (λ w. true) value words_here places ns (all_positions at) (all_values value ns is ∙ ap (map value) (sym (filter-all words_here)))

-- which fault two collisions give, the first before the second
module _ (l n : Option (ℕ × ℕ)) where
  abbrev both : Option Collision
  both = option_or (option_map (λ places. Labels places.0 places.1) l) (option_map (λ places. Numbers places.0 places.1) n)

  pub fault_of_both : option_or (option_map (λ two. LabelClash two.0 two.1) l) (option_map (λ two. NumberClash two.0 two.1) n) ≡ option_map clash_fault both
  fault_of_both = by l
    where
      by : (o : Option (ℕ × ℕ)) → option_or (option_map (λ two. LabelClash two.0 two.1) o) (option_map (λ two. NumberClash two.0 two.1) n)
          ≡ option_map clash_fault (option_or (option_map (λ places. Labels places.0 places.1) o) (option_map (λ places. Numbers places.0 places.1) n))
      by None = clash_of_numbers n
      by (Some two) = refl

-- where none of two is named, neither is
pub neither_named : {X : Type 0} (a b : Option X) → option_or a b ≡ None → (a ≡ None) × (b ≡ None)
neither_named None b none = (refl, none)
neither_named (Some x) b none = absurd (cc)

-- results and their faults

pub residual_is : {X : Type 0} (r : Result X CommandFault) (x : CommandFault) → IsErrAnd r (λ e. e ≡ x) → r ≡ Err x
residual_is (Ok v) x is = absurd is
residual_is (Err e) x is = ap (λ y. Err y) is

-- of two that fail alike, the one has the fault that the other has
pub not_wanting : {X Y E : Type 0} {want : E} (r : Result X E) (s : Result Y E) (x : E) → r ≡ Err x → s ≡ Err x → s ≢ Err want → r ≢ Err want
not_wanting {want = want} r s x first second some wants =
    let same : x ≡ want = cc in
    some (second ∙ ap (λ y. Err y) same)

pub passed_on : {X Y Z E : Type 0} (o : Option Z) (fault : Z → E) (r : Result X E) (s : Result Y E) (x : E) → r ≡ Err x → s ≡ Err x → IfSome o (λ z. r ≡ Err (fault z)) → IfSome o (λ z. s ≡ Err (fault z))
passed_on None fault r s x first second named = tt
passed_on (Some z) fault r s x first second named =
    let same : x ≡ fault z = cc in
    second ∙ ap (λ y. Err y) same

pub ok_not_wanting : {X : Type 0} (r : Result X CommandFault) (v : X) → r ≡ Ok v → r ≢ Err NoMemory
ok_not_wanting r v is wants = cc
