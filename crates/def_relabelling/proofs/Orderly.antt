-- What the exchange takes of accepted histories.
use Rattle.std.proofs.Common.{◌≡◌, ℕ, zero, suc, Bool, true, false, ◌&&◌, ◌||◌, List, [], ◌∷◌, ◌++◌, map, refl, sym, ap, ◌∙◌, subst, ⊎_elim, eqb-true, Some}
use Rattle.std.specs.Prelude.{All, bytes_eq, if◌then◌else◌, ◌==◌}
use Rattle.std.specs.List.{list_any, IsDistinct, AllByRecursion, slice_get}
use Rattle.std.proofs.lemmas.Bool.{true≢false, eqb-false, and_from, or_left, or_right, or_cases}
use Rattle.std.proofs.lemmas.Slice.Eq.{bytes_eq-Decides}
use Rattle.std.proofs.lemmas.List.Folds.{list_any-append}
use Rattle.client_registry.proofs.DistinctLaws.{IsDistinct-words}
use Rattle.client_registry.proofs.LiveLaws.{among, is_listed-lists, live_pairs_are_listed}
use Rattle.client_registry.proofs.OrderLaws.{AreApart-from_IsDistinct}
use Rattle.client_registry.proofs.ShownLaws.{are_accepted, live_apart}
use Rattle.client_registry.specs.Command.{Command, Add, Delete, Search}
use Rattle.client_registry.specs.Document.{Document}
use Rattle.client_registry.specs.Documents.{has_word, IsCollected}
use Rattle.client_registry.specs.Live.{live, holds_pair, adds_pair, is_listed, is_live_with, added_list}
use Rattle.client_registry.specs.Run.{Offsets}
use Rattle.client_registry.specs.Setup.{Setup, setup_list}
use Rattle.client_registry.specs.Sized.{IsSizedCommand}
use Rattle.sse_model.proofs.DrawnOnce.{live_are_documents, IsDistinct-words_live}
use Rattle.sse_model.specs.Drawn.{sends_number}
use Rattle.sse_model.specs.Wire.{words_live}
use Rattle.def_leakage.proofs.ListedPairs.{ids, ids-listed_pairs}
use Rattle.def_leakage.proofs.Places.{none_is_some}
use Rattle.def_relabelling.proofs.SamePlaces.{Has, has-mapped, own_word, IsOrderly}
use Rattle.def_relabelling.proofs.FirstPlaces.{some_inside, id_of}
use Rattle.def_leakage.specs.Firsts.{update_words, place_of}
use Rattle.def_leakage.specs.CommandLeaks.{listed_pairs}
use Rattle.sse_simulator.specs.Leaks.{Origin}

pub same_number : (n : ℕ) → (n == n) ≡ true
same_number n = by (n == n) refl
  where
    by : (b : Bool) → (n == n) ≡ b → (n == n) ≡ true
    by true is = is
    by false is = absurd (let differ = eqb-false n n is in differ refl)

-- A word has one place.

-- what is so of all is so of one at a place
pub all_at : {A : Type 0} (P : A → Type 0) (xs : List A) → AllByRecursion P xs → (i : ℕ) (x : A) → slice_get xs i ≡ Some x → P x
all_at P [] all i x e = none_is_some x e
all_at P (y ∷ xs) all zero x e = subst P (some_inside y x e) all.0
all_at P (y ∷ xs) all (suc i) x e = all_at P xs all.1 i x e

pub flipped : (a b : List ℕ) → bytes_eq b a ≡ false → bytes_eq a b ≡ false
flipped a b e = by (bytes_eq a b) refl
  where
    by : (r : Bool) → bytes_eq a b ≡ r → bytes_eq a b ≡ false
    by false is = is
    by true is = absurd (true≢false (sym ((bytes_eq-Decides b a).1 (sym ((bytes_eq-Decides a b).0 is))) ∙ e))

-- among words that differ each stands at the place where it is
pub own_place : (words : List (List ℕ)) → IsDistinct bytes_eq words → (p : ℕ) (word : List ℕ) → slice_get words p ≡ Some word → place_of word words ≡ p
unfolding IsDistinct
own_place [] differ p word e = none_is_some word e
own_place (w ∷ ws) differ zero word e = ap (λ b. if b then 0 else suc (place_of word ws)) ((bytes_eq-Decides word w).1 (sym (some_inside w word e)))
own_place (w ∷ ws) differ (suc p) word e =
    ap (λ b. if b then 0 else suc (place_of word ws)) (flipped word w (all_at (λ y. bytes_eq w y ≡ false) ws differ.0 p word e))
    ∙ ap (λ (n : ℕ). suc n) (own_place ws differ.1 p word e)

-- A live word is of a pair.

pub live_holds : (docs : List Document) (word : List ℕ) (id : ℕ) → list_any (bytes_eq word) (words_live docs id) ≡ true → holds_pair docs word id ≡ true
live_holds [] word id h = absurd (true≢false (sym h))
live_holds (d ∷ docs) word id h =
    by (d.id == id) (live_holds docs word id) (sym (list_any-append (bytes_eq word) (if d.id == id then d.words else []) (words_live docs id)) ∙ h)
  where
    by : (b : Bool) → (list_any (bytes_eq word) (words_live docs id) ≡ true → holds_pair docs word id ≡ true)
        → (list_any (bytes_eq word) (if b then d.words else []) || list_any (bytes_eq word) (words_live docs id)) ≡ true
        → ((b && has_word word d) || holds_pair docs word id) ≡ true
    by false had h = had h
    by true had h =
        ⊎_elim (λ here. or_left (has_word word d) (holds_pair docs word id) here)
        (λ rest. or_right (has_word word d) (holds_pair docs word id) (had rest))
        (or_cases (list_any (bytes_eq word) d.words) (list_any (bytes_eq word) (words_live docs id)) h)

-- Accepted commands are orderly.

module _ (s : Setup) (collected : IsCollected s.documents) (before : List Command) (sized : All IsSizedCommand before) (accepted : are_accepted s before ≡ true) where
  -- the words of an update differ
  pub words_differ : (c : Command) → IsSizedCommand c → IsDistinct bytes_eq (update_words s before c)
  unfolding IsDistinct
  words_differ (Add d) one = IsDistinct-words d.words one.accepted
  words_differ (Delete id) one =
      IsDistinct-words_live (live s.documents before) id
      (live_apart s (AreApart-from_IsDistinct (map (λ d. d.id) s.documents) collected.different) before accepted)
      (live_are_documents s.documents before collected.are_documents sized)
  words_differ (Search word) one = tt

  pub is_orderly : (c : Command) → IsSizedCommand c → (p : ℕ) (word : List ℕ) → slice_get (update_words s before c) p ≡ Some word → IsOrderly s before c p word
  is_orderly c one p word e = record {
    place = own_place (update_words s before c) (words_differ c one) p word e;
    sends = by c e;
    deletes = λ id is. of_delete id (subst (λ x. slice_get (update_words s before x) p ≡ Some word) is e);
  }
    where
      is_live : (id : ℕ) → slice_get (words_live (live s.documents before) id) p ≡ Some word → is_live_with s before word id ≡ true
      is_live id e = live_holds (live s.documents before) word id (own_word word (words_live (live s.documents before) id) p e)

      of_delete : (id : ℕ) → slice_get (words_live (live s.documents before) id) p ≡ Some word → is_listed s before word id ≡ true
      of_delete id e = live_pairs_are_listed s word id before (is_live id e)

      by : (x : Command) → slice_get (update_words s before x) p ≡ Some word → is_listed s before word (id_of x) ≡ true → sends_number s word (id_of x) before x ≡ true
      by (Add d) e listed =
          and_from (d.id == d.id && has_word word d) (is_listed s before word d.id)
          (and_from (d.id == d.id) (has_word word d) (same_number d.id) (own_word word d.words p e)) listed
      by (Delete id) e listed = and_from (id == id) (is_live_with s before word id) (same_number id) (is_live id e)
      by (Search other) e listed = none_is_some word e

-- A listed pair is among the listed ones.

module _ (o : Offsets) (s : Setup) (word : List ℕ) where
  has_among : (id : ℕ) (xs : List ℕ) → among id xs ≡ true → Has xs id
  has_among id [] h = absurd (true≢false (sym h))
  has_among id (x ∷ xs) h =
      ⊎_elim (λ (here : (x == id) ≡ true). (0, ap (λ n. Some n) (eqb-true x id here)))
      (λ rest. let more = has_among id xs rest in (suc more.0, more.1))
      (or_cases (x == id) (among id xs) h)

  -- so a listed pair has its place
  pub has_pair : (cs : List Command) (id : ℕ) → is_listed s cs word id ≡ true → (first : Origin) × Has (listed_pairs o s cs word) (id, first)
  has_pair cs id listed =
      let has : Has (ids (listed_pairs o s cs word)) id =
      subst (λ xs. Has xs id) (sym (ids-listed_pairs o s word cs)) (has_among id (setup_list s word ++ added_list s cs word) (sym (is_listed-lists s word id cs) ∙ listed)) in
      let pair = has-mapped (λ (pair : ℕ × Origin). pair.0) (listed_pairs o s cs word) id has in
      (pair.0.1, subst (λ n. Has (listed_pairs o s cs word) (n, pair.0.1)) pair.2 pair.1)

  -- and keeps it
  pub has_listed_pair : (before more : List Command) (id : ℕ) → is_listed s before word id ≡ true → (first : Origin) × Has (listed_pairs o s (before ++ more) word) (id, first)
  has_listed_pair before more id listed =
      has_pair (before ++ more) id
      (ap (λ b. holds_pair s.documents word id || b) (list_any-append (adds_pair word id) before more)
      ∙ still (holds_pair s.documents word id) (list_any (adds_pair word id) before) (list_any (adds_pair word id) more) listed)
    where
      still : (x y z : Bool) → (x || y) ≡ true → (x || (y || z)) ≡ true
      still true y z h = refl
      still false true z h = refl
      still false false z h = absurd (true≢false (sym h))
