-- What is told of a pair, and of all pairs of a word, after one command more.
use Rattle.std.proofs.Common.{◌≡◌, ℕ, ◌+◌, Bool, true, false, cond, not, ◌&&◌, ◌||◌, List, [], ◌∷◌, ◌++◌, length, map, filter, find, refl, sym, ap, ◌∙◌, append_assoc, eqb-true, Some, None}
use Rattle.std.specs.Prelude.{Option, flat_map, if◌then◌else◌, option_map, ◌==◌}
use Rattle.std.specs.List.{list_any}
use Rattle.std.specs.Option.{option_or, option_and_then}
use Rattle.std.proofs.lemmas.Bool.{true≢false, or_parts, or_from}
use Rattle.std.proofs.lemmas.Cmp.{nat_eq_equiv}
use Rattle.std.proofs.lemmas.List.{append-nil}
use Rattle.std.proofs.lemmas.List.Concat.{flat_map-append}
use Rattle.std.proofs.lemmas.List.Folds.{list_any-append}
use Rattle.client_registry.proofs.FromEnd.{from_end}
use Rattle.client_registry.proofs.LiveLaws.{among, is_listed-lists, live_pairs_are_listed}
use Rattle.client_registry.proofs.OverLaws.{over-append}
use Rattle.client_registry.specs.Command.{Command, Add, Delete, Search}
use Rattle.client_registry.specs.Documents.{has_word}
use Rattle.client_registry.specs.Live.{holds_pair, adds_pair, is_listed, is_live_with, shown}
use Rattle.client_registry.specs.Over.{over}
use Rattle.client_registry.specs.Run.{Offsets}
use Rattle.client_registry.specs.Setup.{Setup}
use Rattle.def_leakage.proofs.ListedPairs.{ids, ids-listed_pairs}
use Rattle.def_leakage.proofs.Places.{earliest-push}
use Rattle.def_leakage.specs.Firsts.{origin, number_origin, place_where, update_words}
use Rattle.def_leakage.specs.CommandLeaks.{listed_by, listed_in_setup, listed_pairs, pair_leak}
use Rattle.sse_model.specs.Drawn.{sends_number}
use Rattle.sse_simulator.specs.Leaks.{ListedLeak, Origin}
use Rattle.leakage_model.specs.WordFacts.{listed_leaks, lists, number_among}

-- Lists.

-- two functions that agree give the same list
pub map-same : {A B : Type 0} (f g : A → B) → ((x : A) → f x ≡ g x) → (xs : List A) → map f xs ≡ map g xs
map-same f g same [] = refl
map-same f g same (x ∷ xs) = λ i. same x i ∷ map-same f g same xs i

-- and where they differ at one identifier alone that isn't there
pub map-absent : {A B : Type 0} (f g : A → B) (id_of : A → ℕ) (id : ℕ) → ((x : A) → (id == id_of x) ≡ false → f x ≡ g x) → (xs : List A)
    → list_any (λ x. id == id_of x) xs ≡ false → map f xs ≡ map g xs
map-absent f g id_of id same [] none = refl
map-absent f g id_of id same (x ∷ xs) none =
    let parts = or_parts (id == id_of x) (list_any (λ y. id == id_of y) xs) none in
    λ i. same x parts.0 i ∷ map-absent f g id_of id same xs parts.1 i

pub map-map : {A B C : Type 0} (f : B → C) (g : A → B) (xs : List A) → map f (map g xs) ≡ map (λ x. f (g x)) xs
map-map f g [] = refl
map-map f g (x ∷ xs) = ap (λ rest. f (g x) ∷ rest) (map-map f g xs)

any-map : {A B : Type 0} (p : B → Bool) (g : A → B) (xs : List A) → list_any p (map g xs) ≡ list_any (λ x. p (g x)) xs
any-map p g [] = refl
any-map p g (x ∷ xs) = ap (λ rest. p (g x) || rest) (any-map p g xs)

pub or-none : {A : Type 0} (m : Option A) → option_or m None ≡ m
or-none None = refl
or-none (Some x) = refl

pub or-false : (b : Bool) → (b || false) ≡ b
or-false true = refl
or-false false = refl

pub or-true : (b : Bool) → (b || true) ≡ true
or-true true = refl
or-true false = refl

pub and-false : (b : Bool) → (b && false) ≡ false
and-false true = refl
and-false false = refl

-- What is listed.

module _ (o : Offsets) (s : Setup) (word : List ℕ) where
  abbrev pairs : List Command → List (ℕ × Origin)
  pairs past = listed_pairs o s past word

  abbrev pub pair : List Command → ℕ × Origin → ListedLeak
  pair past p = pair_leak o s past word p

  -- the pairs after one command more
  pub listed_pairs-push : (past : List Command) (c : Command) → pairs (past ++ c ∷ []) ≡ pairs past ++ listed_by o s word past c
  listed_pairs-push past c =
      ap (λ rest. listed_in_setup o s word ++ flat_map (λ ps. ps) rest) (over-append (listed_by o s word) [] past (c ∷ []))
      ∙ ap (λ rest. listed_in_setup o s word ++ rest) (flat_map-append (λ ps. ps) (over (listed_by o s word) [] past) (listed_by o s word past c ∷ []))
      ∙ ap (λ rest. listed_in_setup o s word ++ (flat_map (λ ps. ps) (over (listed_by o s word) [] past) ++ rest)) (append-nil (listed_by o s word past c))
      ∙ sym (append_assoc (listed_in_setup o s word) (flat_map (λ ps. ps) (over (listed_by o s word) [] past)) (listed_by o s word past c))

  among-firsts : (id : ℕ) (ps : List (ℕ × Origin)) → list_any (λ p. id == p.0) ps ≡ among id (ids ps)
  among-firsts id [] = refl
  among-firsts id (p ∷ ps) = λ i. nat_eq_equiv.symm id p.0 i || among-firsts id ps i

  -- a pair is among them where it is listed
  pub any-pairs : (past : List Command) (id : ℕ) → list_any (λ p. id == p.0) (pairs past) ≡ is_listed s past word id
  any-pairs past id = among-firsts id (pairs past) ∙ ap (among id) (ids-listed_pairs o s word past) ∙ sym (is_listed-lists s word id past)

  pub lists-listed_leaks : (past : List Command) (id : ℕ) → lists id (listed_leaks o s past word) ≡ is_listed s past word id
  lists-listed_leaks past id = any-map (λ p. id == p.id) (pair past) (pairs past) ∙ any-pairs past id

  -- What is live.

  still_live : (past : List Command) (ps : List (ℕ × Origin))
      → map (λ p. p.id) (filter (λ p. not p.revoked) (map (pair past) ps)) ≡ filter (is_live_with s past word) (ids ps)
  still_live past [] = refl
  still_live past (p ∷ ps) = by (is_live_with s past word p.0) (still_live past ps)
    where
      by : (b : Bool) → map (λ q. q.id) (filter (λ q. not q.revoked) (map (pair past) ps)) ≡ filter (is_live_with s past word) (map (λ q. q.0) ps)
          → map (λ (q : ListedLeak). q.id) (cond (not (not b)) (pair past p ∷ filter (λ q. not q.revoked) (map (pair past) ps)) (filter (λ q. not q.revoked) (map (pair past) ps)))
          ≡ cond b (p.0 ∷ filter (is_live_with s past word) (map (λ q. q.0) ps)) (filter (is_live_with s past word) (map (λ q. q.0) ps))
      by true h = ap (λ rest. p.0 ∷ rest) h
      by false h = h

  -- what a search finds are those that aren't revoked
  pub found-listed_leaks : (past : List Command) → map (λ p. p.id) (filter (λ p. not p.revoked) (listed_leaks o s past word)) ≡ shown s past word
  found-listed_leaks past = still_live past (pairs past) ∙ ap (filter (is_live_with s past word)) (ids-listed_pairs o s word past)

  -- What was sent.

  -- where the number was sent, after one command more
  pub number_origin-push : (past : List Command) (c : Command) (id k : ℕ) → k ≡ o.command + 1 + length past
      → number_origin o s (past ++ c ∷ []) word id
      ≡ option_or (number_origin o s past word id) (option_map (origin k) (place_where (sends_number s word id past c) word (update_words s past c)))
  number_origin-push past c id k e =
      earliest-push o (λ before x. place_where (sends_number s word id before x) word (update_words s before x)) past c
      ∙ ap (λ n. option_or (number_origin o s past word id) (option_map (origin n) (place_where (sends_number s word id past c) word (update_words s past c))))
      (sym e)

  -- a number that is sent is that of a listed pair
  sends_listed : (past : List Command) (c : Command) (id : ℕ) → is_listed s past word id ≡ false → sends_number s word id past c ≡ false
  sends_listed past (Add d) id none = ap (λ b. (d.id == id && has_word word d) && b) none ∙ and-false (d.id == id && has_word word d)
  sends_listed past (Delete other) id none = by (is_live_with s past word id) refl
    where
      by : (b : Bool) → is_live_with s past word id ≡ b → (other == id && b) ≡ false
      by true is = absurd (true≢false (sym (live_pairs_are_listed s word id past is) ∙ none))
      by false is = and-false (other == id)
  sends_listed past (Search other) id none = refl

  pub unlisted_number : (past : List Command) (id : ℕ) → is_listed s past word id ≡ false → number_origin o s past word id ≡ None
  unlisted_number past id = from_end (λ xs. is_listed s xs word id ≡ false → number_origin o s xs word id ≡ None) (λ _. refl) push past
    where
      push : (xs : List Command) (c : Command) → (is_listed s xs word id ≡ false → number_origin o s xs word id ≡ None) → is_listed s (xs ++ c ∷ []) word id ≡ false
          → number_origin o s (xs ++ c ∷ []) word id ≡ None
      push xs c had none =
          let held = holds_pair s.documents word id in
          let parts = or_parts held (list_any (adds_pair word id) (xs ++ c ∷ [])) none in
          let added = or_parts (list_any (adds_pair word id) xs) (adds_pair word id c || false) (sym (list_any-append (adds_pair word id) xs (c ∷ [])) ∙ parts.1) in
          let before : is_listed s xs word id ≡ false = or_from held (list_any (adds_pair word id) xs) parts.0 added.0 in
          number_origin-push xs c id (o.command + 1 + length xs) refl
          ∙ (λ i. option_or (had before i) (option_map (origin (o.command + 1 + length xs)) (place_where (sends_listed xs c id before i) word (update_words s xs c))))

  number_found : (past : List Command) (id : ℕ) (ps : List (ℕ × Origin))
      → number_among id (map (pair past) ps) ≡ (if list_any (λ p. id == p.0) ps then number_origin o s past word id else None)
  number_found past id [] = refl
  number_found past id (p ∷ ps) = by (id == p.0) refl (number_found past id ps)
    where
      by : (b : Bool) → (id == p.0) ≡ b → number_among id (map (pair past) ps) ≡ (if list_any (λ q. id == q.0) ps then number_origin o s past word id else None)
          → option_and_then (λ (q : ListedLeak). q.number) (cond b (Some (pair past p)) (find (λ q. id == q.id) (map (pair past) ps)))
          ≡ (if b || list_any (λ q. id == q.0) ps then number_origin o s past word id else None)
      by true is h = ap (number_origin o s past word) (sym (eqb-true id p.0 is))
      by false is h = h

  -- the number of a pair is found among the pairs
  pub number-listed_leaks : (past : List Command) (id : ℕ) → number_among id (listed_leaks o s past word) ≡ number_origin o s past word id
  number-listed_leaks past id =
      number_found past id (pairs past)
      ∙ ap (λ b. if b then number_origin o s past word id else None) (any-pairs past id)
      ∙ by (is_listed s past word id) refl
    where
      by : (b : Bool) → is_listed s past word id ≡ b → (if b then number_origin o s past word id else None) ≡ number_origin o s past word id
      by true is = refl
      by false is = sym (unlisted_number past id is)
