-- Which pairs are listed and live after one command more, and which numbers a command sends.
use Rattle.std.proofs.Common.{◌≡◌, ℕ, Bool, true, false, cond, not, ◌&&◌, ◌||◌, List, [], ◌∷◌, ◌++◌, map, filter, refl, sym, ap, ◌∙◌, ⊎_elim, eqb-true}
use Rattle.std.specs.Prelude.{Contains, ◌==◌, bytes_eq, if◌then◌else◌}
use Rattle.std.specs.List.{list_any}
use Rattle.std.proofs.lemmas.Bool.{or_left, or_right, or_cases, and_parts}
use Rattle.std.proofs.lemmas.Cmp.{nat_eq_equiv}
use Rattle.std.proofs.lemmas.List.Folds.{list_any-append}
use Rattle.client_registry.proofs.LiveLaws.{live-push}
use Rattle.client_registry.specs.Command.{Command, Add, Delete, Search}
use Rattle.client_registry.specs.Document.{Document}
use Rattle.client_registry.specs.Documents.{has_word, is_live}
use Rattle.client_registry.specs.Live.{live, holds_pair, adds_pair, is_listed, is_live_with}
use Rattle.client_registry.specs.Setup.{Setup}
use Rattle.sse_model.proofs.Members.{Contains-head, Contains-cons, Contains-nil, Contains-cases, Contains-map}
use Rattle.sse_model.specs.Names.{Table, name, Revocation}
use Rattle.sse_model.specs.Wire.{numbers_of_words, words_live}
use Rattle.def_agreement.proofs.Dictionary.{Contains-by_bytes}
use Rattle.def_agreement.proofs.Numbers.{Contains-of_by_bytes}

-- Listed and live.

or_assoc : (x y z : Bool) → (x || (y || (z || false))) ≡ ((x || y) || z)
or_assoc true y z = refl
or_assoc false true z = refl
or_assoc false false true = refl
or_assoc false false false = refl

or_nothing : (x y : Bool) → (x || (y || (false || false))) ≡ (x || y)
or_nothing true y = refl
or_nothing false true = refl
or_nothing false false = refl

module _ (s : Setup) (past : List Command) (word : List ℕ) (id : ℕ) where
  listed-push : (c : Command) → is_listed s (past ++ c ∷ []) word id ≡ (holds_pair s.documents word id || (list_any (adds_pair word id) past || (adds_pair word id c || false)))
  listed-push c = ap (λ b. holds_pair s.documents word id || b) (list_any-append (adds_pair word id) past (c ∷ []))

  -- an addition lists its document's pairs
  pub listed-add : (d : Document) → is_listed s (past ++ Add d ∷ []) word id ≡ (is_listed s past word id || (d.id == id && has_word word d))
  listed-add d = listed-push (Add d) ∙ or_assoc (holds_pair s.documents word id) (list_any (adds_pair word id) past) (d.id == id && has_word word d)

  -- a deletion and a search list none
  pub listed-delete : (other : ℕ) → is_listed s (past ++ Delete other ∷ []) word id ≡ is_listed s past word id
  listed-delete other = listed-push (Delete other) ∙ or_nothing (holds_pair s.documents word id) (list_any (adds_pair word id) past)

  pub listed-search : (other : List ℕ) → is_listed s (past ++ Search other ∷ []) word id ≡ is_listed s past word id
  listed-search other = listed-push (Search other) ∙ or_nothing (holds_pair s.documents word id) (list_any (adds_pair word id) past)

  -- an addition's pairs are live after it
  pub live_with-add : (d : Document) → is_live_with s (past ++ Add d ∷ []) word id ≡ (is_live_with s past word id || (d.id == id && has_word word d))
  live_with-add d =
      ap (λ docs. holds_pair docs word id) (live-push s.documents past (Add d))
      ∙ list_any-append (λ e. e.id == id && has_word word e) (live s.documents past) (d ∷ [])
      ∙ last (is_live_with s past word id) (d.id == id && has_word word d)
    where
      last : (x y : Bool) → (x || (y || false)) ≡ (x || y)
      last true y = refl
      last false true = refl
      last false false = refl

holds_pair-without : (docs : List Document) (word : List ℕ) (id other : ℕ) → holds_pair (filter (λ d. not (d.id == other)) docs) word id ≡ (not (id == other) && holds_pair docs word id)
holds_pair-without [] word id other = nothing (id == other)
  where
    nothing : (b : Bool) → false ≡ (not b && false)
    nothing true = refl
    nothing false = refl
holds_pair-without (d ∷ docs) word id other = by (d.id == other) (id == other) refl refl (holds_pair-without docs word id other)
  where
    rest : List Document
    rest = filter (λ e. not (e.id == other)) docs

    by : (x y : Bool) → (d.id == other) ≡ x → (id == other) ≡ y → holds_pair rest word id ≡ (not (id == other) && holds_pair docs word id)
        → holds_pair (cond (not x) (d ∷ rest) rest) word id ≡ (not y && ((d.id == id && has_word word d) || holds_pair docs word id))
    by true true e g h = h ∙ ap (λ b. not b && holds_pair docs word id) g
    by true false e g h =
        h ∙ ap (λ b. not b && holds_pair docs word id) g
        ∙ ap (λ b. (b && has_word word d) || holds_pair docs word id) (sym (ap (λ n. n == id) (eqb-true d.id other e) ∙ nat_eq_equiv.symm other id ∙ g))
    by false true e g h =
        let apart : (d.id == id) ≡ false = ap (λ n. d.id == n) (eqb-true id other g) ∙ e in
        (λ i. (apart i && has_word word d) || (h ∙ ap (λ b. not b && holds_pair docs word id) g) i)
    by false false e g h = ap (λ b. (d.id == id && has_word word d) || b) (h ∙ ap (λ b. not b && holds_pair docs word id) g)

-- a deletion leaves live what isn't its document's
pub live_with-delete : (s : Setup) (past : List Command) (word : List ℕ) (id other : ℕ) → is_live_with s (past ++ Delete other ∷ []) word id ≡ (not (id == other) && is_live_with s past word id)
live_with-delete s past word id other =
    ap (λ docs. holds_pair docs word id) (live-push s.documents past (Delete other)) ∙ holds_pair-without (live s.documents past) word id other

-- and a search all
pub live_with-search : (s : Setup) (past : List Command) (word : List ℕ) (id : ℕ) (other : List ℕ) → is_live_with s (past ++ Search other ∷ []) word id ≡ is_live_with s past word id
live_with-search s past word id other = ap (λ docs. holds_pair docs word id) (live-push s.documents past (Search other))

-- a document that holds a pair is live
pub is_live-holds_pair : (docs : List Document) (word : List ℕ) (id : ℕ) → holds_pair docs word id ≡ true → is_live docs id ≡ true
is_live-holds_pair [] word id holds = holds
is_live-holds_pair (d ∷ docs) word id holds =
    ⊎_elim (λ here. or_left (id == d.id) (is_live docs id) (nat_eq_equiv.symm id d.id ∙ (and_parts (d.id == id) (has_word word d) here).0))
    (λ later. or_right (id == d.id) (is_live docs id) (is_live-holds_pair docs word id later))
    (or_cases (d.id == id && has_word word d) (holds_pair docs word id) holds)

-- a word is among the live words of an identifier exactly where a live document holds the pair
pub list_any-words_live : (docs : List Document) (word : List ℕ) (id : ℕ) → list_any (bytes_eq word) (words_live docs id) ≡ holds_pair docs word id
list_any-words_live [] word id = refl
list_any-words_live (d ∷ docs) word id =
    list_any-append (bytes_eq word) (if d.id == id then d.words else []) (words_live docs id)
    ∙ (λ i. own (d.id == id) i || list_any-words_live docs word id i)
  where
    own : (b : Bool) → list_any (bytes_eq word) (if b then d.words else []) ≡ (b && has_word word d)
    own true = refl
    own false = refl

-- Numbers.

-- the result of a list is that of one of its members
pub Contains-of_map : {X Y : Type 0} (f : X → Y) (xs : List X) (y : Y) → Contains (map f xs) y → (x : X) × Contains xs x × (y ≡ f x)
Contains-of_map f [] y within = absurd (Contains-nil y within)
Contains-of_map f (x ∷ xs) y within =
    ⊎_elim (λ (same : f x ≡ y). (x, Contains-head x xs, sym same))
    (λ rest. let r = Contains-of_map f xs y rest in (r.0, Contains-cons x xs r.0 r.1, r.2)) (Contains-cases (f x) (map f xs) y within)

-- the number of each of the words is sent
pub number_within : (t : Table) (epoch id : ℕ) (words : List (List ℕ)) (word : List ℕ) → Contains words word → Contains (numbers_of_words t epoch id words) (t (name epoch word Revocation id))
number_within t epoch id words word within =
    Contains-by_bytes (λ number. number) (map (λ w. t (name epoch w Revocation id)) words) (t (name epoch word Revocation id))
    (Contains-map (λ w. t (name epoch w Revocation id)) words word within)

-- and each that is sent is the number of one of them
pub number_of : (t : Table) (epoch id : ℕ) (words : List (List ℕ)) (number : List ℕ) → Contains (numbers_of_words t epoch id words) number
    → (word : List ℕ) × Contains words word × (number ≡ t (name epoch word Revocation id))
number_of t epoch id words number within =
    Contains-of_map (λ w. t (name epoch w Revocation id)) words number (Contains-of_by_bytes (λ n. n) (map (λ w. t (name epoch w Revocation id)) words) number within)
