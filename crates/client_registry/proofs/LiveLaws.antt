-- A search changes nothing; one command more; what is listed.
use Rattle.std.proofs.Common.{◌≡◌, ℕ, ◌≤◌, Bool, true, false, cond, not, ◌||◌, ◌&&◌, List, [], ◌∷◌, ◌++◌, length, map, filter, refl, sym, ap, ◌∙◌, arith, eqb-true}
use Rattle.std.specs.Prelude.{flat_map, ◌==◌, if◌then◌else◌}
use Rattle.std.specs.List.{list_any}
use Rattle.std.proofs.lemmas.Bool.{true≢false}
use Rattle.std.proofs.lemmas.List.{append-nil, length-append}
use Rattle.std.proofs.lemmas.List.Folds.{list_any-append}
use Rattle.std.proofs.lemmas.List.Concat.{flat_map-append}
use Rattle.std.proofs.lemmas.List.Elements.{filter-append}
use Rattle.std.proofs.lemmas.List.Sums.{fold-append}
use Rattle.client_registry.proofs.FromEnd.{from_end}
use Rattle.client_registry.proofs.OverLaws.{over-append, flat-over-filter}
use Rattle.client_registry.specs.Command.{Command, Add, Delete, Search, is_update}
use Rattle.client_registry.specs.Document.{Document}
use Rattle.client_registry.specs.Documents.{has_word, ids_with}
use Rattle.client_registry.specs.Live.{after, live, holds_pair, adds_pair, is_listed, is_live_with, newly_listed, added_list, counter, shown, matching_ids, in_order}
use Rattle.client_registry.specs.Over.{over}
use Rattle.client_registry.specs.Setup.{Setup, setup_list}

-- A search changes nothing.

-- Promise P159 (inside): Searches change nothing; live documents have different identifiers; a search shows exactly the identifiers found; parts of a history keep its limits.
--   assumes: kept limits
pub live-updates : (docs : List Document) (cs : List Command) → live docs (filter is_update cs) ≡ live docs cs
live-updates docs [] = refl
live-updates docs (Add d ∷ cs) = live-updates (docs ++ d ∷ []) cs
live-updates docs (Delete id ∷ cs) = live-updates (after docs (Delete id)) cs
live-updates docs (Search word ∷ cs) = live-updates docs cs

adds_pair-updates : (word : List ℕ) (id : ℕ) (cs : List Command) → list_any (adds_pair word id) (filter is_update cs) ≡ list_any (adds_pair word id) cs
adds_pair-updates word id [] = refl
adds_pair-updates word id (Add d ∷ cs) = ap (λ b. (d.id == id && has_word word d) || b) (adds_pair-updates word id cs)
adds_pair-updates word id (Delete other ∷ cs) = adds_pair-updates word id cs
adds_pair-updates word id (Search other ∷ cs) = adds_pair-updates word id cs

-- Promise P159, also here
pub is_listed-updates : (s : Setup) (cs : List Command) (word : List ℕ) (id : ℕ) → is_listed s (filter is_update cs) word id ≡ is_listed s cs word id
is_listed-updates s cs word id = ap (λ b. holds_pair s.documents word id || b) (adds_pair-updates word id cs)

newly_listed-updates : (s : Setup) (word : List ℕ) (past : List Command) (c : Command) → is_update c ≡ true → newly_listed s word (filter is_update past) c ≡ newly_listed s word past c
newly_listed-updates s word past (Add d) e = ap (λ b. if has_word word d && not b then d.id ∷ [] else []) (is_listed-updates s past word d.id)
newly_listed-updates s word past (Delete id) e = refl
newly_listed-updates s word past (Search other) e = refl

newly_listed-search : (s : Setup) (word : List ℕ) (past : List Command) (c : Command) → is_update c ≡ false → newly_listed s word past c ≡ []
newly_listed-search s word past (Add d) e = absurd (true≢false e)
newly_listed-search s word past (Delete id) e = absurd (true≢false e)
newly_listed-search s word past (Search other) e = refl

-- Promise P159, also here
pub added_list-updates : (s : Setup) (cs : List Command) (word : List ℕ) → added_list s (filter is_update cs) word ≡ added_list s cs word
added_list-updates s cs word = flat-over-filter (newly_listed s word) is_update (newly_listed-updates s word) (newly_listed-search s word) [] cs

pub counter-updates : (s : Setup) (cs : List Command) (word : List ℕ) → counter s (filter is_update cs) word ≡ counter s cs word
counter-updates s cs word = ap length (added_list-updates s cs word)

-- Promise P159, also here
pub shown-updates : (s : Setup) (cs : List Command) (word : List ℕ) → shown s (filter is_update cs) word ≡ shown s cs word
shown-updates s cs word = λ i. filter (holds_pair (live-updates s.documents cs i) word) (setup_list s word ++ added_list-updates s cs word i)

-- Promise P159, also here
pub matching_ids-updates : (s : Setup) (cs : List Command) (word : List ℕ) → matching_ids s (filter is_update cs) word ≡ matching_ids s cs word
matching_ids-updates s cs word = ap (λ docs. in_order (ids_with docs word)) (live-updates s.documents cs)

-- One command more.

pub live-push : (docs : List Document) (cs : List Command) (c : Command) → live docs (cs ++ c ∷ []) ≡ after (live docs cs) c
live-push docs cs c = fold-append after docs cs (c ∷ [])

pub added_list-push : (s : Setup) (cs : List Command) (c : Command) (word : List ℕ) → added_list s (cs ++ c ∷ []) word ≡ added_list s cs word ++ newly_listed s word cs c
added_list-push s cs c word =
    ap (flat_map (λ ids. ids)) (over-append (newly_listed s word) [] cs (c ∷ []))
    ∙ flat_map-append (λ ids. ids) (over (newly_listed s word) [] cs) (newly_listed s word cs c ∷ [])
    ∙ ap (λ r. added_list s cs word ++ r) (append-nil (newly_listed s word cs c))

-- a command lists one identifier more of a word at most, and a search none
length-newly_listed : (s : Setup) (word : List ℕ) (past : List Command) (c : Command) → length (newly_listed s word past c) ≤ length (filter is_update (c ∷ []))
length-newly_listed s word past (Add d) = by (has_word word d && not (is_listed s past word d.id))
  where
    by : (b : Bool) → length (if b then d.id ∷ [] else []) ≤ 1
    by true = omega arith
    by false = omega arith
length-newly_listed s word past (Delete id) = omega arith
length-newly_listed s word past (Search other) = omega arith

-- so no counter is above the number of updates
pub counter-below : (s : Setup) (word : List ℕ) (cs : List Command) → counter s cs word ≤ length (filter is_update cs)
counter-below s word = from_end (λ cs. counter s cs word ≤ length (filter is_update cs)) (omega arith) push
  where
    push : (cs : List Command) (c : Command) → counter s cs word ≤ length (filter is_update cs) → counter s (cs ++ c ∷ []) word ≤ length (filter is_update (cs ++ c ∷ []))
    push cs c h =
        omega (
          arith,
          h,
          ap length (added_list-push s cs c word),
          length-append (added_list s cs word) (newly_listed s word cs c),
          length-newly_listed s word cs c,
          ap length (filter-append is_update cs (c ∷ [])),
          length-append (filter is_update cs) (filter is_update (c ∷ [])),
        )

-- What is listed.

-- whether a number is among these
abbrev pub among : ℕ → List ℕ → Bool
among id ids = list_any (λ other. other == id) ids

pub among-ids_with : (docs : List Document) (word : List ℕ) (id : ℕ) → among id (ids_with docs word) ≡ holds_pair docs word id
among-ids_with [] word id = refl
among-ids_with (d ∷ docs) word id = by (has_word word d) (among-ids_with docs word id)
  where
    rest : List ℕ
    rest = ids_with docs word

    and_true : (e x : Bool) → (e || x) ≡ ((e && true) || x)
    and_true true x = refl
    and_true false x = refl

    and_false : (e x : Bool) → x ≡ ((e && false) || x)
    and_false true x = refl
    and_false false x = refl

    by : (b : Bool) → among id rest ≡ holds_pair docs word id
        → among id (map (λ (x : Document). x.id) (cond b (d ∷ filter (has_word word) docs) (filter (has_word word) docs))) ≡ ((d.id == id && b) || holds_pair docs word id)
    by true h = ap (λ x. (d.id == id) || x) h ∙ and_true (d.id == id) (holds_pair docs word id)
    by false h = h ∙ and_false (d.id == id) (holds_pair docs word id)

or_assoc : (x y z : Bool) → (x || (y || z)) ≡ ((x || y) || z)
or_assoc true y z = refl
or_assoc false y z = refl

or_false : (x : Bool) → (x || false) ≡ x
or_false true = refl
or_false false = refl

among-one : (id other : ℕ) (b : Bool) → among id (if b then other ∷ [] else []) ≡ (b && (other == id || false))
among-one id other true = refl
among-one id other false = refl

-- an addition lists a pair, and shows its identifier, alike: e tells that it is this identifier, h that it has the word, n that it was listed
added_alike : (before e h n : Bool) → (e ≡ true → n ≡ before) → (before || (e && h || false)) ≡ (before || ((h && not n) && (e || false)))
added_alike true e h n same = refl
added_alike false true true true same = absurd (true≢false (same refl))
added_alike false true true false same = refl
added_alike false true false n same = refl
added_alike false false true true same = refl
added_alike false false true false same = refl
added_alike false false false n same = refl

-- one command more lists a pair, and shows its identifier, alike
listed_push : (s : Setup) (word : List ℕ) (id : ℕ) (xs : List Command) (x : Command)
    → (is_listed s xs word id || (adds_pair word id x || false)) ≡ (is_listed s xs word id || among id (newly_listed s word xs x))
listed_push s word id xs (Add d) =
    added_alike (is_listed s xs word id) (d.id == id) (has_word word d) (is_listed s xs word d.id) (λ e. ap (is_listed s xs word) (eqb-true d.id id e))
    ∙ ap (λ b. is_listed s xs word id || b) (sym (among-one id d.id (has_word word d && not (is_listed s xs word d.id))))
listed_push s word id xs (Delete other) = refl
listed_push s word id xs (Search other) = refl

-- a pair is listed exactly where the identifier is in the setup's list of the word or in its added list
pub is_listed-lists : (s : Setup) (word : List ℕ) (id : ℕ) (cs : List Command) → is_listed s cs word id ≡ among id (setup_list s word ++ added_list s cs word)
is_listed-lists s word id cs =
    from_end (λ xs. is_listed s xs word id ≡ (had || among id (added_list s xs word))) refl push cs
    ∙ ap (λ b. b || among id (added_list s cs word)) (sym (among-ids_with s.documents word id))
    ∙ sym (list_any-append (λ other. other == id) (setup_list s word) (added_list s cs word))
  where
    had : Bool
    had = holds_pair s.documents word id

    push : (xs : List Command) (x : Command) → is_listed s xs word id ≡ (had || among id (added_list s xs word)) → is_listed s (xs ++ x ∷ []) word id ≡ (had || among id (added_list s (xs ++ x ∷ []) word))
    push xs x h =
        ap (λ b. had || b) (list_any-append (adds_pair word id) xs (x ∷ []))
        ∙ or_assoc had (list_any (adds_pair word id) xs) (adds_pair word id x || false)
        ∙ listed_push s word id xs x
        ∙ ap (λ b. b || among id (newly_listed s word xs x)) h
        ∙ sym (or_assoc had (among id (added_list s xs word)) (among id (newly_listed s word xs x)))
        ∙ ap (λ b. had || b) (sym (ap (among id) (added_list-push s xs x word) ∙ list_any-append (λ other. other == id) (added_list s xs word) (newly_listed s word xs x)))

-- what some document of a filter holds, some document holds
holds_pair-filter : (p : Document → Bool) (docs : List Document) (word : List ℕ) (id : ℕ) → holds_pair (filter p docs) word id ≡ true → holds_pair docs word id ≡ true
holds_pair-filter p [] word id h = h
holds_pair-filter p (d ∷ docs) word id h = by (p d) h (holds_pair-filter p docs word id)
  where
    or_right : (x y : Bool) → y ≡ true → (x || y) ≡ true
    or_right true y e = refl
    or_right false y e = e

    keep : (x y z : Bool) → (x || y) ≡ true → (y ≡ true → z ≡ true) → (x || z) ≡ true
    keep true y z h f = refl
    keep false y z h f = f h

    by : (b : Bool) → holds_pair (cond b (d ∷ filter p docs) (filter p docs)) word id ≡ true
        → (holds_pair (filter p docs) word id ≡ true → holds_pair docs word id ≡ true)
        → holds_pair (d ∷ docs) word id ≡ true
    by true h f = keep (d.id == id && has_word word d) (holds_pair (filter p docs) word id) (holds_pair docs word id) h f
    by false h f = or_right (d.id == id && has_word word d) (holds_pair docs word id) (f h)

-- a live document's pairs are listed
pub live_pairs_are_listed : (s : Setup) (word : List ℕ) (id : ℕ) (cs : List Command) → is_live_with s cs word id ≡ true → is_listed s cs word id ≡ true
live_pairs_are_listed s word id = from_end (λ xs. is_live_with s xs word id ≡ true → is_listed s xs word id ≡ true) start push
  where
    start : holds_pair s.documents word id ≡ true → is_listed s [] word id ≡ true
    start h = or_false (holds_pair s.documents word id) ∙ h

    either : (x y z : Bool) → (x || y) ≡ true → (x ≡ true → z ≡ true) → (z || y) ≡ true
    either true y z h f = ap (λ b. b || y) (f refl)
    either false true true h f = refl
    either false true false h f = refl
    either false false z h f = absurd (true≢false (sym h))

    left : (x y : Bool) → x ≡ true → (x || y) ≡ true
    left x y e = ap (λ b. b || y) e

    push : (xs : List Command) (x : Command) → (is_live_with s xs word id ≡ true → is_listed s xs word id ≡ true) → is_live_with s (xs ++ x ∷ []) word id ≡ true → is_listed s (xs ++ x ∷ []) word id ≡ true
    push xs x had live_now =
        ap (λ b. holds_pair s.documents word id || b) (list_any-append (adds_pair word id) xs (x ∷ []))
        ∙ or_assoc (holds_pair s.documents word id) (list_any (adds_pair word id) xs) (adds_pair word id x || false)
        ∙ by x (sym (ap (λ docs. holds_pair docs word id) (live-push s.documents xs x)) ∙ live_now)
      where
        by : (c : Command) → holds_pair (after (live s.documents xs) c) word id ≡ true → (is_listed s xs word id || (adds_pair word id c || false)) ≡ true
        by (Add d) h =
            either (is_live_with s xs word id) (d.id == id && has_word word d || false) (is_listed s xs word id)
            (sym (list_any-append (λ e. e.id == id && has_word word e) (live s.documents xs) (d ∷ [])) ∙ h) had
        by (Delete other) h = left (is_listed s xs word id) (false || false) (had (holds_pair-filter (λ d. not (d.id == other)) (live s.documents xs) word id h))
        by (Search other) h = left (is_listed s xs word id) (false || false) (had h)
