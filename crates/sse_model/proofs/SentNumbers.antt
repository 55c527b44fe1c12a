-- Each number, label and token that a run sends is the value of a name that it has drawn by then.
use Rattle.std.proofs.Common.{◌≡◌, ℕ, Bool, true, false, cond, not, ◌&&◌, ◌||◌, List, [], ◌∷◌, ◌++◌, filter, refl, sym, ap, ◌∙◌, subst, inl, inr, ⊎_elim, ◌⊎◌, eqb-true}
use Rattle.std.specs.Prelude.{Contains, ◌==◌, if◌then◌else◌}
use Rattle.std.specs.List.{list_any, list_all}
use Rattle.std.specs.Cmp.Lexicographic.{same_text}
use Rattle.std.proofs.lemmas.Bool.{true≢false, cases_Bool, or_cases, or_parts, or_left, or_right, or_from, and_left, and_parts, and_from, not-true}
use Rattle.std.proofs.lemmas.Cmp.{nat_eq_equiv}
use Rattle.std.proofs.lemmas.List.{append-nil}
use Rattle.std.proofs.lemmas.List.Concat.{flat_map-append}
use Rattle.std.proofs.lemmas.List.Elements.{Contains-append_left, Contains-append_right}
use Rattle.std.proofs.lemmas.List.Folds.{list_any-append, list_all-append}
use Rattle.client_registry.proofs.FromEnd.{from_end}
use Rattle.client_registry.proofs.LiveLaws.{live-push}
use Rattle.client_registry.proofs.OverLaws.{over-append}
use Rattle.client_registry.proofs.ShownLaws.{are_accepted}
use Rattle.client_registry.specs.Command.{Command, Add, Delete, Search}
use Rattle.client_registry.specs.Document.{Document}
use Rattle.client_registry.specs.Documents.{has_word, is_live}
use Rattle.client_registry.specs.Live.{live, holds_pair, adds_pair, is_listed, is_live_with}
use Rattle.client_registry.specs.Over.{over}
use Rattle.client_registry.specs.Run.{Offsets}
use Rattle.client_registry.specs.Setup.{Setup}
use Rattle.client_registry.specs.Sized.{is_accepted}
use Rattle.sse_model.proofs.Collisions.{joined}
use Rattle.sse_model.proofs.Members.{Contains-head, Contains-cons, Contains-map, Contains-filter, Contains-of_filter, Contains-flat_map, Contains-from_list_any}
use Rattle.sse_model.proofs.Prefixes.{run_of, names_of_setup, drawn-append}
use Rattle.sse_model.specs.Drawn.{names_of, sends_number, was_sent, searches_for, drawn_by, drawn}
use Rattle.sse_model.specs.Names.{Name, name, Token, Revocation}
use Rattle.sse_model.specs.Positions.{Position, entry_positions, block_positions, addition_positions, listed_words}
use Rattle.sse_model.specs.Wire.{words_live}

-- What is listed and not live was sent.

-- whether the number was sent, after one command more
was_sent-push : (s : Setup) (word : List ℕ) (id : ℕ) (xs : List Command) (x : Command)
    → was_sent s (xs ++ x ∷ []) word id ≡ (was_sent s xs word id || (sends_number s word id xs x || false))
was_sent-push s word id xs x =
    ap (list_any (λ sent. sent)) (over-append (sends_number s word id) [] xs (x ∷ []))
    ∙ list_any-append (λ sent. sent) (over (sends_number s word id) [] xs) (sends_number s word id xs x ∷ [])

last_or_before : (b : Bool) → (b || false) ≡ true → b ≡ true
last_or_before true h = refl
last_or_before false h = h

-- a pair is listed where it was before, or the last command adds it
is_listed-cases : (s : Setup) (word : List ℕ) (id : ℕ) (xs : List Command) (x : Command) → is_listed s (xs ++ x ∷ []) word id ≡ true
    → (is_listed s xs word id ≡ true) ⊎ (adds_pair word id x ≡ true)
is_listed-cases s word id xs x listed =
    let had = holds_pair s.documents word id in
    let added = list_any (adds_pair word id) xs in
    ⊎_elim (λ old. inl (or_left had added old))
    (λ new. ⊎_elim (λ before. inl (or_right had added before)) (λ now. inr (last_or_before (adds_pair word id x) now))
    (or_cases added (adds_pair word id x || false) (sym (list_any-append (adds_pair word id) xs (x ∷ [])) ∙ new)))
    (or_cases had (list_any (adds_pair word id) (xs ++ x ∷ [])) listed)

-- documents of another identifier dropped, the pairs of this one stay
holds_pair-others : (docs : List Document) (word : List ℕ) (id other : ℕ) → (other == id) ≡ false
    → holds_pair (filter (λ d. not (d.id == other)) docs) word id ≡ holds_pair docs word id
holds_pair-others [] word id other differ = refl
holds_pair-others (d ∷ docs) word id other differ = by (d.id == other) refl (holds_pair-others docs word id other differ)
  where
    rest : List Document
    rest = filter (λ d. not (d.id == other)) docs

    by : (b : Bool) → (d.id == other) ≡ b → holds_pair rest word id ≡ holds_pair docs word id
        → holds_pair (cond (not b) (d ∷ rest) rest) word id ≡ holds_pair (d ∷ docs) word id
    by true e h = h ∙ ap (λ b. (b && has_word word d) || holds_pair docs word id) (sym (ap (λ n. n == id) (eqb-true d.id other e) ∙ differ))
    by false e h = ap (λ b. (d.id == id && has_word word d) || b) h

-- Promise P160, also here
-- a pair that is listed and whose document isn't live with the word was sent
pub listed_dead_was_sent : (s : Setup) (word : List ℕ) (id : ℕ) (past : List Command)
    → is_listed s past word id ≡ true → is_live_with s past word id ≡ false → was_sent s past word id ≡ true
listed_dead_was_sent s word id =
    from_end (λ xs. is_listed s xs word id ≡ true → is_live_with s xs word id ≡ false → was_sent s xs word id ≡ true) start push
  where
    start : is_listed s [] word id ≡ true → holds_pair s.documents word id ≡ false → false ≡ true
    start listed dead = absurd (true≢false (sym (last_or_before (holds_pair s.documents word id) listed) ∙ dead))

    push : (xs : List Command) (x : Command) → (is_listed s xs word id ≡ true → is_live_with s xs word id ≡ false → was_sent s xs word id ≡ true)
        → is_listed s (xs ++ x ∷ []) word id ≡ true → is_live_with s (xs ++ x ∷ []) word id ≡ false → was_sent s (xs ++ x ∷ []) word id ≡ true
    push xs x had listed dead =
        was_sent-push s word id xs x
        ∙ by x (is_listed-cases s word id xs x listed) (sym (ap (λ docs. holds_pair docs word id) (live-push s.documents xs x)) ∙ dead)
      where
        docs : List Document
        docs = live s.documents xs

        by : (c : Command) → (is_listed s xs word id ≡ true) ⊎ (adds_pair word id c ≡ true) → holds_pair (live docs (c ∷ [])) word id ≡ false
            → (was_sent s xs word id || (sends_number s word id xs c || false)) ≡ true
        by (Add d) cases gone =
            let parts = or_parts (holds_pair docs word id) (holds_pair (d ∷ []) word id) (sym (list_any-append (λ e. e.id == id && has_word word e) docs (d ∷ [])) ∙ gone) in
            let not_added = (or_parts (adds_pair word id (Add d)) false parts.1).0 in
            ⊎_elim (λ before. or_left (was_sent s xs word id) (sends_number s word id xs (Add d) || false) (had before parts.0))
            (λ now. absurd (true≢false (sym now ∙ not_added))) cases
        by (Delete other) (inr now) gone = absurd (true≢false (sym now))
        by (Delete other) (inl before) gone =
            ⊎_elim
            (λ (living : is_live_with s xs word id ≡ true).
            ⊎_elim
            (λ (same : (other == id) ≡ true).
            or_right (was_sent s xs word id) (sends_number s word id xs (Delete other) || false)
            (or_left (sends_number s word id xs (Delete other)) false (and_from (other == id) (is_live_with s xs word id) same living)))
            (λ (differ : (other == id) ≡ false). absurd (true≢false (sym living ∙ sym (holds_pair-others docs word id other differ) ∙ gone)))
            (cases_Bool (other == id)))
            (λ no. or_left (was_sent s xs word id) (sends_number s word id xs (Delete other) || false) (had before no)) (cases_Bool (is_live_with s xs word id))
        by (Search other) (inl before) gone = or_left (was_sent s xs word id) (false || false) (had before gone)
        by (Search other) (inr now) gone = absurd (true≢false (sym now))

-- What was sent was drawn.

-- the drawn names, after one command more
pub drawn-push : (o : Offsets) (s : Setup) (xs : List Command) (x : Command)
    → joined (drawn o (run_of s (xs ++ x ∷ []))) ≡ joined (drawn o (run_of s xs)) ++ drawn_by o.epoch s xs x
drawn-push o s xs x =
    ap joined (drawn-append o s xs (x ∷ []))
    ∙ flat_map-append (λ n. n) (drawn o (run_of s xs)) (drawn_by o.epoch s xs x ∷ [])
    ∙ ap (λ rest. joined (drawn o (run_of s xs)) ++ rest) (append-nil (drawn_by o.epoch s xs x))

-- a name drawn before the last command is drawn
pub drawn_before : (o : Offsets) (s : Setup) (xs : List Command) (x : Command) (n : Name)
    → Contains (joined (drawn o (run_of s xs))) n → Contains (joined (drawn o (run_of s (xs ++ x ∷ [])))) n
drawn_before o s xs x n within =
    subst (λ names. Contains names n) (sym (drawn-push o s xs x)) (Contains-append_left (joined (drawn o (run_of s xs))) (drawn_by o.epoch s xs x) n within)

-- and one that it draws itself
pub drawn_now : (o : Offsets) (s : Setup) (xs : List Command) (x : Command) (n : Name)
    → Contains (drawn_by o.epoch s xs x) n → Contains (joined (drawn o (run_of s (xs ++ x ∷ [])))) n
drawn_now o s xs x n within =
    subst (λ names. Contains names n) (sym (drawn-push o s xs x)) (Contains-append_right (joined (drawn o (run_of s xs))) (drawn_by o.epoch s xs x) n within)

-- of accepted commands the first are, and the last one is after them
pub are_accepted-push : (s : Setup) (xs : List Command) (x : Command) → are_accepted s (xs ++ x ∷ []) ≡ true → (are_accepted s xs ≡ true) × (is_accepted s xs x ≡ true)
are_accepted-push s xs x accepted =
    let split : (are_accepted s xs && (is_accepted s xs x && true)) ≡ true =
    sym (ap (list_all (λ accepted. accepted)) (over-append (is_accepted s) [] xs (x ∷ [])) ∙ list_all-append (λ accepted. accepted) (over (is_accepted s) [] xs) (is_accepted s xs x ∷ [])) ∙ accepted in
    let parts = and_parts (are_accepted s xs) (is_accepted s xs x && true) split in
    (parts.0, (and_parts (is_accepted s xs x) true parts.1).0)

-- an identifier that isn't live is live with no word
dead_with_all : (docs : List Document) (word : List ℕ) (id : ℕ) → is_live docs id ≡ false → holds_pair docs word id ≡ false
dead_with_all [] word id dead = refl
dead_with_all (d ∷ docs) word id dead =
    let parts = or_parts (id == d.id) (is_live docs id) dead in
    or_from (d.id == id && has_word word d) (holds_pair docs word id) (and_left (d.id == id) (has_word word d) (nat_eq_equiv.symm d.id id ∙ parts.0)) (dead_with_all docs word id parts.1)

-- a pair that an accepted addition finds listed was sent before
pub relisted_was_sent : (s : Setup) (past : List Command) (d : Document) (word : List ℕ)
    → is_accepted s past (Add d) ≡ true → is_listed s past word d.id ≡ true → was_sent s past word d.id ≡ true
relisted_was_sent s past d word accepted listed =
    let new = not-true (is_live (live s.documents past) d.id) (and_parts (not (is_live (live s.documents past) d.id)) _ accepted).0 in
    listed_dead_was_sent s word d.id past listed (dead_with_all (live s.documents past) word d.id new)

-- a word that a live document of the identifier holds is among the live words of it
live_word : (docs : List Document) (word : List ℕ) (id : ℕ) → holds_pair docs word id ≡ true → Contains (words_live docs id) word
live_word [] word id h = absurd (true≢false (sym h))
live_word (d ∷ docs) word id h =
    ⊎_elim
    (λ (here : (d.id == id && has_word word d) ≡ true).
    let parts = and_parts (d.id == id) (has_word word d) here in
    let own : Contains (if d.id == id then d.words else []) word =
    subst (λ b. Contains (if b then d.words else []) word) (sym parts.0) (Contains-from_list_any word d.words parts.1) in
    Contains-append_left (if d.id == id then d.words else []) (words_live docs id) word own)
    (λ rest. Contains-append_right (if d.id == id then d.words else []) (words_live docs id) word (live_word docs word id rest))
    (or_cases (d.id == id && has_word word d) (holds_pair docs word id) h)

-- the name of a number that no command sent and a deletion sends is drawn by it
deletion_draws : (epoch : ℕ) (s : Setup) (past : List Command) (word : List ℕ) (id : ℕ)
    → Contains (words_live (live s.documents past) id) word → was_sent s past word id ≡ false → Contains (drawn_by epoch s past (Delete id)) (name epoch word Revocation id)
deletion_draws epoch s past word id within unsent =
    let fresh = λ (w : List ℕ). not (was_sent s past w id) in
    let words = words_live (live s.documents past) id in
    Contains-map (λ w. name epoch w Revocation id) (filter fresh words) word (Contains-filter fresh words word within (ap not unsent))

-- the name of each number that accepted commands sent, they have drawn
pub sent_is_drawn : (o : Offsets) (s : Setup) (word : List ℕ) (id : ℕ) (past : List Command)
    → are_accepted s past ≡ true → was_sent s past word id ≡ true → Contains (joined (drawn o (run_of s past))) (name o.epoch word Revocation id)
sent_is_drawn o s word id =
    from_end (λ xs. are_accepted s xs ≡ true → was_sent s xs word id ≡ true → Contains (joined (drawn o (run_of s xs))) number)
    (λ accepted sent. absurd (true≢false (sym sent))) push
  where
    number : Name
    number = name o.epoch word Revocation id

    push : (xs : List Command) (x : Command) → (are_accepted s xs ≡ true → was_sent s xs word id ≡ true → Contains (joined (drawn o (run_of s xs))) number)
        → are_accepted s (xs ++ x ∷ []) ≡ true → was_sent s (xs ++ x ∷ []) word id ≡ true → Contains (joined (drawn o (run_of s (xs ++ x ∷ [])))) number
    push xs x had accepted sent =
        let ok = are_accepted-push s xs x accepted in
        ⊎_elim (λ before. drawn_before o s xs x number (had ok.0 before))
        (λ (unsent : was_sent s xs word id ≡ false).
        ⊎_elim (λ before. drawn_before o s xs x number (had ok.0 before))
        (λ now. drawn_now o s xs x number (by x ok.1 unsent (last_or_before (sends_number s word id xs x) now)))
        (or_cases (was_sent s xs word id) (sends_number s word id xs x || false) (sym (was_sent-push s word id xs x) ∙ sent)))
        (cases_Bool (was_sent s xs word id))
      where
        by : (c : Command) → is_accepted s xs c ≡ true → was_sent s xs word id ≡ false → sends_number s word id xs c ≡ true → Contains (drawn_by o.epoch s xs c) number
        by (Add d) ok unsent now =
            let parts = and_parts (d.id == id && has_word word d) (is_listed s xs word id) now in
            let same : d.id ≡ id = eqb-true d.id id (and_parts (d.id == id) (has_word word d) parts.0).0 in
            let before : was_sent s xs word id ≡ true =
            subst (λ (n : ℕ). was_sent s xs word n ≡ true) same (relisted_was_sent s xs d word ok (ap (is_listed s xs word) same ∙ parts.1)) in
            absurd (true≢false (sym before ∙ unsent))
        by (Delete other) ok unsent now =
            let parts = and_parts (other == id) (is_live_with s xs word id) now in
            let same : id ≡ other = sym (eqb-true other id parts.0) in
            subst (λ (n : ℕ). Contains (drawn_by o.epoch s xs (Delete n)) number) same
            (deletion_draws o.epoch s xs word id (live_word (live s.documents xs) word id parts.1) unsent)
        by (Search other) ok unsent now = absurd (true≢false (sym now))

-- What a command sends is drawn by then.

-- each number in the frame of a deletion is the value of a name that it draws or that was drawn before
pub deleted_is_drawn : (o : Offsets) (s : Setup) (past : List Command) (id : ℕ) (word : List ℕ)
    → are_accepted s past ≡ true → Contains (words_live (live s.documents past) id) word
    → Contains (joined (drawn o (run_of s (past ++ Delete id ∷ [])))) (name o.epoch word Revocation id)
deleted_is_drawn o s past id word accepted within =
    let number = name o.epoch word Revocation id in
    ⊎_elim (λ before. drawn_before o s past (Delete id) number (sent_is_drawn o s word id past accepted before))
    (λ unsent. drawn_now o s past (Delete id) number (deletion_draws o.epoch s past word id within unsent)) (cases_Bool (was_sent s past word id))

-- Promise P160, also here
-- each number in the frame of an addition is the value of a name that was drawn before
pub relisted_is_drawn : (o : Offsets) (s : Setup) (past : List Command) (d : Document) (word : List ℕ)
    → are_accepted s past ≡ true → is_accepted s past (Add d) ≡ true → Contains (listed_words s past d) word
    → Contains (joined (drawn o (run_of s past))) (name o.epoch word Revocation d.id)
relisted_is_drawn o s past d word accepted ok within =
    let listed = (Contains-of_filter (λ w. is_listed s past w d.id) d.words word within).1 in
    sent_is_drawn o s word d.id past accepted (relisted_was_sent s past d word ok listed)

-- the label of each encrypted text is among the names of the texts
pub label_is_named : (positions : List Position) (p : Position) → Contains positions p → Contains (names_of positions) p.label
label_is_named positions p within =
    Contains-flat_map (λ p. p.label ∷ p.pad ∷ []) positions p p.label within (Contains-head p.label (p.pad ∷ []))

-- and so is its pad
pub pad_is_named : (positions : List Position) (p : Position) → Contains positions p → Contains (names_of positions) p.pad
pad_is_named positions p within =
    Contains-flat_map (λ p. p.label ∷ p.pad ∷ []) positions p p.pad within (Contains-cons p.label (p.pad ∷ []) p.pad (Contains-head p.pad []))

-- the label and the pad of each entry of an addition are drawn by it
pub added_is_drawn : (o : Offsets) (s : Setup) (past : List Command) (d : Document) (p : Position) → Contains (addition_positions o.epoch s past d) p
    → Contains (joined (drawn o (run_of s (past ++ Add d ∷ [])))) p.label × Contains (joined (drawn o (run_of s (past ++ Add d ∷ [])))) p.pad
added_is_drawn o s past d p within =
    let positions = addition_positions o.epoch s past d in (
      drawn_now o s past (Add d) p.label (label_is_named positions p within),
      drawn_now o s past (Add d) p.pad (pad_is_named positions p within),
    )

-- the label or tag and the pad of each cell and block of a setup are drawn by it
pub set_up_is_drawn : (o : Offsets) (s : Setup) (past : List Command) (p : Position) → Contains (entry_positions o.epoch s ++ block_positions o.epoch s) p
    → Contains (joined (drawn o (run_of s past))) p.label × Contains (joined (drawn o (run_of s past))) p.pad
set_up_is_drawn o s past p within =
    let entries = entry_positions o.epoch s in
    let blocks = block_positions o.epoch s in
    let both = λ (n : Name) (h : Contains (names_of (entries ++ blocks)) n).
    Contains-append_left (names_of_setup o.epoch s) (joined (over (drawn_by o.epoch s) [] past)) n
    (subst (λ names. Contains names n) (flat_map-append (λ (q : Position). q.label ∷ q.pad ∷ []) entries blocks) h) in
    (both p.label (label_is_named (entries ++ blocks) p within), both p.pad (pad_is_named (entries ++ blocks) p within))

-- a search of a word that wasn't searched draws its token
search_draws : (epoch : ℕ) (s : Setup) (past : List Command) (word : List ℕ)
    → list_any (searches_for word) past ≡ false → Contains (drawn_by epoch s past (Search word)) (name epoch word Token 0)
search_draws epoch s past word new =
    let token = name epoch word Token 0 in
    subst (λ b. Contains (if b then [] else token ∷ []) token) (sym new) (Contains-head token [])

-- the token of a word that was searched was drawn
searched_is_drawn : (o : Offsets) (s : Setup) (word : List ℕ) (past : List Command)
    → list_any (searches_for word) past ≡ true → Contains (joined (drawn o (run_of s past))) (name o.epoch word Token 0)
searched_is_drawn o s word =
    from_end (λ xs. list_any (searches_for word) xs ≡ true → Contains (joined (drawn o (run_of s xs))) token) (λ none. absurd (true≢false (sym none))) push
  where
    token : Name
    token = name o.epoch word Token 0

    push : (xs : List Command) (x : Command) → (list_any (searches_for word) xs ≡ true → Contains (joined (drawn o (run_of s xs))) token)
        → list_any (searches_for word) (xs ++ x ∷ []) ≡ true → Contains (joined (drawn o (run_of s (xs ++ x ∷ [])))) token
    push xs x had searched =
        ⊎_elim (λ before. drawn_before o s xs x token (had before))
        (λ (new : list_any (searches_for word) xs ≡ false).
        ⊎_elim (λ before. drawn_before o s xs x token (had before))
        (λ now. drawn_now o s xs x token (by x new (last_or_before (searches_for word x) now)))
        (or_cases (list_any (searches_for word) xs) (searches_for word x || false) (sym (list_any-append (searches_for word) xs (x ∷ [])) ∙ searched)))
        (cases_Bool (list_any (searches_for word) xs))
      where
        by : (c : Command) → list_any (searches_for word) xs ≡ false → searches_for word c ≡ true → Contains (drawn_by o.epoch s xs c) token
        by (Add d) new now = absurd (true≢false (sym now))
        by (Delete id) new now = absurd (true≢false (sym now))
        by (Search other) new now =
            subst (λ (w : List ℕ). Contains (drawn_by o.epoch s xs (Search w)) token) (same_text word other (sym now)) (search_draws o.epoch s xs word new)

-- the token of a search is drawn by it or was before
pub token_is_drawn : (o : Offsets) (s : Setup) (past : List Command) (word : List ℕ) → Contains (joined (drawn o (run_of s (past ++ Search word ∷ [])))) (name o.epoch word Token 0)
token_is_drawn o s past word =
    let token = name o.epoch word Token 0 in
    ⊎_elim (λ before. drawn_before o s past (Search word) token (searched_is_drawn o s word past before))
    (λ new. drawn_now o s past (Search word) token (search_draws o.epoch s past word new)) (cases_Bool (list_any (searches_for word) past))
