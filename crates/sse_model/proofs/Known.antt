-- The names that a command draws are those that it makes known: not known before it, and known from then on.
use Rattle.std.proofs.Common.{◌≡◌, ℕ, ◌+◌, Bool, true, false, not, ◌&&◌, ◌||◌, List, [], ◌∷◌, ◌++◌, length, filter, get_or, nat_lt, refl, sym, ap, ◌∙◌, subst, arith}
use Rattle.std.specs.Prelude.{All, flat_map, ◌==◌, bytes_eq, if◌then◌else◌}
use Rattle.std.specs.List.{list_any, range_with_len}
use Rattle.std.proofs.lemmas.Bool.{ltb-true, lt-ltb, le-ltb, not-true, and_from, or_left, or_right}
use Rattle.std.proofs.lemmas.Cmp.{nat_eq_equiv, nat_list_eq_equiv}
use Rattle.std.proofs.lemmas.List.{length-append}
use Rattle.std.proofs.lemmas.List.Elements.{All-nil, All-cons, All-append, All-weaker, All-map, All-filter, filter_passes}
use Rattle.std.proofs.lemmas.List.Folds.{flat_map-map, list_any-append, list_any_at}
use Rattle.client_registry.proofs.LiveLaws.{added_list-push}
use Rattle.client_registry.proofs.OverLaws.{over-append}
use Rattle.client_registry.specs.Acceptance.{dummy_entries, dummy_blocks}
use Rattle.client_registry.specs.Command.{Command, Add, Delete, Search}
use Rattle.client_registry.specs.Document.{Document}
use Rattle.client_registry.specs.Documents.{has_word}
use Rattle.client_registry.specs.Live.{live, holds_pair, is_listed, is_live_with, newly_listed, added_list, counter}
use Rattle.client_registry.specs.Over.{over}
use Rattle.client_registry.specs.Setup.{Setup, setup_words}
use Rattle.sse_frames.specs.Frames.{be64}
use Rattle.sse_model.proofs.Apart.{All-flat_map, All-two}
use Rattle.sse_model.proofs.Prefixes.{names_of_setup}
use Rattle.sse_model.proofs.SetupNames.{entry_names, block_names_at, block_names, dummy_entry_names, dummy_block_names, entry_names_of_setup, block_names_of_setup, names_of_setup-by_word}
use Rattle.sse_model.specs.Drawn.{sends_number, was_sent, searches_for, drawn_by}
use Rattle.sse_model.specs.Names.{Kind, Token, ListLabel, ListPad, PlusLabel, PlusPad, Revocation, PlaceTag, DummyLabel, DummyCell, DummyTag, DummyBlock, Name, name, no_word}
use Rattle.sse_model.specs.Positions.{Position, word_blocks, fresh_words}
use Rattle.sse_model.specs.Wire.{words_live}

-- whether these commands, or the setup, have made a name known: a search its token, an addition a counter below
-- the next one, an update the number that it sends, and the setup the names of its lists
abbrev pub known_at : Setup → List Command → List ℕ → Kind → ℕ → Bool
known_at s past word Token number = list_any (searches_for word) past
known_at s past word PlusLabel number = nat_lt number (counter s past word)
known_at s past word PlusPad number = nat_lt number (counter s past word)
known_at s past word Revocation number = was_sent s past word number
known_at s past word _ number = true

abbrev pub is_known : Setup → List Command → Name → Bool
is_known s past n = known_at s past n.word n.kind n.number

-- What stays known.

counter-push : (s : Setup) (past : List Command) (c : Command) (word : List ℕ) → counter s (past ++ c ∷ []) word ≡ counter s past word + length (newly_listed s word past c)
counter-push s past c word = ap length (added_list-push s past c word) ∙ length-append (added_list s past word) (newly_listed s word past c)

sent-push : (s : Setup) (past : List Command) (c : Command) (word : List ℕ) (id : ℕ) → was_sent s (past ++ c ∷ []) word id ≡ (was_sent s past word id || (sends_number s word id past c || false))
sent-push s past c word id =
    ap (list_any (λ sent. sent)) (over-append (sends_number s word id) [] past (c ∷ []))
    ∙ list_any-append (λ sent. sent) (over (sends_number s word id) [] past) (sends_number s word id past c ∷ [])

below_more : (n a b m : ℕ) → m ≡ a + b → nat_lt n a ≡ true → nat_lt n m ≡ true
below_more n a b m e h = lt-ltb n m (omega (arith, e, ltb-true n a h))

known_at-kept : (s : Setup) (past : List Command) (c : Command) (word : List ℕ) (k : Kind) (number : ℕ)
    → known_at s past word k number ≡ true → known_at s (past ++ c ∷ []) word k number ≡ true
known_at-kept s past c word Token number h = list_any-append (searches_for word) past (c ∷ []) ∙ or_left (list_any (searches_for word) past) (searches_for word c || false) h
known_at-kept s past c word PlusLabel number h = below_more number (counter s past word) (length (newly_listed s word past c)) (counter s (past ++ c ∷ []) word) (counter-push s past c word) h
known_at-kept s past c word PlusPad number h = below_more number (counter s past word) (length (newly_listed s word past c)) (counter s (past ++ c ∷ []) word) (counter-push s past c word) h
known_at-kept s past c word Revocation number h = sent-push s past c word number ∙ or_left (was_sent s past word number) (sends_number s word number past c || false) h
known_at-kept s past c word ListLabel number h = h
known_at-kept s past c word ListPad number h = h
known_at-kept s past c word PlaceTag number h = h
known_at-kept s past c word DummyLabel number h = h
known_at-kept s past c word DummyCell number h = h
known_at-kept s past c word DummyTag number h = h
known_at-kept s past c word DummyBlock number h = h

-- a known name stays so after one command more
pub is_known-kept : (s : Setup) (past : List Command) (c : Command) (n : Name) → is_known s past n ≡ true → is_known s (past ++ c ∷ []) n ≡ true
is_known-kept s past c n = known_at-kept s past c n.word n.kind n.number

-- The setup.

-- the names that a setup draws are known from the first
pub setup_is_known : (epoch : ℕ) (s : Setup) → All (λ n. is_known s [] n ≡ true) (names_of_setup epoch s)
setup_is_known epoch s =
    subst (All is) (sym (names_of_setup-by_word epoch s))
    (All-append is (entry_names_of_setup epoch s) (block_names_of_setup epoch s)
    (All-append is (flat_map (entry_names epoch) words) (flat_map (dummy_entry_names epoch) (range_with_len 0 (dummy_entries s)))
    (All-flat_map is (entry_names epoch) words (λ k d lt. All-two is (name epoch _ ListLabel 0) (name epoch _ ListPad 0) refl refl))
    (All-flat_map is (dummy_entry_names epoch) (range_with_len 0 (dummy_entries s)) (λ k d lt. All-two is (name epoch no_word DummyLabel _) (name epoch no_word DummyCell _) refl refl)))
    (All-append is (flat_map (block_names epoch s) words) (flat_map (dummy_block_names epoch) (range_with_len 0 (dummy_blocks s)))
    (All-flat_map is (block_names epoch s) words
    (λ k d lt. All-flat_map is (block_names_at epoch _) (range_with_len 0 (word_blocks s _)) (λ j e le. All-two is (name epoch _ PlaceTag _) (name epoch _ ListPad _) refl refl)))
    (All-flat_map is (dummy_block_names epoch) (range_with_len 0 (dummy_blocks s)) (λ k d lt. All-two is (name epoch no_word DummyTag _) (name epoch no_word DummyBlock _) refl refl))))
  where
    words : List (List ℕ)
    words = setup_words s

    is : Name → Type 0
    is n = is_known s [] n ≡ true

-- Additions.

-- the names of a new entry
abbrev pub plus_names : ℕ → Setup → List Command → List ℕ → List Name
plus_names epoch s past word = name epoch word PlusLabel (counter s past word) ∷ name epoch word PlusPad (counter s past word) ∷ []

-- the names that an addition draws, word by word
pub added_names-by_word : (epoch : ℕ) (s : Setup) (past : List Command) (d : Document) → drawn_by epoch s past (Add d) ≡ flat_map (plus_names epoch s past) (fresh_words s past d)
added_names-by_word epoch s past d =
    flat_map-map (λ (p : Position). p.label ∷ p.pad ∷ []) (λ word. record {
      label = name epoch word PlusLabel (counter s past word);
      pad = name epoch word PlusPad (counter s past word);
      clear = λ ranks. be64 d.id;
    }) (fresh_words s past d)

-- each word of a document is one that it holds
has_own_words : (d : Document) → All (λ word. has_word word d ≡ true) d.words
has_own_words d = λ k w lt. list_any_at (bytes_eq (get_or d.words k w)) d.words k w lt (nat_list_eq_equiv.refl (get_or d.words k w))

-- a word that is new with the document has one counter more after it
counter-added : (s : Setup) (past : List Command) (d : Document) → All (λ word. nat_lt (counter s past word) (counter s (past ++ Add d ∷ []) word) ≡ true) (fresh_words s past d)
counter-added s past d = λ k w lt. one _ (held k w lt) (new k w lt)
  where
    held : All (λ word. has_word word d ≡ true) (fresh_words s past d)
    held = All-filter (λ word. not (is_listed s past word d.id)) (λ word. has_word word d ≡ true) d.words (has_own_words d)

    new : All (λ word. not (is_listed s past word d.id) ≡ true) (fresh_words s past d)
    new = filter_passes (λ word. not (is_listed s past word d.id)) d.words

    one : (word : List ℕ) → has_word word d ≡ true → not (is_listed s past word d.id) ≡ true → nat_lt (counter s past word) (counter s (past ++ Add d ∷ []) word) ≡ true
    one word has fresh =
        let more : length (newly_listed s word past (Add d)) ≡ 1 =
        ap (λ b. length (if b then d.id ∷ [] else [])) (and_from (has_word word d) (not (is_listed s past word d.id)) has fresh) in
        lt-ltb (counter s past word) (counter s (past ++ Add d ∷ []) word) (omega (arith, more, counter-push s past (Add d) word))

-- Deletions.

-- the identifier is live with each of its live words
live_words_are_held : (docs : List Document) (id : ℕ) → All (λ word. holds_pair docs word id ≡ true) (words_live docs id)
live_words_are_held [] id = All-nil (λ word. holds_pair [] word id ≡ true)
live_words_are_held (d ∷ docs) id =
    All-append is (if d.id == id then d.words else []) (words_live docs id) (own (d.id == id) refl)
    (All-weaker (λ word. holds_pair docs word id ≡ true) is (λ word h. or_right (d.id == id && has_word word d) (holds_pair docs word id) h) (words_live docs id) (live_words_are_held docs id))
  where
    is : List ℕ → Type 0
    is word = holds_pair (d ∷ docs) word id ≡ true

    own : (b : Bool) → (d.id == id) ≡ b → All is (if b then d.words else [])
    own true e =
        All-weaker (λ word. has_word word d ≡ true) is
        (λ word h. or_left (d.id == id && has_word word d) (holds_pair docs word id) (and_from (d.id == id) (has_word word d) e h)) d.words (has_own_words d)
    own false e = All-nil is

-- the words of which a deletion draws a name
abbrev pub unsent_words : Setup → List Command → ℕ → List (List ℕ)
unsent_words s past id = filter (λ word. not (was_sent s past word id)) (words_live (live s.documents past) id)

-- One command.

-- no name that a command draws is known before it
pub drawn_is_unknown : (epoch : ℕ) (s : Setup) (past : List Command) (c : Command) → All (λ n. is_known s past n ≡ false) (drawn_by epoch s past c)
drawn_is_unknown epoch s past (Add d) =
    subst (All is) (sym (added_names-by_word epoch s past d))
    (All-flat_map is (plus_names epoch s past) (fresh_words s past d)
    (λ k w lt. All-two is (name epoch _ PlusLabel _) (name epoch _ PlusPad _) (itself (counter s past _)) (itself (counter s past _))))
  where
    is : Name → Type 0
    is n = is_known s past n ≡ false

    itself : (n : ℕ) → nat_lt n n ≡ false
    itself n = le-ltb n n (omega arith)
drawn_is_unknown epoch s past (Delete id) =
    All-map (λ n. is_known s past n ≡ false) (λ word. name epoch word Revocation id) (unsent_words s past id)
    (All-weaker (λ word. not (was_sent s past word id) ≡ true) (λ word. was_sent s past word id ≡ false) (λ word. not-true (was_sent s past word id)) (unsent_words s past id)
    (filter_passes (λ word. not (was_sent s past word id)) (words_live (live s.documents past) id)))
drawn_is_unknown epoch s past (Search word) = by (list_any (searches_for word) past) refl
  where
    by : (b : Bool) → list_any (searches_for word) past ≡ b → All (λ n. is_known s past n ≡ false) (if b then [] else name epoch word Token 0 ∷ [])
    by true e = All-nil (λ n. is_known s past n ≡ false)
    by false e = All-cons (λ n. is_known s past n ≡ false) (name epoch word Token 0) [] e (All-nil (λ n. is_known s past n ≡ false))

-- and each is known after it
pub drawn_is_known : (epoch : ℕ) (s : Setup) (past : List Command) (c : Command) → All (λ n. is_known s (past ++ c ∷ []) n ≡ true) (drawn_by epoch s past c)
drawn_is_known epoch s past (Add d) =
    subst (All is) (sym (added_names-by_word epoch s past d))
    (All-flat_map is (plus_names epoch s past) (fresh_words s past d)
    (λ k w lt. All-two is (name epoch _ PlusLabel _) (name epoch _ PlusPad _) (counter-added s past d k w lt) (counter-added s past d k w lt)))
  where
    is : Name → Type 0
    is n = is_known s (past ++ Add d ∷ []) n ≡ true
drawn_is_known epoch s past (Delete id) =
    All-map (λ n. is_known s (past ++ Delete id ∷ []) n ≡ true) (λ word. name epoch word Revocation id) (unsent_words s past id)
    (All-weaker (λ word. is_live_with s past word id ≡ true) (λ word. was_sent s (past ++ Delete id ∷ []) word id ≡ true) now (unsent_words s past id)
    (All-filter (λ word. not (was_sent s past word id)) (λ word. is_live_with s past word id ≡ true) (words_live (live s.documents past) id) (live_words_are_held (live s.documents past) id)))
  where
    now : (word : List ℕ) → is_live_with s past word id ≡ true → was_sent s (past ++ Delete id ∷ []) word id ≡ true
    now word h =
        let sends = sends_number s word id past (Delete id) in
        sent-push s past (Delete id) word id
        ∙ or_right (was_sent s past word id) (sends || false) (or_left sends false (and_from (id == id) (is_live_with s past word id) (nat_eq_equiv.refl id) h))
drawn_is_known epoch s past (Search word) = by (list_any (searches_for word) past)
  where
    now : list_any (searches_for word) (past ++ Search word ∷ []) ≡ true
    now =
        list_any-append (searches_for word) past (Search word ∷ [])
        ∙ or_right (list_any (searches_for word) past) (bytes_eq word word || false) (or_left (bytes_eq word word) false (nat_list_eq_equiv.refl word))

    by : (b : Bool) → All (λ n. is_known s (past ++ Search word ∷ []) n ≡ true) (if b then [] else name epoch word Token 0 ∷ [])
    by true = All-nil (λ n. is_known s (past ++ Search word ∷ []) n ≡ true)
    by false = All-cons (λ n. is_known s (past ++ Search word ∷ []) n ≡ true) (name epoch word Token 0) [] now (All-nil (λ n. is_known s (past ++ Search word ∷ []) n ≡ true))
