-- Each name of a history is of one of its words, or of a dummy and no word; and such names are one where their numbered names are.
use Rattle.std.proofs.Common.{◌≡◌, ℕ, ◌+◌, Bool, true, false, not, List, [], ◌∷◌, ◌++◌, map, filter, position, get_or, Option, None, Some, is_some, refl, sym, ap, ◌∙◌, subst, ⊎_elim, cond}
use Rattle.std.specs.Prelude.{All, flat_map, bytes_eq, ◌==◌, if◌then◌else◌, unwrap_or}
use Rattle.std.specs.List.{list_any, range_with_len}
use Rattle.std.specs.Cmp.Lexicographic.{same_text}
use Rattle.std.proofs.lemmas.Bool.{true≢false, or_cases, or_left, or_right}
use Rattle.std.proofs.lemmas.Cmp.{nat_list_eq_equiv}
use Rattle.std.proofs.lemmas.List.Concat.{flat_map-append}
use Rattle.std.proofs.lemmas.List.Elements.{All-nil, All-cons, All-append, All-map, All-filter}
use Rattle.std.proofs.lemmas.List.Folds.{list_any-append, list_any_at}
use Rattle.std.proofs.lemmas.List.Quantifiers.{position-Some}
use Rattle.client_registry.proofs.DistinctLaws.{list_any-first_seen}
use Rattle.client_registry.proofs.Positions.{is_some-position}
use Rattle.client_registry.specs.Acceptance.{dummy_entries, dummy_blocks}
use Rattle.client_registry.specs.Command.{Command, Add, Delete, Search}
use Rattle.client_registry.specs.Document.{Document}
use Rattle.client_registry.specs.Documents.{all_words}
use Rattle.client_registry.specs.Live.{after, live, is_listed, added_list, counter}
use Rattle.client_registry.specs.Over.{over}
use Rattle.client_registry.specs.Run.{Run, Offsets}
use Rattle.client_registry.specs.Setup.{Setup, setup_words, setup_list}
use Rattle.client_registry.specs.Sized.{run_words, words_named}
use Rattle.leakage_values.specs.NamesOnce.{same_numbers}
use Rattle.leakage_values.specs.Numbered.{kind_in_code, no_number, number_of_word, number_for, numbered}
use Rattle.leakage_names.proofs.SheetLaws.{same_key}
use Rattle.leakage_names.specs.Keys.{key_of}
use Rattle.leakage_names.specs.declared.name.NameKind.{NameKind}
use Rattle.leakage_names.specs.declared.name.NameKind.TheVariants as kinds
use Rattle.def_comparison.specs.UsedNames.{all_names}
use Rattle.sse_model.proofs.Apart.{All-flat_map, All-two}
use Rattle.sse_model.proofs.Known.{added_names-by_word, plus_names}
use Rattle.sse_model.proofs.Prefixes.{names_of_setup}
use Rattle.sse_model.proofs.SameName.{same_name-Decides}
use Rattle.sse_model.proofs.SetupNames.{entry_names, block_names_at, block_names, dummy_entry_names, dummy_block_names, entry_names_of_setup, block_names_of_setup, names_of_setup-by_word}
use Rattle.sse_model.specs.Drawn.{was_sent, searches_for, drawn_by, drawn, probed_by, probed}
use Rattle.sse_model.specs.Names.{Kind, Token, ListLabel, ListPad, PlusLabel, PlusPad, Revocation, PlaceTag, DummyLabel, DummyCell, DummyTag, DummyBlock, Name, name, no_word, same_name}
use Rattle.sse_model.specs.Positions.{word_blocks, fresh_words}
use Rattle.sse_model.specs.Wire.{words_live}

-- whether a name is of one of these words, or of a dummy and no word
abbrev own_at : List (List ℕ) → Kind → List ℕ → Bool
own_at words DummyLabel word = bytes_eq word no_word
own_at words DummyCell word = bytes_eq word no_word
own_at words DummyTag word = bytes_eq word no_word
own_at words DummyBlock word = bytes_eq word no_word
own_at words _ word = list_any (bytes_eq word) words

abbrev pub is_own : List (List ℕ) → Name → Bool
is_own words n = own_at words n.kind n.word

-- Such names are one where their numbered names are.

-- the kind of a kind of the code
abbrev kind_of : NameKind → Kind
kind_of kinds.Token = Token
kind_of kinds.ListLabel = ListLabel
kind_of kinds.ListPad = ListPad
kind_of kinds.PlusLabel = PlusLabel
kind_of kinds.PlusPad = PlusPad
kind_of kinds.Revocation = Revocation
kind_of kinds.PlaceTag = PlaceTag
kind_of kinds.DummyLabel = DummyLabel
kind_of kinds.DummyCell = DummyCell
kind_of kinds.DummyTag = DummyTag
kind_of kinds.DummyBlock = DummyBlock

kind_back : (k : Kind) → kind_of (kind_in_code k) ≡ k
kind_back Token = refl
kind_back ListLabel = refl
kind_back ListPad = refl
kind_back PlusLabel = refl
kind_back PlusPad = refl
kind_back Revocation = refl
kind_back PlaceTag = refl
kind_back DummyLabel = refl
kind_back DummyCell = refl
kind_back DummyTag = refl
kind_back DummyBlock = refl

-- a word of these is the one at its number
word_back : (words : List (List ℕ)) (word : List ℕ) → list_any (bytes_eq word) words ≡ true → word ≡ get_or words (number_of_word words word) []
word_back words word among = by (position (bytes_eq word) words) refl (is_some-position (bytes_eq word) words ∙ among)
  where
    by : (o : Option ℕ) → position (bytes_eq word) words ≡ o → is_some o ≡ true → word ≡ get_or words (unwrap_or o no_number) []
    by None at some = absurd (true≢false (sym some))
    by (Some i) at some = same_text word (get_or words i []) (sym (position-Some (bytes_eq word) words i [] at).1)

same_word : (words : List (List ℕ)) (v w : List ℕ) → list_any (bytes_eq v) words ≡ true → list_any (bytes_eq w) words ≡ true
    → number_of_word words v ≡ number_of_word words w → v ≡ w
same_word words v w one other same = word_back words v one ∙ ap (λ n. get_or words n []) same ∙ sym (word_back words w other)

no_words : (v w : List ℕ) → bytes_eq v no_word ≡ true → bytes_eq w no_word ≡ true → v ≡ w
no_words v w one other = same_text v no_word (sym one) ∙ sym (same_text w no_word (sym other))

words_same : (words : List (List ℕ)) (k : Kind) (v w : List ℕ) → own_at words k v ≡ true → own_at words k w ≡ true → number_for words k v ≡ number_for words k w → v ≡ w
words_same words Token v w one other same = same_word words v w one other same
words_same words ListLabel v w one other same = same_word words v w one other same
words_same words ListPad v w one other same = same_word words v w one other same
words_same words PlusLabel v w one other same = same_word words v w one other same
words_same words PlusPad v w one other same = same_word words v w one other same
words_same words Revocation v w one other same = same_word words v w one other same
words_same words PlaceTag v w one other same = same_word words v w one other same
words_same words DummyLabel v w one other same = no_words v w one other
words_same words DummyCell v w one other same = no_words v w one other
words_same words DummyTag v w one other same = no_words v w one other
words_same words DummyBlock v w one other same = no_words v w one other

-- Promise P36, also here
-- two names of one number are one name
pub names_same : (words : List (List ℕ)) (x y : Name) → is_own words x ≡ true → is_own words y ≡ true → numbered words x ≡ numbered words y → x ≡ y
names_same words x y one other same = λ i. record {
  epoch = (same i).epoch;
  word = words_same words x.kind x.word y.word one (ap (λ k. own_at words k y.word) kind ∙ other) ((λ j. (same j).word) ∙ ap (λ k. number_for words k y.word) (sym kind)) i;
  kind = kind i;
  number = (same i).number;
}
  where
    kind : x.kind ≡ y.kind
    kind = sym (kind_back x.kind) ∙ (λ i. kind_of (same i).kind) ∙ kind_back y.kind

pub same_numbers-numbered : (words : List (List ℕ)) (x y : Name) → is_own words x ≡ true → is_own words y ≡ true
    → same_numbers (numbered words x) (numbered words y) ≡ same_name y x
same_numbers-numbered words x y one other = by (same_numbers (numbered words x) (numbered words y)) refl
  where
    by : (b : Bool) → same_numbers (numbered words x) (numbered words y) ≡ b → b ≡ same_name y x
    by true is =
        let keys = same_text (key_of (numbered words x)) (key_of (numbered words y)) (sym is) in
        sym ((same_name-Decides y x).1 (sym (names_same words x y one other (same_key (numbered words x) (numbered words y) keys))))
    by false is = back (same_name y x) refl
      where
        back : (b : Bool) → same_name y x ≡ b → false ≡ b
        back false e = refl
        back true e =
            sym is ∙ ap (λ z. same_numbers (numbered words x) (numbered words z)) ((same_name-Decides y x).0 e) ∙ nat_list_eq_equiv.refl (key_of (numbered words x))

-- Each name of a history is such.

-- each of those words is one of these
abbrev Has : List (List ℕ) → List (List ℕ) → Type 0
Has words those = (w : List ℕ) → list_any (bytes_eq w) those ≡ true → list_any (bytes_eq w) words ≡ true

has_both : (words one other : List (List ℕ)) → Has words one → Has words other → Has words (one ++ other)
has_both words one other left right w among =
    ⊎_elim (left w) (right w) (or_cases (list_any (bytes_eq w) one) (list_any (bytes_eq w) other) (sym (list_any-append (bytes_eq w) one other) ∙ among))

has_left : (words one other : List (List ℕ)) → Has words (one ++ other) → Has words one
has_left words one other has w among = has w (list_any-append (bytes_eq w) one other ∙ or_left (list_any (bytes_eq w) one) (list_any (bytes_eq w) other) among)

has_right : (words one other : List (List ℕ)) → Has words (one ++ other) → Has words other
has_right words one other has w among = has w (list_any-append (bytes_eq w) one other ∙ or_right (list_any (bytes_eq w) one) (list_any (bytes_eq w) other) among)

has_all : (words those : List (List ℕ)) → Has words those → All (λ w. list_any (bytes_eq w) words ≡ true) those
has_all words those has = λ k d lt. has (get_or those k d) (list_any_at (bytes_eq (get_or those k d)) those k d lt (nat_list_eq_equiv.refl (get_or those k d)))

all_words-filter : (words : List (List ℕ)) (p : Document → Bool) (docs : List Document) → Has words (all_words docs) → Has words (all_words (filter p docs))
all_words-filter words p [] has = has
all_words-filter words p (d ∷ docs) has = by (p d) (all_words-filter words p docs (has_right words d.words (all_words docs) has))
  where
    by : (b : Bool) → Has words (all_words (filter p docs)) → Has words (all_words (cond b (d ∷ filter p docs) (filter p docs)))
    by true rest = has_both words d.words (all_words (filter p docs)) (has_left words d.words (all_words docs) has) rest
    by false rest = rest

-- the words of live documents
words_live_after : (words : List (List ℕ)) (docs : List Document) (c : Command) → Has words (all_words docs) → Has words (words_named c) → Has words (all_words (after docs c))
words_live_after words docs (Add d) has named =
    subst (Has words) (sym (flat_map-append (λ (x : Document). x.words) docs (d ∷ [])))
    (has_both words (all_words docs) (d.words ++ []) has (has_both words d.words [] named (λ w none. absurd (true≢false (sym none)))))
words_live_after words docs (Delete id) has named = all_words-filter words (λ d. not (d.id == id)) docs has
words_live_after words docs (Search word) has named = has

words_of_live : (words : List (List ℕ)) (docs : List Document) (past : List Command) → Has words (all_words docs) → Has words (flat_map words_named past) → Has words (all_words (live docs past))
words_of_live words docs [] has named = has
words_of_live words docs (c ∷ past) has named =
    words_of_live words (after docs c) past (words_live_after words docs c has (has_left words (words_named c) (flat_map words_named past) named))
    (has_right words (words_named c) (flat_map words_named past) named)

words_of_one : (words : List (List ℕ)) (docs : List Document) (id : ℕ) → Has words (all_words docs) → Has words (words_live docs id)
words_of_one words [] id has = has
words_of_one words (d ∷ docs) id has =
    has_both words (if d.id == id then d.words else []) (words_live docs id) (by (d.id == id)) (words_of_one words docs id (has_right words d.words (all_words docs) has))
  where
    by : (b : Bool) → Has words (if b then d.words else [])
    by true = has_left words d.words (all_words docs) has
    by false = λ w none. absurd (true≢false (sym none))

module _ (epoch : ℕ) (words : List (List ℕ)) (s : Setup) (has : Has words (all_words s.documents)) where
  abbrev is : Name → Type 0
  is n = is_own words n ≡ true

  own_setup : All is (names_of_setup epoch s)
  own_setup =
      let its = has_all words (setup_words s) (λ w among. has w (sym (list_any-first_seen w (all_words s.documents)) ∙ among)) in
      subst (All is) (sym (names_of_setup-by_word epoch s))
      (All-append is (entry_names_of_setup epoch s) (block_names_of_setup epoch s)
      (All-append is (flat_map (entry_names epoch) (setup_words s)) (flat_map (dummy_entry_names epoch) (range_with_len 0 (dummy_entries s)))
      (All-flat_map is (entry_names epoch) (setup_words s) (λ k d lt. All-two is (name epoch _ ListLabel 0) (name epoch _ ListPad 0) (its k d lt) (its k d lt)))
      (All-flat_map is (dummy_entry_names epoch) (range_with_len 0 (dummy_entries s)) (λ k d lt. All-two is (name epoch no_word DummyLabel _) (name epoch no_word DummyCell _) refl refl)))
      (All-append is (flat_map (block_names epoch s) (setup_words s)) (flat_map (dummy_block_names epoch) (range_with_len 0 (dummy_blocks s)))
      (All-flat_map is (block_names epoch s) (setup_words s)
      (λ k d lt. All-flat_map is (block_names_at epoch _) (range_with_len 0 (word_blocks s _)) (λ j e le. All-two is (name epoch _ PlaceTag _) (name epoch _ ListPad _) (its k d lt) (its k d lt))))
      (All-flat_map is (dummy_block_names epoch) (range_with_len 0 (dummy_blocks s)) (λ k d lt. All-two is (name epoch no_word DummyTag _) (name epoch no_word DummyBlock _) refl refl))))

  own_drawn : (past : List Command) (c : Command) → Has words (flat_map words_named past) → Has words (words_named c) → All is (drawn_by epoch s past c)
  own_drawn past (Add d) before named =
      let fresh = All-filter (λ word. not (is_listed s past word d.id)) (λ w. list_any (bytes_eq w) words ≡ true) d.words (has_all words d.words named) in
      subst (All is) (sym (added_names-by_word epoch s past d))
      (All-flat_map is (plus_names epoch s past) (fresh_words s past d) (λ k w lt. All-two is (name epoch _ PlusLabel _) (name epoch _ PlusPad _) (fresh k w lt) (fresh k w lt)))
  own_drawn past (Delete id) before named =
      let docs = live s.documents past in
      let unsent = filter (λ word. not (was_sent s past word id)) (words_live docs id) in
      All-map is (λ word. name epoch word Revocation id) unsent
      (All-filter (λ word. not (was_sent s past word id)) (λ w. list_any (bytes_eq w) words ≡ true) (words_live docs id)
      (has_all words (words_live docs id) (words_of_one words docs id (words_of_live words s.documents past has before))))
  own_drawn past (Search word) before named = by (list_any (searches_for word) past)
    where
      by : (b : Bool) → All is (if b then [] else name epoch word Token 0 ∷ [])
      by true = All-nil is
      by false = All-cons is (name epoch word Token 0) [] (named word (or_left (bytes_eq word word) false (nat_list_eq_equiv.refl word))) (All-nil is)

  own_probed : (past : List Command) (c : Command) → Has words (flat_map words_named past) → Has words (words_named c) → All is (probed_by epoch s past c)
  own_probed past (Add d) before named = All-nil is
  own_probed past (Delete id) before named = All-nil is
  own_probed past (Search word) before named =
      let its : list_any (bytes_eq word) words ≡ true = named word (or_left (bytes_eq word word) false (nat_list_eq_equiv.refl word)) in
      let cs = range_with_len 0 (counter s past word + 1) in
      let ids = setup_list s word ++ added_list s past word in
      let labels = map (λ c. name epoch word PlusLabel c) cs in
      let numbers = map (λ id. name epoch word Revocation id) ids in
      All-cons is (name epoch word ListLabel 0) (labels ++ numbers) its
      (All-append is labels numbers (All-map is (λ c. name epoch word PlusLabel c) cs (λ k d lt. its)) (All-map is (λ id. name epoch word Revocation id) ids (λ k d lt. its)))

  -- what is so of the names of each command is so of those of all
  own_over : (f : List Command → Command → List Name) → ((past : List Command) (c : Command) → Has words (flat_map words_named past) → Has words (words_named c) → All is (f past c))
      → (past rest : List Command) → Has words (flat_map words_named past) → Has words (flat_map words_named rest) → All is (flat_map (λ ns. ns) (over f past rest))
  own_over f each past [] before later = All-nil is
  own_over f each past (c ∷ rest) before later =
      let named = has_left words (words_named c) (flat_map words_named rest) later in
      All-append is (f past c) (flat_map (λ ns. ns) (over f (past ++ c ∷ []) rest)) (each past c before named)
      (own_over f each (past ++ c ∷ []) rest
      (subst (Has words) (sym (flat_map-append words_named past (c ∷ [])))
      (has_both words (flat_map words_named past) (words_named c ++ []) before (has_both words (words_named c) [] named (λ w none. absurd (true≢false (sym none))))))
      (has_right words (words_named c) (flat_map words_named rest) later))

-- Promise P36, also here
-- each name that a history draws or a server looks up for it is of one of its words, or of a dummy
pub own_names : (o : Offsets) (run : Run) → All (λ n. is_own (run_words run) n ≡ true) (all_names o run)
own_names o run =
    subst (All own) (sym (flat_map-append (λ ns. ns) (drawn o run) (probed o run)))
    (All-append own (flat_map (λ ns. ns) (drawn o run)) (flat_map (λ ns. ns) (probed o run))
    (All-append own (names_of_setup o.epoch run.setup) (flat_map (λ ns. ns) (over (drawn_by o.epoch run.setup) [] run.later)) (own_setup o.epoch words run.setup docs)
    (own_over o.epoch words run.setup docs (drawn_by o.epoch run.setup) (own_drawn o.epoch words run.setup docs) [] run.later none later))
    (own_over o.epoch words run.setup docs (probed_by o.epoch run.setup) (own_probed o.epoch words run.setup docs) [] run.later none later))
  where
    words : List (List ℕ)
    words = run_words run

    own : Name → Type 0
    own n = is_own (run_words run) n ≡ true

    known : Has words (all_words run.setup.documents ++ flat_map words_named run.later)
    known w among = list_any-first_seen w (all_words run.setup.documents ++ flat_map words_named run.later) ∙ among

    docs : Has words (all_words run.setup.documents)
    docs = has_left words (all_words run.setup.documents) (flat_map words_named run.later) known

    later : Has words (flat_map words_named run.later)
    later = has_right words (all_words run.setup.documents) (flat_map words_named run.later) known

    none : Has words []
    none w among = absurd (true≢false (sym among))
