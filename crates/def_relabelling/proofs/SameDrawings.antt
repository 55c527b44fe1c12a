-- Runs of equal leakage draw command by command equally many values, each for the same: an entry, a block, a number or a token.
use Rattle.std.proofs.Common.{◌≡◌, ℕ, suc, ◌+◌, Bool, true, false, cond, not, List, [], ◌∷◌, length, map, filter, refl, sym, ap, ◌∙◌, Some, None, is_some}
use Rattle.std.specs.Prelude.{Option, if◌then◌else◌, flat_map, option_map}
use Rattle.std.specs.List.{list_any}
use Rattle.std.proofs.lemmas.Bool.{true≢false}
use Rattle.std.proofs.lemmas.List.{length-map}
use Rattle.client_registry.specs.Command.{Command, Add, Delete, Search}
use Rattle.client_registry.specs.Document.{Document}
use Rattle.client_registry.specs.Live.{live}
use Rattle.client_registry.specs.Run.{Run, Offsets}
use Rattle.client_registry.specs.Setup.{Setup}
use Rattle.two_level.specs.Shape.{Shape}
use Rattle.def_leakage.proofs.Law.{entries_counted, unsent, sent, searched_before, searched_some}
use Rattle.def_leakage.specs.DrawnValues.{Drawing, ForEntry, ForBlock, ForNumber, ForToken, drawings_by, drawings}
use Rattle.def_leakage.specs.Firsts.{earliest, searched_at, first_search, number_origin}
use Rattle.def_leakage.specs.CommandLeaks.{sent_at, seen_by, word_deleted, leak_of_setup, leak_by, leak}
use Rattle.def_leakage.specs.Relabelled.{Use, uses_in}
use Rattle.sse_model.specs.Drawn.{was_sent, searches_for}
use Rattle.sse_model.specs.Names.{Name, name, Revocation, Token, Table}
use Rattle.sse_model.specs.Positions.{Position, entry_positions, block_positions, addition_positions, fresh_words}
use Rattle.sse_model.specs.Wire.{words_live}
use Rattle.def_relabelling.proofs.Beside.{same_setup, paired-over}
use Rattle.def_relabelling.proofs.Pairs.{paired-each, paired-map, paired-append, paired-then, paired-flat_map}
use Rattle.def_relabelling.specs.Paired.{Paired}
use Rattle.sse_simulator.specs.Leaks.{Origin, NewEntry, Fresh, Again, WordLeak, Leak, SetupLeak, AddLeak, DeleteLeak, SearchLeak}
use Rattle.sse_simulator.specs.Simulator.{is_entry}

-- What the items of two runs say.

pub data ItemKind : Type 0 where
  OfSetup : ItemKind
  OfAddition : ItemKind
  OfDeletion : ItemKind
  OfSearch : ItemKind

abbrev pub kind_of : Leak → ItemKind
kind_of (SetupLeak shape words blocks) = OfSetup
kind_of (AddLeak words) = OfAddition
kind_of (DeleteLeak words) = OfDeletion
kind_of (SearchLeak earlier home listed found) = OfSearch

abbrev pub words_told : Leak → List WordLeak
words_told (SetupLeak shape words blocks) = []
words_told (AddLeak words) = words
words_told (DeleteLeak words) = words
words_told (SearchLeak earlier home listed found) = []

abbrev pub earlier_told : Leak → Option ℕ
earlier_told (SetupLeak shape words blocks) = None
earlier_told (AddLeak words) = None
earlier_told (DeleteLeak words) = None
earlier_told (SearchLeak earlier home listed found) = earlier

abbrev pub is_fresh : WordLeak → Bool
is_fresh word = elim word.sent [ NewEntry ↦ false | Fresh ↦ true | Again origin ↦ false ]

-- where two commands are no two of a kind, their items differ
pub no_add_delete : {A : Type 0} → OfAddition ≡ OfDeletion → A
no_add_delete e = absurd (let differ : OfAddition ≡ OfDeletion = e in cc)

pub no_add_search : {A : Type 0} → OfAddition ≡ OfSearch → A
no_add_search e = absurd (let differ : OfAddition ≡ OfSearch = e in cc)

pub no_delete_search : {A : Type 0} → OfDeletion ≡ OfSearch → A
no_delete_search e = absurd (let differ : OfDeletion ≡ OfSearch = e in cc)

-- no table is looked at: any will do for the laws that have one
abbrev nothing : Table
nothing n = []

module _ (o : Offsets) (s : Setup) where
  -- a deletion draws a number for each word that is fresh
  fresh_counted : (past : List Command) (id : ℕ) (words : List (List ℕ)) → length (filter is_fresh (map (word_deleted o s past id) words)) ≡ length (filter (λ word. not (was_sent s past word id)) words)
  fresh_counted past id [] = refl
  fresh_counted past id (w ∷ ws) = by (number_origin o s past w id) (was_sent s past w id) refl refl (fresh_counted past id ws)
    where
      rest : List WordLeak
      rest = filter is_fresh (map (word_deleted o s past id) ws)

      unsent_words : List (List ℕ)
      unsent_words = filter (λ word. not (was_sent s past word id)) ws

      by : (m : Option Origin) (b : Bool) → number_origin o s past w id ≡ m → was_sent s past w id ≡ b → length rest ≡ length unsent_words
          → length (cond (is_fresh (record { sent = sent_at m; seen = seen_by id (first_search o past w) })) (record { sent = sent_at m; seen = seen_by id (first_search o past w) } ∷ rest) rest)
          ≡ length (cond (not b) (w ∷ unsent_words) unsent_words)
      by None true none was had = absurd (true≢false (sym was ∙ unsent nothing o s past w id none))
      by None false none was had = ap (λ (n : ℕ). suc n) had
      by (Some first) true some was had = had
      by (Some first) false some was had = absurd (true≢false (sym (sent nothing o s past w id first some) ∙ was))

  -- a word was searched where there is a first search
  pub searched_is : (past : List Command) (word : List ℕ) → list_any (searches_for word) past ≡ is_some (first_search o past word)
  searched_is past word = by (earliest o (searched_at word) past) refl
    where
      by : (m : Option Origin) → earliest o (searched_at word) past ≡ m → list_any (searches_for word) past ≡ is_some (first_search o past word)
      by None is = searched_before nothing o s word (o.command + 1) [] past is ∙ ap (λ (m : Option Origin). is_some (option_map (λ found. found.command) m)) (sym is)
      by (Some first) is = searched_some nothing o s word (o.command + 1) [] past first is ∙ ap (λ (m : Option Origin). is_some (option_map (λ found. found.command) m)) (sym is)

module _ (o : Offsets) (s s2 : Setup) where
  -- equal items of additions have equally many new entries
  pub even_additions : (past past2 : List Command) (d d2 : Document) → leak_by o s past (Add d) ≡ leak_by o s2 past2 (Add d2)
      → length (fresh_words s past d) ≡ length (fresh_words s2 past2 d2)
  even_additions past past2 d d2 same =
      sym (entries_counted nothing o s past d d.words)
      ∙ ap (λ l. length (filter is_entry (words_told l))) same
      ∙ entries_counted nothing o s2 past2 d2 d2.words

  -- those of deletions equally many numbers
  pub even_deletions : (past past2 : List Command) (id id2 : ℕ) → leak_by o s past (Delete id) ≡ leak_by o s2 past2 (Delete id2)
      → length (filter (λ word. not (was_sent s past word id)) (words_live (live s.documents past) id)) ≡ length (filter (λ word. not (was_sent s2 past2 word id2)) (words_live (live s2.documents past2) id2))
  even_deletions past past2 id id2 same =
      sym (fresh_counted o s past id (words_live (live s.documents past) id))
      ∙ ap (λ l. length (filter is_fresh (words_told l))) same
      ∙ fresh_counted o s2 past2 id2 (words_live (live s2.documents past2) id2)

  -- and those of searches a token, or none
  pub even_searches : (past past2 : List Command) (word word2 : List ℕ) → leak_by o s past (Search word) ≡ leak_by o s2 past2 (Search word2)
      → list_any (searches_for word) past ≡ list_any (searches_for word2) past2
  even_searches past past2 word word2 same =
      searched_is o s past word ∙ ap (λ l. is_some (earlier_told l)) same ∙ sym (searched_is o s2 past2 word2)

-- Drawings.

abbrev pub IsSameDrawing : Drawing → Drawing → Type 0
IsSameDrawing (ForEntry p) (ForEntry q) = Unit {0}
IsSameDrawing (ForBlock p) (ForBlock q) = Unit {0}
IsSameDrawing (ForNumber n) (ForNumber m) = Unit {0}
IsSameDrawing (ForToken n) (ForToken m) = Unit {0}
IsSameDrawing _ _ = ⊥

-- what is shown for two of each kind is shown for two of one kind
pub by_drawings : (P : Drawing → Drawing → Type 0) → ((p q : Position) → P (ForEntry p) (ForEntry q)) → ((p q : Position) → P (ForBlock p) (ForBlock q))
    → ((n m : Name) → P (ForNumber n) (ForNumber m)) → ((n m : Name) → P (ForToken n) (ForToken m)) → (d d2 : Drawing) → IsSameDrawing d d2 → P d d2
by_drawings P entries blocks numbers tokens (ForEntry p) (ForEntry q) same = entries p q
by_drawings P entries blocks numbers tokens (ForBlock p) (ForBlock q) same = blocks p q
by_drawings P entries blocks numbers tokens (ForNumber n) (ForNumber m) same = numbers n m
by_drawings P entries blocks numbers tokens (ForToken n) (ForToken m) same = tokens n m
by_drawings P entries blocks numbers tokens (ForEntry p) (ForBlock q) same = absurd same
by_drawings P entries blocks numbers tokens (ForEntry p) (ForNumber n) same = absurd same
by_drawings P entries blocks numbers tokens (ForEntry p) (ForToken n) same = absurd same
by_drawings P entries blocks numbers tokens (ForBlock p) (ForEntry q) same = absurd same
by_drawings P entries blocks numbers tokens (ForBlock p) (ForNumber n) same = absurd same
by_drawings P entries blocks numbers tokens (ForBlock p) (ForToken n) same = absurd same
by_drawings P entries blocks numbers tokens (ForNumber n) (ForEntry q) same = absurd same
by_drawings P entries blocks numbers tokens (ForNumber n) (ForBlock q) same = absurd same
by_drawings P entries blocks numbers tokens (ForNumber n) (ForToken m) same = absurd same
by_drawings P entries blocks numbers tokens (ForToken n) (ForEntry q) same = absurd same
by_drawings P entries blocks numbers tokens (ForToken n) (ForBlock q) same = absurd same
by_drawings P entries blocks numbers tokens (ForToken n) (ForNumber m) same = absurd same

-- what is so of any two numbers of deletions and any two tokens, and of the entries of additions, is so of the drawings of two commands
module _ (o : Offsets) (s s2 : Setup) (P : Drawing → Drawing → Type 0)
    (numbers : (w w2 : List ℕ) (id id2 : ℕ) → P (ForNumber (name o.epoch w Revocation id)) (ForNumber (name o.epoch w2 Revocation id2)))
    (tokens : (w w2 : List ℕ) → P (ForToken (name o.epoch w Token 0)) (ForToken (name o.epoch w2 Token 0))) where
  pub paired-command : (past past2 : List Command) (c c2 : Command) → leak_by o s past c ≡ leak_by o s2 past2 c2
      → ((d d2 : Document) → c ≡ Add d → c2 ≡ Add d2 → Paired (λ p q. P (ForEntry p) (ForEntry q)) (addition_positions o.epoch s past d) (addition_positions o.epoch s2 past2 d2))
      → Paired P (drawings_by o.epoch s past c) (drawings_by o.epoch s2 past2 c2)
  paired-command past past2 (Add d) (Add d2) same entries =
      paired-map P ForEntry ForEntry (addition_positions o.epoch s past d) (addition_positions o.epoch s2 past2 d2) (entries d d2 refl refl)
  paired-command past past2 (Delete id) (Delete id2) same entries =
      let ws = filter (λ word. not (was_sent s past word id)) (words_live (live s.documents past) id) in
      let ws2 = filter (λ word. not (was_sent s2 past2 word id2)) (words_live (live s2.documents past2) id2) in
      paired-map P (λ word. ForNumber (name o.epoch word Revocation id)) (λ word. ForNumber (name o.epoch word Revocation id2)) ws ws2
      (paired-each (λ w w2. P (ForNumber (name o.epoch w Revocation id)) (ForNumber (name o.epoch w2 Revocation id2))) ws ws2 (even_deletions o s s2 past past2 id id2 same)
      (λ w w2. numbers w w2 id id2))
  paired-command past past2 (Search word) (Search word2) same entries =
      by (list_any (searches_for word) past) (list_any (searches_for word2) past2) (even_searches o s s2 past past2 word word2 same)
    where
      by : (b b2 : Bool) → b ≡ b2 → Paired P (if b then [] else ForToken (name o.epoch word Token 0) ∷ []) (if b2 then [] else ForToken (name o.epoch word2 Token 0) ∷ [])
      by true true e = tt
      by false false e = (tokens word word2, tt)
      by true false e = absurd (true≢false e)
      by false true e = absurd (true≢false (sym e))
  paired-command past past2 (Add d) (Delete id2) same entries = no_add_delete (ap kind_of same)
  paired-command past past2 (Add d) (Search word2) same entries = no_add_search (ap kind_of same)
  paired-command past past2 (Delete id) (Add d2) same entries = no_add_delete (ap kind_of (sym same))
  paired-command past past2 (Delete id) (Search word2) same entries = no_delete_search (ap kind_of same)
  paired-command past past2 (Search word) (Add d2) same entries = no_add_search (ap kind_of (sym same))
  paired-command past past2 (Search word) (Delete id2) same entries = no_delete_search (ap kind_of (sym same))

-- Setups.

pub record AreAlikeSetups (epoch : ℕ) (s s2 : Setup) : Type 0 where
  pub shape : s.shape ≡ s2.shape
  pub entries : length (entry_positions epoch s) ≡ length (entry_positions epoch s2)
  pub blocks : length (block_positions epoch s) ≡ length (block_positions epoch s2)

pub alike_setups : (epoch : ℕ) (s s2 : Setup) → leak_of_setup epoch s ≡ leak_of_setup epoch s2 → AreAlikeSetups epoch s s2
alike_setups epoch s s2 e = record {
  shape = one s.shape s2.shape (length (entry_positions epoch s)) (length (entry_positions epoch s2)) (length (block_positions epoch s)) (length (block_positions epoch s2)) e;
  entries = two s.shape s2.shape (length (entry_positions epoch s)) (length (entry_positions epoch s2)) (length (block_positions epoch s)) (length (block_positions epoch s2)) e;
  blocks = three s.shape s2.shape (length (entry_positions epoch s)) (length (entry_positions epoch s2)) (length (block_positions epoch s)) (length (block_positions epoch s2)) e;
}
  where
    one : (a a2 : Shape) (b b2 c c2 : ℕ) → SetupLeak a b c ≡ SetupLeak a2 b2 c2 → a ≡ a2
    one a a2 b b2 c c2 e = cc

    two : (a a2 : Shape) (b b2 c c2 : ℕ) → SetupLeak a b c ≡ SetupLeak a2 b2 c2 → b ≡ b2
    two a a2 b b2 c c2 e = cc

    three : (a a2 : Shape) (b b2 c c2 : ℕ) → SetupLeak a b c ≡ SetupLeak a2 b2 c2 → c ≡ c2
    three a a2 b b2 c c2 e = cc

module _ (o : Offsets) (run other : Run) (leaks : leak o run ≡ leak o other) where
  pub setups : AreAlikeSetups o.epoch run.setup other.setup
  setups = alike_setups o.epoch run.setup other.setup (same_setup o run other leaks)

  pub same_drawings : Paired (Paired IsSameDrawing) (drawings o run) (drawings o other)
  same_drawings =
      let e = entry_positions o.epoch run.setup in
      let e2 = entry_positions o.epoch other.setup in
      let b = block_positions o.epoch run.setup in
      let b2 = block_positions o.epoch other.setup in (
        paired-append IsSameDrawing (map ForEntry e) (map ForBlock b) (map ForEntry e2) (map ForBlock b2)
            (paired-map IsSameDrawing ForEntry ForEntry e e2 (paired-each (λ p q. IsSameDrawing (ForEntry p) (ForEntry q)) e e2 setups.entries (λ p q. tt)))
            (paired-map IsSameDrawing ForBlock ForBlock b b2 (paired-each (λ p q. IsSameDrawing (ForBlock p) (ForBlock q)) b b2 setups.blocks (λ p q. tt))),
        paired-over o run other leaks (Paired IsSameDrawing) (drawings_by o.epoch run.setup) (drawings_by o.epoch other.setup)
            (λ past past2 c c2 beside. paired-command o run.setup other.setup IsSameDrawing (λ w w2 id id2. tt) (λ w w2. tt) past past2 c c2 beside.same
            (λ d d2 is is2. paired-each (λ p q. IsSameDrawing (ForEntry p) (ForEntry q)) (addition_positions o.epoch run.setup past d) (addition_positions o.epoch other.setup past2 d2)
            (length-map (fresh_words run.setup past d) _ ∙ even_additions o run.setup other.setup past past2 d d2 (ap (leak_by o run.setup past) (sym is) ∙ beside.same ∙ ap (leak_by o other.setup past2) is2) ∙ sym (length-map (fresh_words other.setup past2 d2) _))
            (λ p q. tt))),
      )

-- Uses.

-- a plaintext on both sides, or on neither
abbrev pub AreTexts : Option (List ℕ) → Option (List ℕ) → Type 0
AreTexts None None = Unit {0}
AreTexts (Some text) (Some other) = Unit {0}
AreTexts None (Some other) = ⊥
AreTexts (Some text) None = ⊥

abbrev pub AreAlike : Use → Use → Type 0
AreAlike one other = AreTexts one.text other.text

pub uses_of_one : (ranks ranks2 : List ℕ) (d d2 : Drawing) → IsSameDrawing d d2 → Paired AreAlike (uses_in ranks d) (uses_in ranks2 d2)
uses_of_one ranks ranks2 =
    by_drawings (λ d d2. Paired AreAlike (uses_in ranks d) (uses_in ranks2 d2)) (λ p q. (tt, (tt, tt))) (λ p q. (tt, (tt, tt))) (λ n m. (tt, tt)) (λ n m. (tt, tt))

pub uses_of_all : (ranks ranks2 : List ℕ) (ds ds2 : List Drawing) → Paired IsSameDrawing ds ds2 → Paired AreAlike (flat_map (uses_in ranks) ds) (flat_map (uses_in ranks2) ds2)
uses_of_all ranks ranks2 ds ds2 same =
    paired-flat_map AreAlike (uses_in ranks) (uses_in ranks2) ds ds2 (paired-then IsSameDrawing (λ d d2. Paired AreAlike (uses_in ranks d) (uses_in ranks2 d2)) ds ds2 same (uses_of_one ranks ranks2))

pub uses_of_lists : (ranks ranks2 : List ℕ) (dss dss2 : List (List Drawing)) → Paired (Paired IsSameDrawing) dss dss2
    → Paired AreAlike (flat_map (flat_map (uses_in ranks)) dss) (flat_map (flat_map (uses_in ranks2)) dss2)
uses_of_lists ranks ranks2 dss dss2 same =
    paired-flat_map AreAlike (flat_map (uses_in ranks)) (flat_map (uses_in ranks2)) dss dss2
    (paired-then (Paired IsSameDrawing) (λ ds ds2. Paired AreAlike (flat_map (uses_in ranks) ds) (flat_map (uses_in ranks2) ds2)) dss dss2 same (uses_of_all ranks ranks2))
