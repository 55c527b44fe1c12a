-- Two runs of equal leakage and a search of both at one place: all that the one uses for the word of its search, the other uses at the
-- same places for the word of its own, over the same plaintexts.
use Rattle.std.proofs.Common.{◌≡◌, ℕ, ◌+◌, Bool, true, false, not, List, [], ◌∷◌, ◌++◌, length, map, filter, refl, sym, ap, ◌∙◌, subst, Some, None}
use Rattle.std.specs.Prelude.{Contains, Option, flat_map, if◌then◌else◌}
use Rattle.std.specs.List.{list_any, range_with_len}
use Rattle.std.proofs.lemmas.Bool.{true≢false}
use Rattle.std.proofs.lemmas.List.Elements.{All-contains, Contains-append_right}
use Rattle.client_registry.specs.Command.{Command, Add, Delete, Search}
use Rattle.client_registry.specs.Live.{live, is_listed, added_list, counter}
use Rattle.client_registry.specs.Run.{Run, Offsets}
use Rattle.client_registry.specs.Setup.{Setup, setup_list}
use Rattle.client_registry.specs.Sized.{IsSizedCommand, IsHistory}
use Rattle.client_registry.specs.WordRule.{word_refusal}
use Rattle.sse_frames.specs.Frames.{be64}
use Rattle.def_leakage.proofs.Law.{unsent, sent}
use Rattle.def_leakage.specs.DrawnValues.{Drawing, ForEntry, ForBlock, ForNumber, ForToken, drawings_by, drawings}
use Rattle.def_leakage.specs.Firsts.{number_origin}
use Rattle.def_leakage.specs.CommandLeaks.{sent_at, word_deleted, leak}
use Rattle.def_leakage.specs.Relabelled.{bare, uses_in, uses}
use Rattle.sse_model.proofs.Members.{Contains-head}
use Rattle.sse_model.specs.Drawn.{was_sent, searches_for, probed_by, probed}
use Rattle.sse_model.specs.Names.{Table, Name, Kind, name, no_word, ListLabel, PlusLabel, PlusPad, Revocation, Token}
use Rattle.sse_model.specs.Positions.{Position, entry_positions, block_positions, addition_positions, fresh_words}
use Rattle.sse_model.specs.Wire.{words_live}
use Rattle.def_relabelling.proofs.Beside.{Beside, paired-over}
use Rattle.def_relabelling.proofs.Pairs.{paired-append, paired-map, paired-then, paired-filter, paired-flat_map}
use Rattle.def_relabelling.proofs.Partners.{searches_beside}
use Rattle.def_relabelling.proofs.PartnerWords.{ArePartners, entry_is, words_beside, added_beside, lists_beside, homes_beside}
use Rattle.def_relabelling.proofs.RenamedSetup.{IsRenamed, AreRenamed, paired-same, setup_renamed}
use Rattle.def_relabelling.proofs.SameDrawings.{kind_of, no_add_delete, no_add_search, no_delete_search, is_fresh, even_searches, setups}
use Rattle.def_relabelling.proofs.SameDraws.{drawn_uses, probed_uses}
use Rattle.def_relabelling.specs.Paired.{Paired}
use Rattle.sse_simulator.specs.Leaks.{Origin}
use Rattle.sse_simulator.specs.Simulator.{is_entry}

abbrev nothing : Table
nothing n = []

-- a deletion sends a number for the first time where it wasn't sent
fresh_is : (o : Offsets) (s : Setup) (past : List Command) (id : ℕ) (word : List ℕ) → is_fresh (word_deleted o s past id word) ≡ not (was_sent s past word id)
fresh_is o s past id word = by (number_origin o s past word id) (was_sent s past word id) refl refl
  where
    by : (m : Option Origin) (b : Bool) → number_origin o s past word id ≡ m → was_sent s past word id ≡ b → is_fresh (record { sent = sent_at m; seen = None }) ≡ not b
    by None true none was = absurd (true≢false (sym was ∙ unsent nothing o s past word id none))
    by None false none was = refl
    by (Some first) true some was = refl
    by (Some first) false some was = absurd (true≢false (sym (sent nothing o s past word id first some) ∙ was))

-- the names that a search of a word looks up, where so many additions listed the word first and these identifiers are listed
abbrev names_probed : ℕ → List ℕ → ℕ → List ℕ → List Name
names_probed epoch word count ids =
    name epoch word ListLabel 0 ∷ map (λ c. name epoch word PlusLabel c) (range_with_len 0 (count + 1)) ++ map (λ id. name epoch word Revocation id) ids

-- they are the same for two words, but for the words
probed_alike : (R : Name → Name → Type 0) (epoch : ℕ) (v v2 : List ℕ) (count : ℕ) (ids : List ℕ) → ((kind : Kind) (number : ℕ) → R (name epoch v kind number) (name epoch v2 kind number))
    → Paired R (names_probed epoch v count ids) (names_probed epoch v2 count ids)
probed_alike R epoch v v2 count ids each = (
  each ListLabel 0,
  paired-append R (map (λ c. name epoch v PlusLabel c) (range_with_len 0 (count + 1))) (map (λ id. name epoch v Revocation id) ids)
      (map (λ c. name epoch v2 PlusLabel c) (range_with_len 0 (count + 1))) (map (λ id. name epoch v2 Revocation id) ids)
      (paired-same R (λ c. name epoch v PlusLabel c) (λ c. name epoch v2 PlusLabel c) (range_with_len 0 (count + 1)) (λ c. each PlusLabel c))
      (paired-same R (λ id. name epoch v Revocation id) (λ id. name epoch v2 Revocation id) ids (λ id. each Revocation id)),
)

-- the word of a search has a byte at least, and so isn't what dummies have in its place
is_word : (run : Run) → IsHistory run → (past rest : List Command) (word : List ℕ) → run.later ≡ past ++ Search word ∷ rest → no_word ≡ word → ⊥
is_word run history past rest word parts none = refused (ap word_refusal none ∙ valid)
  where
    valid : word_refusal word ≡ None
    valid = All-contains IsSizedCommand run.later (Search word) history.each (subst (λ cs. Contains cs (Search word)) (sym parts) (Contains-append_right past (Search word ∷ rest) (Search word) (Contains-head (Search word) rest)))

    refused : word_refusal no_word ≡ None → ⊥
    refused e = absurd (cc)

module _ (o : Offsets) (run other : Run) (history : IsHistory run) (history2 : IsHistory other) (leaks : leak o run ≡ leak o other) where
  -- what is so of any name of a search and the same of the other's word is so of all that is looked up
  pub probed_beside : (R : Name → Name → Type 0)
      → ((past past2 : List Command) (v v2 : List ℕ) → Beside o run other past past2 (Search v) (Search v2) → (kind : Kind) (number : ℕ) → R (name o.epoch v kind number) (name o.epoch v2 kind number))
      → Paired (Paired R) (probed o run) (probed o other)
  probed_beside R each = (tt, paired-over o run other leaks (Paired R) (probed_by o.epoch run.setup) (probed_by o.epoch other.setup) one)
    where
      one : (past past2 : List Command) (c c2 : Command) → Beside o run other past past2 c c2 → Paired R (probed_by o.epoch run.setup past c) (probed_by o.epoch other.setup past2 c2)
      one past past2 (Search v) (Search v2) beside =
          let lists = lists_beside o run other history history2 leaks past past2 v v2 beside in
          let added = added_beside o run other history history2 leaks past past2 v v2 beside past past2 (Search v) (Search v2) beside in
          subst (Paired R (probed_by o.epoch run.setup past (Search v))) (λ i. names_probed o.epoch v2 (length (added i)) (lists i ++ added i))
          (probed_alike R o.epoch v v2 (counter run.setup past v) (setup_list run.setup v ++ added_list run.setup past v) (each past past2 v v2 beside))
      one past past2 (Add d) (Add d2) beside = tt
      one past past2 (Add d) (Delete id2) beside = tt
      one past past2 (Delete id) (Add d2) beside = tt
      one past past2 (Delete id) (Delete id2) beside = tt
      one past past2 (Add d) (Search v2) beside = no_add_search (ap kind_of beside.same)
      one past past2 (Delete id) (Search v2) beside = no_delete_search (ap kind_of beside.same)
      one past past2 (Search v) (Add d2) beside = no_add_search (ap kind_of (sym beside.same))
      one past past2 (Search v) (Delete id2) beside = no_delete_search (ap kind_of (sym beside.same))

  module _ (ranks : List ℕ) (front front2 : List Command) (w w2 : List ℕ) (search : Beside o run other front front2 (Search w) (Search w2)) where
    abbrev Renamed : Drawing → Drawing → Type 0
    Renamed d d2 = AreRenamed ranks w w2 d d2

    abbrev added_at : Setup → List Command → ℕ → List ℕ → Position
    added_at s past id word = record { label = name o.epoch word PlusLabel (counter s past word); pad = name o.epoch word PlusPad (counter s past word); clear = λ ranks. be64 id }

    command_renamed : (past past2 : List Command) (c c2 : Command) → Beside o run other past past2 c c2 → Paired Renamed (drawings_by o.epoch run.setup past c) (drawings_by o.epoch other.setup past2 c2)
    command_renamed past past2 (Add d) (Add d2) beside =
        paired-map Renamed ForEntry ForEntry (addition_positions o.epoch s past d) (addition_positions o.epoch s2 past2 d2)
        (paired-map (λ p q. Renamed (ForEntry p) (ForEntry q)) (added_at s past d.id) (added_at s2 past2 d2.id) (fresh_words s past d) (fresh_words s2 past2 d2)
        (paired-then Partners (λ u u2. Renamed (ForEntry (added_at s past d.id u)) (ForEntry (added_at s2 past2 d2.id u2))) (fresh_words s past d) (fresh_words s2 past2 d2)
        (paired-filter Partners (λ word. not (is_listed s past word d.id)) (λ word. not (is_listed s2 past2 word d2.id)) d.words d2.words
        (words_beside o run other history history2 leaks front front2 w w2 search past past2 (Add d) (Add d2) beside)
        (λ u u2 p. sym (entry_is o s past d.id u) ∙ ap is_entry p.leaks ∙ entry_is o s2 past2 d2.id u2))
        (λ u u2 p. ((λ same. (name_is PlusLabel u u2 p same, refl)), ((λ same. (name_is PlusPad u u2 p same, ap (λ n. Some (be64 n)) (p.forth same).1)), tt)))))
      where
        s : Setup
        s = run.setup

        s2 : Setup
        s2 = other.setup

        Partners : List ℕ → List ℕ → Type 0
        Partners u u2 = ArePartners o s s2 past past2 (Add d) (Add d2) w w2 u u2

        counters : counter s past w ≡ counter s2 past2 w2
        counters = ap length (added_beside o run other history history2 leaks front front2 w w2 search past past2 (Add d) (Add d2) beside)

        name_is : (kind : Kind) (u u2 : List ℕ) → ArePartners o s s2 past past2 (Add d) (Add d2) w w2 u u2 → u ≡ w → name o.epoch u2 kind (counter s2 past2 u2) ≡ name o.epoch w2 kind (counter s past u)
        name_is kind u u2 p same =
            let there = (p.forth same).0 in
            λ i. name o.epoch (there i) kind ((ap (counter s2 past2) there ∙ sym counters ∙ ap (counter s past) (sym same)) i)
    command_renamed past past2 (Delete id) (Delete id2) beside =
        paired-map Renamed (λ word. ForNumber (name o.epoch word Revocation id)) (λ word. ForNumber (name o.epoch word Revocation id2)) (filter unsent_here words) (filter unsent_there words2)
        (paired-then Partners (λ u u2. Renamed (ForNumber (name o.epoch u Revocation id)) (ForNumber (name o.epoch u2 Revocation id2))) (filter unsent_here words) (filter unsent_there words2)
        (paired-filter Partners unsent_here unsent_there words words2
        (words_beside o run other history history2 leaks front front2 w w2 search past past2 (Delete id) (Delete id2) beside)
        (λ u u2 p. sym (fresh_is o run.setup past id u) ∙ ap is_fresh p.leaks ∙ fresh_is o other.setup past2 id2 u2))
        (λ u u2 p. ((λ same. ((λ i. name o.epoch ((p.forth same).0 i) Revocation (sym (p.forth same).1 i)), refl)), tt)))
      where
        words : List (List ℕ)
        words = words_live (live run.setup.documents past) id

        words2 : List (List ℕ)
        words2 = words_live (live other.setup.documents past2) id2

        unsent_here : List ℕ → Bool
        unsent_here word = not (was_sent run.setup past word id)

        unsent_there : List ℕ → Bool
        unsent_there word = not (was_sent other.setup past2 word id2)

        Partners : List ℕ → List ℕ → Type 0
        Partners u u2 = ArePartners o run.setup other.setup past past2 (Delete id) (Delete id2) w w2 u u2
    command_renamed past past2 (Search v) (Search v2) beside =
        by (list_any (searches_for v) past) (list_any (searches_for v2) past2) (even_searches o run.setup other.setup past past2 v v2 beside.same)
      where
        token : AreRenamed ranks w w2 (ForToken (name o.epoch v Token 0)) (ForToken (name o.epoch v2 Token 0))
        token = ((λ same. (ap (λ x. name o.epoch x Token 0) (searches_beside o run other front front2 past past2 w w2 v v2 search beside same), refl)), tt)

        by : (b b2 : Bool) → b ≡ b2 → Paired (AreRenamed ranks w w2) (if b then [] else ForToken (name o.epoch v Token 0) ∷ []) (if b2 then [] else ForToken (name o.epoch v2 Token 0) ∷ [])
        by true true e = tt
        by false false e = (token, tt)
        by true false e = absurd (true≢false e)
        by false true e = absurd (true≢false (sym e))
    command_renamed past past2 (Add d) (Delete id2) beside = no_add_delete (ap kind_of beside.same)
    command_renamed past past2 (Add d) (Search word2) beside = no_add_search (ap kind_of beside.same)
    command_renamed past past2 (Delete id) (Add d2) beside = no_add_delete (ap kind_of (sym beside.same))
    command_renamed past past2 (Delete id) (Search word2) beside = no_delete_search (ap kind_of beside.same)
    command_renamed past past2 (Search word) (Add d2) beside = no_add_search (ap kind_of (sym beside.same))
    command_renamed past past2 (Search word) (Delete id2) beside = no_delete_search (ap kind_of (sym beside.same))

    drawings_renamed : Paired (Paired Renamed) (drawings o run) (drawings o other)
    drawings_renamed =
        let setup = setup_renamed o.epoch run.setup other.setup (setups o run other leaks) w w2 (is_word run history front search.rest w search.parts) (is_word other history2 front2 search.rest2 w2 search.parts2) (homes_beside o run other history history2 leaks front front2 w w2 search)
        (lists_beside o run other history history2 leaks front front2 w w2 search) ranks in
        let e = entry_positions o.epoch run.setup in
        let e2 = entry_positions o.epoch other.setup in
        let b = block_positions o.epoch run.setup in
        let b2 = block_positions o.epoch other.setup in (
          paired-append Renamed (map ForEntry e) (map ForBlock b) (map ForEntry e2) (map ForBlock b2) (paired-map Renamed ForEntry ForEntry e e2 setup.0) (paired-map Renamed ForBlock ForBlock b b2 setup.1),
          paired-over o run other leaks (Paired Renamed) (drawings_by o.epoch run.setup) (drawings_by o.epoch other.setup) command_renamed,
        )

    probed_renamed : Paired (IsRenamed w w2) (probed_uses o run) (probed_uses o other)
    probed_renamed =
        paired-map (IsRenamed w w2) bare bare (flat_map (λ ns. ns) (probed o run)) (flat_map (λ ns. ns) (probed o other))
        (paired-flat_map (λ n n2. IsRenamed w w2 (bare n) (bare n2)) (λ ns. ns) (λ ns. ns) (probed o run) (probed o other)
        (probed_beside (λ n n2. IsRenamed w w2 (bare n) (bare n2))
        (λ past past2 v v2 beside kind number. λ same. (ap (λ x. name o.epoch x kind number) (searches_beside o run other front front2 past past2 w w2 v v2 search beside same), refl))))

    pub uses_renamed : Paired (IsRenamed w w2) (uses o run ranks) (uses o other ranks)
    uses_renamed =
        paired-append (IsRenamed w w2) (drawn_uses o run ranks) (probed_uses o run) (drawn_uses o other ranks) (probed_uses o other)
        (paired-flat_map (IsRenamed w w2) (flat_map (uses_in ranks)) (flat_map (uses_in ranks)) (drawings o run) (drawings o other)
        (paired-then (Paired Renamed) (λ ds ds2. Paired (IsRenamed w w2) (flat_map (uses_in ranks) ds) (flat_map (uses_in ranks) ds2)) (drawings o run) (drawings o other) drawings_renamed
        (λ ds ds2 all. paired-flat_map (IsRenamed w w2) (uses_in ranks) (uses_in ranks) ds ds2 all)))
        probed_renamed
