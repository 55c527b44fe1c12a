-- Two runs of equal leakage and a search of both at one place: their words have the same lists and counters, and stand in the same
-- places of the updates.
use Rattle.std.proofs.Common.{◌≡◌, ℕ, Bool, true, false, not, ◌||◌, ◌&&◌, List, [], ◌∷◌, ◌++◌, length, map, refl, sym, ap, ◌∙◌, Some, None}
use Rattle.std.specs.Prelude.{Option, bytes_eq, flat_map, take, if◌then◌else◌}
use Rattle.std.specs.List.{list_any}
use Rattle.std.specs.Cmp.Lexicographic.{same_text}
use Rattle.std.proofs.lemmas.Bool.{true≢false}
use Rattle.std.proofs.lemmas.List.{append_cancel_right}
use Rattle.std.proofs.lemmas.Slice.Eq.{bytes_eq-Decides}
use Rattle.client_registry.proofs.OverLaws.{take-over}
use Rattle.client_registry.specs.Command.{Command, Add, Delete, Search}
use Rattle.client_registry.specs.Documents.{has_word}
use Rattle.client_registry.specs.Live.{is_listed, newly_listed, added_list}
use Rattle.client_registry.specs.Over.{over}
use Rattle.client_registry.specs.Run.{Run, Offsets}
use Rattle.client_registry.specs.Setup.{Setup, setup_list}
use Rattle.client_registry.specs.Sized.{IsHistory}
use Rattle.def_leakage.proofs.ListedPairs.{ids-listed_pairs}
use Rattle.def_leakage.specs.Firsts.{update_words, number_origin}
use Rattle.def_leakage.specs.CommandLeaks.{sent_at, word_added, home, pair_leak, listed_pairs, leak}
use Rattle.def_relabelling.proofs.Beside.{Beside, paired-over}
use Rattle.def_relabelling.proofs.Pairs.{paired-image, paired-equal, paired-places}
use Rattle.def_relabelling.proofs.Partners.{word_for, words_told-by, pairs_told, home_told, partner}
use Rattle.def_relabelling.proofs.SameDrawings.{kind_of, words_told, no_add_delete, no_add_search}
use Rattle.def_relabelling.proofs.FirstPlaces.{id_of, take-middle}
use Rattle.def_relabelling.specs.Paired.{Paired}
use Rattle.sse_simulator.specs.Leaks.{Origin, NewEntry, ListedLeak}
use Rattle.sse_simulator.specs.Simulator.{is_entry}

pub beside-swap : (o : Offsets) (run other : Run) (past past2 : List Command) (c c2 : Command) → Beside o run other past past2 c c2 → Beside o other run past2 past c2 c
beside-swap o run other past past2 c c2 b =
    record { rest = b.rest2; rest2 = b.rest; parts = b.parts2; parts2 = b.parts; even = sym b.even; same = sym b.same; rests = sym b.rests }

-- two words at one place of two updates: the one is searched with the first run's word where the other is with the other's
pub record ArePartners (o : Offsets) (s s2 : Setup) (past past2 : List Command) (c c2 : Command) (w w2 u u2 : List ℕ) : Type 0 where
  pub leaks : word_for o s past c u ≡ word_for o s2 past2 c2 u2
  pub forth : u ≡ w → (u2 ≡ w2) × (id_of c ≡ id_of c2)
  pub back : u2 ≡ w2 → u ≡ w

-- an addition has a new entry for a word whose pair isn't listed
pub entry_is : (o : Offsets) (s : Setup) (past : List Command) (id : ℕ) (word : List ℕ) → is_entry (word_added o s past id word) ≡ not (is_listed s past word id)
entry_is o s past id word = by (is_listed s past word id) (number_origin o s past word id)
  where
    by : (b : Bool) (m : Option Origin) → is_entry (record { sent = if b then sent_at m else NewEntry; seen = None }) ≡ not b
    by true None = refl
    by true (Some first) = refl
    by false m = refl

abbrev listing : Bool → Bool → ℕ → List ℕ
listing has new id = if has && new then id ∷ [] else []

ids_told : (o : Offsets) (s : Setup) (past : List Command) (word : List ℕ) (pairs : List (ℕ × Origin)) → map (λ (l : ListedLeak). l.id) (map (pair_leak o s past word) pairs) ≡ map (λ (pair : ℕ × Origin). pair.0) pairs
ids_told o s past word [] = refl
ids_told o s past word (p ∷ ps) = ap (λ rest. p.0 ∷ rest) (ids_told o s past word ps)

module _ (o : Offsets) (run other : Run) (history : IsHistory run) (history2 : IsHistory other) (leaks : leak o run ≡ leak o other)
    (front front2 : List Command) (w w2 : List ℕ) (search : Beside o run other front front2 (Search w) (Search w2)) where
  pub words_beside : (past past2 : List Command) (c c2 : Command) → Beside o run other past past2 c c2
      → Paired (ArePartners o run.setup other.setup past past2 c c2 w w2) (update_words run.setup past c) (update_words other.setup past2 c2)
  words_beside past past2 c c2 beside =
      paired-places (λ u u2. word_for o run.setup past c u ≡ word_for o other.setup past2 c2 u2) (ArePartners o run.setup other.setup past past2 c c2 w w2)
      (update_words run.setup past c) (update_words other.setup past2 c2)
      (paired-image (word_for o run.setup past c) (word_for o other.setup past2 c2) (update_words run.setup past c) (update_words other.setup past2 c2)
      (sym (words_told-by o run.setup past c) ∙ ap words_told beside.same ∙ words_told-by o other.setup past2 c2))
      (λ p u u2 here here2 told. record {
        leaks = told;
        forth = partner o run other history history2 front front2 w w2 search past past2 c c2 beside p u u2 here here2 told;
        back = λ same. (partner o other run history2 history front2 front w2 w (beside-swap o run other front front2 (Search w) (Search w2) search) past2 past c2 c
            (beside-swap o run other past past2 c c2 beside) p u2 u here2 here (sym told) same).0;
      })

  module _ (past past2 : List Command) (c c2 : Command) where
    abbrev Partners : List ℕ → List ℕ → Type 0
    Partners = ArePartners o run.setup other.setup past past2 c c2 w w2

    same_test : (u u2 : List ℕ) → Partners u u2 → bytes_eq w u ≡ bytes_eq w2 u2
    same_test u u2 p = by (bytes_eq w u) (bytes_eq w2 u2) refl refl
      where
        by : (b b2 : Bool) → bytes_eq w u ≡ b → bytes_eq w2 u2 ≡ b2 → b ≡ b2
        by true true is is2 = refl
        by false false is is2 = refl
        by true false is is2 = absurd (true≢false (sym ((bytes_eq-Decides w2 u2).1 (sym (p.forth (sym (same_text w u (sym is)))).0)) ∙ is2))
        by false true is is2 = absurd (true≢false (sym ((bytes_eq-Decides w u).1 (sym (p.back (sym (same_text w2 u2 (sym is2)))))) ∙ is))

    both_have : (us us2 : List (List ℕ)) → Paired Partners us us2 → list_any (bytes_eq w) us ≡ list_any (bytes_eq w2) us2
    both_have [] [] all = refl
    both_have [] (y ∷ ys) all = absurd all
    both_have (x ∷ xs) [] all = absurd all
    both_have (x ∷ xs) (y ∷ ys) all = λ i. same_test x y all.0 i || both_have xs ys all.1 i

    -- where the word is among them, the items say the same of both, and the identifiers are the same
    told_alike : (us us2 : List (List ℕ)) → Paired Partners us us2 → list_any (bytes_eq w) us ≡ true → (id_of c ≡ id_of c2) × (word_for o run.setup past c w ≡ word_for o other.setup past2 c2 w2)
    told_alike [] us2 all h = absurd (true≢false (sym h))
    told_alike (x ∷ xs) [] all h = absurd all
    told_alike (x ∷ xs) (y ∷ ys) all h = by (told_alike xs ys all.1) (bytes_eq w x) refl h
      where
        by : (list_any (bytes_eq w) xs ≡ true → (id_of c ≡ id_of c2) × (word_for o run.setup past c w ≡ word_for o other.setup past2 c2 w2)) → (b : Bool) → bytes_eq w x ≡ b → (b || list_any (bytes_eq w) xs) ≡ true → (id_of c ≡ id_of c2) × (word_for o run.setup past c w ≡ word_for o other.setup past2 c2 w2)
        by later true is h =
            let own : w ≡ x = same_text w x (sym is) in
            let there = all.0.forth (sym own) in
            (there.1, ap (word_for o run.setup past c) own ∙ all.0.leaks ∙ ap (word_for o other.setup past2 c2) there.0)
        by later false is h = later h

  newly_beside : (past past2 : List Command) (c c2 : Command) → Beside o run other past past2 c c2 → newly_listed run.setup w past c ≡ newly_listed other.setup w2 past2 c2
  newly_beside past past2 (Add d) (Add d2) beside = by (has_word w d) refl
    where
      words : Paired (ArePartners o run.setup other.setup past past2 (Add d) (Add d2) w w2) d.words d2.words
      words = words_beside past past2 (Add d) (Add d2) beside

      has : has_word w d ≡ has_word w2 d2
      has = both_have past past2 (Add d) (Add d2) d.words d2.words words

      by : (b : Bool) → has_word w d ≡ b
          → listing (has_word w d) (not (is_listed run.setup past w d.id)) d.id ≡ listing (has_word w2 d2) (not (is_listed other.setup past2 w2 d2.id)) d2.id
      by true is =
          let told = told_alike past past2 (Add d) (Add d2) d.words d2.words words is in
          let new = sym (entry_is o run.setup past d.id w) ∙ ap is_entry told.1 ∙ entry_is o other.setup past2 d2.id w2 in
          λ i. listing (has i) (new i) (told.0 i)
      by false is =
          ap (λ b. listing b (not (is_listed run.setup past w d.id)) d.id) is
          ∙ ap (λ b. listing b (not (is_listed other.setup past2 w2 d2.id)) d2.id) (sym is ∙ has)
  newly_beside past past2 (Delete id) (Delete id2) beside = refl
  newly_beside past past2 (Delete id) (Search word2) beside = refl
  newly_beside past past2 (Search word) (Delete id2) beside = refl
  newly_beside past past2 (Search word) (Search word2) beside = refl
  newly_beside past past2 (Add d) (Delete id2) beside = no_add_delete (ap kind_of beside.same)
  newly_beside past past2 (Add d) (Search word2) beside = no_add_search (ap kind_of beside.same)
  newly_beside past past2 (Delete id) (Add d2) beside = no_add_delete (ap kind_of (sym beside.same))
  newly_beside past past2 (Search word) (Add d2) beside = no_add_search (ap kind_of (sym beside.same))

  -- the lists that additions made before any command are the same
  pub added_beside : (past past2 : List Command) (c c2 : Command) → Beside o run other past past2 c c2 → added_list run.setup past w ≡ added_list other.setup past2 w2
  added_beside past past2 c c2 beside =
      let all = paired-equal (over (newly_listed run.setup w) [] run.later) (over (newly_listed other.setup w2) [] other.later)
      (paired-over o run other leaks (λ x y. x ≡ y) (newly_listed run.setup w) (newly_listed other.setup w2) newly_beside) in
      ap (flat_map (λ ids. ids))
      (ap (over (newly_listed run.setup w) []) (sym (ap (take (length past)) beside.parts ∙ take-middle past (c ∷ beside.rest)))
      ∙ sym (take-over (newly_listed run.setup w) (length past) [] run.later)
      ∙ (λ i. take (beside.even i) (all i))
      ∙ take-over (newly_listed other.setup w2) (length past2) [] other.later
      ∙ ap (over (newly_listed other.setup w2) []) (ap (take (length past2)) beside.parts2 ∙ take-middle past2 (c2 ∷ beside.rest2)))

  -- and so are the setups' lists, and where they stand
  pub lists_beside : setup_list run.setup w ≡ setup_list other.setup w2
  lists_beside =
      let s = run.setup in
      let s2 = other.setup in
      append_cancel_right (setup_list s w) (setup_list s2 w2) (added_list s front w)
      (sym (ids-listed_pairs o s w front)
      ∙ sym (ids_told o s front w (listed_pairs o s front w))
      ∙ ap (λ l. map (λ (x : ListedLeak). x.id) (pairs_told l)) search.same
      ∙ ids_told o s2 front2 w2 (listed_pairs o s2 front2 w2)
      ∙ ids-listed_pairs o s2 w2 front2
      ∙ ap (λ rest. setup_list s2 w2 ++ rest) (sym (added_beside front front2 (Search w) (Search w2) search)))

  pub homes_beside : home run.setup w ≡ home other.setup w2
  homes_beside = ap home_told search.same
