-- What additions and deletions make of the revoked numbers: those of the pairs that are listed and not live.
use Rattle.std.proofs.Common.{◌≡◌, ℕ, Bool, true, false, not, ◌&&◌, ◌||◌, List, [], ◌∷◌, ◌++◌, refl, sym, ap, ◌∙◌, subst, ⊎_elim, eqb-true}
use Rattle.std.specs.Prelude.{Contains, ◌==◌}
use Rattle.std.specs.List.{AllByRecursion}
use Rattle.std.specs.FinSet as set
use Rattle.std.specs.Ordering.{nat_cmp}
use Rattle.std.specs.Cmp.Lexicographic.{slice_cmp}
use Rattle.std.proofs.lemmas.Bool.{true≢false, cases_Bool, or_cases, or_parts, or_left, or_from, and_parts, and_from, not-true, false_from_ne_true}
use Rattle.std.proofs.lemmas.Cmp.{nat_eq_equiv, nat_list_eq_equiv}
use Rattle.std.proofs.lemmas.Map.Views.{list_any-from_Contains}
use Rattle.client_registry.proofs.LiveLaws.{live_pairs_are_listed}
use Rattle.client_registry.proofs.ShownLaws.{are_accepted}
use Rattle.client_registry.specs.Command.{Command, Add, Delete, Search}
use Rattle.client_registry.specs.Document.{Document}
use Rattle.client_registry.specs.Documents.{has_word, is_live}
use Rattle.client_registry.specs.Live.{live, holds_pair, is_listed, is_live_with}
use Rattle.client_registry.specs.Run.{Offsets}
use Rattle.client_registry.specs.Setup.{Setup}
use Rattle.client_registry.specs.Sized.{is_accepted}
use Rattle.server_tables.specs.Contents.{NumberSet}
use Rattle.server_core.specs.Step.{with_numbers, without_numbers}
use Rattle.sse_model.proofs.Collisions.{joined}
use Rattle.sse_model.proofs.Members.{AllByRecursion-from_members, Contains-filter, Contains-of_filter, Contains-from_list_any}
use Rattle.sse_model.proofs.Prefixes.{run_of}
use Rattle.sse_model.proofs.SealedEntries.{IsTold}
use Rattle.sse_model.proofs.SentNumbers.{listed_dead_was_sent, sent_is_drawn, drawn_before, deleted_is_drawn, relisted_is_drawn}
use Rattle.sse_model.specs.Drawn.{drawn}
use Rattle.sse_model.specs.Names.{Name, Table, name, Revocation}
use Rattle.sse_model.specs.Positions.{listed_words}
use Rattle.sse_model.specs.Wire.{numbers_of_words, words_live}
use Rattle.def_agreement.proofs.Numbers.{with_numbers-kept, with_numbers-there, with_numbers-cases, without_numbers-kept, without_numbers-before}
use Rattle.def_agreement.proofs.Pairs.{listed-add, listed-delete, listed-search, live_with-add, live_with-delete, live_with-search, is_live-holds_pair, list_any-words_live, number_within, number_of}
use Rattle.def_agreement.specs.Held.{IsOfDeadPair, HoldsRevoked}

-- after a setup alone nothing is revoked
pub HoldsRevoked-setup : (t : Table) (epoch : ℕ) (s : Setup) → HoldsRevoked t epoch s [] set.empty
HoldsRevoked-setup t epoch s = record {
  there = λ word id listed dead. absurd (true≢false (sym listed ∙ alone (holds_pair s.documents word id) dead));
  only = λ number there. absurd (true≢false (sym there ∙ set.contains-empty (slice_cmp nat_cmp) number));
}
  where
    alone : (b : Bool) → b ≡ false → (b || false) ≡ false
    alone true h = h
    alone false h = refl

-- a search changes nothing
pub HoldsRevoked-search : (t : Table) (epoch : ℕ) (s : Setup) (past : List Command) (other : List ℕ) (revoked : NumberSet) → HoldsRevoked t epoch s past revoked → HoldsRevoked t epoch s (past ++ Search other ∷ []) revoked
HoldsRevoked-search t epoch s past other revoked held = record {
  there = λ word id listed dead. held.there word id (sym (listed-search s past word id other) ∙ listed) (sym (live_with-search s past word id other) ∙ dead);
  only =
      λ number there.
      let pair = held.only number there in
      record {
        word = pair.word;
        id = pair.id;
        listed = listed-search s past pair.word pair.id other ∙ pair.listed;
        dead = live_with-search s past pair.word pair.id other ∙ pair.dead;
        same = pair.same;
      };
}

-- the number of a pair that is listed and not live was drawn
dead_is_drawn : (o : Offsets) (s : Setup) (past : List Command) (c : Command) (word : List ℕ) (id : ℕ) → are_accepted s past ≡ true → is_listed s past word id ≡ true → is_live_with s past word id ≡ false
    → Contains (joined (drawn o (run_of s (past ++ c ∷ [])))) (name o.epoch word Revocation id)
dead_is_drawn o s past c word id accepted listed dead =
    drawn_before o s past c (name o.epoch word Revocation id) (sent_is_drawn o s word id past accepted (listed_dead_was_sent s word id past listed dead))

-- An addition.

module _ (t : Table) (o : Offsets) (s : Setup) (past : List Command) (d : Document) (accepted : are_accepted s past ≡ true) (ok : is_accepted s past (Add d) ≡ true) (revoked : NumberSet) (held : HoldsRevoked t o.epoch s past revoked) where
  abbrev restored : List (List ℕ)
  restored = numbers_of_words t o.epoch d.id (listed_words s past d)

  -- its document isn't live before it
  dead_before : (word : List ℕ) → is_live_with s past word d.id ≡ false
  dead_before word =
      let new = not-true (is_live (live s.documents past) d.id) (and_parts (not (is_live (live s.documents past) d.id)) _ ok).0 in
      false_from_ne_true (is_live_with s past word d.id) (λ living. true≢false (sym (is_live-holds_pair (live s.documents past) word d.id living) ∙ new))

  -- each number that it sends is revoked
  pub restored_are_revoked : AllByRecursion (λ n. not (set.contains revoked n) ≡ false) restored
  restored_are_revoked = AllByRecursion-from_members (λ n. not (set.contains revoked n) ≡ false) restored (λ n within.
      let from = number_of t o.epoch d.id (listed_words s past d) n within in
      let listed = (Contains-of_filter (λ w. is_listed s past w d.id) d.words from.0 from.1).1 in
      ap (λ q. not (set.contains revoked q)) from.2 ∙ ap not (held.there from.0 d.id listed (dead_before from.0)))

  -- after it the numbers of dead pairs are revoked
  pub HoldsRevoked-add : IsTold s.shape t (joined (drawn o (run_of s (past ++ Add d ∷ [])))) → HoldsRevoked t o.epoch s (past ++ Add d ∷ []) (without_numbers revoked restored)
  HoldsRevoked-add told = record { there = there; only = only }
    where
      there : (word : List ℕ) (id : ℕ) → is_listed s (past ++ Add d ∷ []) word id ≡ true → is_live_with s (past ++ Add d ∷ []) word id ≡ false
          → set.contains (without_numbers revoked restored) (t (name o.epoch word Revocation id)) ≡ true
      there word id listed dead =
          let parts = or_parts (is_live_with s past word id) (d.id == id && has_word word d) (sym (live_with-add s past word id d) ∙ dead) in
          ⊎_elim
          (λ before.
          without_numbers-kept revoked restored (t (name o.epoch word Revocation id)) (held.there word id before parts.0)
          (λ within.
          let from = number_of t o.epoch d.id (listed_words s past d) (t (name o.epoch word Revocation id)) within in
          let own = Contains-of_filter (λ w. is_listed s past w d.id) d.words from.0 from.1 in
          let same = told.apart (name o.epoch word Revocation id) (name o.epoch from.0 Revocation d.id)
          (dead_is_drawn o s past (Add d) word id accepted before parts.0)
          (drawn_before o s past (Add d) (name o.epoch from.0 Revocation d.id) (relisted_is_drawn o s past d from.0 accepted ok from.1)) refl refl refl from.2 in
          let has : has_word word d ≡ true = ap (λ (n : Name). has_word n.word d) same ∙ list_any-from_Contains nat_list_eq_equiv from.0 d.words own.0 in
          let id_is : (d.id == id) ≡ true = ap (λ (n : Name). d.id == n.number) same ∙ nat_eq_equiv.refl d.id in
          true≢false (sym (and_from (d.id == id) (has_word word d) id_is has) ∙ parts.1)))
          (λ now. absurd (true≢false (sym now ∙ parts.1)))
          (or_cases (is_listed s past word id) (d.id == id && has_word word d) (sym (listed-add s past word id d) ∙ listed))

      only : (number : List ℕ) → set.contains (without_numbers revoked restored) number ≡ true → IsOfDeadPair t o.epoch s (past ++ Add d ∷ []) number
      only number inside =
          let before = without_numbers-before revoked restored number inside in
          let pair = held.only number before.0 in
          let other : (d.id == pair.id && has_word pair.word d) ≡ false =
          false_from_ne_true (d.id == pair.id && has_word pair.word d) (λ both.
          let parts = and_parts (d.id == pair.id) (has_word pair.word d) both in
          let id_is : pair.id ≡ d.id = sym (eqb-true d.id pair.id parts.0) in
          let sent : Contains restored (t (name o.epoch pair.word Revocation d.id)) =
          number_within t o.epoch d.id (listed_words s past d) pair.word
          (Contains-filter (λ w. is_listed s past w d.id) d.words pair.word (Contains-from_list_any pair.word d.words parts.1) (ap (is_listed s past pair.word) (sym id_is) ∙ pair.listed)) in
          before.1 (subst (Contains restored) (sym (pair.same ∙ ap (λ (n : ℕ). t (name o.epoch pair.word Revocation n)) id_is)) sent)) in
          record {
            word = pair.word;
            id = pair.id;
            listed = listed-add s past pair.word pair.id d ∙ or_left (is_listed s past pair.word pair.id) (d.id == pair.id && has_word pair.word d) pair.listed;
            dead = live_with-add s past pair.word pair.id d ∙ or_from (is_live_with s past pair.word pair.id) (d.id == pair.id && has_word pair.word d) pair.dead other;
            same = pair.same;
          }

-- A deletion.

module _ (t : Table) (o : Offsets) (s : Setup) (past : List Command) (id : ℕ) (accepted : are_accepted s past ≡ true) (told : IsTold s.shape t (joined (drawn o (run_of s (past ++ Delete id ∷ []))))) (revoked : NumberSet) (held : HoldsRevoked t o.epoch s past revoked) where
  abbrev sent : List (List ℕ)
  sent = numbers_of_words t o.epoch id (words_live (live s.documents past) id)

  is_live_word : (word : List ℕ) → Contains (words_live (live s.documents past) id) word → is_live_with s past word id ≡ true
  is_live_word word within = sym (list_any-words_live (live s.documents past) word id) ∙ list_any-from_Contains nat_list_eq_equiv word (words_live (live s.documents past) id) within

  -- none of the numbers that it sends is revoked
  pub sent_are_new : AllByRecursion (λ n. set.contains revoked n ≡ false) sent
  sent_are_new = AllByRecursion-from_members (λ n. set.contains revoked n ≡ false) sent (λ n within.
      let from = number_of t o.epoch id (words_live (live s.documents past) id) n within in
      false_from_ne_true (set.contains revoked n) (λ inside.
      let pair = held.only n inside in
      let same = told.apart (name o.epoch from.0 Revocation id) (name o.epoch pair.word Revocation pair.id)
      (deleted_is_drawn o s past id from.0 accepted from.1) (dead_is_drawn o s past (Delete id) pair.word pair.id accepted pair.listed pair.dead) refl refl refl (sym from.2 ∙ pair.same) in
      true≢false (sym (is_live_word from.0 from.1) ∙ ap (λ (m : Name). is_live_with s past m.word m.number) same ∙ pair.dead)))

  -- after it the numbers of dead pairs are revoked
  pub HoldsRevoked-delete : HoldsRevoked t o.epoch s (past ++ Delete id ∷ []) (with_numbers revoked sent)
  HoldsRevoked-delete = record { there = there; only = only }
    where
      there : (word : List ℕ) (i : ℕ) → is_listed s (past ++ Delete id ∷ []) word i ≡ true → is_live_with s (past ++ Delete id ∷ []) word i ≡ false
          → set.contains (with_numbers revoked sent) (t (name o.epoch word Revocation i)) ≡ true
      there word i listed dead =
          ⊎_elim
          (λ (living : is_live_with s past word i ≡ true).
          ⊎_elim
          (λ (same : (i == id) ≡ true).
          let id_is : i ≡ id = eqb-true i id same in
          let within = Contains-from_list_any word (words_live (live s.documents past) id) (list_any-words_live (live s.documents past) word id ∙ ap (is_live_with s past word) (sym id_is) ∙ living) in
          with_numbers-there revoked sent (t (name o.epoch word Revocation i))
          (subst (Contains sent) (ap (λ (n : ℕ). t (name o.epoch word Revocation n)) (sym id_is)) (number_within t o.epoch id (words_live (live s.documents past) id) word within)))
          (λ (differ : (i == id) ≡ false).
          absurd (true≢false (sym (and_from (not (i == id)) (is_live_with s past word i) (ap not differ) living) ∙ sym (live_with-delete s past word i id) ∙ dead)))
          (cases_Bool (i == id)))
          (λ gone. with_numbers-kept revoked sent (t (name o.epoch word Revocation i)) (held.there word i (sym (listed-delete s past word i id) ∙ listed) gone))
          (cases_Bool (is_live_with s past word i))

      none_live : (b c : Bool) → b ≡ true → (not b && c) ≡ false
      none_live true c h = refl
      none_live false c h = absurd (true≢false (sym h))

      still_dead : (b c : Bool) → c ≡ false → (not b && c) ≡ false
      still_dead true c h = refl
      still_dead false c h = h

      only : (number : List ℕ) → set.contains (with_numbers revoked sent) number ≡ true → IsOfDeadPair t o.epoch s (past ++ Delete id ∷ []) number
      only number inside =
          ⊎_elim
          (λ now.
          let from = number_of t o.epoch id (words_live (live s.documents past) id) number now in
          record {
            word = from.0;
            id = id;
            listed = listed-delete s past from.0 id id ∙ live_pairs_are_listed s from.0 id past (is_live_word from.0 from.1);
            dead = live_with-delete s past from.0 id id ∙ none_live (id == id) (is_live_with s past from.0 id) (nat_eq_equiv.refl id);
            same = from.2;
          })
          (λ before.
          let pair = held.only number before in
          record {
            word = pair.word;
            id = pair.id;
            listed = listed-delete s past pair.word pair.id id ∙ pair.listed;
            dead = live_with-delete s past pair.word pair.id id ∙ still_dead (pair.id == id) (is_live_with s past pair.word pair.id) pair.dead;
            same = pair.same;
          })
          (with_numbers-cases revoked sent number inside)
