-- What additions make of the additions that a server holds: those of each word from 0 to its counter.
use Rattle.std.proofs.Common.{◌≡◌, ◌≢◌, ℕ, suc, ◌<◌, ◌≤◌, true, not, List, [], ◌∷◌, ◌++◌, length, map, Some, None, refl, sym, ap, ◌∙◌, subst, ⊎_elim, arith}
use Rattle.std.specs.Prelude.{Contains, slice_index}
use Rattle.std.specs.FinMap as finmap
use Rattle.std.specs.Ordering.{nat_cmp}
use Rattle.std.specs.Cmp.Lexicographic.{slice_cmp}
use Rattle.std.proofs.lemmas.Bool.{cases_lt, not-true}
use Rattle.std.proofs.lemmas.Cmp.{nat_list_eq_equiv}
use Rattle.std.proofs.lemmas.List.{length-append, length-map, get_or_append_left}
use Rattle.std.proofs.lemmas.Map.Views.{list_any-from_Contains}
use Rattle.std.proofs.Math.Seq.{get_or-append_seam}
use Rattle.client_registry.proofs.ShownLaws.{are_accepted}
use Rattle.client_registry.specs.Command.{Command, Add, Delete, Search}
use Rattle.client_registry.specs.Document.{Document}
use Rattle.client_registry.specs.DocumentRule.{IsDocument}
use Rattle.client_registry.specs.Live.{is_listed, added_list, counter}
use Rattle.client_registry.specs.Run.{Offsets}
use Rattle.client_registry.specs.Setup.{Setup}
use Rattle.client_registry.specs.Sized.{is_accepted}
use Rattle.keyed_fn.specs.Xored.{xored}
use Rattle.server_tables.specs.Contents.{CellMap}
use Rattle.server_core.specs.Step.{with_entries}
use Rattle.sse_frames.proofs.Sorted.{AllDiffer, length-by_bytes}
use Rattle.sse_frames.specs.Frames.{Entry, labels_of, be64}
use Rattle.sse_frames.specs.Order.{by_bytes}
use Rattle.sse_model.proofs.Collisions.{joined}
use Rattle.sse_model.proofs.Members.{AllByRecursion-from_members, Contains-map, Contains-of_filter}
use Rattle.sse_model.proofs.Prefixes.{run_of}
use Rattle.sse_model.proofs.SealedEntries.{IsTold}
use Rattle.sse_model.proofs.SentNumbers.{drawn_before, added_is_drawn, relisted_is_drawn}
use Rattle.sse_model.proofs.UpdateGrammar.{add_in_grammar}
use Rattle.sse_model.specs.Drawn.{drawn}
use Rattle.sse_model.specs.Names.{Name, Table, name, PlusLabel, PlusPad, Revocation}
use Rattle.sse_model.specs.Positions.{sealed, addition_positions, fresh_words}
use Rattle.def_agreement.proofs.Counted.{addition_position, added-cases, added-fresh, added-delete, added-search, counted_is_drawn}
use Rattle.def_agreement.proofs.Dictionary.{AreNew, AreNew-missing, AllDiffer-rising, len-new, get-new, get-new_kept, get-with_entries_others, Contains-by_bytes}
use Rattle.def_agreement.proofs.Numbers.{Contains-of_by_bytes}
use Rattle.def_agreement.proofs.Pairs.{Contains-of_map}
use Rattle.def_agreement.specs.Held.{HoldsAdditions}

-- after a setup alone there are none
pub HoldsAdditions-setup : (t : Table) (epoch : ℕ) (s : Setup) → HoldsAdditions t epoch s [] finmap.empty
HoldsAdditions-setup t epoch s = record {
  there = λ word c below. absurd (omega (arith, below));
  missing = λ label others. finmap.get-empty (slice_cmp nat_cmp) label;
  enough = λ word. omega arith;
}

-- nor does a command change them that adds none
HoldsAdditions-same : (t : Table) (epoch : ℕ) (s : Setup) (past now : List Command) (additions : CellMap) → ((word : List ℕ) → added_list s now word ≡ added_list s past word)
    → HoldsAdditions t epoch s past additions → HoldsAdditions t epoch s now additions
HoldsAdditions-same t epoch s past now additions same held = record {
  there =
      λ word c below.
      held.there word c (omega (arith, below, ap length (same word)))
      ∙ ap (λ ids. Some (xored (be64 (slice_index ids c)) (t (name epoch word PlusPad c)))) (sym (same word));
  missing = λ label others. held.missing label (λ word c below. others word c (omega (arith, below, ap length (same word))));
  enough = λ word. omega (arith, held.enough word, ap length (same word));
}

pub HoldsAdditions-delete : (t : Table) (epoch : ℕ) (s : Setup) (past : List Command) (id : ℕ) (additions : CellMap) → HoldsAdditions t epoch s past additions → HoldsAdditions t epoch s (past ++ Delete id ∷ []) additions
HoldsAdditions-delete t epoch s past id additions held = HoldsAdditions-same t epoch s past (past ++ Delete id ∷ []) additions (λ word. added-delete s past word id) held

pub HoldsAdditions-search : (t : Table) (epoch : ℕ) (s : Setup) (past : List Command) (other : List ℕ) (additions : CellMap) → HoldsAdditions t epoch s past additions → HoldsAdditions t epoch s (past ++ Search other ∷ []) additions
HoldsAdditions-search t epoch s past other additions held = HoldsAdditions-same t epoch s past (past ++ Search other ∷ []) additions (λ word. added-search s past word other) held

module _ (t : Table) (o : Offsets) (s : Setup) (past : List Command) (d : Document) (valid : IsDocument d) (accepted : are_accepted s past ≡ true) (ok : is_accepted s past (Add d) ≡ true)
    (told : IsTold s.shape t (joined (drawn o (run_of s (past ++ Add d ∷ []))))) (additions : CellMap) (held : HoldsAdditions t o.epoch s past additions) where
  abbrev label_of : List ℕ → Name
  label_of word = name o.epoch word PlusLabel (counter s past word)

  -- the new entry of a word
  abbrev entry_of : List ℕ → Entry
  entry_of word = sealed t [] (addition_position o.epoch s past d.id word)

  abbrev entries : List Entry
  entries = map (sealed t []) (addition_positions o.epoch s past d)

  abbrev sorted : List Entry
  sorted = by_bytes (λ entry. entry.label) entries

  named : (word : List ℕ) → Contains (fresh_words s past d) word → Contains (joined (drawn o (run_of s (past ++ Add d ∷ [])))) (label_of word)
  named word within = (added_is_drawn o s past d (addition_position o.epoch s past d.id word) (Contains-map (addition_position o.epoch s past d.id) (fresh_words s past d) word within)).0

  entry_from : (e : Entry) → Contains sorted e → (word : List ℕ) × Contains (fresh_words s past d) word × (e ≡ entry_of word)
  entry_from e within =
      let position = Contains-of_map (sealed t []) (addition_positions o.epoch s past d) e (Contains-of_by_bytes (λ (entry : Entry). entry.label) entries e within) in
      let from = Contains-of_map (addition_position o.epoch s past d.id) (fresh_words s past d) position.0 position.1 in
      (from.0, from.1, position.2 ∙ ap (sealed t []) from.2)

  differ : AllDiffer (labels_of sorted)
  differ =
      AllDiffer-rising (labels_of sorted)
      (add_in_grammar t o.epoch s (joined (drawn o (run_of s (past ++ Add d ∷ [])))) told past d valid (added_is_drawn o s past d)
      (λ w within. drawn_before o s past (Add d) (name o.epoch w Revocation d.id) (relisted_is_drawn o s past d w accepted ok within)) 0 (omega arith)).rises

  -- the labels of its entries are new
  pub added_are_new : AreNew additions sorted
  added_are_new =
      AreNew-missing additions sorted
      (AllByRecursion-from_members (λ e. finmap.get additions e.label ≡ None) sorted (λ e within.
      let from = entry_from e within in
      ap (λ (x : Entry). finmap.get additions x.label) from.2
      ∙ held.missing (t (label_of from.0)) (λ word c below same.
      let one = told.apart (label_of from.0) (name o.epoch word PlusLabel c) (named from.0 from.1) (drawn_before o s past (Add d) (name o.epoch word PlusLabel c) (counted_is_drawn o s word c past below)) refl refl refl same in
      omega (arith, below, ap (λ (n : Name). n.number) one, ap (λ (n : Name). counter s past n.word) one))))
      differ

  one_more : (word : List ℕ) → Contains (fresh_words s past d) word → counter s (past ++ Add d ∷ []) word ≡ suc (counter s past word)
  one_more word within =
      let own = Contains-of_filter (λ w. not (is_listed s past w d.id)) d.words word within in
      let now = added-fresh s past word d (list_any-from_Contains nat_list_eq_equiv word d.words own.0) (not-true (is_listed s past word d.id) own.1) in
      omega (arith, ap length now, length-append (added_list s past word) (d.id ∷ []))

  -- after it the additions of each word from 0 to its counter are there
  pub HoldsAdditions-add : HoldsAdditions t o.epoch s (past ++ Add d ∷ []) (with_entries additions sorted)
  HoldsAdditions-add = record { there = there; missing = missing; enough = enough }
    where
      text : List ℕ → ℕ → List ℕ → List ℕ
      text word c ids = xored (be64 (slice_index ids c)) (t (name o.epoch word PlusPad c))

      before : (word : List ℕ) (c : ℕ) → c < counter s past word → finmap.get (with_entries additions sorted) (t (name o.epoch word PlusLabel c)) ≡ Some (text word c (added_list s past word))
      before word c below = get-new_kept additions sorted (t (name o.epoch word PlusLabel c)) (text word c (added_list s past word)) added_are_new (held.there word c below)

      last : (word : List ℕ) → Contains (fresh_words s past d) word
          → finmap.get (with_entries additions sorted) (t (label_of word)) ≡ Some (text word (counter s past word) (added_list s past word ++ d.id ∷ []))
      last word within =
          get-new additions sorted (entry_of word) added_are_new
          (Contains-by_bytes (λ (entry : Entry). entry.label) entries (entry_of word)
          (Contains-map (sealed t []) (addition_positions o.epoch s past d) (addition_position o.epoch s past d.id word) (Contains-map (addition_position o.epoch s past d.id) (fresh_words s past d) word within)))
          ∙ ap (λ id. Some (xored (be64 id) (t (name o.epoch word PlusPad (counter s past word))))) (sym (get_or-append_seam (added_list s past word) d.id [] 0))

      there : (word : List ℕ) (c : ℕ) → c < counter s (past ++ Add d ∷ []) word
          → finmap.get (with_entries additions sorted) (t (name o.epoch word PlusLabel c)) ≡ Some (text word c (added_list s (past ++ Add d ∷ []) word))
      there word c below =
          ⊎_elim
          (λ same. before word c (omega (arith, below, ap length same)) ∙ ap (λ ids. Some (text word c ids)) (sym same))
          (λ new.
          ⊎_elim
          (λ (old : c < counter s past word).
          before word c old ∙ ap (λ id. Some (xored (be64 id) (t (name o.epoch word PlusPad c)))) (sym (get_or_append_left (added_list s past word) (d.id ∷ []) 0 c old)) ∙ ap (λ ids. Some (text word c ids)) (sym new.0))
          (λ (past_all : counter s past word ≤ c).
          let at : counter s past word ≡ c = omega (arith, below, past_all, ap length new.0, length-append (added_list s past word) (d.id ∷ [])) in
          subst (λ (n : ℕ). finmap.get (with_entries additions sorted) (t (name o.epoch word PlusLabel n)) ≡ Some (text word n (added_list s past word ++ d.id ∷ []))) at (last word new.1)
          ∙ ap (λ ids. Some (text word c ids)) (sym new.0))
          (cases_lt c (counter s past word)))
          (added-cases s past word d)

      missing : (label : List ℕ) → ((word : List ℕ) (c : ℕ) → c < counter s (past ++ Add d ∷ []) word → label ≢ t (name o.epoch word PlusLabel c)) → finmap.get (with_entries additions sorted) label ≡ None
      missing label others =
          get-with_entries_others additions sorted label
          (AllByRecursion-from_members (λ e. label ≢ e.label) sorted (λ e within same.
          let from = entry_from e within in
          others from.0 (counter s past from.0) (omega (arith, one_more from.0 from.1)) (same ∙ ap (λ (x : Entry). x.label) from.2)))
          ∙ held.missing label (λ word c below. others word c (omega (arith, below, more word)))
        where
          more : (word : List ℕ) → counter s past word ≤ counter s (past ++ Add d ∷ []) word
          more word =
              ⊎_elim (λ same. omega (arith, ap length same)) (λ new. omega (arith, ap length new.0, length-append (added_list s past word) (d.id ∷ []))) (added-cases s past word d)

      enough : (word : List ℕ) → counter s (past ++ Add d ∷ []) word ≤ finmap.len (with_entries additions sorted)
      enough word =
          let len = len-new additions sorted added_are_new in
          ⊎_elim (λ same. omega (arith, ap length same, held.enough word, len))
          (λ new.
          omega (
            arith,
            ap length new.0,
            length-append (added_list s past word) (d.id ∷ []),
            held.enough word,
            len,
            length-by_bytes (λ (entry : Entry). entry.label) entries,
            length-map (addition_positions o.epoch s past d) (sealed t []),
            length-map (fresh_words s past d) (addition_position o.epoch s past d.id),
            new.1.1,
          ))
          (added-cases s past word d)
