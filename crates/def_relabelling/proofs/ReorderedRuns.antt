-- The order of the words inside documents doesn't show: under a table without collision it changes no frame.
use Rattle.std.proofs.Common.{◌≡◌, ℕ, zero, suc, ◌+◌, ◌<◌, Bool, not, ◌&&◌, List, [], ◌∷◌, ◌++◌, length, map, filter, refl, sym, ap, ◌∙◌, subst, arith, append_assoc, zero-add}
use Rattle.std.specs.Prelude.{Contains, bytes_eq, flat_map}
use Rattle.std.specs.List.{AllByRecursion, IsDistinct, list_any, range_with_len}
use Rattle.std.proofs.lemmas.Bool.{true≢false}
use Rattle.std.proofs.lemmas.List.Concat.{flat_map-append, flat_map_single}
use Rattle.std.proofs.lemmas.List.Elements.{All-contains, Contains-append_left, Contains-append_right, Contains-push}
use Rattle.std.proofs.lemmas.Simd.{map-map}
use Rattle.std.proofs.lemmas.Slice.Eq.{bytes_eq-Decides}
use Rattle.client_registry.proofs.DistinctLaws.{IsDistinct-first_seen}
use Rattle.client_registry.proofs.SizedLaws.{IsHistory-front}
use Rattle.client_registry.specs.Acceptance.{dummy_entries, dummy_blocks, frames_needed}
use Rattle.client_registry.specs.Command.{Command, Add, Delete, Search}
use Rattle.client_registry.specs.Document.{Document}
use Rattle.client_registry.specs.Documents.{all_words}
use Rattle.client_registry.specs.Live.{live, is_listed, counter}
use Rattle.client_registry.specs.Over.{over}
use Rattle.client_registry.specs.Run.{Run, Offsets}
use Rattle.client_registry.specs.Setup.{Setup, setup_words}
use Rattle.client_registry.specs.Sized.{IsSizedCommand, IsHistory}
use Rattle.keyed_fn.specs.Xored.{xored}
use Rattle.sse_frames.specs.Frames.{Entry, AddFrame, DeleteFrame, SearchFrame, be64}
use Rattle.sse_frames.specs.Order.{by_bytes}
use Rattle.def_leakage.specs.Firsts.{update_words}
use Rattle.sse_model.proofs.Apart.{IsDistinct-filter}
use Rattle.sse_model.proofs.Collisions.{joined}
use Rattle.sse_model.proofs.Counts.{length-frames_of_setup}
use Rattle.sse_model.proofs.Members.{Contains-map, AllByRecursion-from_members}
use Rattle.sse_model.proofs.Prefixes.{run_of, drawn-append}
use Rattle.sse_model.proofs.SentNumbers.{are_accepted-push, deleted_is_drawn, relisted_is_drawn, added_is_drawn, set_up_is_drawn}
use Rattle.sse_model.specs.Drawn.{drawn_by, drawn, probed, IsCollisionFree}
use Rattle.sse_model.specs.Names.{Name, Table, name, no_word, same_kind, Token, ListLabel, PlaceTag, DummyTag, PlusLabel, PlusPad, Revocation}
use Rattle.sse_model.specs.Positions.{Position, word_blocks, block_position, dummy_entry, dummy_block, entries_from, blocks_from, entry_positions, block_positions, addition_positions, fresh_words, listed_words, sealed}
use Rattle.sse_model.specs.Wire.{words_live, numbers_of_words, frames_of_setup, frames_of, next_number, wire}
use Rattle.def_relabelling.proofs.InAnyOrder.{AreSame, list_any-filter}
use Rattle.def_relabelling.proofs.Orderly.{words_differ}
use Rattle.def_relabelling.proofs.Pairs.{paired-append}
use Rattle.def_relabelling.proofs.ReorderedDocuments.{live_same, words_live_same, updates_same, setup_list_same, setup_words_same, is_listed_same, counter_same}
use Rattle.def_relabelling.proofs.ReorderedSetup.{known_there, setup_frames_same}
use Rattle.def_relabelling.proofs.SortedInAnyOrder.{sorted_same}
use Rattle.def_relabelling.specs.Paired.{Paired}
use Rattle.def_relabelling.specs.Reordered.{HasSameWords, IsSameCommand, IsReordered}

-- the front of a history up to a command
front_of : (run : Run) → IsHistory run → (past : List Command) (c : Command) (rest : List Command) → run.later ≡ past ++ c ∷ rest → IsHistory (run_of run.setup (past ++ c ∷ []))
front_of run history past c rest parts =
    IsHistory-front run.setup (past ++ c ∷ []) rest (subst (λ cs. IsHistory (run_of run.setup cs)) (parts ∙ sym (append_assoc past (c ∷ []) rest)) history)

-- the words of an update differ
differ_in : (run : Run) → IsHistory run → (past : List Command) (c : Command) (rest : List Command) → run.later ≡ past ++ c ∷ rest → IsDistinct bytes_eq (update_words run.setup past c)
differ_in run history past c rest parts =
    let front = front_of run history past c rest parts in
    let before = IsHistory-front run.setup past (c ∷ []) front in
    words_differ run.setup history.collected past before.each before.accepted c (All-contains IsSizedCommand (past ++ c ∷ []) c front.each (Contains-push past c))

-- labels of texts that are told
labels_told : (names : List Name) (epoch : ℕ) (s : Setup) (first : ℕ) (w : List ℕ) (rest : List Position) (a n : ℕ) → AllByRecursion (λ (p : Position). Contains names p.label) (map (block_position epoch s first w) (range_with_len a n) ++ rest)
    → ((j : ℕ) → j < n → Contains names (name epoch w PlaceTag (a + j))) × AllByRecursion (λ (p : Position). Contains names p.label) rest
labels_told names epoch s first w rest a zero all = ((λ j within. absurd (omega (arith, within))), all)
labels_told names epoch s first w rest a (suc n) all =
    let later = labels_told names epoch s first w rest (a + 1) n all.1 in
    ((λ j within. by later.0 j within), later.1)
  where
    by : ((j : ℕ) → j < n → Contains names (name epoch w PlaceTag (a + 1 + j))) → (j : ℕ) → j < suc n → Contains names (name epoch w PlaceTag (a + j))
    by later zero within = subst (λ k. Contains names (name epoch w PlaceTag k)) (let e : a ≡ a + 0 = omega arith in e) all.0
    by later (suc j) within =
        subst (λ k. Contains names (name epoch w PlaceTag k)) (let e : a + 1 + j ≡ a + suc j = omega arith in e)
        (later j (let h : j < n = omega (arith, within) in h))

-- what is so of the items of two lists is so of each list's
parts_told : {X : Type 0} (P : X → Type 0) (xs ys : List X) → AllByRecursion P (xs ++ ys) → AllByRecursion P xs × AllByRecursion P ys
parts_told P [] ys all = (tt, all)
parts_told P (x ∷ xs) ys all = let rest = parts_told P xs ys all.1 in ((all.0, rest.0), rest.1)

-- and what is so of a range's items is so of each
told_at : {X : Type 0} (P : X → Type 0) (f : ℕ → X) (a n : ℕ) → AllByRecursion P (map f (range_with_len a n)) → (j : ℕ) → j < n → P (f (a + j))
told_at P f a zero all j within = absurd (omega (arith, within))
told_at P f a (suc n) all zero within = subst (λ k. P (f k)) (let e : a ≡ a + 0 = omega arith in e) all.0
told_at P f a (suc n) all (suc j) within =
    subst (λ k. P (f k)) (let e : a + 1 + j ≡ a + suc j = omega arith in e) (told_at P f (a + 1) n all.1 j (let h : j < n = omega (arith, within) in h))

-- the label of a word's entry and the tags of its blocks are among these names
abbrev IsKnown : List Name → ℕ → Setup → List ℕ → Type 0
IsKnown names epoch s w = Contains names (name epoch w ListLabel 0) × ((j : ℕ) → j < word_blocks s w → Contains names (name epoch w PlaceTag j))

known_from : (names : List Name) (epoch : ℕ) (s : Setup) (first : ℕ) (words : List (List ℕ)) → AllByRecursion (λ (p : Position). Contains names p.label) (entries_from epoch s first words)
    → AllByRecursion (λ (p : Position). Contains names p.label) (blocks_from epoch s first words) → AllByRecursion (IsKnown names epoch s) words
known_from names epoch s first [] entries blocks = tt
known_from names epoch s first (w ∷ ws) entries blocks =
    let told = labels_told names epoch s first w (blocks_from epoch s (first + word_blocks s w) ws) 0 (word_blocks s w) blocks in
    ((entries.0, λ j within. subst (λ k. Contains names (name epoch w PlaceTag k)) (zero-add j) (told.0 j within)), known_from names epoch s (first + word_blocks s w) ws entries.1 told.1)

module _ (t : Table) (o : Offsets) (run other : Run) (history : IsHistory run) (history2 : IsHistory other) (reordered : IsReordered run other) (free : IsCollisionFree t o run) where
  abbrev s : Setup
  s = run.setup

  abbrev s2 : Setup
  s2 = other.setup

  abbrev names : List Name
  names = flat_map (λ n. n) (drawn o run ++ probed o run)

  -- what is drawn by then is drawn by the run
  in_run : (xs ys : List Command) → run.later ≡ xs ++ ys → (n : Name) → Contains (joined (drawn o (run_of run.setup xs))) n → Contains names n
  in_run xs ys parts n within =
      subst (λ ns. Contains ns n) (sym (flat_map-append (λ n. n) (drawn o run) (probed o run)))
      (Contains-append_left (joined (drawn o run)) (joined (probed o run)) n
      (subst (λ cs. Contains (joined (drawn o (run_of run.setup cs))) n) (sym parts)
      (subst (λ lists. Contains (joined lists) n) (sym (drawn-append o run.setup xs ys))
      (subst (λ ns. Contains ns n) (sym (flat_map-append (λ n. n) (drawn o (run_of run.setup xs)) (over (drawn_by o.epoch run.setup) xs ys)))
      (Contains-append_left (joined (drawn o (run_of run.setup xs))) (joined (over (drawn_by o.epoch run.setup) xs ys)) n within)))))

  -- The setup.

  words_same : AreSame (setup_words run.setup) (setup_words other.setup)
  words_same = record {
    differ = IsDistinct-first_seen (all_words run.setup.documents);
    differ2 = IsDistinct-first_seen (all_words other.setup.documents);
    same = setup_words_same run.setup other.setup reordered.documents;
  }

  abbrev IsTold : Position → Type 0
  IsTold p = Contains names p.label

  told : (p : Position) → Contains (entry_positions o.epoch run.setup ++ block_positions o.epoch run.setup) p → IsTold p
  told p within = in_run [] run.later refl p.label (set_up_is_drawn o run.setup [] p within).0

  entries_told : AllByRecursion IsTold (entries_from o.epoch run.setup 0 (setup_words run.setup))
  entries_told =
      (parts_told IsTold (entries_from o.epoch run.setup 0 (setup_words run.setup)) (map (dummy_entry o.epoch run.setup) (range_with_len 0 (dummy_entries run.setup)))
      (AllByRecursion-from_members IsTold (entry_positions o.epoch run.setup)
      (λ p within. told p (Contains-append_left (entry_positions o.epoch run.setup) (block_positions o.epoch run.setup) p within)))).0

  blocks_told : AllByRecursion IsTold (blocks_from o.epoch run.setup 0 (setup_words run.setup)) × AllByRecursion IsTold (map (dummy_block o.epoch run.setup) (range_with_len 0 (dummy_blocks run.setup)))
  blocks_told =
      parts_told IsTold (blocks_from o.epoch run.setup 0 (setup_words run.setup)) (map (dummy_block o.epoch run.setup) (range_with_len 0 (dummy_blocks run.setup)))
      (AllByRecursion-from_members IsTold (block_positions o.epoch run.setup)
      (λ p within. told p (Contains-append_right (entry_positions o.epoch run.setup) (block_positions o.epoch run.setup) p within)))

  known : AllByRecursion (IsKnown names o.epoch run.setup) (setup_words run.setup)
  known = known_from names o.epoch run.setup 0 (setup_words run.setup) entries_told blocks_told.0

  dummy_told : (j : ℕ) → j < dummy_blocks run.setup → Contains names (name o.epoch no_word DummyTag j)
  dummy_told j within =
      subst (λ k. Contains names (name o.epoch no_word DummyTag k)) (zero-add j)
      (told_at IsTold (dummy_block o.epoch run.setup) 0 (dummy_blocks run.setup) blocks_told.1 j within)

  setups_same : frames_of_setup t o run.setup ≡ frames_of_setup t o other.setup
  setups_same =
      setup_frames_same t o run.setup other.setup reordered.shape reordered.pad (setup_list_same run.setup other.setup reordered.documents) words_same (IsKnown names o.epoch run.setup) known
      (λ v w k k2 same. ap (λ (n : Name). n.word) (free (name o.epoch v ListLabel 0) (name o.epoch w ListLabel 0) k.0 k2.0 refl refl refl same))
      (λ v w i j within inside k k2 same.
      let one = free (name o.epoch v PlaceTag i) (name o.epoch w PlaceTag j) (k.1 i within) (k2.1 j inside) refl refl refl same in
      (ap (λ (n : Name). n.word) one, ap (λ (n : Name). n.number) one))
      (λ i j within inside same. ap (λ (n : Name). n.number) (free (name o.epoch no_word DummyTag i) (name o.epoch no_word DummyTag j) (dummy_told i within) (dummy_told j inside) refl refl refl same))
      (λ w i j within inside k same.
      true≢false (ap (λ (n : Name). same_kind n.kind PlaceTag) (free (name o.epoch w PlaceTag i) (name o.epoch no_word DummyTag j) (k.1 i within) (dummy_told j inside) refl refl refl same)))

  needed_same : frames_needed run.setup ≡ frames_needed other.setup
  needed_same = sym (length-frames_of_setup t o run.setup) ∙ ap length setups_same ∙ length-frames_of_setup t o other.setup

  next_same : (past past2 : List Command) → Paired IsSameCommand past past2 → next_number o run.setup past ≡ next_number o other.setup past2
  next_same past past2 before = λ i. o.frame + needed_same i + updates_same past past2 before i

  -- Numbers.

  numbers_same : (id : ℕ) (ws vs : List (List ℕ)) → AreSame ws vs → ((w : List ℕ) → Contains ws w → Contains names (name o.epoch w Revocation id)) → numbers_of_words t o.epoch id ws ≡ numbers_of_words t o.epoch id vs
  numbers_same id ws vs same told =
      let Known = λ (w : List ℕ). Contains names (name o.epoch w Revocation id) in
      let value = λ (w : List ℕ). t (name o.epoch w Revocation id) in
      let all = AllByRecursion-from_members Known ws told in
      ap (by_bytes (λ number. number)) (sym (flat_map_single value ws))
      ∙ sorted_same (λ (number : List ℕ). number) (λ w. value w ∷ []) Known
      (λ v w k k2 apart. ((λ equal. apart (ap (λ (n : Name). n.word) (free (name o.epoch v Revocation id) (name o.epoch w Revocation id) k k2 refl refl refl equal)), tt), tt))
      ws vs same all (known_there Known ws vs same all)
      ∙ ap (by_bytes (λ number. number)) (flat_map_single value vs)

  -- Additions.

  module _ (past past2 : List Command) (before : Paired IsSameCommand past past2) (d d2 : Document) (rest rest2 : List Command) (parts : run.later ≡ past ++ Add d ∷ rest) (parts2 : other.later ≡ past2 ++ Add d2 ∷ rest2) (same : HasSameWords d d2) where
    listed_same : (w : List ℕ) → is_listed run.setup past w d.id ≡ is_listed other.setup past2 w d2.id
    listed_same w = is_listed_same run.setup other.setup reordered.documents past past2 before w d.id ∙ ap (is_listed other.setup past2 w) same.0

    kept_same : (p q : List ℕ → Bool) → ((w : List ℕ) → p w ≡ q w) → AreSame (filter p d.words) (filter q d2.words)
    kept_same p q even = record {
      differ = IsDistinct-filter bytes_eq bytes_eq-Decides p d.words (differ_in run history past (Add d) rest parts);
      differ2 = IsDistinct-filter bytes_eq bytes_eq-Decides q d2.words (differ_in other history2 past2 (Add d2) rest2 parts2);
      same = λ w. list_any-filter w p d.words ∙ (λ i. same.1 w i && even w i) ∙ sym (list_any-filter w q d2.words);
    }

    abbrev added : Setup → List Command → ℕ → List ℕ → Position
    added s past id word = record { label = name o.epoch word PlusLabel (counter s past word); pad = name o.epoch word PlusPad (counter s past word); clear = λ ranks. be64 id }

    abbrev entry : Setup → List Command → ℕ → List ℕ → Entry
    entry s past id word = record { label = t (name o.epoch word PlusLabel (counter s past word)); text = xored (be64 id) (t (name o.epoch word PlusPad (counter s past word))) }

    entries_same : by_bytes (λ (entry : Entry). entry.label) (map (sealed t []) (addition_positions o.epoch run.setup past d)) ≡ by_bytes (λ (entry : Entry). entry.label) (map (sealed t []) (addition_positions o.epoch other.setup past2 d2))
    entries_same =
        let Known = λ (w : List ℕ). Contains names (name o.epoch w PlusLabel (counter run.setup past w)) in
        let ws = fresh_words run.setup past d in
        let vs = fresh_words other.setup past2 d2 in
        let label = λ (x : Entry). x.label in
        let fresh = kept_same (λ w. not (is_listed run.setup past w d.id)) (λ w. not (is_listed other.setup past2 w d2.id)) (λ w. ap not (listed_same w)) in
        let all : AllByRecursion Known ws =
        AllByRecursion-from_members Known ws
        (λ w within. in_run (past ++ Add d ∷ []) rest (parts ∙ sym (append_assoc past (Add d ∷ []) rest)) (name o.epoch w PlusLabel (counter run.setup past w))
        (added_is_drawn o run.setup past d (added run.setup past d.id w) (Contains-map (added run.setup past d.id) ws w within)).0) in
        ap (by_bytes label) (map-map (sealed t []) (added run.setup past d.id) ws ∙ sym (flat_map_single (entry run.setup past d.id) ws))
        ∙ sorted_same label (λ w. entry run.setup past d.id w ∷ []) Known
        (λ v w k k2 apart.
        ((λ equal. apart (ap (λ (n : Name). n.word) (free (name o.epoch v PlusLabel (counter run.setup past v)) (name o.epoch w PlusLabel (counter run.setup past w)) k k2 refl refl refl equal)), tt), tt))
        ws vs fresh all (known_there Known ws vs fresh all)
        ∙ ap (by_bytes label) (flat_map_single (entry run.setup past d.id) vs)
        ∙ (λ i. by_bytes label (map (λ w. record {
          label = t (name o.epoch w PlusLabel (counter_same run.setup other.setup reordered.documents past past2 before w i));
          text = xored (be64 (same.0 i)) (t (name o.epoch w PlusPad (counter_same run.setup other.setup reordered.documents past past2 before w i)));
        }) vs))
        ∙ ap (by_bytes label) (sym (map-map (sealed t []) (added other.setup past2 d2.id) vs))

    old_same : numbers_of_words t o.epoch d.id (listed_words run.setup past d) ≡ numbers_of_words t o.epoch d2.id (listed_words other.setup past2 d2)
    old_same =
        let accepted = are_accepted-push run.setup past (Add d) (front_of run history past (Add d) rest parts).accepted in
        numbers_same d.id (listed_words run.setup past d) (listed_words other.setup past2 d2)
        (kept_same (λ w. is_listed run.setup past w d.id) (λ w. is_listed other.setup past2 w d2.id) listed_same)
        (λ w within. in_run past (Add d ∷ rest) parts (name o.epoch w Revocation d.id) (relisted_is_drawn o run.setup past d w accepted.0 accepted.1 within))
        ∙ ap (λ id. numbers_of_words t o.epoch id (listed_words other.setup past2 d2)) same.0

  -- One command.

  one_same : (past past2 : List Command) → Paired IsSameCommand past past2 → (c c2 : Command) (rest rest2 : List Command) → run.later ≡ past ++ c ∷ rest → other.later ≡ past2 ++ c2 ∷ rest2 → IsSameCommand c c2
      → frames_of t o.epoch run.setup (next_number o run.setup past) past c ≡ frames_of t o.epoch other.setup (next_number o other.setup past2) past2 c2
  one_same past past2 before (Add d) (Add d2) rest rest2 parts parts2 same =
      λ i. AddFrame (next_same past past2 before i) (entries_same past past2 before d d2 rest rest2 parts parts2 same i) (old_same past past2 before d d2 rest rest2 parts parts2 same i) ∷ []
  one_same past past2 before (Delete id) (Delete id2) rest rest2 parts parts2 same =
      let accepted = are_accepted-push run.setup past (Delete id) (front_of run history past (Delete id) rest parts).accepted in
      let docs = live_same run.setup.documents other.setup.documents reordered.documents past past2 before in
      let words : AreSame (words_live (live run.setup.documents past) id) (words_live (live other.setup.documents past2) id2) = record {
        differ = differ_in run history past (Delete id) rest parts;
        differ2 = differ_in other history2 past2 (Delete id2) rest2 parts2;
        same = λ w. words_live_same (live run.setup.documents past) (live other.setup.documents past2) docs w id ∙ ap (λ n. list_any (bytes_eq w) (words_live (live other.setup.documents past2) n)) same;
      } in
      let numbers = numbers_same id (words_live (live run.setup.documents past) id) (words_live (live other.setup.documents past2) id2) words
      (λ w within. in_run (past ++ Delete id ∷ []) rest (parts ∙ sym (append_assoc past (Delete id ∷ []) rest)) (name o.epoch w Revocation id) (deleted_is_drawn o run.setup past id w accepted.0 within)) in
      λ i. DeleteFrame (next_same past past2 before i) ((numbers ∙ ap (λ n. numbers_of_words t o.epoch n (words_live (live other.setup.documents past2) id2)) same) i) ∷ []
  one_same past past2 before (Search word) (Search word2) rest rest2 parts parts2 same = ap (λ w. SearchFrame (t (name o.epoch w Token 0)) ∷ []) same
  one_same past past2 before (Add d) (Delete id) rest rest2 parts parts2 same = absurd same
  one_same past past2 before (Add d) (Search word) rest rest2 parts parts2 same = absurd same
  one_same past past2 before (Delete id) (Add d) rest rest2 parts parts2 same = absurd same
  one_same past past2 before (Delete id) (Search word) rest rest2 parts parts2 same = absurd same
  one_same past past2 before (Search word) (Add d) rest rest2 parts parts2 same = absurd same
  one_same past past2 before (Search word) (Delete id) rest rest2 parts parts2 same = absurd same

  later_same : (past past2 later later2 : List Command) → run.later ≡ past ++ later → other.later ≡ past2 ++ later2 → Paired IsSameCommand past past2 → Paired IsSameCommand later later2
      → over (λ past c. frames_of t o.epoch run.setup (next_number o run.setup past) past c) past later ≡ over (λ past c. frames_of t o.epoch other.setup (next_number o other.setup past) past c) past2 later2
  later_same past past2 [] [] parts parts2 before same = refl
  later_same past past2 [] (y ∷ ys) parts parts2 before same = absurd same
  later_same past past2 (x ∷ xs) [] parts parts2 before same = absurd same
  later_same past past2 (x ∷ xs) (y ∷ ys) parts parts2 before same =
      λ i. one_same past past2 before x y xs ys parts parts2 same.0 i
      ∷ later_same (past ++ x ∷ []) (past2 ++ y ∷ []) xs ys (parts ∙ sym (append_assoc past (x ∷ []) xs)) (parts2 ∙ sym (append_assoc past2 (y ∷ []) ys))
      (paired-append IsSameCommand past (x ∷ []) past2 (y ∷ []) before (same.0, tt)) same.1 i

  -- Promise P157 (inside): Histories that differ only in the order of words within documents send and receive the same bytes under the same keys.
  --   assumes: no collision, kept limits
  -- The order of the words inside documents changes no frame, where the table gives each word, kind and number the same value in both
  -- runs, and names that have to differ different ones. So the places of words in the leakage tell nothing of the words.
  pub wire_reordered : wire t o run ≡ wire t o other
  wire_reordered = λ i. setups_same i ∷ later_same [] [] run.later other.later refl refl tt reordered.later i
