-- What a server that holds what a run's commands leave makes of the frame of one command more.
use Rattle.std.proofs.Common.{◌≡◌, ℕ, ◌+◌, true, List, [], ◌∷◌, ◌++◌, length, map, filter, Some, None, refl, ap, ◌∙◌, arith}
use Rattle.std.specs.Prelude.{Contains, ◌==◌, not}
use Rattle.std.specs.Option.{option_map_or}
use Rattle.std.specs.FinMap as finmap
use Rattle.std.specs.FinSet as set
use Rattle.std.proofs.lemmas.Cmp.{nat_eq_equiv}
use Rattle.std.proofs.lemmas.List.{length-append}
use Rattle.std.proofs.lemmas.List.Elements.{All-contains, All-from_recursion, Contains-push, filter-append}
use Rattle.keyed_fn.specs.KeyedFn.{KeyedFn, IsKeyedFn}
use Rattle.client_registry.proofs.SizedLaws.{IsHistory-front}
use Rattle.client_registry.specs.Command.{Command, Add, Delete, Search, is_update}
use Rattle.client_registry.specs.Live as live
use Rattle.client_registry.specs.Run.{Offsets}
use Rattle.client_registry.specs.Setup.{Setup, setup_list}
use Rattle.client_registry.specs.Sized.{IsHistory, is_accepted, IsSizedCommand}
use Rattle.client_registry.proofs.ShownLaws.{are_accepted}
use Rattle.search_token.proofs.TokenLaws.{keys_of_bytes-token_of}
use Rattle.search_token.specs.TokenKeys.{TokenKeys, token_keys, keys_of_bytes}
use Rattle.server_core.specs.Refusal.{in_place, clash, is_next, first_of_two, clash_at}
use Rattle.server_core.specs.Search.{search_result, setup_ids}
use Rattle.server_core.specs.State.{ServerState, is_ready}
use Rattle.server_core.specs.Step.{taken, answers}
use Rattle.sse_frames.specs.Frames.{FrameText, AddFrame, DeleteFrame}
use Rattle.sse_frames.specs.Order.{by_bytes}
use Rattle.sse_frames.specs.Replies.{BadList}
use Rattle.sse_frames.specs.SentParts.{pages}
use Rattle.sse_model.proofs.Collisions.{joined}
use Rattle.sse_model.proofs.KeyValues.{IsValue-table}
use Rattle.sse_model.proofs.LabelsApart.{IsOfClass, entries_have_labels}
use Rattle.sse_model.proofs.Prefixes.{run_of, frames_by}
use Rattle.sse_model.proofs.SealedEntries.{IsTold, IsTold-drawn}
use Rattle.sse_model.proofs.SentNumbers.{are_accepted-push}
use Rattle.sse_model.specs.Drawn.{drawn, is_compared, IsCollisionFree}
use Rattle.sse_model.specs.Names.{Table, table, name, ListLabel, ListLabels, Token}
use Rattle.sse_model.specs.Positions.{Position, entry_positions, sealed, addition_positions, listed_words}
use Rattle.sse_model.specs.Wire.{numbers_of_words, words_live, replies_of, next_number}
use Rattle.def_agreement.proofs.HeldAdditions.{HoldsAdditions-add, HoldsAdditions-delete, HoldsAdditions-search, added_are_new}
use Rattle.def_agreement.proofs.Dictionary.{first_known-new}
use Rattle.def_agreement.proofs.Numbers.{position_from-none}
use Rattle.def_agreement.proofs.HeldRevocations.{HoldsRevoked-add, HoldsRevoked-delete, HoldsRevoked-search, restored_are_revoked, sent_are_new}
use Rattle.def_agreement.proofs.SearchAnswers.{is_drawn, label_looked_up, searched-held}
use Rattle.def_agreement.proofs.SetupHeld.{setup_ids-held}
use Rattle.def_agreement.proofs.Tags.{label_is_drawn}
use Rattle.def_agreement.specs.Agreement.{search_for}
use Rattle.def_agreement.specs.Held.{Holds}

module _ (f : KeyedFn) (laws : IsKeyedFn f) (keys : ℕ → List ℕ) (o : Offsets) (s : Setup) where
  abbrev t : Table
  t = table f s.shape keys

  -- what a run without collisions draws is told
  pub told : (cs : List Command) → IsCollisionFree t o (run_of s cs) → IsTold s.shape t (joined (drawn o (run_of s cs)))
  told cs free = IsTold-drawn t o (run_of s cs) free (λ n within. IsValue-table f laws s.shape keys n)

  -- the one frame of a command
  abbrev pub frame_of : List Command → Command → FrameText
  frame_of past (Add d) =
      AddFrame (next_number o s past) (by_bytes (λ entry. entry.label) (map (sealed t []) (addition_positions o.epoch s past d))) (numbers_of_words t o.epoch d.id (listed_words s past d))
  frame_of past (Delete id) = DeleteFrame (next_number o s past) (numbers_of_words t o.epoch id (words_live (live.live s.documents past) id))
  frame_of past (Search word) = search_for t o word

  pub frames_by-one : (past : List Command) (c : Command) → frames_by t o s past c ≡ frame_of past c ∷ []
  frames_by-one past (Add d) = refl
  frames_by-one past (Delete id) = refl
  frames_by-one past (Search word) = refl

  -- A search.

  -- a search of a word that looks up no collision finds what the run shows
  pub search_result-held : (past : List Command) (word : List ℕ) (state : ServerState) → IsHistory (run_of s past) → IsCollisionFree t o (run_of s (past ++ Search word ∷ [])) → Holds t o s past state
      → search_result f state (keys_of_bytes (t (name o.epoch word Token 0))) ≡ Some (live.shown s past word)
  search_result-held past word state history free held =
      ap (search_result f state) (keys_of_bytes-token_of f laws (keys o.epoch) word)
      ∙ searched-held f keys o s past history.each history.accepted word free (finmap.get state.dictionary) state.array state.additions state.revoked setup held.additions held.revoked
    where
      word_keys : TokenKeys
      word_keys = token_keys f (keys o.epoch) word

      alone : (p : Position) → Contains (entry_positions o.epoch s) p → t p.label ≡ t (name o.epoch word ListLabel 0) → p.label ≡ name o.epoch word ListLabel 0
      alone p within same =
          let is = All-contains (IsOfClass o.epoch ListLabels) (entry_positions o.epoch s) p (All-from_recursion (IsOfClass o.epoch ListLabels) (entry_positions o.epoch s) (entries_have_labels o.epoch s)) within in
          free p.label (name o.epoch word ListLabel 0)
          (is_drawn f keys o s past history.each history.accepted word free p.label (label_is_drawn o (run_of s past) p within))
          (label_looked_up f keys o s past history.each history.accepted word free) is.0 is.1 (ap is_compared is.1) same

      setup : setup_ids f word_keys (finmap.get state.dictionary) state.array ≡ Some (setup_list s word)
      setup = setup_ids-held f keys o.epoch s history.collected history.setup word state.dictionary state.array held.setup alone

  -- A command.

  -- its frame has the number that the server expects
  pub has_next : (past : List Command) (c : Command) (state : ServerState) → Holds t o s past state → is_next state (frame_of past c) ≡ true
  has_next past (Add d) state held = ap (λ n. next_number o s past == n) held.next ∙ nat_eq_equiv.refl (next_number o s past)
  has_next past (Delete id) state held = ap (λ n. next_number o s past == n) held.next ∙ nat_eq_equiv.refl (next_number o s past)
  has_next past (Search word) state held = refl

  -- it fits the server's stage
  pub is_fitting : (past : List Command) (c : Command) (state : ServerState) → Holds t o s past state → in_place state (frame_of past c) ≡ true
  is_fitting past (Add d) state held = ap is_ready held.ready
  is_fitting past (Delete id) state held = ap is_ready held.ready
  is_fitting past (Search word) state held = ap is_ready held.ready

  next_push : (past : List Command) (c : Command) → next_number o s (past ++ c ∷ []) ≡ next_number o s past + length (filter is_update (c ∷ []))
  next_push past c = omega (arith, ap length (filter-append is_update past (c ∷ [])), length-append (filter is_update past) (filter is_update (c ∷ [])))

  module _ (past : List Command) (state : ServerState) (held : Holds t o s past state) where
    accepted : (c : Command) → IsHistory (run_of s (past ++ c ∷ [])) → (are_accepted s past ≡ true) × (is_accepted s past c ≡ true)
    accepted c history = are_accepted-push s past c history.accepted

    valid : (c : Command) → IsHistory (run_of s (past ++ c ∷ [])) → IsSizedCommand c
    valid c history = All-contains IsSizedCommand (past ++ c ∷ []) c history.each (Contains-push past c)

    -- it collides with nothing that the server holds
    pub has_no_clash : (c : Command) → IsHistory (run_of s (past ++ c ∷ [])) → IsCollisionFree t o (run_of s (past ++ c ∷ [])) → clash state (frame_of past c) ≡ None
    has_no_clash (Add d) history free =
        let ok = accepted (Add d) history in
        λ i. first_of_two
        (clash_at 2 (first_known-new state.additions _ (added_are_new t o s past d (valid (Add d) history) ok.0 ok.1 (told (past ++ Add d ∷ []) free) state.additions held.additions) i))
        (clash_at 3 (position_from-none (λ n. not (set.contains state.revoked n)) 0 _ (restored_are_revoked t o s past d ok.0 ok.1 state.revoked held.revoked) i))
    has_no_clash (Delete id) history free =
        ap (clash_at 3) (position_from-none (set.contains state.revoked) 0 _ (sent_are_new t o s past id (accepted (Delete id) history).0 (told (past ++ Delete id ∷ []) free) state.revoked held.revoked))
    has_no_clash (Search word) history free = refl

    -- and the server that takes it holds what the commands leave with this one
    pub holds-taken : (c : Command) → IsHistory (run_of s (past ++ c ∷ [])) → IsCollisionFree t o (run_of s (past ++ c ∷ [])) → Holds t o s (past ++ c ∷ []) (taken state (frame_of past c))
    holds-taken (Add d) history free =
        let ok = accepted (Add d) history in
        let names = told (past ++ Add d ∷ []) free in
        record {
          ready = held.ready;
          next = omega (arith, held.next, next_push past (Add d));
          setup = held.setup;
          additions = HoldsAdditions-add t o s past d (valid (Add d) history) ok.0 ok.1 names state.additions held.additions;
          revoked = HoldsRevoked-add t o s past d ok.0 ok.1 state.revoked held.revoked names;
        }
    holds-taken (Delete id) history free = record {
      ready = held.ready;
      next = omega (arith, held.next, next_push past (Delete id));
      setup = held.setup;
      additions = HoldsAdditions-delete t o.epoch s past id state.additions held.additions;
      revoked = HoldsRevoked-delete t o s past id (accepted (Delete id) history).0 (told (past ++ Delete id ∷ []) free) state.revoked held.revoked;
    }
    holds-taken (Search word) history free = record {
      ready = held.ready;
      next = omega (arith, held.next, next_push past (Search word));
      setup = held.setup;
      additions = HoldsAdditions-search t o.epoch s past word state.additions held.additions;
      revoked = HoldsRevoked-search t o.epoch s past word state.revoked held.revoked;
    }

    -- what it is answered is what the run is replied
    pub answers-held : (c : Command) → IsHistory (run_of s (past ++ c ∷ [])) → IsCollisionFree t o (run_of s (past ++ c ∷ [])) → answers f state (frame_of past c) ≡ replies_of o s past c
    answers-held (Add d) history free = refl
    answers-held (Delete id) history free = refl
    answers-held (Search word) history free =
        ap (λ ids. option_map_or pages ids (BadList ∷ [])) (search_result-held past word state (IsHistory-front s past (Search word ∷ []) history) free held)
