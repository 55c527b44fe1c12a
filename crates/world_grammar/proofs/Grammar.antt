-- The frames of accepted commands, and those of searches, are in the grammar.
use Rattle.std.proofs.Common.{◌≡◌, ℕ, zero, suc, ◌+◌, ◌^◌, ◌&&◌, Bool, true, false, Option, List, [], ◌∷◌, ◌++◌, map, slice_get, is_none, nat_lt, None, Some, refl, sym, ap, ◌∙◌, subst, arith}
use Rattle.std.specs.Prelude.{not}
use Rattle.std.specs.List.{AllByRecursion}
use Rattle.std.proofs.lemmas.Bool.{true≢false, ltb-true}
use Rattle.keyed_fn.specs.KeyedFn.{KeyedFn, IsKeyedFn}
use Rattle.keyed_fn.specs.KeyFormulas.{token_of}
use Rattle.client_registry.proofs.FromEnd.{from_end}
use Rattle.client_registry.proofs.OrderLaws.{AreApart-from_IsDistinct}
use Rattle.client_registry.proofs.ShownLaws.{live_apart}
use Rattle.client_registry.specs.Acceptance.{size_refusal}
use Rattle.client_registry.specs.Command.{Command, Add, Delete}
use Rattle.client_registry.specs.Epochs.{AreEpochs, begins, next_begins, key_now, setup_renewed}
use Rattle.client_registry.specs.Histories as histories
use Rattle.client_registry.specs.Histories.{IsKept, frames_in, is_set_up}
use Rattle.client_registry.specs.Run.{History, Epochs, From, Renewed, last_run, at_first}
use Rattle.client_registry.specs.Sized.{IsHistory}
use Rattle.sse_frames.specs.Frames.{FrameText, SearchFrame, InGrammar, IsNumber, update_number}
use Rattle.sse_model.proofs.Counts.{AllByRecursion-append}
use Rattle.sse_model.proofs.DrawnOnce.{live_are_documents}
use Rattle.sse_model.proofs.KeyValues.{IsValue-table}
use Rattle.sse_model.specs.Histories.{frames_sent}
use Rattle.sse_model.specs.Names.{name, Token}
use Rattle.sse_model.specs.Wire.{next_number}
use Rattle.world_model.specs.Rules.{AreAccepted}
use Rattle.world_rules.proofs.Accepted.{accepted_history}
use Rattle.world_rules.proofs.Numbered.{GoOn, history_of-push, accepted-push, frames_next, sends, gapless}
use Rattle.world_rules.specs.Changes.{Change, SetsUp, Adds, Deletes, Renews, with_change, history_of}
use Rattle.world_rules.specs.Promises.{IsSizedChange}
use Rattle.world_rules.specs.Rules.{accepts, store_rules}
use Rattle.world_grammar.proofs.Apart.{both_none}
use Rattle.world_grammar.proofs.Commands.{setup_is, add_is, delete_is}

none_of : {X : Type 0} (o : Option X) → is_none o ≡ true → o ≡ None
none_of None e = refl
none_of (Some x) e = absurd (true≢false (sym e))

left_of : (a b : Bool) → (a && b) ≡ true → a ≡ true
left_of true b e = refl
left_of false b e = absurd (true≢false (sym e))

right_of : (a b : Bool) → (a && b) ≡ true → b ≡ true
right_of true b e = e
right_of false b e = absurd (true≢false (sym e))

IsHistory-last : (es : Epochs) → AreEpochs es → IsHistory (last_run es)
IsHistory-last (From o run) are = are
IsHistory-last (Renewed before own run) are = are.2

module _ (f : KeyedFn) (key : List ℕ) (laws : IsKeyedFn f) where
  -- an update's frame has a number
  numbered : (es : Epochs) (c : Command) → (histories.accepts (Some es) c && nat_lt (frames_in (Some es) + 1) (2 ^ 32)) ≡ true → IsNumber (next_number (begins es) (last_run es).setup (last_run es).later)
  numbered es c ok =
      let within = ltb-true (frames_in (Some es) + 1) (2 ^ 32) (right_of (histories.accepts (Some es) c) _ ok) in
      omega (arith, within)

  -- the frames of one change more
  next_in_grammar : (h : History) (c : Change) → IsSizedChange c → accepts f key h c ≡ true → IsKept h → IsKept (with_change h c) → AllByRecursion InGrammar (frames_next f key h c)
  next_in_grammar (Some es) (SetsUp s) within ok kept now = absurd (true≢false (sym ok))
  next_in_grammar None (SetsUp s) within ok kept now =
      setup_is f laws (λ epoch. key) at_first s (none_of _ (right_of (not (is_set_up None) && is_none (size_refusal s)) _ ok)) now.0.collected now.0.setup (omega (arith, now.1))
  next_in_grammar None (Adds d) within ok kept now = absurd (true≢false (sym ok))
  next_in_grammar (Some es) (Adds d) within ok kept now =
      let run = last_run es in
      let accepted = histories.accepts (Some es) (Add d) && nat_lt (frames_in (Some es) + 1) (2 ^ 32) in
      add_is f laws (λ epoch. key_now key es) (begins es) run.setup run.later (next_number (begins es) run.setup run.later) (numbered es (Add d) (left_of accepted _ ok)) d
      (both_none _ None (none_of _ (right_of accepted _ ok))).0 within
  next_in_grammar None (Deletes id) within ok kept now = absurd (true≢false (sym ok))
  next_in_grammar (Some es) (Deletes id) within ok kept now =
      let run = last_run es in
      let history = IsHistory-last es kept.0 in
      let accepted = histories.accepts (Some es) (Delete id) && nat_lt (frames_in (Some es) + 1) (2 ^ 32) in
      delete_is f laws (λ epoch. key_now key es) (begins es) run.setup run.later (next_number (begins es) run.setup run.later) (numbered es (Delete id) (left_of accepted _ ok)) id
      (both_none _ None (none_of _ (right_of accepted _ ok))).0 (live_apart run.setup (AreApart-from_IsDistinct (map (λ d. d.id) run.setup.documents) history.collected.different) run.later history.accepted)
      (live_are_documents run.setup.documents run.later history.collected.are_documents history.each)
  next_in_grammar None (Renews own) within ok kept now = absurd (true≢false (sym ok))
  next_in_grammar (Some es) (Renews own) within ok kept now =
      let s = setup_renewed (last_run es) in
      setup_is f laws (λ epoch. own) (next_begins es) s (none_of _ (right_of _ _ ok)) (now.0.2).collected (now.0.2).setup (omega (arith, now.1))

  -- the frames of accepted commands
  pub frames_in_grammar : (changes : List Change) → AllByRecursion IsSizedChange changes → AreAccepted (store_rules f key) changes → AllByRecursion InGrammar (frames_sent f key (history_of changes))
  frames_in_grammar = from_end (λ changes. AllByRecursion IsSizedChange changes → AreAccepted (store_rules f key) changes → AllByRecursion InGrammar (frames_sent f key (history_of changes))) (λ all are. tt) push
    where
      split : (xs : List Change) (c : Change) → AllByRecursion IsSizedChange (xs ++ c ∷ []) → AllByRecursion IsSizedChange xs × IsSizedChange c
      split [] c all = (tt, all.0)
      split (x ∷ xs) c all = let rest = split xs c all.1 in ((all.0, rest.0), rest.1)

      push : (xs : List Change) (c : Change) → (AllByRecursion IsSizedChange xs → AreAccepted (store_rules f key) xs → AllByRecursion InGrammar (frames_sent f key (history_of xs)))
          → AllByRecursion IsSizedChange (xs ++ c ∷ []) → AreAccepted (store_rules f key) (xs ++ c ∷ []) → AllByRecursion InGrammar (frames_sent f key (history_of (xs ++ c ∷ [])))
      push xs c had all are =
          let within = split xs c all in
          let accepted = accepted-push (store_rules f key) [] xs c are in
          let h = history_of xs in
          let kept = (accepted_history f key xs within.0 accepted.0).0 in
          let now : IsKept (with_change h c) = subst IsKept (history_of-push xs c) (accepted_history f key (xs ++ c ∷ []) all are).0 in
          subst (λ h. AllByRecursion InGrammar (frames_sent f key h)) (sym (history_of-push xs c))
          (subst (AllByRecursion InGrammar) (sym (sends f key h c accepted.1).is)
          (AllByRecursion-append InGrammar (frames_sent f key h) (frames_next f key h c) (had within.0 accepted.0) (next_in_grammar h c within.1 accepted.1 kept now)))

  -- Promise P323 (inside): Each update frame of accepted commands is of the grammar and has the number of its place, whatever values of different commands are equal.
  --   assumes: keyed function, sizes in bounds
  -- the frame at a place is in the grammar, and an update frame
  pub frame_in_grammar : (changes : List Change) (i : ℕ) (frame : FrameText) → AllByRecursion IsSizedChange changes → AreAccepted (store_rules f key) changes → slice_get (frames_sent f key (history_of changes)) i ≡ Some frame
      → InGrammar frame × (update_number frame ≡ Some i)
  frame_in_grammar changes i frame all are at =
      let found = at_place 0 (frames_sent f key (history_of changes)) i (frames_in_grammar changes all are) (gapless f key changes are).on at in
      let place : i + 0 ≡ i = omega arith in
      (found.0, found.1 ∙ ap (λ (n : ℕ). Some n) place)
    where
      at_place : (q : ℕ) (frames : List FrameText) (i : ℕ) → AllByRecursion InGrammar frames → GoOn q frames → slice_get frames i ≡ Some frame → InGrammar frame × (update_number frame ≡ Some (i + q))
      at_place q [] i all on e = absurd (let none : None ≡ Some frame = e in cc)
      at_place q (x ∷ xs) zero all on e = let same : x ≡ frame = cc in
          let place : q ≡ 0 + q = omega arith in
          subst (λ y. InGrammar y × (update_number y ≡ Some (0 + q))) same (all.0, on.0 ∙ ap (λ (n : ℕ). Some n) place)
      at_place q (x ∷ xs) (suc i) all on e =
          let rest = at_place (q + 1) xs i all.1 on.1 e in
          let place : i + (q + 1) ≡ suc i + q = omega arith in
          (rest.0, rest.1 ∙ ap (λ (n : ℕ). Some n) place)

  -- and so is the frame of a search
  pub search_in_grammar : (word : List ℕ) → InGrammar (SearchFrame (token_of f key word))
  search_in_grammar word = IsValue-table f laws (record { b = 1; big = 1 }) (λ epoch. key) (name 0 word Token 0)
