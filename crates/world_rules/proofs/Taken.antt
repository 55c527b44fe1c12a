-- A server takes the frames of every history without collisions, one after another.
use Rattle.std.proofs.Common.{◌≡◌, ℕ, ◌+◌, ◌&&◌, Bool, true, false, Option, List, [], ◌∷◌, ◌++◌, is_none, None, Some, refl, sym, ap, subst, arith}
use Rattle.std.specs.Prelude.{is_some}
use Rattle.std.specs.List.{AllByRecursion}
use Rattle.std.proofs.lemmas.Bool.{true≢false}
use Rattle.keyed_fn.specs.KeyedFn.{KeyedFn, IsKeyedFn}
use Rattle.client_registry.specs.Epochs.{begins, first_begins, next_begins, key_now}
use Rattle.client_registry.specs.Histories.{IsKept, IsWhole}
use Rattle.client_registry.specs.Run.{History, Epochs, From, Renewed, Offsets, last_run}
use Rattle.sse_frames.specs.Frames.{FrameText, InGrammar, update_number}
use Rattle.sse_model.specs.Histories.{table_at, frames_sent, HasNoCollision}
use Rattle.server_core.specs.Refusal.{refusal}
use Rattle.server_core.specs.State as server
use Rattle.server_core.specs.State.{ServerState}
use Rattle.server_core.specs.Step.{taken, steps}
use Rattle.def_agreement.proofs.Agreement.{histories_taken}
use Rattle.def_agreement.proofs.Histories.{history_held, Expects-next}
use Rattle.def_agreement.proofs.TakenFrames.{refusal-none}
use Rattle.def_agreement.specs.Agreement.{frames_fed}
use Rattle.def_agreement.specs.TakenFrames.{AreInOrder, Expects}
use Rattle.sse_server.specs.Taken.{IsTaken, taken_all}
use Rattle.world_model.specs.Rules.{AreAccepted, AreTaken, AreTakenBehind}
use Rattle.world_rules.proofs.Answered.{epochs_state, taken_all-append}
use Rattle.world_rules.proofs.Numbered.{GoOn, gapless}
use Rattle.world_rules.specs.Changes.{Change, history_of}
use Rattle.world_rules.specs.Rules.{takes, store_rules}

in_order-append : (s : ServerState) (xs ys : List FrameText) → AreInOrder s xs → AreInOrder (taken_all s xs) ys → AreInOrder s (xs ++ ys)
in_order-append s [] ys first later = later
in_order-append s (x ∷ xs) ys first later = (first.0, in_order-append (taken s x) xs ys first.1 later)

all_numbered : (q : ℕ) (frames : List FrameText) → GoOn q frames → AllByRecursion (λ frame. is_some (update_number frame) ≡ true) frames
all_numbered q [] on = tt
all_numbered q (frame ∷ frames) on = (ap is_some on.0, all_numbered (q + 1) frames on.1)

module _ (f : KeyedFn) (key : List ℕ) where
  -- epoch by epoch
  epochs_in_order : IsKeyedFn f → (es : Epochs) (start : ServerState) → IsKept (Some es) → HasNoCollision f key (Some es) → Expects (first_begins es).frame start → AreInOrder start (frames_sent f key (Some es))
  epochs_in_order laws (From o run) start kept free expects = (histories_taken f (λ epoch. key) o run start laws kept.0 free expects).1.each
  epochs_in_order laws (Renewed before own run) start kept free expects =
      let kept_before : IsKept (Some before) = (kept.0.0, omega (arith, kept.1)) in
      let first = frames_sent f key (Some before) in
      let rest = frames_fed (table_at f own run) (next_begins before) run in
      let state = (steps f start first).0 in
      let held = history_held f key before start laws kept_before free.0 expects in
      let now : Expects (next_begins before).frame state = Expects-next (table_at f (key_now key before) (last_run before)) (begins before) (last_run before) state held in
      let later = (histories_taken f (λ epoch. own) (next_begins before) run state laws kept.0.2 free.1 now).1.each in
      in_order-append start first rest (epochs_in_order laws before start kept_before free.0 expects) (subst (λ s. AreInOrder s rest) (sym (epochs_state f laws key before start kept_before free.0 expects)) later)

  in_order_taken : (past frames : List FrameText) → AreInOrder (taken_all server.at_first past) frames → AllByRecursion (λ frame. is_some (update_number frame) ≡ true) frames → AreTakenBehind (store_rules f key) past frames
  in_order_taken past [] each all = tt
  in_order_taken past (x ∷ xs) each all =
      let s = taken_all server.at_first past in
      let more : taken_all server.at_first (past ++ x ∷ []) ≡ taken s x = taken_all-append server.at_first past (x ∷ []) in
      ((λ i. all.0 i && is_none (refusal-none s x each.0 i)), in_order_taken (past ++ x ∷ []) xs (subst (λ s. AreInOrder s xs) (sym more) each.1) all.1)

  pub history_taken : IsKeyedFn f → (changes : List Change) → AreAccepted (store_rules f key) changes → IsKept (history_of changes) → IsWhole (history_of changes) → HasNoCollision f key (history_of changes)
      → AreTaken (store_rules f key) (frames_sent f key (history_of changes))
  history_taken laws changes are kept whole free =
      in_order_taken [] (frames_sent f key (history_of changes)) (by (history_of changes) kept whole free) (all_numbered 0 (frames_sent f key (history_of changes)) (gapless f key changes are).on)
    where
      by : (h : History) → IsKept h → IsWhole h → HasNoCollision f key h → AreInOrder server.at_first (frames_sent f key h)
      by None kept whole free = tt
      by (Some es) kept whole free = epochs_in_order laws es server.at_first kept free (record { next = sym (ap (λ (o : Offsets). o.frame) whole); stage = refl })

  -- A frame of the grammar is taken as the rules say if and only if the store takes it.

  none_of : {X : Type 0} (o : Option X) → is_none o ≡ true → o ≡ None
  none_of None e = refl
  none_of (Some x) e = absurd (true≢false (sym e))

  both_of : (a b : Bool) → (a && b) ≡ true → (a ≡ true) × (b ≡ true)
  both_of true b e = (refl, e)
  both_of false b e = absurd (true≢false (sym e))

  pub taken_if : (before : List FrameText) (frame : FrameText) → InGrammar frame → takes f key before frame ≡ true → IsTaken (taken_all server.at_first before) frame
  taken_if before frame grammar e =
      let parts = both_of (is_some (update_number frame)) _ e in
      record { update = parts.0; grammar = grammar; accepted = none_of (refusal (taken_all server.at_first before) frame) parts.1 }

  pub taken_only_if : (before : List FrameText) (frame : FrameText) → IsTaken (taken_all server.at_first before) frame → takes f key before frame ≡ true
  taken_only_if before frame is = λ i. is.update i && is_none (is.accepted i)
