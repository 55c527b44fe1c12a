-- A server that took the frames of a history answers a search with the live documents that have the word.
use Rattle.std.proofs.Common.{◌≡◌, ℕ, true, List, [], ◌∷◌, ◌++◌, Some, None, refl, sym, ap, ◌∙◌, arith}
use Rattle.std.proofs.lemmas.Bool.{true≢false}
use Rattle.keyed_fn.specs.KeyedFn.{KeyedFn, IsKeyedFn}
use Rattle.client_registry.proofs.HistoryLaws.{IsHistory-last, IsFirstOf-longer}
use Rattle.client_registry.specs.Command.{Search}
use Rattle.client_registry.specs.Epochs.{begins, first_begins, next_begins, key_now}
use Rattle.client_registry.specs.Histories.{IsKept, IsWhole, longer}
use Rattle.client_registry.specs.Live.{shown, in_order}
use Rattle.client_registry.specs.Run.{History, Epochs, From, Renewed, Run, Offsets, last_run}
use Rattle.client_registry.specs.Sized.{IsHistory}
use Rattle.sse_frames.proofs.Replied.{joined-pages}
use Rattle.sse_frames.specs.Frames.{FrameText}
use Rattle.sse_frames.specs.Replies.{ReplyText}
use Rattle.sse_frames.specs.SentParts.{pages}
use Rattle.sse_model.proofs.HistoryLaws.{HasNoCollision-first}
use Rattle.sse_model.specs.Drawn.{IsCollisionFree}
use Rattle.sse_model.specs.Histories.{table_at, frames_sent, HasNoCollision}
use Rattle.server_core.specs.State as server
use Rattle.server_core.specs.State.{ServerState}
use Rattle.server_core.specs.Step.{taken, step, steps}
use Rattle.server_core.proofs.Laws.{steps-append}
use Rattle.def_agreement.proofs.Agreement.{histories_taken}
use Rattle.def_agreement.proofs.Found.{shown_are_found}
use Rattle.def_agreement.proofs.Histories.{history_held, Expects-next}
use Rattle.def_agreement.proofs.Taken.{search_held}
use Rattle.def_agreement.proofs.TakenFrames.{steps-taken}
use Rattle.def_agreement.specs.Agreement.{frames_fed, searched}
use Rattle.def_agreement.specs.TakenFrames as agreement
use Rattle.def_agreement.specs.TakenFrames.{Expects}
use Rattle.sse_server.specs.Taken.{taken_all}
use Rattle.world_rules.specs.Promises.{IsRight, ids_shown}
use Rattle.world_rules.specs.Rules.{are_pages, asks, replies_to}

same_states : (f : KeyedFn) (s : ServerState) (frames : List FrameText) → (agreement.taken_all f s frames).0 ≡ taken_all s frames
same_states f s [] = refl
same_states f s (frame ∷ frames) = same_states f (taken s frame) frames

pub taken_all-append : (s : ServerState) (xs ys : List FrameText) → taken_all s (xs ++ ys) ≡ taken_all (taken_all s xs) ys
taken_all-append s [] ys = refl
taken_all-append s (x ∷ xs) ys = taken_all-append (taken s x) xs ys

module _ (f : KeyedFn) (laws : IsKeyedFn f) where
  -- a run's frames are taken step by step
  run_state : (key : List ℕ) (o : Offsets) (run : Run) (start : ServerState) → IsHistory run → IsCollisionFree (table_at f key run) o run → Expects o.frame start
      → taken_all start (frames_fed (table_at f key run) o run) ≡ (steps f start (frames_fed (table_at f key run) o run)).0
  run_state key o run start history free expects =
      let frames = frames_fed (table_at f key run) o run in
      let all = histories_taken f (λ epoch. key) o run start laws history free expects in
      sym (same_states f start frames) ∙ sym (ap (λ r. r.0) (steps-taken f start frames all.1.each))

  -- and so are a history's, epoch by epoch
  pub epochs_state : (key : List ℕ) (es : Epochs) (start : ServerState) → IsKept (Some es) → HasNoCollision f key (Some es) → Expects (first_begins es).frame start
      → taken_all start (frames_sent f key (Some es)) ≡ (steps f start (frames_sent f key (Some es))).0
  epochs_state key (From o run) start kept free expects = run_state key o run start kept.0 free expects
  epochs_state key (Renewed before own run) start kept free expects =
      let kept_before : IsKept (Some before) = (kept.0.0, omega (arith, kept.1)) in
      let first = frames_sent f key (Some before) in
      let rest = frames_fed (table_at f own run) (next_begins before) run in
      let state = (steps f start first).0 in
      let held = history_held f key before start laws kept_before free.0 expects in
      let now : Expects (next_begins before).frame state = Expects-next (table_at f (key_now key before) (last_run before)) (begins before) (last_run before) state held in
      taken_all-append start first rest
      ∙ ap (λ s. taken_all s rest) (epochs_state key before start kept_before free.0 expects)
      ∙ run_state own (next_begins before) run state kept.0.2 free.1 now
      ∙ sym (ap (λ r. r.0) (steps-append f start first rest))

  free_search : (key : List ℕ) (es : Epochs) (word : List ℕ) → HasNoCollision f key (longer (Search word ∷ []) (Some es))
      → IsCollisionFree (table_at f (key_now key es) (last_run es)) (begins es) (searched (last_run es) word)
  free_search key (From o run) word free = free
  free_search key (Renewed before own run) word free = free.1

  -- the pages of what the last epoch shows
  epochs_shown : (key : List ℕ) (es : Epochs) (word : List ℕ) → IsKept (Some es) → IsWhole (Some es) → HasNoCollision f key (longer (Search word ∷ []) (Some es))
      → replies_to f key (frames_sent f key (Some es)) (asks f key (Some es) word) ≡ pages (shown (last_run es).setup (last_run es).later word)
  epochs_shown key es word kept whole free =
      let run = last_run es in
      let t = table_at f (key_now key es) run in
      let free_before = HasNoCollision-first f key (Some es) (longer (Search word ∷ []) (Some es)) (IsFirstOf-longer (Some es) (Search word ∷ [])) free in
      let expects : Expects (first_begins es).frame server.at_first = record { next = sym (ap (λ (o : Offsets). o.frame) whole); stage = refl } in
      let state = (steps f server.at_first (frames_sent f key (Some es))).0 in
      let held = history_held f key es server.at_first laws kept free_before expects in
      ap (λ s. (step f s (asks f key (Some es) word)).1) (epochs_state key es server.at_first kept free_before expects)
      ∙ ap (λ r. r.1) (search_held f laws (λ epoch. key_now key es) (begins es) run.setup run.later word state (IsHistory-last es kept.0) (free_search key es word free) held)

  -- so the answer is right
  pub answer_right : (key : List ℕ) (h : History) (word : List ℕ) (replies : List ReplyText) → IsKept h → IsWhole h → replies ≡ replies_to f key (frames_sent f key h) (asks f key h word)
      → are_pages replies ≡ true → IsRight f key h word replies
  answer_right key None word replies kept whole same paged free = absurd (true≢false (sym paged ∙ ap are_pages same))
  answer_right key (Some es) word replies kept whole same paged free =
      let run = last_run es in
      ap ids_shown (same ∙ epochs_shown key es word kept whole free)
      ∙ ap in_order (joined-pages (shown run.setup run.later word))
      ∙ shown_are_found run word (IsHistory-last es kept.0)
