-- What is promised of the store, by what is promised of every world.
use Rattle.std.proofs.Common.{◌≡◌, ℕ, zero, suc, List, [], ◌∷◌, ◌++◌, length, take, None, Some, sym, ap, ◌∙◌}
use Rattle.std.specs.List.{AllByRecursion}
use Rattle.std.proofs.lemmas.List.{map-append}
use Rattle.keyed_fn.specs.KeyedFn.{KeyedFn, IsKeyedFn}
use Rattle.keyed_fn.specs.KeyFormulas.{mark_of}
use Rattle.client_records.specs.Openings.{MarksDiffer}
use Rattle.client_registry.specs.Histories.{IsKept}
use Rattle.client_registry.specs.Run.{History}
use Rattle.sse_frames.specs.Frames.{FrameText, body_of}
use Rattle.sse_frames.specs.Replies.{ReplyText}
use Rattle.sse_model.specs.Histories.{frames_sent}
use Rattle.sse_server.specs.Taken.{bodies}
use Rattle.world_model.proofs.Given.{are_of_events}
use Rattle.world_model.proofs.Lists.{all_get, all_mono}
use Rattle.world_model.proofs.Runs.{promised}
use Rattle.world_model.specs.Events.{left}
use Rattle.world_model.specs.Promises.{IsDone, IsFrameOf}
use Rattle.world_model.specs.Rules.{AreAccepted, AreAcceptedBehind, IsFront}
use Rattle.world_model.specs.World.{Asked, Done, Updated, Found, Message, Hello, Update, Search}
use Rattle.world_rules.proofs.Accepted.{accepted_history}
use Rattle.world_rules.proofs.Answered.{answer_right}
use Rattle.world_rules.proofs.Numbered.{store_numbered}
use Rattle.world_rules.proofs.Pads.{own_pads}
use Rattle.world_rules.proofs.Partly.{partly_answers_none}
use Rattle.world_rules.proofs.Texts.{frames_covered}
use Rattle.world_rules.specs.Changes.{Change, history_of}
use Rattle.world_rules.specs.Covered.{covers_in, texts_in, IsCovered, IsCoveredMessage, HaveOwnPads}
use Rattle.world_rules.specs.Promises.{IsRightDone, IsSizedChange, IsStorePromised}
use Rattle.world_rules.specs.Rules.{store_rules, number_in}

front_bodies : (xs ys : List FrameText) → IsFront xs ys → IsFront (bodies xs) (bodies ys)
front_bodies xs ys p = (bodies p.0, sym (map-append body_of xs p.0) ∙ ap bodies p.1)

none_some : {X : Type 0} (x : X) → None ≡ Some x → ⊥
none_some x e = cc

-- the first of what all have
all_first : {X : Type 0} (P : X → Type 0) (n : ℕ) (xs : List X) → AllByRecursion P xs → AllByRecursion P (take n xs)
all_first P zero xs all = tt
all_first P (suc n) [] all = tt
all_first P (suc n) (x ∷ xs) all = (all.0, all_first P n xs all.1)

module _ (f : KeyedFn) (key : List ℕ) where
  accepted_first : (n : ℕ) (past cs : List Change) → AreAcceptedBehind (store_rules f key) past cs → AreAcceptedBehind (store_rules f key) past (take n cs)
  accepted_first zero past cs are = tt
  accepted_first (suc n) past [] are = tt
  accepted_first (suc n) past (c ∷ cs) are = (are.0, accepted_first n (past ++ c ∷ []) cs are.1)

  done_right : IsKeyedFn f → (commands : List Change) (n : ℕ) (searches : List (Asked (List ℕ))) → AllByRecursion IsSizedChange commands → AreAccepted (store_rules f key) commands
      → (d : Done (List ReplyText)) → IsDone (store_rules f key) commands n searches d → IsRightDone f key commands searches d
  done_right laws commands n searches within are (Updated i) p = tt
  done_right laws commands n searches within are (Found i replies) p =
      let before = take (p.asked).before commands in
      let proper = accepted_history f key before (all_first IsSizedChange (p.asked).before commands within) (accepted_first (p.asked).before [] commands are) in
      (p.asked, p.made, answer_right f laws key (history_of before) (p.asked).word replies proper.0 proper.1 p.answer p.shown)

  pads_of : (h : History) → IsKept h → MarksDiffer (mark_of f) key h → HaveOwnPads (covers_in f key h)
  pads_of None kept differ = λ i j a b at at' keys inputs. absurd (none_some a (at))
  pads_of (Some es) kept differ = own_pads f key es kept.0 differ

  covered_frames : (h : History) → AllByRecursion (λ frame. AllByRecursion (IsCovered f (covers_in f key h)) (texts_in frame)) (frames_sent f key h)
  covered_frames None = tt
  covered_frames (Some es) = frames_covered f key es

  covered_message : (h : History) (m : Message FrameText) → IsFrameOf (store_rules f key) (frames_sent f key h) m → IsCoveredMessage f (covers_in f key h) m
  covered_message h Hello is = tt
  covered_message h (Search frame) is = tt
  covered_message h (Update frame) is = all_get (λ frame. AllByRecursion (IsCovered f (covers_in f key h)) (texts_in frame)) (frames_sent f key h) (number_in frame) frame (covered_frames h) is

  -- Promise P303 (inside): After any stops and losses each answer is the live documents with the word, and a setup or rebuild that is partly there answers none.
  --   assumes: keyed function, no collision, sizes in bounds; not: That a search is answered at all.
  -- Promise P304 (inside): Over all frames ever sent, whatever stopped, no pad encrypts two texts; each encrypted text is one of the history's under its own pad.
  --   assumes: sizes in bounds; not: The same of two archives under one key. That pads look random.
  pub store_promised : IsStorePromised f key
  store_promised events w within led there there' =
      let keeps = promised (store_rules f key) (store_numbered f key) events w led there there' in
      let commands = (left there w.client_disk).records in
      let taken = (left there' w.server_disk).records in
      let h = history_of commands in
      let limits : AllByRecursion IsSizedChange commands = are_of_events (store_rules f key) IsSizedChange events w within led there in
      let proper = accepted_history f key commands limits keeps.accepted in
      record {
        keeps = keeps;
        history = proper;
        bodies_are = front_bodies taken (frames_sent f key h) keeps.front;
        partly = λ more less token. partly_answers_none f key commands taken token keeps.accepted keeps.front more less;
        right = λ laws. all_mono (IsDone (store_rules f key) commands (length taken) w.searches) (IsRightDone f key commands w.searches) (done_right laws commands (length taken) w.searches limits keeps.accepted) w.done keeps.done;
        covered = all_mono (IsFrameOf (store_rules f key) (frames_sent f key h)) (IsCoveredMessage f (covers_in f key h)) (covered_message h) w.sent keeps.sent;
        own_pads = pads_of h proper.0 proper.2;
      }
