-- A frame that a store handled is answered as the mark of its replies says; what its step takes is in the file; and over a disk
-- that never fails no journal breaks for its disk.
use Rattle.std.proofs.Common.{◌≡◌, ◌≢◌, ◌⊎◌, inl, inr, ℕ, false, List, [], ◌∷◌, ◌++◌, map, refl, sym, ap, ◌∙◌, subst}
use Rattle.std.specs.Prelude.{Option, Some, None, IsSome, IfSome}
use Rattle.std.specs.Option.{option_map_or}
use Rattle.std.proofs.lemmas.List.{append-nil}
use Rattle.keyed_fn.specs.KeyedFn.{KeyedFn}
use Rattle.list_packing.specs.Parts.{parts}
use Rattle.sse_outside.specs.declared.device_fault.DeviceFault.{DeviceFault}
use Rattle.sse_outside.specs.declared.device_fault.DeviceFault.TheVariants as device
use Rattle.sse_frames.specs.Frames.{FrameText, Hello, SetupBegin, SetupDict, SetupArray, SetupEnd, AddFrame, DeleteFrame, SearchFrame, update_number}
use Rattle.sse_frames.specs.Replies as texts
use Rattle.sse_frames.specs.Replies.{ReplyText, reply_bytes}
use Rattle.sse_frames.specs.SentParts.{pages_of}
use Rattle.server_core.specs.Refusal.{refusal, is_nil}
use Rattle.server_core.specs.State.{ServerState}
use Rattle.server_core.specs.Step.{taken, answers, step}
use Rattle.server_core.specs.declared.answer.Answer.TheVariants as cores
use Rattle.sse_server.specs.Answers.{store_replies, fault_answer}
use Rattle.sse_server.specs.StoreView.{StoreView, IsStoreOf}
use Rattle.sse_server.specs.Taken.{IsTaken}
use Rattle.sse_server.specs.declared.store_answer.StoreAnswer.{StoreAnswer}
use Rattle.sse_server.specs.declared.store_answer.StoreAnswer.TheVariants.{Answered, StoreFault}
use Rattle.sse_server.proofs.TakenFrames.{step_stays}
use Rattle.sse_link.proofs.Pages.{is_nil-answer_replies}
use Rattle.def_link_events.specs.Served.{Answers}
use Rattle.def_link_events.specs.Taken.{update_taken, taken_one}
use Rattle.def_link_events.specs.Events.{IsStepped}
use Rattle.def_link_events.specs.declared.mark.Mark.{Mark}
use Rattle.def_link_events.specs.declared.mark.Mark.TheVariants.{Stepped, LackedMemory, StoreFailed}

-- Which answer it is.

pub data Kind (answer : StoreAnswer) : Type 0 where
  Lacking : answer ≡ Answered cores.NoMemory → Kind answer
  Failing : answer ≡ StoreFault → Kind answer
  Other : answer ≢ Answered cores.NoMemory → answer ≢ StoreFault → Kind answer

pub kind_of : (answer : StoreAnswer) → Kind answer
kind_of (Answered (cores.Next q)) = Other (λ e. absurd cc) (λ e. absurd cc)
kind_of (Answered (cores.Took q)) = Other (λ e. absurd cc) (λ e. absurd cc)
kind_of (Answered (cores.Number q)) = Other (λ e. absurd cc) (λ e. absurd cc)
kind_of (Answered (cores.Clash what place)) = Other (λ e. absurd cc) (λ e. absurd cc)
kind_of (Answered (cores.Found count walk)) = Other (λ e. absurd cc) (λ e. absurd cc)
kind_of (Answered cores.BadList) = Other (λ e. absurd cc) (λ e. absurd cc)
kind_of (Answered cores.NoMemory) = Lacking refl
kind_of (Answered cores.OutOfPlace) = Other (λ e. absurd cc) (λ e. absurd cc)
kind_of StoreFault = Failing refl

-- a frame that was read and handled
pub Answers-stored : (f : KeyedFn) (before after : ServerState) (page : List ℕ) (read frame : FrameText) (answer : StoreAnswer) (mark : Mark) (replies : List ReplyText)
    → read ≡ frame
    → (answer ≢ Answered cores.NoMemory → answer ≢ StoreFault → after ≡ (step f before read).0)
    → (answer ≢ Answered cores.NoMemory → answer ≢ StoreFault → store_replies f after answer page ≡ (step f before read).1)
    → (answer ≡ Answered cores.NoMemory → (after ≡ before) × IsTaken before read)
    → (answer ≡ StoreFault → (after ≡ before) × IsTaken before read)
    → replies ≡ store_replies f after answer page
    → (answer ≢ Answered cores.NoMemory → answer ≢ StoreFault → mark ≡ Stepped)
    → (answer ≡ Answered cores.NoMemory → mark ≡ LackedMemory)
    → (answer ≡ StoreFault → mark ≡ StoreFailed)
    → Answers f before frame mark after (map reply_bytes replies)
Answers-stored f before after page read frame answer mark replies same state answered lacking failing are stepped lacked failed = by (kind_of answer)
  where
    by : Kind answer → Answers f before frame mark after (map reply_bytes replies)
    by (Lacking is) = subst (λ m. Answers f before frame m after (map reply_bytes replies)) (sym (lacked is)) (record {
      update = (subst (IsTaken before) same (lacking is).1).update;
      state = (lacking is).0;
      replies_are = ap (map reply_bytes) (are ∙ ap (λ a. store_replies f after a page) is);
    })
    by (Failing is) = subst (λ m. Answers f before frame m after (map reply_bytes replies)) (sym (failed is)) (record {
      update = (subst (IsTaken before) same (failing is).1).update;
      state = (failing is).0;
      replies_are = ap (map reply_bytes) (are ∙ ap (λ a. store_replies f after a page) is);
    })
    by (Other has kept) = subst (λ m. Answers f before frame m after (map reply_bytes replies)) (sym (stepped has kept)) (record {
      state = state has kept ∙ ap (λ g. (step f before g).0) same;
      replies_are = ap (map reply_bytes) (are ∙ answered has kept ∙ ap (λ g. (step f before g).1) same);
    })

-- What is taken.

-- pages are no acknowledgement
pages_no_took : (xs : List (List ℕ)) (q : ℕ) → pages_of xs ≡ texts.Took q ∷ [] → ⊥
pages_no_took [] q same = cc
pages_no_took (ids ∷ []) q same = cc
pages_no_took (ids ∷ more ∷ others) q same = cc

-- an acknowledgement is the answer that says so
took_answer : (f : KeyedFn) (t : ServerState) (answer : StoreAnswer) (page : List ℕ) (q : ℕ) → store_replies f t answer page ≡ texts.Took q ∷ [] → answer ≡ Answered (cores.Took q)
took_answer f t (Answered (cores.Next p)) page q same = absurd cc
took_answer f t (Answered (cores.Took p)) page q same = let number : p ≡ q = cc in ap (λ n. Answered (cores.Took n)) number
took_answer f t (Answered (cores.Number p)) page q same = absurd cc
took_answer f t (Answered (cores.Clash what place)) page q same = absurd cc
took_answer f t (Answered (cores.Found count walk)) page q same = absurd (pages_no_took (parts 8192 _) q same)
took_answer f t (Answered cores.BadList) page q same = absurd cc
took_answer f t (Answered cores.NoMemory) page q same = absurd cc
took_answer f t (Answered cores.OutOfPlace) page q same = absurd cc
took_answer f t StoreFault page q same = absurd cc

-- an update that isn't refused is acknowledged
answers_took : (f : KeyedFn) (s : ServerState) (frame : FrameText) (q : ℕ) → update_number frame ≡ Some q → answers f s frame ≡ texts.Took q ∷ []
answers_took f s Hello q some = absurd cc
answers_took f s (SetupBegin p b big m a) q some = let same : p ≡ q = cc in ap (λ n. texts.Took n ∷ []) same
answers_took f s (SetupDict p width entries) q some = let same : p ≡ q = cc in ap (λ n. texts.Took n ∷ []) same
answers_took f s (SetupArray p width blocks) q some = let same : p ≡ q = cc in ap (λ n. texts.Took n ∷ []) same
answers_took f s (SetupEnd p) q some = let same : p ≡ q = cc in ap (λ n. texts.Took n ∷ []) same
answers_took f s (AddFrame p entries numbers) q some = let same : p ≡ q = cc in ap (λ n. texts.Took n ∷ []) same
answers_took f s (DeleteFrame p numbers) q some = let same : p ≡ q = cc in ap (λ n. texts.Took n ∷ []) same
answers_took f s (SearchFrame token) q some = absurd cc

-- a step, by whether the frame is refused
abbrev stepped_by : (f : KeyedFn) (s : ServerState) (frame : FrameText) → Option ReplyText → ServerState × List ReplyText
stepped_by f s frame refused = option_map_or (λ reply. (s, reply ∷ [])) refused (taken s frame, answers f s frame)

-- a frame is taken by its step as an update, and then it is acknowledged; or it isn't, and the state stays
pub data IsStepOf (f : KeyedFn) (s : ServerState) (frame : FrameText) : Type 0 where
  Takes : (q : ℕ) → update_number frame ≡ Some q → refusal s frame ≡ None → taken_one s frame ≡ frame ∷ [] → (step f s frame).0 ≡ taken s frame → (step f s frame).1 ≡ texts.Took q ∷ [] → IsStepOf f s frame
  Leaves : (IsTaken s frame → ⊥) → taken_one s frame ≡ [] → (step f s frame).0 ≡ s → IsStepOf f s frame

pub step_of : (f : KeyedFn) (s : ServerState) (frame : FrameText) → IsStepOf f s frame
step_of f s frame = by (update_number frame) refl (refusal s frame) refl
  where
    by : (o : Option ℕ) → update_number frame ≡ o → (r : Option ReplyText) → refusal s frame ≡ r → IsStepOf f s frame
    by None none r is = Leaves (λ t. (let some : IsSome {T = ℕ} None = subst (λ (o : Option ℕ). IsSome o) none t.update in cc)) (ap (λ o. update_taken o (refusal s frame) frame) none) (step_stays f s frame none)
    by (Some q) some None is =
        Takes q some is (λ i. update_taken (some i) (is i) frame) (ap (λ r. (stepped_by f s frame r).0) is) (ap (λ r. (stepped_by f s frame r).1) is ∙ answers_took f s frame q some)
    by (Some q) some (Some reply) is =
        Leaves (λ t. (let no : Some reply ≡ None = sym is ∙ t.accepted in cc)) (λ i. update_taken (some i) (is i) frame) (ap (λ r. (stepped_by f s frame r).0) is)

-- a store that answered by its step has taken the update that it was, and else it is as before
pub stored_step : {D : Type 0} (content : D → Option (List ℕ)) (images : D → List ℕ → Type 0) (disk disk' : D) (f : KeyedFn) (frame : FrameText) (s t : StoreView) (answer : StoreAnswer) (page : List ℕ)
    → answer ≢ Answered cores.NoMemory → answer ≢ StoreFault
    → t.state ≡ (step f s.state frame).0
    → store_replies f t.state answer page ≡ (step f s.state frame).1
    → ((q : ℕ) → answer ≡ Answered (cores.Took q) → (frames : List FrameText) → IsStoreOf frames s (content disk) (images disk) → IsStoreOf (frames ++ frame ∷ []) t (content disk') (images disk'))
    → ((IsTaken s.state frame → ⊥) → (disk' ≡ disk) × (t.journal ≡ s.journal))
    → (frames : List FrameText) → IsStoreOf frames s (content disk) (images disk) → IsStoreOf (frames ++ taken_one s.state frame) t (content disk') (images disk')
stored_step content images disk disk' f frame s t answer page has kept state replied added untouched frames is = by (step_of f s.state frame)
  where
    by : IsStepOf f s.state frame → IsStoreOf (frames ++ taken_one s.state frame) t (content disk') (images disk')
    by (Takes q some accepted one after took) =
        subst (λ more. IsStoreOf (frames ++ more) t (content disk') (images disk')) (sym one) (added q (took_answer f t.state answer page q (replied ∙ took)) frames is)
    by (Leaves untaken none after) =
        let left = untouched untaken in
        let same : t ≡ s = λ i. record { state = (state ∙ after) i; journal = left.1 i } in
        subst (λ fs. IsStoreOf fs t (content disk') (images disk')) (sym (ap (λ more. frames ++ more) none ∙ append-nil frames))
        (subst (λ d. IsStoreOf frames t (content d) (images d)) (sym left.0) (subst (λ v. IsStoreOf frames v (content disk) (images disk)) (sym same) is))

-- A disk that never fails.

-- where a journal isn't broken by its disk and the disk doesn't fail, no frame is answered by a store fault, and the journal isn't broken so
pub no_failure : (old new : Option DeviceFault) (answer : StoreAnswer) (was : Type 0) → old ≢ Some device.Failed
    → (answer ≡ StoreFault → was)
    → IfSome old (λ why. was → (answer ≡ fault_answer why) ⊎ (answer ≡ Answered cores.NoMemory))
    → (old ≡ None → IfSome new (λ why. answer ≡ fault_answer why))
    → (IsSome old → new ≡ old)
    → (answer ≡ StoreFault → old ≡ None → ⊥)
    → (new ≢ Some device.Failed) × (answer ≢ StoreFault)
no_failure None new answer was ok is stays breaks kept rose = (
  λ e. rose (subst (λ o. IfSome o (λ why. answer ≡ fault_answer why)) e (breaks refl)) refl,
  λ e. rose e refl,
)
no_failure (Some device.Failed) new answer was ok is stays breaks kept rose = absurd (ok refl)
no_failure (Some device.NoMemory) new answer was ok is stays breaks kept rose = (
  λ e. (let no : Some device.NoMemory ≡ Some device.Failed = sym (kept refl) ∙ e in cc),
  λ e. lacking (stays (is e)) e,
)
  where
    lacking : (answer ≡ Answered cores.NoMemory) ⊎ (answer ≡ Answered cores.NoMemory) → answer ≡ StoreFault → ⊥
    lacking (inl a) e = let no : Answered cores.NoMemory ≡ StoreFault = sym a ∙ e in cc
    lacking (inr a) e = let no : Answered cores.NoMemory ≡ StoreFault = sym a ∙ e in cc

-- each answer has a reply
pub is_nil-store_replies : (f : KeyedFn) (s : ServerState) (answer : StoreAnswer) (page : List ℕ) → is_nil (store_replies f s answer page) ≡ false
is_nil-store_replies f s (Answered answer) page = is_nil-answer_replies f s answer page
is_nil-store_replies f s StoreFault page = refl

-- a frame that is marked as stepped was answered by none of the two
pub not_lacking : (answer : StoreAnswer) (mark : Mark) → IsStepped mark → (answer ≡ Answered cores.NoMemory → mark ≡ LackedMemory) → answer ≢ Answered cores.NoMemory
not_lacking answer mark stepped lacked is = subst IsStepped (lacked is) stepped

pub not_failing : (answer : StoreAnswer) (mark : Mark) → IsStepped mark → (answer ≡ StoreFault → mark ≡ StoreFailed) → answer ≢ StoreFault
not_failing answer mark stepped failed is = subst IsStepped (failed is) stepped
