-- What a store answers to a frame that is no update frame, and what stands after one that was taken.
use Rattle.std.proofs.Common.{◌≡◌, ℕ, List, [], ◌∷◌, ◌++◌, true, false, refl, sym, ◌∙◌, ap, subst}
use Rattle.std.specs.Prelude.{◌≢◌, Bool, Option, Some, None, IsSome, IfSome, if◌then◌else◌}
use Rattle.std.specs.Option.{option_map_or}
use Rattle.search_token.specs.KeyedFn.{KeyedFn}
use Rattle.search_token.specs.TokenKeys.{keys_of_bytes}
use Rattle.list_packing.specs.Parts.{parts}
use Rattle.sse_frames.specs.Frames.{FrameText, Hello, SetupBegin, SetupDict, SetupArray, SetupEnd, AddFrame, DeleteFrame, SearchFrame, body_of, update_number}
use Rattle.sse_frames.specs.Replies.{ReplyText, Next, BadList, OutOfPlace}
use Rattle.sse_frames.specs.Replies as replies
use Rattle.sse_frames.specs.SentParts.{pages_of, pages}
use Rattle.sse_journal.specs.JournalView.{IsJournalOf}
use Rattle.sse_journal.specs.declared.journal.Journal.{Journal}
use Rattle.server_core.specs.Refusal.{refusal}
use Rattle.server_core.specs.Search.{search_result}
use Rattle.server_core.specs.State.{ServerState, at_first, is_ready}
use Rattle.server_core.specs.Step.{taken, answers, step}
use Rattle.server_core.specs.Views.{answer_replies}
use Rattle.server_core.specs.declared.answer.Answer.{Answer}
use Rattle.server_core.specs.declared.answer.Answer.TheVariants.{Took, NoMemory}
use Rattle.sse_server.specs.Taken.{IsTaken, bodies}
use Rattle.sse_server.specs.StoreView.{StoreView, IsStoreOf}
use Rattle.sse_server.proofs.TakenFrames.{AreTaken-push, taken_all-push, bodies-push}

-- pages are no acknowledgement
pages_no_took : (xs : List (List ℕ)) (q : ℕ) → pages_of xs ≡ replies.Took q ∷ [] → ⊥
pages_no_took [] q same = cc
pages_no_took (ids ∷ []) q same = cc
pages_no_took (ids ∷ more ∷ others) q same = cc

found_no_took : (list : Option (List ℕ)) (q : ℕ) → option_map_or pages list (BadList ∷ []) ≡ replies.Took q ∷ [] → ⊥
found_no_took None q same = cc
found_no_took (Some ids) q same = pages_no_took (parts 8192 ids) q same

-- what is replied to a search, by whether the setup is whole
searched : (f : KeyedFn) (s : ServerState) (token : List ℕ) → Bool → List ReplyText
searched f s token ready =
    let came : ServerState × List ReplyText = option_map_or (λ reply. (s, reply ∷ [])) (if ready then None else Some OutOfPlace) (s, option_map_or pages (search_result f s (keys_of_bytes token)) (BadList ∷ [])) in came.1

searched_no_took : (f : KeyedFn) (s : ServerState) (token : List ℕ) (ready : Bool) (q : ℕ) → searched f s token ready ≡ replies.Took q ∷ [] → ⊥
unfolding searched
searched_no_took f s token true q same = found_no_took (search_result f s (keys_of_bytes token)) q same
searched_no_took f s token false q same = cc

-- a frame that is no update frame isn't acknowledged
step_no_took : (f : KeyedFn) (s : ServerState) (frame : FrameText) (q : ℕ) → update_number frame ≡ None → (step f s frame).1 ≡ replies.Took q ∷ [] → ⊥
unfolding searched
step_no_took f s Hello q none same = cc
step_no_took f s (SearchFrame token) q none same = searched_no_took f s token (is_ready s.stage) q same
step_no_took f s (SetupBegin n b big m a) q none same = cc
step_no_took f s (SetupDict n width entries) q none same = cc
step_no_took f s (SetupArray n width blocks) q none same = cc
step_no_took f s (SetupEnd n) q none same = cc
step_no_took f s (AddFrame n entries numbers) q none same = cc
step_no_took f s (DeleteFrame n numbers) q none same = cc

-- so a server that answers by its step doesn't answer that it took it
pub no_took : (f : KeyedFn) (s t : ServerState) (frame : FrameText) (answer : Answer) (page : List ℕ) (q : ℕ) → update_number frame ≡ None → (answer ≢ NoMemory → answer_replies f t answer page ≡ (step f s frame).1) → answer ≡ Took q → ⊥
no_took f s t frame answer page q none replied took =
    let some : answer ≢ NoMemory = λ wanting. cc in
    step_no_took f s frame q none (sym (replied some) ∙ ap (λ a. answer_replies f t a page) took)

-- nor does it take it
pub not_taken : (s : ServerState) (frame : FrameText) → update_number frame ≡ None → IsTaken s frame → ⊥
not_taken s frame none is = let some : IsSome {T = ℕ} None = subst (λ (o : Option ℕ). IsSome o) none is.update in cc

pub for_some : {A : Type 0} (o : Option A) (P : A → Type 0) → ((x : A) → P x) → IfSome o P
for_some None P all = tt
for_some (Some x) P all = all x

-- where there is a cause it holds, and where there must be one this follows
pub by_cause : {A Q : Type 0} (o : Option A) (P : A → Type 0) → IfSome o P → (o ≡ None → Q) → ((x : A) → P x → Q) → Q
by_cause None P has none some = none refl
by_cause (Some x) P has none some = some x has

-- a store that took one frame more
pub store_push : (frames : List FrameText) (frame : FrameText) (s t : ServerState) (old new : Journal) (content content' : Option (List ℕ)) (images images' : List ℕ → Type 0) →
    IsStoreOf frames (record { state = s; journal = old }) content images → IsTaken s frame → t ≡ taken s frame →
    ((payloads : List (List ℕ)) → IsJournalOf payloads old content images → IsJournalOf (payloads ++ body_of frame ∷ []) new content' images') →
    IsStoreOf (frames ++ frame ∷ []) (record { state = t; journal = new }) content' images'
store_push frames frame s t old new content content' images images' is one after added = record {
  are_taken = AreTaken-push at_first frames frame is.are_taken (subst (λ u. IsTaken u frame) is.state_is one);
  state_is = after ∙ ap (λ u. taken u frame) is.state_is ∙ sym (taken_all-push at_first frames frame);
  journal_is = subst (λ payloads. IsJournalOf payloads new content' images') (sym (bodies-push frames frame)) (added (bodies frames) is.journal_is);
}
