-- Frames that a store has taken last after each frame that it handles, also where its disk fails.
use Rattle.std.proofs.Common.{◌≡◌, ◌≢◌, ◌⊎◌, inl, inr, ℕ, List, [], ◌∷◌, ◌++◌, None, Some, refl, sym, ap, subst, ◌∙◌}
use Rattle.std.specs.Prelude.{IsSome, IfSome}
use Rattle.std.specs.declared.option.Option.{Option}
use Rattle.std.proofs.lemmas.List.{append-nil}
use Rattle.sse_outside.specs.declared.device_fault.DeviceFault.{DeviceFault}
use Rattle.sse_outside.specs.declared.device_fault.DeviceFault.TheVariants as devices
use Rattle.sse_frames.specs.Frames.{FrameText, body_of}
use Rattle.sse_journal.specs.Files.{Gives, GivesWithOrWithout}
use Rattle.sse_journal.specs.JournalView.{broken_by}
use Rattle.sse_journal.proofs.Once.{file_gives}
use Rattle.server_core.specs.State.{ServerState}
use Rattle.server_core.specs.declared.answer.Answer.TheVariants as answers
use Rattle.sse_server.specs.Answers.{fault_answer}
use Rattle.sse_server.specs.StoreView.{StoreView, IsStoreOf}
use Rattle.sse_server.specs.Taken.{IsTaken, bodies}
use Rattle.sse_server.specs.declared.store_answer.StoreAnswer.{StoreAnswer}
use Rattle.sse_server.specs.declared.store_answer.StoreAnswer.TheVariants as stores
use Rattle.sse_server.proofs.TakenFrames.{bodies-push}
use Rattle.server_connections.specs.Handled.{GivesAtMostOneMore, IsLasting, Last, taken_by}

-- A store whose journal isn't broken.

store_of : (frames : List FrameText) (store : StoreView) (content : Option (List ℕ)) (images : List ℕ → Type 0) → IsLasting frames store content images → broken_by store.journal ≡ None → IsStoreOf frames store content images
store_of frames store content images is unbroken = record { are_taken = is.are_taken; state_is = is.state_is; journal_is = is.whole unbroken }

pub lasting_of : (frames : List FrameText) (store : StoreView) (content : Option (List ℕ)) (images : List ℕ → Type 0) → IsStoreOf frames store content images → IsLasting frames store content images
lasting_of frames store content images is = record {
  are_taken = is.are_taken;
  state_is = is.state_is;
  whole = λ _. is.journal_is;
  left = λ bytes image. inl (subst (λ (f : List ℕ). Gives (bodies frames) f) (sym (is.journal_is.settled.durable bytes image)) (file_gives (bodies frames) is.journal_is.payloads_are));
}

-- A frame that wasn't taken.

none_or_some : {A : Type 0} (o : Option A) → (o ≡ None) ⊎ ((a : A) × (o ≡ Some a))
none_or_some None = inl refl
none_or_some (Some a) = inr (a, refl)

none_some : {A : Type 0} (a : A) → Some a ≡ None → ⊥
none_some a e = cc

-- a store's state, and that it would take the frame, where its disk kept it from being taken
kept_by : (why : DeviceFault) (answer : StoreAnswer) (kept : Type 0) → answer ≡ fault_answer why → (answer ≡ stores.Answered answers.NoMemory → kept) → (answer ≡ stores.StoreFault → kept) → kept
kept_by devices.Failed answer kept is no_memory store_fault = store_fault is
kept_by devices.NoMemory answer kept is no_memory store_fault = no_memory is

with_or_without : (frames : List FrameText) (frame : FrameText) (store : StoreView) (content : Option (List ℕ)) (images : List ℕ → Type 0) (bytes : List ℕ)
    → IsLasting frames store content images → IsTaken store.state frame → GivesWithOrWithout (bodies frames) (body_of frame) bytes → GivesAtMostOneMore frames bytes
with_or_without frames frame store content images bytes is taken (inl without) = inl without
with_or_without frames frame store content images bytes is taken (inr more) =
    inr (frame, subst (λ (s : ServerState). IsTaken s frame) is.state_is taken, subst (λ (ps : List (List ℕ)). Gives ps bytes) (sym (bodies-push frames frame)) more)

-- a journal that was broken before the call is left as it was
pub record IsStill (store store2 : StoreView) (content content2 : Option (List ℕ)) (images images2 : List ℕ → Type 0) : Type 0 where
  pub journal : store2.journal ≡ store.journal
  pub state : store2.state ≡ store.state
  pub no_other : (bytes : List ℕ) → images2 bytes → images bytes

module _ (store store2 : StoreView) (content content2 : Option (List ℕ)) (images images2 : List ℕ → Type 0) (frame : FrameText) where
  -- the frames last, where this one wasn't taken
  untaken : (answer : StoreAnswer)
      → (IsSome (broken_by store.journal) → IsStill store store2 content content2 images images2)
      → (broken_by store.journal ≡ None → IfSome (broken_by store2.journal) (λ why. answer ≡ fault_answer why))
      → (answer ≡ stores.Answered answers.NoMemory → (store2.state ≡ store.state) × IsTaken store.state frame)
      → (answer ≡ stores.StoreFault → (store2.state ≡ store.state) × IsTaken store.state frame)
      → ((frames : List FrameText) → broken_by store.journal ≡ None → IsStoreOf frames store content images → (bytes : List ℕ) → images2 bytes → GivesWithOrWithout (bodies frames) (body_of frame) bytes)
      → ((frames : List FrameText) → broken_by store2.journal ≡ None → IsStoreOf frames store content images → IsStoreOf frames store2 content2 images2)
      → (frames : List FrameText) → IsLasting frames store content images → IsLasting frames store2 content2 images2
  untaken answer still breaks no_memory store_fault moment stays frames is = elim (none_or_some (broken_by store.journal)) [
    | inr broken ↦
        let same = still (subst (λ (o : Option DeviceFault). IsSome o) (sym broken.1) refl) in
        record {
          are_taken = is.are_taken;
          state_is = same.state ∙ is.state_is;
          whole = λ unbroken. absurd (none_some broken.0 (sym broken.1 ∙ sym (ap broken_by same.journal) ∙ unbroken));
          left = λ bytes image. is.left bytes (same.no_other bytes image);
        }
    | inl unbroken ↦ elim (none_or_some (broken_by store2.journal)) [
      | inl whole ↦ lasting_of frames store2 content2 images2 (stays frames whole (store_of frames store content images is unbroken))
      | inr broken ↦
          let said : answer ≡ fault_answer broken.0 = subst (λ (o : Option DeviceFault). IfSome o (λ why. answer ≡ fault_answer why)) broken.1 (breaks unbroken) in
          let kept = kept_by broken.0 answer _ said no_memory store_fault in
          record {
            are_taken = is.are_taken;
            state_is = kept.0 ∙ is.state_is;
            whole = λ whole. absurd (none_some broken.0 (sym broken.1 ∙ whole));
            left = λ bytes image. with_or_without frames frame store content images bytes is kept.1 (moment frames unbroken (store_of frames store content images is unbroken) bytes image);
          }
    ]
  ]

  pub lasts_handled : (answer : StoreAnswer)
      → ((q : ℕ) → answer ≡ stores.Answered (answers.Took q) → (frames : List FrameText) → IsStoreOf frames store content images → IsStoreOf (frames ++ frame ∷ []) store2 content2 images2)
      → ((q : ℕ) → answer ≡ stores.Answered (answers.Took q) → broken_by store.journal ≡ None)
      → (IsSome (broken_by store.journal) → IsStill store store2 content content2 images images2)
      → (broken_by store.journal ≡ None → IfSome (broken_by store2.journal) (λ why. answer ≡ fault_answer why))
      → (answer ≡ stores.Answered answers.NoMemory → (store2.state ≡ store.state) × IsTaken store.state frame)
      → (answer ≡ stores.StoreFault → (store2.state ≡ store.state) × IsTaken store.state frame)
      → ((frames : List FrameText) → broken_by store.journal ≡ None → IsStoreOf frames store content images → (bytes : List ℕ) → images2 bytes → GivesWithOrWithout (bodies frames) (body_of frame) bytes)
      → ((frames : List FrameText) → broken_by store2.journal ≡ None → ((q : ℕ) → answer ≢ stores.Answered (answers.Took q)) → IsStoreOf frames store content images → IsStoreOf frames store2 content2 images2)
      → Last (λ since frames. IsLasting frames store content images) (λ since frames. IsLasting frames store2 content2 images2) (taken_by frame answer)
  lasts_handled answer added whole still breaks no_memory store_fault moment stays = by_answer answer refl
    where
      others : ((q : ℕ) → answer ≢ stores.Answered (answers.Took q)) → Last (λ since frames. IsLasting frames store content images) (λ since frames. IsLasting frames store2 content2 images2) []
      others not_took = λ since frames is. subst (λ l. IsLasting l store2 content2 images2) (sym (append-nil frames))
          (untaken answer still breaks no_memory store_fault moment (λ fs unbroken. stays fs unbroken not_took) frames is)

      by_answer : (a : StoreAnswer) → answer ≡ a → Last (λ since frames. IsLasting frames store content images) (λ since frames. IsLasting frames store2 content2 images2) (taken_by frame a)
      by_answer (stores.Answered (answers.Took q)) is = λ since frames lasted. lasting_of (frames ++ frame ∷ []) store2 content2 images2 (added q is frames (store_of frames store content images lasted (whole q is)))
      by_answer (stores.Answered (answers.Next q)) is = others (λ r e. absurd cc)
      by_answer (stores.Answered (answers.Number q)) is = others (λ r e. absurd cc)
      by_answer (stores.Answered (answers.Clash what place)) is = others (λ r e. absurd cc)
      by_answer (stores.Answered (answers.Found count walk)) is = others (λ r e. absurd cc)
      by_answer (stores.Answered answers.BadList) is = others (λ r e. absurd cc)
      by_answer (stores.Answered answers.NoMemory) is = others (λ r e. absurd cc)
      by_answer (stores.Answered answers.OutOfPlace) is = others (λ r e. absurd cc)
      by_answer stores.StoreFault is = others (λ r e. absurd cc)
