-- Frames that many owners' servers have taken last after each frame that is handled, also if the disk fails.
use Rattle.std.proofs.Common.{◌≡◌, ◌≢◌, ◌⊎◌, inl, inr, ℕ, ◌<◌, ◌^◌, List, [], ◌∷◌, ◌++◌, length, get_or, slice_set, None, Some, refl, sym, ap, subst, ◌∙◌}
use Rattle.std.specs.Prelude.{IsSome, IfSome}
use Rattle.std.specs.declared.option.Option.{Option}
use Rattle.std.specs.List.Sorted.{IsStrictlyIncreasing}
use Rattle.std.proofs.lemmas.List.{append-nil, get_or-map}
use Rattle.std.proofs.lemmas.List.Elements.{Contains-get_or}
use Rattle.sse_outside.specs.declared.device_fault.DeviceFault.{DeviceFault}
use Rattle.sse_outside.specs.declared.device_fault.DeviceFault.TheVariants as devices
use Rattle.sse_frames.specs.Frames.{FrameText}
use Rattle.sse_journal.specs.Files.{Gives, GivesWithOrWithout}
use Rattle.sse_journal.specs.JournalView.{broken_by, IsJournalOf}
use Rattle.sse_journal.proofs.Once.{file_gives}
use Rattle.server_core.specs.State.{ServerState, at_first}
use Rattle.server_core.specs.Step.{taken}
use Rattle.server_core.specs.declared.answer.Answer.TheVariants as answers
use Rattle.sse_server.specs.Answers.{fault_answer}
use Rattle.sse_server.specs.Taken.{IsTaken}
use Rattle.sse_server.specs.declared.store_answer.StoreAnswer.{StoreAnswer}
use Rattle.sse_server.specs.declared.store_answer.StoreAnswer.TheVariants as stores
use Rattle.sse_owners.specs.Handled.{taken_by}
use Rattle.sse_owners.specs.Owned.{OwnedFrame, IsOwnTaken, AreOwnTaken, owned, state_of, states_of, record_of, records}
use Rattle.sse_owners.specs.OwnersView.{OwnersView, GivesAtMostOneMore, IsOwnersOf, StaysButChosen, chosen_owner, chosen_state}
use Rattle.sse_owners.proofs.OwnedLaws.{AreOwnTaken-push, records-push, states_of-push}
use Rattle.sse_owners.proofs.RisingLaws.{apart}

-- owners whose journal has these frames and isn't broken
pub owners_of : (frames : List OwnedFrame) (owners : OwnersView) (content : Option (List ℕ)) (images : List ℕ → Type 0)
    → owners.chosen < length owners.numbers → AreOwnTaken owners.numbers [] frames → owners.states ≡ states_of owners.numbers frames → IsJournalOf (records frames) owners.journal content images → IsOwnersOf frames owners content images
owners_of frames owners content images within are states journal = record {
  chosen_is_one = within;
  are_taken = are;
  states_are = states;
  whole = λ _. journal;
  left = λ bytes image. inl (subst (λ (f : List ℕ). Gives (records frames) f) (sym (journal.settled.durable bytes image)) (file_gives (records frames) journal.payloads_are));
}

none_or_some : {A : Type 0} (o : Option A) → (o ≡ None) ⊎ ((a : A) × (o ≡ Some a))
none_or_some None = inl refl
none_or_some (Some a) = inr (a, refl)

none_some : {A : Type 0} (a : A) → Some a ≡ None → ⊥
none_some a e = cc

-- if the disk kept the frame from being taken, this follows of each of the two answers
kept_by : (why : DeviceFault) (answer : StoreAnswer) (kept : Type 0) → answer ≡ fault_answer why → (answer ≡ stores.Answered answers.NoMemory → kept) → (answer ≡ stores.StoreFault → kept) → kept
kept_by devices.Failed answer kept is no_memory store_fault = store_fault is
kept_by devices.NoMemory answer kept is no_memory store_fault = no_memory is

-- an owner at a place, whose number fits in eight bytes, and a frame that its server takes
pub own_taken_at : (frames : List OwnedFrame) (numbers : List ℕ) (states : List ServerState) (place : ℕ) (frame : FrameText) → place < length numbers → get_or numbers place 0 < 2 ^ 64
    → states ≡ states_of numbers frames → IsTaken (get_or states place at_first) frame → IsOwnTaken numbers frames (owned (get_or numbers place 0) frame)
own_taken_at frames numbers states place frame within short are is = record {
  known = Contains-get_or numbers place 0 within;
  short = short;
  is_taken = subst (λ s. IsTaken s frame) (ap (λ l. get_or l place at_first) are ∙ get_or-map (λ owner. state_of owner frames) numbers place 0 at_first within) is;
}

module _ (old new : OwnersView) (content content2 : Option (List ℕ)) (images images2 : List ℕ → Type 0) (frame : FrameText) (rising : IsStrictlyIncreasing old.numbers) (within : old.chosen < length old.numbers)
    (short : chosen_owner old < 2 ^ 64) (others : StaysButChosen old new) where
  -- one of them is chosen
  within_new : new.chosen < length new.numbers
  within_new = subst (λ ns. new.chosen < length ns) (sym others.numbers) (subst (λ k. k < length old.numbers) (sym others.chosen) within)

  -- it was taken
  took : (frames : List OwnedFrame) → IsTaken (chosen_state old) frame → chosen_state new ≡ taken (chosen_state old) frame → broken_by old.journal ≡ None
      → ((payloads : List (List ℕ)) → IsJournalOf payloads old.journal content images → IsJournalOf (payloads ++ record_of (owned (chosen_owner old) frame) ∷ []) new.journal content2 images2)
      → IsOwnersOf frames old content images → IsOwnersOf (frames ++ owned (chosen_owner old) frame ∷ []) new content2 images2
  took frames one after whole added is =
      let own = own_taken_at frames old.numbers old.states old.chosen frame within short is.states_are one in
      let here : chosen_state old ≡ state_of (chosen_owner old) frames = ap (λ l. get_or l old.chosen at_first) is.states_are ∙ get_or-map (λ owner. state_of owner frames) old.numbers old.chosen 0 at_first within in
      owners_of (frames ++ owned (chosen_owner old) frame ∷ []) new content2 images2 within_new
      (subst (λ ns. AreOwnTaken ns [] (frames ++ owned (chosen_owner old) frame ∷ [])) (sym others.numbers) (AreOwnTaken-push old.numbers [] frames (owned (chosen_owner old) frame) is.are_taken own))
      (others.states
      ∙ (λ i. slice_set (is.states_are i) old.chosen ((after ∙ ap (λ s. taken s frame) here) i))
      ∙ sym (states_of-push old.numbers old.chosen frames frame within (apart old.numbers old.chosen rising within))
      ∙ ap (λ ns. states_of ns (frames ++ owned (chosen_owner old) frame ∷ [])) (sym others.numbers))
      (subst (λ payloads. IsJournalOf payloads new.journal content2 images2) (sym (records-push frames (owned (chosen_owner old) frame))) (added (records frames) (is.whole whole)))

  -- it wasn't, and all servers are as before
  untaken : (answer : StoreAnswer) → new.states ≡ old.states
      → (IsSome (broken_by old.journal) → (new.journal ≡ old.journal) × ((bytes : List ℕ) → images2 bytes → images bytes))
      → (broken_by old.journal ≡ None → IfSome (broken_by new.journal) (λ why. answer ≡ fault_answer why))
      → (answer ≡ stores.Answered answers.NoMemory → IsTaken (chosen_state old) frame)
      → (answer ≡ stores.StoreFault → IsTaken (chosen_state old) frame)
      → ((payloads : List (List ℕ)) → broken_by old.journal ≡ None → IsJournalOf payloads old.journal content images → (bytes : List ℕ) → images2 bytes → GivesWithOrWithout payloads (record_of (owned (chosen_owner old) frame)) bytes)
      → ((payloads : List (List ℕ)) → broken_by new.journal ≡ None → IsJournalOf payloads old.journal content images → IsJournalOf payloads new.journal content2 images2)
      → (frames : List OwnedFrame) → IsOwnersOf frames old content images → IsOwnersOf frames new content2 images2
  untaken answer same still breaks no_memory store_fault moment stays frames is = elim (none_or_some (broken_by old.journal)) [
    | inr broken ↦
        let kept = still (subst (λ (o : Option DeviceFault). IsSome o) (sym broken.1) refl) in
        record {
          chosen_is_one = within_new;
          are_taken = are;
          states_are = states;
          whole = λ unbroken. absurd (none_some broken.0 (sym broken.1 ∙ sym (ap broken_by kept.0) ∙ unbroken));
          left = λ bytes image. more bytes (is.left bytes (kept.1 bytes image));
        }
    | inl unbroken ↦ elim (none_or_some (broken_by new.journal)) [
      | inl whole ↦ owners_of frames new content2 images2 within_new are states (stays (records frames) whole (is.whole unbroken))
      | inr broken ↦
          let said : answer ≡ fault_answer broken.0 = subst (λ (o : Option DeviceFault). IfSome o (λ why. answer ≡ fault_answer why)) broken.1 (breaks unbroken) in
          let one : IsTaken (chosen_state old) frame = kept_by broken.0 answer _ said no_memory store_fault in
          record {
            chosen_is_one = within_new;
            are_taken = are;
            states_are = states;
            whole = λ whole. absurd (none_some broken.0 (sym broken.1 ∙ whole));
            left = λ bytes image. more bytes (with_or_without one bytes (moment (records frames) unbroken (is.whole unbroken) bytes image));
          }
    ]
  ]
    where
      are : AreOwnTaken new.numbers [] frames
      are = subst (λ ns. AreOwnTaken ns [] frames) (sym others.numbers) is.are_taken

      states : new.states ≡ states_of new.numbers frames
      states = same ∙ is.states_are ∙ ap (λ ns. states_of ns frames) (sym others.numbers)

      more : (bytes : List ℕ) → GivesAtMostOneMore old.numbers frames bytes → GivesAtMostOneMore new.numbers frames bytes
      more bytes gives = subst (λ ns. GivesAtMostOneMore ns frames bytes) (sym others.numbers) gives

      with_or_without : IsTaken (chosen_state old) frame → (bytes : List ℕ) → GivesWithOrWithout (records frames) (record_of (owned (chosen_owner old) frame)) bytes → GivesAtMostOneMore old.numbers frames bytes
      with_or_without one bytes (inl without) = inl without
      with_or_without one bytes (inr with_it) =
          inr (
            owned (chosen_owner old) frame,
            own_taken_at frames old.numbers old.states old.chosen frame within short is.states_are one,
            subst (λ (ps : List (List ℕ)). Gives ps bytes) (sym (records-push frames (owned (chosen_owner old) frame))) with_it,
          )

  pub lasts_handled : (answer : StoreAnswer)
      → ((q : ℕ) → answer ≡ stores.Answered (answers.Took q) → IsTaken (chosen_state old) frame × (chosen_state new ≡ taken (chosen_state old) frame) × (broken_by old.journal ≡ None))
      → ((q : ℕ) → answer ≡ stores.Answered (answers.Took q) → (payloads : List (List ℕ)) → IsJournalOf payloads old.journal content images → IsJournalOf (payloads ++ record_of (owned (chosen_owner old) frame) ∷ []) new.journal content2 images2)
      → (((q : ℕ) → answer ≢ stores.Answered (answers.Took q)) → new.states ≡ old.states)
      → (IsSome (broken_by old.journal) → (new.journal ≡ old.journal) × ((bytes : List ℕ) → images2 bytes → images bytes))
      → (broken_by old.journal ≡ None → IfSome (broken_by new.journal) (λ why. answer ≡ fault_answer why))
      → (answer ≡ stores.Answered answers.NoMemory → IsTaken (chosen_state old) frame)
      → (answer ≡ stores.StoreFault → IsTaken (chosen_state old) frame)
      → ((payloads : List (List ℕ)) → broken_by old.journal ≡ None → IsJournalOf payloads old.journal content images → (bytes : List ℕ) → images2 bytes → GivesWithOrWithout payloads (record_of (owned (chosen_owner old) frame)) bytes)
      → ((payloads : List (List ℕ)) → broken_by new.journal ≡ None → ((q : ℕ) → answer ≢ stores.Answered (answers.Took q)) → IsJournalOf payloads old.journal content images → IsJournalOf payloads new.journal content2 images2)
      → (frames : List OwnedFrame) → IsOwnersOf frames old content images → IsOwnersOf (frames ++ taken_by (chosen_owner old) frame answer) new content2 images2
  lasts_handled answer took_is added same still breaks no_memory store_fault moment stays frames is = by_answer answer refl
    where
      kept : ((q : ℕ) → answer ≢ stores.Answered (answers.Took q)) → IsOwnersOf (frames ++ []) new content2 images2
      kept not_took = subst (λ l. IsOwnersOf l new content2 images2) (sym (append-nil frames))
          (untaken answer (same not_took) still breaks no_memory store_fault moment (λ ps unbroken. stays ps unbroken not_took) frames is)

      by_answer : (a : StoreAnswer) → answer ≡ a → IsOwnersOf (frames ++ taken_by (chosen_owner old) frame a) new content2 images2
      by_answer (stores.Answered (answers.Took q)) e = let one = took_is q e in took frames one.0 one.1 one.2 (added q e) is
      by_answer (stores.Answered (answers.Next q)) e = kept (λ r e2. absurd cc)
      by_answer (stores.Answered (answers.Number q)) e = kept (λ r e2. absurd cc)
      by_answer (stores.Answered (answers.Clash what place)) e = kept (λ r e2. absurd cc)
      by_answer (stores.Answered (answers.Found count walk)) e = kept (λ r e2. absurd cc)
      by_answer (stores.Answered answers.BadList) e = kept (λ r e2. absurd cc)
      by_answer (stores.Answered answers.NoMemory) e = kept (λ r e2. absurd cc)
      by_answer (stores.Answered answers.OutOfPlace) e = kept (λ r e2. absurd cc)
      by_answer stores.StoreFault e = kept (λ r e2. absurd cc)

-- if the journal isn't broken, each file that a crash leaves gives the frames
pub gives_of : (frames : List OwnedFrame) (owners : OwnersView) (content : Option (List ℕ)) (images : List ℕ → Type 0) → IsOwnersOf frames owners content images → broken_by owners.journal ≡ None → (bytes : List ℕ) → images bytes → Gives (records frames) bytes
gives_of frames owners content images is whole bytes image =
    let journal = is.whole whole in
    subst (λ (f : List ℕ). Gives (records frames) f) (sym (journal.settled.durable bytes image)) (file_gives (records frames) journal.payloads_are)

none_taken : (owner : ℕ) (frame : FrameText) (answer : StoreAnswer) → ((q : ℕ) → answer ≢ stores.Answered (answers.Took q)) → taken_by owner frame answer ≡ []
none_taken owner frame (stores.Answered (answers.Took q)) not_took = absurd (not_took q refl)
none_taken owner frame (stores.Answered (answers.Next q)) not_took = refl
none_taken owner frame (stores.Answered (answers.Number q)) not_took = refl
none_taken owner frame (stores.Answered (answers.Clash what place)) not_took = refl
none_taken owner frame (stores.Answered (answers.Found count walk)) not_took = refl
none_taken owner frame (stores.Answered answers.BadList) not_took = refl
none_taken owner frame (stores.Answered answers.NoMemory) not_took = refl
none_taken owner frame (stores.Answered answers.OutOfPlace) not_took = refl
none_taken owner frame stores.StoreFault not_took = refl

-- nothing was done
pub lasts_still : (frames : List OwnedFrame) (frame : FrameText) (answer : StoreAnswer) (old new : OwnersView) (content : Option (List ℕ)) (images : List ℕ → Type 0) → new ≡ old
    → ((q : ℕ) → answer ≢ stores.Answered (answers.Took q)) → IsOwnersOf frames old content images → IsOwnersOf (frames ++ taken_by (chosen_owner old) frame answer) new content images
lasts_still frames frame answer old new content images same not_took is =
    subst (λ l. IsOwnersOf l new content images) (sym (ap (λ l. frames ++ l) (none_taken (chosen_owner old) frame answer not_took) ∙ append-nil frames))
    (subst (λ v. IsOwnersOf frames v content images) (sym same) is)

-- another of them is chosen
pub chosen_taken : (frames : List OwnedFrame) (old new : OwnersView) (content : Option (List ℕ)) (images : List ℕ → Type 0) → new.chosen < length new.numbers
    → (new.numbers ≡ old.numbers) × (new.states ≡ old.states) × (new.journal ≡ old.journal) → IsOwnersOf frames old content images → IsOwnersOf frames new content images
chosen_taken frames old new content images within same is = record {
  chosen_is_one = within;
  are_taken = subst (λ ns. AreOwnTaken ns [] frames) (sym same.0) is.are_taken;
  states_are = same.1 ∙ is.states_are ∙ ap (λ ns. states_of ns frames) (sym same.0);
  whole = subst (λ j. broken_by j ≡ None → IsJournalOf (records frames) j content images) (sym same.2) is.whole;
  left = λ bytes image. subst (λ ns. GivesAtMostOneMore ns frames bytes) (sym same.0) (is.left bytes image);
}
