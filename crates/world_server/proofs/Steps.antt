-- What a server's step says of an update frame, and of a store at one.
use Rattle.std.proofs.Common.{◌≡◌, ℕ, ◌+◌, List, [], ◌∷◌, ◌++◌, refl, sym, ap, ◌∙◌, subst, arith}
use Rattle.std.specs.Prelude.{◌≢◌, Option, Some, None, IsSome, IfSome}
use Rattle.std.specs.Option.{option_map_or}
use Rattle.keyed_fn.specs.KeyedFn.{KeyedFn}
use Rattle.outside_memory_disk.specs.MemDisk.{file_of, images_of}
use Rattle.outside_memory_disk.specs.declared.mem_disk.MemDisk.{MemDisk}
use Rattle.sse_frames.specs.Frames.{FrameText, Hello, SetupBegin, SetupDict, SetupArray, SetupEnd, AddFrame, DeleteFrame, SearchFrame, update_number}
use Rattle.sse_frames.specs.Replies.{ReplyText, Took}
use Rattle.sse_journal.specs.JournalView.{broken_by, records_of, IsJournalOf}
use Rattle.sse_journal.specs.declared.journal.Journal.{Journal}
use Rattle.sse_outside.specs.declared.device_fault.DeviceFault.{DeviceFault}
use Rattle.sse_outside.specs.declared.device_fault.DeviceFault.TheVariants as device
use Rattle.server_core.specs.Refusal.{refusal}
use Rattle.server_core.specs.State.{ServerState}
use Rattle.server_core.specs.Step.{taken, answers, step}
use Rattle.server_core.specs.declared.answer.Answer.{Answer}
use Rattle.server_core.specs.declared.answer.Answer.TheVariants as core
use Rattle.sse_server.specs.Answers.{fault_answer}
use Rattle.sse_server.specs.StoreView.{StoreView}
use Rattle.sse_server.specs.Taken.{IsTaken, AreTaken, taken_all, bodies}
use Rattle.sse_server.specs.declared.store_answer.StoreAnswer.{StoreAnswer}
use Rattle.sse_server.specs.declared.store_answer.StoreAnswer.TheVariants.{Answered, StoreFault}
use Rattle.world_server.specs.Serving.{Serves}

-- the last of frames that are taken is taken after the others
pub AreTaken-last : (s : ServerState) (frames : List FrameText) (frame : FrameText) → AreTaken s (frames ++ frame ∷ []) → IsTaken (taken_all s frames) frame
AreTaken-last s [] frame are = are.0
AreTaken-last s (x ∷ xs) frame are = AreTaken-last (taken s x) xs frame are.1

-- the step, by whether the frame is refused
stepped_by : (f : KeyedFn) (s : ServerState) (frame : FrameText) → Option ReplyText → ServerState × List ReplyText
stepped_by f s frame refused = option_map_or (λ reply. (s, reply ∷ [])) refused (taken s frame, answers f s frame)

-- an update frame that is taken is answered with its number
answers_update : (f : KeyedFn) (s : ServerState) (frame : FrameText) → IsSome (update_number frame) → (q : ℕ) × (answers f s frame ≡ Took q ∷ []) × (update_number frame ≡ Some q)
answers_update f s Hello some = let none : IsSome {T = ℕ} None = some in cc
answers_update f s (SetupBegin q b big m a) some = (q, refl, refl)
answers_update f s (SetupDict q width entries) some = (q, refl, refl)
answers_update f s (SetupArray q width blocks) some = (q, refl, refl)
answers_update f s (SetupEnd q) some = (q, refl, refl)
answers_update f s (AddFrame q entries numbers) some = (q, refl, refl)
answers_update f s (DeleteFrame q numbers) some = (q, refl, refl)
answers_update f s (SearchFrame token) some = let none : IsSome {T = ℕ} None = some in cc

-- the number of an acknowledgement is that of the frame
pub step_took : (f : KeyedFn) (s : ServerState) (frame : FrameText) (q : ℕ) → IsTaken s frame → Took q ∷ [] ≡ (step f s frame).1 → update_number frame ≡ Some q
unfolding stepped_by
step_took f s frame q is replied =
    let one = answers_update f s frame is.update in
    let same : Took q ∷ [] ≡ Took one.0 ∷ [] = replied ∙ ap (λ r. (stepped_by f s frame r).1) is.accepted ∙ one.1 in
    let number : one.0 ≡ q = cc in
    one.2 ∙ ap (λ n. Some n) number

refused_by : (f : KeyedFn) (s : ServerState) (frame : FrameText) (reply : ReplyText) (refused : Option ReplyText) → IsSome (update_number frame) → ((q : ℕ) → reply ≢ Took q) → reply ∷ [] ≡ (stepped_by f s frame refused).1 → refused ≡ Some reply
unfolding stepped_by
refused_by f s frame reply None update other replied =
    let one = answers_update f s frame update in
    let same : reply ∷ [] ≡ Took one.0 ∷ [] = replied ∙ one.1 in
    absurd (other one.0 cc)
refused_by f s frame reply (Some x) update other replied =
    let same : reply ∷ [] ≡ x ∷ [] = replied in cc

-- a reply that is no acknowledgement is why the frame is refused
pub step_refused : (f : KeyedFn) (s : ServerState) (frame : FrameText) (reply : ReplyText) → IsSome (update_number frame) → ((q : ℕ) → reply ≢ Took q) → reply ∷ [] ≡ (step f s frame).1 → refusal s frame ≡ Some reply
unfolding stepped_by
step_refused f s frame reply update other replied = refused_by f s frame reply (refusal s frame) update other replied

-- and then the state stays
pub refused_stays : (f : KeyedFn) (s : ServerState) (frame : FrameText) (reply : ReplyText) → refusal s frame ≡ Some reply → (step f s frame).0 ≡ s
unfolding stepped_by
refused_stays f s frame reply e = ap (λ r. (stepped_by f s frame r).0) e

pub refused_untaken : (s : ServerState) (frame : FrameText) (reply : ReplyText) → refusal s frame ≡ Some reply → IsTaken s frame → ⊥
refused_untaken s frame reply e is = let same : Some reply ≡ None = sym e ∙ is.accepted in cc

-- a store with the same state and journal on the same disk
pub serves_same : (frames : List FrameText) (old new : StoreView) (d d' : MemDisk) → d' ≡ d → new.journal ≡ old.journal → new.state ≡ old.state → Serves frames old d → Serves frames new d'
serves_same frames old new d d' disk journal state s = record {
  whole = ap broken_by journal ∙ s.whole;
  is = record {
    are_taken = s.is.are_taken;
    state_is = state ∙ s.is.state_is;
    journal_is = subst (λ j. IsJournalOf (bodies frames) j (Some (file_of d')) (images_of d')) (sym journal)
        (subst (λ e. IsJournalOf (bodies frames) old.journal (Some (file_of e)) (images_of e)) (sym disk) s.is.journal_is);
  };
}

-- an answer that is neither out of memory nor a fault of the disk leaves a journal that takes more
pub whole_unless : (why : Option DeviceFault) (answer : StoreAnswer) → IfSome why (λ fault. answer ≡ fault_answer fault) → answer ≢ Answered core.NoMemory → answer ≢ StoreFault → why ≡ None
whole_unless None answer is memory fault = refl
whole_unless (Some device.Failed) answer is memory fault = absurd (fault is)
whole_unless (Some device.NoMemory) answer is memory fault = absurd (memory is)

-- a journal with one record more is another one
pub other_journal : (old new : Journal) → new ≡ old → records_of new ≡ records_of old + 1 → ⊥
other_journal old new same more = let e = ap records_of same in omega (arith, e, more)

pub answered_same : (a b : Answer) → Answered a ≡ Answered b → a ≡ b
answered_same a b e = cc
