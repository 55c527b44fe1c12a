-- What an owner's server answers to a frame that it takes, and to one that it doesn't.
use Rattle.std.proofs.Common.{◌≡◌, ℕ, List, [], ◌∷◌, refl, sym, ◌∙◌, ap, subst}
use Rattle.std.specs.Prelude.{◌≢◌, Option, Some, None, IfSome}
use Rattle.std.specs.Option.{option_map_or}
use Rattle.search_token.specs.KeyedFn.{KeyedFn}
use Rattle.sse_frames.specs.Frames.{FrameText, Hello, SetupBegin, SetupDict, SetupArray, SetupEnd, AddFrame, DeleteFrame, SearchFrame, update_number}
use Rattle.sse_frames.specs.Replies.{ReplyText}
use Rattle.sse_frames.specs.Replies as replies
use Rattle.sse_outside.specs.declared.device_fault.DeviceFault.{DeviceFault}
use Rattle.sse_journal.specs.JournalView.{broken_by}
use Rattle.sse_journal.specs.declared.journal.Journal.{Journal}
use Rattle.server_core.specs.Refusal.{refusal}
use Rattle.server_core.specs.State.{ServerState}
use Rattle.server_core.specs.Step.{taken, answers, step}
use Rattle.server_core.specs.Views.{HasBegun, HasRange}
use Rattle.server_core.specs.declared.answer.Answer.{Answer}
use Rattle.server_core.specs.declared.answer.Answer.TheVariants.{Took, NoMemory}
use Rattle.sse_server.specs.Answers.{IfAnswered, fault_answer, store_replies}
use Rattle.sse_server.specs.Taken.{IsTaken}
use Rattle.sse_server.proofs.AnswerLaws.{for_some}
use Rattle.sse_server.specs.declared.store_answer.StoreAnswer.{StoreAnswer}
use Rattle.sse_server.specs.declared.store_answer.StoreAnswer.TheVariants.{Answered, StoreFault}
use Rattle.sse_owners.specs.Handled.{IsAnsweredBy, KeepsJournal}

pub never_took : (core : Answer) → ((q : ℕ) → core ≢ Took q) → (q : ℕ) → Answered core ≢ Answered (Took q)
never_took core not_took q e = not_took q (let same : core ≡ Took q = cc in same)

pub no_fault : (core : Answer) → Answered core ≢ StoreFault
no_fault core e = cc

pub took_some : (answer : StoreAnswer) (q : ℕ) → answer ≡ Answered (Took q) → answer ≢ Answered NoMemory
took_some answer q took wanting = let two : Answered (Took q) ≡ Answered NoMemory = sym took ∙ wanting in cc

pub took_sound : (answer : StoreAnswer) (q : ℕ) → answer ≡ Answered (Took q) → answer ≢ StoreFault
took_sound answer q took fault = let two : Answered (Took q) ≡ StoreFault = sym took ∙ fault in cc

-- a frame that isn't taken, in place of which nothing was done
pub journal_still : {D : Type 0} (before : ServerState) (frame : FrameText) (answer : StoreAnswer) (journal : Journal) (disk : D) → (IsTaken before frame → ⊥) → ((q : ℕ) → answer ≢ Answered (Took q)) → answer ≢ StoreFault
    → KeepsJournal before frame answer journal journal disk disk
journal_still before frame answer journal disk untaken not_took sound = record {
  untouched = λ _. (refl, refl);
  counted = λ q e. absurd (not_took q e);
  sound = λ q e. absurd (not_took q e);
  broken = λ _. (refl, refl);
  stays_broken = for_some (broken_by journal) _ (λ why is. absurd (untaken is));
  breaks = λ whole. subst (λ (o : Option DeviceFault). IfSome o (λ why. answer ≡ fault_answer why)) (sym whole) tt;
  failed_breaks = λ e. absurd (sound e);
}

-- the replies to an update frame with the number that is expected
took_replies : (f : KeyedFn) (before : ServerState) (frame : FrameText) → Some before.next ≡ update_number frame → replies.Took before.next ∷ [] ≡ answers f before frame
took_replies f before Hello e = cc
took_replies f before (SearchFrame token) e = cc
took_replies f before (SetupBegin n b big m a) e = let same : before.next ≡ n = cc in ap (λ k. replies.Took k ∷ []) same
took_replies f before (SetupDict n width entries) e = let same : before.next ≡ n = cc in ap (λ k. replies.Took k ∷ []) same
took_replies f before (SetupArray n width blocks) e = let same : before.next ≡ n = cc in ap (λ k. replies.Took k ∷ []) same
took_replies f before (SetupEnd n) e = let same : before.next ≡ n = cc in ap (λ k. replies.Took k ∷ []) same
took_replies f before (AddFrame n entries numbers) e = let same : before.next ≡ n = cc in ap (λ k. replies.Took k ∷ []) same
took_replies f before (DeleteFrame n numbers) e = let same : before.next ≡ n = cc in ap (λ k. replies.Took k ∷ []) same

-- what a server's step leaves and replies, by whether the frame is refused
stepped : (f : KeyedFn) (before : ServerState) (frame : FrameText) → Option ReplyText → ServerState × List ReplyText
stepped f before frame refused = option_map_or (λ reply. (before, reply ∷ [])) refused (taken before frame, answers f before frame)

-- an update frame was refused, or taken, or there was no memory or the disk failed
module _ (f : KeyedFn) (before after : ServerState) (frame : FrameText) (answer : StoreAnswer) (page : List ℕ) (P Q : Type 0) where
  abbrev Refused : Option ReplyText → Type 0
  Refused r = IfSome r (λ reply. (after ≡ before) × P × Q × ((f : KeyedFn) (s : ServerState) (page : List ℕ) → store_replies f s answer page ≡ reply ∷ []))

  abbrev TakenSo : Type 0
  TakenSo = (after ≡ taken before frame) × (Some before.next ≡ update_number frame) × (answer ≡ Answered (Took before.next))

  by_refusal : (r : Option ReplyText) → Refused r → (r ≡ None → TakenSo) → (after ≡ (stepped f before frame r).0) × (store_replies f after answer page ≡ (stepped f before frame r).1)
  unfolding stepped
  by_refusal (Some reply) is none = (is.0, is.3 f after page)
  by_refusal None is none = let one = none refl in (one.0, ap (λ a. store_replies f after a page) one.2 ∙ took_replies f before frame one.1)

  stepped_is : answer ≢ Answered NoMemory → answer ≢ StoreFault → Refused (refusal before frame) → (refusal before frame ≡ None → answer ≢ Answered NoMemory → answer ≢ StoreFault → TakenSo)
      → (after ≡ (step f before frame).0) × (store_replies f after answer page ≡ (step f before frame).1)
  unfolding stepped
  stepped_is some sound refused one = by_refusal (refusal before frame) refused (λ accepted. one accepted some sound)

  pub answered_of : Refused (refusal before frame) → (refusal before frame ≡ None → answer ≢ Answered NoMemory → answer ≢ StoreFault → TakenSo)
      → (answer ≡ Answered NoMemory → (after ≡ before) × IsTaken before frame) → (answer ≡ StoreFault → (after ≡ before) × IsTaken before frame)
      → IfAnswered answer (λ core. (f : KeyedFn) (s : ServerState) (page : List ℕ) → HasBegun f s core page) → IfAnswered answer (λ core. HasRange core) → IsAnsweredBy f before frame answer page after
  answered_of refused one no_memory store_fault no_search range = record {
    state = λ some sound. (stepped_is some sound refused one).0;
    replies_are = λ some sound. (stepped_is some sound refused one).1;
    no_memory = no_memory;
    store_fault = store_fault;
    begun = begun answer no_search;
    range = range;
  }
    where
      begun : (a : StoreAnswer) → IfAnswered a (λ core. (f : KeyedFn) (s : ServerState) (page : List ℕ) → HasBegun f s core page) → IfAnswered a (λ core. HasBegun f after core page)
      begun (Answered core) none = none f after page
      begun StoreFault none = tt

-- one that isn't taken was refused, and nothing was done
pub untouched_of : (before after : ServerState) (frame : FrameText) (P Q : Type 0) (R : ReplyText → Type 0) → (IsTaken before frame → ⊥) → (refusal before frame ≡ None → IsTaken before frame) → IfSome (refusal before frame) (λ reply. (after ≡ before) × P × Q × R reply) → Q × P
untouched_of before after frame P Q R untaken taken_if refused = by (refusal before frame) refused taken_if
  where
    by : (r : Option ReplyText) → IfSome r (λ reply. (after ≡ before) × P × Q × R reply) → (r ≡ None → IsTaken before frame) → Q × P
    by None is none = absurd (untaken (none refl))
    by (Some reply) is none = (is.2, is.1)
