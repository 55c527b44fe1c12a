-- A frame that a server handles is answered as the mark of its replies says.
use Rattle.std.proofs.Common.{◌≡◌, ◌≢◌, ◌⊎◌, inl, inr, ℕ, List, map, refl, ap, ◌∙◌, subst, sym}
use Rattle.keyed_fn.specs.KeyedFn.{KeyedFn}
use Rattle.std.specs.Prelude.{IsSome}
use Rattle.sse_frames.specs.Frames.{FrameText, Hello, SetupBegin, SetupDict, SetupArray, SetupEnd, AddFrame, DeleteFrame, SearchFrame, update_number}
use Rattle.sse_frames.specs.Replies.{ReplyText, reply_bytes}
use Rattle.server_core.specs.declared.answer.Answer.{Answer}
use Rattle.server_core.specs.declared.answer.Answer.TheVariants as answers
use Rattle.server_core.specs.State.{ServerState}
use Rattle.server_core.specs.Step.{step}
use Rattle.server_core.specs.Views.{answer_replies, TakesMemory}
use Rattle.def_link_events.specs.Served.{Answers}
use Rattle.def_link_events.specs.declared.mark.Mark.{Mark}
use Rattle.def_link_events.specs.declared.mark.Mark.TheVariants.{Stepped, LackedMemory}

-- an answer is out of memory, or it isn't
lacks_memory : (answer : Answer) → (answer ≡ answers.NoMemory) ⊎ (answer ≢ answers.NoMemory)
lacks_memory (answers.Next q) = inr (λ e. absurd cc)
lacks_memory (answers.Took q) = inr (λ e. absurd cc)
lacks_memory (answers.Number q) = inr (λ e. absurd cc)
lacks_memory (answers.Clash what place) = inr (λ e. absurd cc)
lacks_memory (answers.Found count walk) = inr (λ e. absurd cc)
lacks_memory answers.BadList = inr (λ e. absurd cc)
lacks_memory answers.NoMemory = inl refl
lacks_memory answers.OutOfPlace = inr (λ e. absurd cc)

-- a frame for which a server takes memory is an update frame
takes_update : (frame : FrameText) → TakesMemory frame → IsSome (update_number frame)
takes_update Hello takes = absurd takes
takes_update (SetupBegin q b big m a) takes = refl
takes_update (SetupDict q width entries) takes = refl
takes_update (SetupArray q width blocks) takes = refl
takes_update (SetupEnd q) takes = refl
takes_update (AddFrame q entries numbers) takes = refl
takes_update (DeleteFrame q numbers) takes = refl
takes_update (SearchFrame token) takes = absurd takes

-- a frame that was read and handled
pub Answers-handled : (f : KeyedFn) (before after : ServerState) (page : List ℕ) (read frame : FrameText) (answer : Answer) (mark : Mark) (replies : List ReplyText)
    → read ≡ frame
    → (answer ≢ answers.NoMemory → after ≡ (step f before read).0)
    → (answer ≢ answers.NoMemory → answer_replies f after answer page ≡ (step f before read).1)
    → (answer ≡ answers.NoMemory → (after ≡ before) × TakesMemory read)
    → replies ≡ answer_replies f after answer page
    → (answer ≢ answers.NoMemory → mark ≡ Stepped)
    → (answer ≡ answers.NoMemory → mark ≡ LackedMemory)
    → Answers f before frame mark after (map reply_bytes replies)
Answers-handled f before after page read frame answer mark replies same state answered lacking are stepped lacked =
    elim (lacks_memory answer) [
      | inl lacks ↦ subst (λ m. Answers f before frame m after (map reply_bytes replies)) (sym (lacked lacks))
          record {
            update = subst (λ g. IsSome (update_number g)) same (takes_update read (lacking lacks).1);
            state = (lacking lacks).0;
            replies_are = ap (map reply_bytes) (are ∙ ap (λ a. answer_replies f after a page) lacks);
          }
      | inr has ↦ subst (λ m. Answers f before frame m after (map reply_bytes replies)) (sym (stepped has))
          record {
            state = state has ∙ ap (λ g. (step f before g).0) same;
            replies_are = ap (map reply_bytes) (are ∙ answered has ∙ ap (λ g. (step f before g).1) same);
          }
    ]
