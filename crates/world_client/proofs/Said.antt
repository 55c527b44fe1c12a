-- What an answer makes of a client, by what the reply says.
use Rattle.std.proofs.Common.{◌≡◌, ℕ, List, [], ◌++◌, None, Some, Result, Ok, Err, refl, sym, ap, ◌∙◌, subst, arith}
use Rattle.client_core.specs.States.{BehindState, ClientOf, ReadyState}
use Rattle.client_core.specs.declared.fresh.Fresh.{Fresh}
use Rattle.client_core.specs.declared.restored.Restored.{Restored}
use Rattle.client_registry.specs.Epochs.{begins, key_now}
use Rattle.client_registry.specs.Run.{Epochs, History, last_run}
use Rattle.client_registry.specs.declared.word.Word.{Word}
use Rattle.keyed_fn.specs.KeyedFn.{KeyedFn}
use Rattle.sse_frames.proofs.ReplyBytesLaws.{one_reply}
use Rattle.sse_frames.specs.ReadOutcomes.{IsReply}
use Rattle.sse_frames.specs.Replies.{ReplyText, Next, Took, Number, Clash, Page, BadList, NoMemory, StoreFault, BadFrame, OutOfPlace, InReplies, reply_bytes}
use Rattle.world_model.specs.World.{Phase, Greets, Rests, Sends, Asks}
use Rattle.world_client.proofs.Histories.{last_within}
use Rattle.world_client.specs.Answering.{GoesOn, GoesOnAt, GoesOnBehind, next_told}
use Rattle.world_client.specs.Clients.{IsClientIn, IsGreeting, IsSending}
use Rattle.world_client.specs.Histories.{IsOfClient}
use Rattle.world_client.specs.declared.state.Gone.{Gone}
use Rattle.world_client.specs.declared.state.Gone.TheVariants as gone
use Rattle.world_client.specs.declared.state.State.{State}
use Rattle.world_client.specs.declared.state.State.TheVariants as states

module _ (f : KeyedFn) (first : List ℕ) where
  -- a client that greets is told a number, or it is gone
  pub greeted_next : (h : History) (text : ReplyText) (next : ℕ) (result : Result State Gone) → Some next ≡ next_told text → GoesOnAt f first h next result → GoesOn f first h Greets text result
  greeted_next h (Next n) next result e at = let same : next ≡ n = cc in subst (λ k. GoesOnAt f first h k result) same at
  greeted_next h (Took n) next result e at = absurd (cc)
  greeted_next h (Number n) next result e at = absurd (cc)
  greeted_next h (Clash what place) next result e at = absurd (cc)
  greeted_next h (Page last ids) next result e at = absurd (cc)
  greeted_next h BadList next result e at = absurd (cc)
  greeted_next h NoMemory next result e at = absurd (cc)
  greeted_next h StoreFault next result e at = absurd (cc)
  greeted_next h (BadFrame reason) next result e at = absurd (cc)
  greeted_next h OutOfPlace next result e at = absurd (cc)

  pub greeted_other : (h : History) (text : ReplyText) → None ≡ next_told text → GoesOn f first h Greets text (Err gone.Unwanted)
  greeted_other h (Next n) e = absurd (cc)
  greeted_other h (Took n) e = refl
  greeted_other h (Number n) e = refl
  greeted_other h (Clash what place) e = refl
  greeted_other h (Page last ids) e = refl
  greeted_other h BadList e = refl
  greeted_other h NoMemory e = refl
  greeted_other h StoreFault e = refl
  greeted_other h (BadFrame reason) e = refl
  greeted_other h OutOfPlace e = refl

  -- a client that sends is told that its frame was taken, or it is gone
  module _ (es : Epochs) (next : ℕ) where
    -- the reply says that the frame of this number was taken, or it doesn't
    said : (text : ReplyText) (reply : List ℕ) (result : Result State Gone) → InReplies (Took next) → IsReply text reply → GoesOnBehind f first es next reply result → GoesOn f first (Some es) (Sends next) text result
    said text reply (Ok state) number is goes =
        let same : text ≡ Took next = (one_reply text (Took next) [] [] is.grammar number (ap (λ bytes. bytes ++ []) (sym is.spelled ∙ goes.0))).0 in
        subst (λ t. GoesOn f first (Some es) (Sends next) t (Ok state)) (sym same) (refl, goes.1)
    said text reply (Err gone.Unwanted) number is goes = unwanted text is
      where
        unwanted : (text : ReplyText) → IsReply text reply → GoesOn f first (Some es) (Sends next) text (Err gone.Unwanted)
        unwanted (Took n) is = λ same. goes (is.spelled ∙ ap (λ k. reply_bytes (Took k)) same)
        unwanted (Next n) is = refl
        unwanted (Number n) is = refl
        unwanted (Clash what place) is = refl
        unwanted (Page last ids) is = refl
        unwanted BadList is = refl
        unwanted NoMemory is = refl
        unwanted StoreFault is = refl
        unwanted (BadFrame reason) is = refl
        unwanted OutOfPlace is = refl
    said text reply (Err gone.NoMemory) number is goes = absurd goes

    -- a client sends frames that can be numbered
    numbered : (client : ClientOf BehindState) → IsOfClient f first (Some es) → IsSending f first es next client → InReplies (Took next)
    numbered client of is = omega (arith, is.owes.some, is.low, of.kept.1, last_within f (λ epoch. key_now first es) (begins es) (last_run es))

    pub acknowledged_by : (client : ClientOf BehindState) (text : ReplyText) (reply : List ℕ) (result : Result State Gone) → IsOfClient f first (Some es) → IsSending f first es next client → IsReply text reply
        → GoesOnBehind f first es next reply result → GoesOn f first (Some es) (Sends next) text result
    acknowledged_by client text reply result of is reads goes = said text reply result (numbered client of is) reads goes

  -- In each state.

  pub answered_greeting : (h : History) (phase : Phase (List ℕ)) (client : Restored) (text : ReplyText) (result : Result State Gone) → IsClientIn f first h phase (states.Greeting client)
      → (IsGreeting f first h client → GoesOn f first h Greets text result) → GoesOn f first h phase text result
  answered_greeting None Greets client text result is goes = goes is
  answered_greeting (Some es) Greets client text result is goes = goes is
  answered_greeting None Rests client text result is goes = absurd is
  answered_greeting (Some es) Rests client text result is goes = absurd is
  answered_greeting None (Sends next) client text result is goes = absurd is
  answered_greeting (Some es) (Sends next) client text result is goes = absurd is
  answered_greeting None (Asks word) client text result is goes = absurd is
  answered_greeting (Some es) (Asks word) client text result is goes = absurd is

  pub answered_sending : (h : History) (phase : Phase (List ℕ)) (client : ClientOf BehindState) (text : ReplyText) (reply : List ℕ) (result : Result State Gone) → IsOfClient f first h → IsClientIn f first h phase (states.Sending client)
      → IsReply text reply → ((es : Epochs) (next : ℕ) → IsSending f first es next client → GoesOnBehind f first es next reply result) → GoesOn f first h phase text result
  answered_sending None Greets client text reply result of is reads goes = absurd is
  answered_sending (Some es) Greets client text reply result of is reads goes = absurd is
  answered_sending None Rests client text reply result of is reads goes = absurd is
  answered_sending (Some es) Rests client text reply result of is reads goes = absurd is
  answered_sending None (Sends next) client text reply result of is reads goes = absurd is
  answered_sending (Some es) (Sends next) client text reply result of is reads goes = acknowledged_by es next client text reply result of is reads (goes es next is)
  answered_sending None (Asks word) client text reply result of is reads goes = absurd is
  answered_sending (Some es) (Asks word) client text reply result of is reads goes = absurd is

  pub answered_fresh : (h : History) (phase : Phase (List ℕ)) (client : ClientOf Fresh) (text : ReplyText) → IsClientIn f first h phase (states.Fresh client) → GoesOn f first h phase text (Err gone.Unwanted)
  answered_fresh None Greets client text is = absurd is
  answered_fresh (Some es) Greets client text is = absurd is
  answered_fresh None Rests client text is = refl
  answered_fresh (Some es) Rests client text is = absurd is
  answered_fresh None (Sends next) client text is = absurd is
  answered_fresh (Some es) (Sends next) client text is = absurd is
  answered_fresh None (Asks word) client text is = absurd is
  answered_fresh (Some es) (Asks word) client text is = absurd is

  pub answered_rested : (h : History) (phase : Phase (List ℕ)) (client : ClientOf ReadyState) (text : ReplyText) → IsClientIn f first h phase (states.Resting client) → GoesOn f first h phase text (Err gone.Unwanted)
  answered_rested None Greets client text is = absurd is
  answered_rested (Some es) Greets client text is = absurd is
  answered_rested None Rests client text is = absurd is
  answered_rested (Some es) Rests client text is = refl
  answered_rested None (Sends next) client text is = absurd is
  answered_rested (Some es) (Sends next) client text is = absurd is
  answered_rested None (Asks word) client text is = absurd is
  answered_rested (Some es) (Asks word) client text is = absurd is

  pub answered_asked : (h : History) (phase : Phase (List ℕ)) (client : ClientOf ReadyState) (asked : Word) (text : ReplyText) → IsClientIn f first h phase (states.Asking client asked) → GoesOn f first h phase text (Err gone.Unwanted)
  answered_asked None Greets client asked text is = absurd is
  answered_asked (Some es) Greets client asked text is = absurd is
  answered_asked None Rests client asked text is = absurd is
  answered_asked (Some es) Rests client asked text is = absurd is
  answered_asked None (Sends next) client asked text is = absurd is
  answered_asked (Some es) (Sends next) client asked text is = absurd is
  answered_asked None (Asks word) client asked text is = absurd is
  answered_asked (Some es) (Asks word) client asked text is = refl
