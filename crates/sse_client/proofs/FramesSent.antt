-- How far the sending of update frames is.
use Rattle.std.proofs.Common.{◌≡◌, ℕ, ◌+◌, List, [], ◌∷◌, ◌++◌, length, take, drop, Some, refl, sym, ap, subst, ◌∙◌, append_assoc, Result, Ok, Err}
use Rattle.std.specs.Prelude.{IsErrAnd}
use Rattle.std.proofs.lemmas.List.{take_at, drop_at}
use Rattle.std.proofs.Math.Seq.{take-append-add, drop-append-add}
use Rattle.client_core.specs.TakenViews.{first_number, to_send}
use Rattle.client_core.specs.declared.behind.Behind.{Behind}
use Rattle.client_replies.specs.Faults.{IsFaultOf}
use Rattle.client_replies.specs.declared.reply_fault.ReplyFault.{ReplyFault}
use Rattle.sse_frames.specs.Exchange.{ForTook}
use Rattle.sse_frames.specs.Frames.{FrameText, frame_bytes, update_number}
use Rattle.sse_frames.specs.Replies.{Took, reply_bytes}
use Rattle.sse_script.specs.Shown.{Cause}
use Rattle.def_script_meaning.proofs.GoneAsMeant.{Adds-joined, Adds-nothing, AreExchanged-both, AreExchanged-none}
use Rattle.def_script_meaning.specs.Exchange.{Told, AreExchanged, IsCut}
use Rattle.sse_client.specs.Exchanges.{HasExchanged, HasCut}
use Rattle.client_core.specs.Owes.{AreNumbered}
use Rattle.sse_client.specs.Progress.{IsAnswered, IsUnanswered}
use Rattle.sse_client.specs.Steps.{AreOwed, IsSending, StepsOver}
use Rattle.sse_client.specs.Stops.{cause_of_fault}
use Rattle.sse_client.specs.declared.frame_exchange.Step.{Step}
use Rattle.script_run_texts.specs.Stops.{peer_cause}
use Rattle.script_run_texts.specs.declared.peer_stop.PeerStop.{PeerStop}
use Rattle.sse_client.proofs.PartOfExchange.{IsBegun, IsBegun-unanswered, IsBegun-answered, HasExchanged-answered, asked-update_number, update-behind_greeting, shows_to_update}
use Rattle.sse_client.proofs.FramesUnderWay.{IsNext, next_of, none_mapped}

-- frames that were exchanged, and then others, where none is a search that was answered
pub HasExchanged-joined : (old between new : Told) (xs ys : List FrameText) → HasExchanged old between [] xs → HasExchanged between new [] ys → HasExchanged old new [] (xs ++ ys)
HasExchanged-joined old between new xs ys first second = record {
  events = first.events ++ second.events;
  adds = Adds-joined old between new first.events second.events first.adds second.adds;
  exchanged = AreExchanged-both [] [] xs ys first.events second.events first.exchanged second.exchanged;
}

-- nothing was exchanged yet
pub IsSending-begun : (told : Told) (state : Behind) (frames : List FrameText) → AreOwed state frames → IsSending told told state frames
IsSending-begun told state frames owed = record {
  done = [];
  left = frames;
  parts = refl;
  exchanged = record { events = []; adds = Adds-nothing told; exchanged = AreExchanged-none };
  to_come = owed.0;
  numbered = owed.1;
}

one_done : (old now new : Told) (done : List FrameText) (first : FrameText) (q : ℕ) (frame reply : List ℕ) → HasExchanged old now [] done → frame ≡ frame_bytes first → update_number first ≡ Some q
    → reply ≡ reply_bytes (Took q) → IsAnswered now new frame reply → HasExchanged old new [] (done ++ first ∷ [])
one_done old now new done first q frame reply exchanged spelled number took answered =
    HasExchanged-joined old now new done (first ∷ []) exchanged (HasExchanged-answered now new frame reply first (ForTook q) (Took q) (asked-update_number first q number) refl refl spelled took answered)

-- an acknowledgement takes the next one off
pub IsSending-next : (old now new : Told) (state later : Behind) (frames : List FrameText) (frame reply : List ℕ) → IsSending old now state frames → take 1 (to_send state) ≡ frame ∷ []
    → IsAnswered now new frame reply → reply ≡ reply_bytes (Took (first_number state)) → to_send later ≡ drop 1 (to_send state) → first_number later ≡ first_number state + 1 → IsSending old new later frames
IsSending-next old now new state later frames frame reply way one answered took rest counted =
    let n = next_of state frame way.left way.to_come way.numbered one in
    record {
      done = way.done ++ n.first ∷ [];
      left = n.others;
      parts = way.parts ∙ ap (λ x. way.done ++ x) n.are ∙ sym (append_assoc way.done (n.first ∷ []) n.others);
      exchanged = one_done old now new way.done n.first (first_number state) frame reply way.exchanged n.spelled n.number took answered;
      to_come = rest ∙ n.more;
      numbered = subst (λ q. AreNumbered q n.others) (sym counted) n.numbered;
    }

-- the last acknowledgement ends it
pub IsSending-last : (old now new : Told) (state : Behind) (frames : List FrameText) (frame reply : List ℕ) → IsSending old now state frames → take 1 (to_send state) ≡ frame ∷ []
    → IsAnswered now new frame reply → reply ≡ reply_bytes (Took (first_number state)) → drop 1 (to_send state) ≡ [] → HasExchanged old new [] frames
IsSending-last old now new state frames frame reply way one answered took rest =
    let n = next_of state frame way.left way.to_come way.numbered one in
    subst (HasExchanged old new []) (sym (way.parts ∙ ap (λ x. way.done ++ x) (n.are ∙ ap (λ x. n.first ∷ x) (none_mapped n.others (sym n.more ∙ rest)))))
    (one_done old now new way.done n.first (first_number state) frame reply way.exchanged n.spelled n.number took answered)

-- what cuts the next one cuts the sending there
HasCut-next : (old now new : Told) (state : Behind) (frames : List FrameText) (frame : List ℕ) (c : Cause) (way : IsSending old now state frames) (n : IsNext state frame way.left) → IsBegun now new n.first c
    → HasCut old new frames c
HasCut-next old now new state frames frame c way n begun = record {
  events = way.exchanged.events ++ begun.events;
  adds = Adds-joined old now new way.exchanged.events begun.events way.exchanged.adds begun.adds;
  cut = record {
    n = length way.done;
    answers = [];
    before = way.exchanged.events;
    cut = begun.events;
    parts = refl;
    exchanged = subst (λ fs. AreExchanged [] fs way.exchanged.events) (sym (ap (take (length way.done)) way.parts ∙ take_at way.done way.left (length way.done) refl)) way.exchanged.exchanged;
    one_more = subst (λ fs. IsCut fs begun.events c) (sym (ap (drop (length way.done)) way.parts ∙ drop_at way.done way.left (length way.done) refl ∙ n.are)) begun.part;
  };
}

-- no reply to it came
pub HasCut-unanswered : (old now new : Told) (state : Behind) (frames : List FrameText) (frame : List ℕ) (c : Cause) → IsSending old now state frames → take 1 (to_send state) ≡ frame ∷ []
    → IsUnanswered now new frame c → HasCut old new frames c
HasCut-unanswered old now new state frames frame c way one un =
    let n = next_of state frame way.left way.to_come way.numbered one in
    HasCut-next old now new state frames frame c way n (IsBegun-unanswered now new frame n.first c (update-behind_greeting n.first (first_number state) n.number) n.spelled un)

-- or another one than its acknowledgement
pub HasCut-answered : (old now new : Told) (state : Behind) (frames : List FrameText) (frame reply : List ℕ) (fault : ReplyFault) → IsSending old now state frames → take 1 (to_send state) ≡ frame ∷ []
    → IsAnswered now new frame reply → (reply ≡ reply_bytes (Took (first_number state)) → ⊥) → IsFaultOf reply fault → HasCut old new frames (cause_of_fault fault reply)
HasCut-answered old now new state frames frame reply fault way one answered wrong is =
    let n = next_of state frame way.left way.to_come way.numbered one in
    HasCut-next old now new state frames frame (cause_of_fault fault reply) way n
    (IsBegun-answered now new frame reply n.first (cause_of_fault fault reply) n.spelled answered (shows_to_update n.first (first_number state) reply fault n.number wrong is))

-- What was exchanged, and then a step over what is left.

pub IsSending-joined : (old now new : Told) (state later : Behind) (frames : List FrameText) (way : IsSending old now state frames) → IsSending now new later way.left → IsSending old new later frames
IsSending-joined old now new state later frames way more = record {
  done = way.done ++ more.done;
  left = more.left;
  parts = way.parts ∙ ap (λ x. way.done ++ x) more.parts ∙ sym (append_assoc way.done more.done more.left);
  exchanged = HasExchanged-joined old now new way.done more.done way.exchanged more.exchanged;
  to_come = more.to_come;
  numbered = more.numbered;
}

pub HasExchanged-behind : (old now new : Told) (state : Behind) (frames : List FrameText) (way : IsSending old now state frames) → HasExchanged now new [] way.left → HasExchanged old new [] frames
HasExchanged-behind old now new state frames way more =
    subst (HasExchanged old new []) (sym way.parts) (HasExchanged-joined old now new way.done way.left way.exchanged more)

pub HasCut-behind : (old now new : Told) (state : Behind) (frames : List FrameText) (c : Cause) (way : IsSending old now state frames) → HasCut now new way.left c → HasCut old new frames c
HasCut-behind old now new state frames c way more = record {
  events = way.exchanged.events ++ more.events;
  adds = Adds-joined old now new way.exchanged.events more.events way.exchanged.adds more.adds;
  cut = record {
    n = length way.done + more.cut.n;
    answers = more.cut.answers;
    before = way.exchanged.events ++ more.cut.before;
    cut = more.cut.cut;
    parts = ap (λ es. way.exchanged.events ++ es) more.cut.parts ∙ sym (append_assoc way.exchanged.events more.cut.before more.cut.cut);
    exchanged =
        subst (λ fs. AreExchanged more.cut.answers fs (way.exchanged.events ++ more.cut.before)) (sym (ap (take (length way.done + more.cut.n)) way.parts ∙ take-append-add way.done way.left more.cut.n))
        (AreExchanged-both [] more.cut.answers way.done (take more.cut.n way.left) way.exchanged.events more.cut.before way.exchanged.exchanged more.cut.exchanged);
    one_more = subst (λ fs. IsCut fs more.cut.cut c) (sym (ap (drop (length way.done + more.cut.n)) way.parts ∙ drop-append-add way.done way.left more.cut.n)) more.cut.one_more;
  };
}

-- a step that stops is cut
pub StepsOver-err : (old new : Told) (frames : List FrameText) (r : Result Step PeerStop) (stop : PeerStop) → IsErrAnd r (λ e. e ≡ stop) → HasCut old new frames (peer_cause stop) → StepsOver old new frames r
StepsOver-err old new frames (Ok step) stop is cut = absurd is
StepsOver-err old new frames (Err e) stop is cut = subst (λ s. HasCut old new frames (peer_cause s)) (sym is) cut
