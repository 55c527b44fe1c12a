-- A connection, a step further.
use Rattle.std.proofs.Common.{◌≡◌, ◌⊎◌, inl, inr, ℕ, false, List, [], ◌∷◌, ◌++◌, Ok, Err, refl, sym, ap, subst, ◌∙◌, append_assoc}
use Rattle.std.specs.Prelude.{◌≢◌, flat_map, is_err, IsErr, if◌then◌else◌}
use Rattle.std.specs.declared.option.Option.{Option}
use Rattle.std.specs.declared.result.Result.{Result}
use Rattle.std.specs.Io.KnownBytes.{append_known, prepend_known}
use Rattle.std.proofs.lemmas.List.{append-nil}
use Rattle.keyed_fn.specs.KeyedFn.{KeyedFn}
use Rattle.sse_outside.specs.Fronts.{TookFront}
use Rattle.sse_frames.specs.Frames.{FrameText, InGrammar, frame_bytes}
use Rattle.sse_frames.specs.ReadOutcomes.{frame_outcome}
use Rattle.sse_frames.specs.Replies as replies
use Rattle.sse_frames.specs.Replies.{ReplyText, reply_bytes}
use Rattle.sse_frames.specs.SentParts.{pages_of}
use Rattle.sse_frames.specs.declared.fault.FrameFault.{FrameFault}
use Rattle.server_core.specs.State.{ServerState}
use Rattle.server_core.specs.declared.answer.Answer.{Answer}
use Rattle.server_core.specs.declared.answer.Answer.TheVariants as answers
use Rattle.sse_server.specs.Answers.{store_replies}
use Rattle.sse_server.specs.Taken.{IsTaken}
use Rattle.sse_server.specs.declared.store_answer.StoreAnswer.{StoreAnswer}
use Rattle.sse_server.specs.declared.store_answer.StoreAnswer.TheVariants as stores
use Rattle.sse_link.specs.BadFrames.{bad_reason}
use Rattle.tcp_service.specs.declared.conn_end.ConnEnd.{ConnEnd}
use Rattle.tcp_service.specs.declared.conn_end.ConnEnd.TheVariants.{Closed, CutShort, ReadFault, WriteFault, OutOfMemory, BadFrame, UnknownOwner, StoreFault}
use Rattle.server_connections.specs.Connections.{Finishes, IsCut, IsLast, HasFailed, bad_reply}
use Rattle.server_connections.specs.ConnectionSteps.{Goes, IsReplied, IsSaidLast}
use Rattle.tcp_service.specs.Arrivals.{IsCame, Stops}
use Rattle.tcp_service.proofs.Pieces.{flat_map-last, front-more, read-more, written-more}
use Rattle.server_connections.specs.Handled.{IsHandled, Last, Since, taken_by}
use Rattle.server_connections.specs.Turns.{Turn, IsTurn, AreTurns, IsAnswered, frames_of, replies_of, bytes_of, acknowledged, is_acknowledged}

-- One more frame.

AreTurns-last : (f : KeyedFn) (before mid after : ServerState) (turns : List Turn) (turn : Turn) → AreTurns f before turns mid → IsTurn f mid turn after → AreTurns f before (turns ++ turn ∷ []) after
AreTurns-last f before mid after [] turn are is = (after, subst (λ s. IsTurn f s turn after) are is, refl)
AreTurns-last f before mid after (first ∷ turns) turn are is = (are.0, are.1, AreTurns-last f are.0 mid after turns turn are.2 is)

-- one more frame of what was read
read-last : (left0 left : Option (List ℕ)) (turns : List Turn) (turn : Turn) (held held2 : List ℕ)
    → left0 ≡ prepend_known (frames_of turns ++ held) left → held ≡ frame_bytes turn.frame ++ held2
    → left0 ≡ prepend_known (frames_of (turns ++ turn ∷ []) ++ held2) left
read-last left0 left turns turn held held2 is held_is =
    is ∙ ap (λ l. prepend_known l left)
    (ap (λ l. frames_of turns ++ l) held_is
    ∙ sym (append_assoc (frames_of turns) (frame_bytes turn.frame) held2)
    ∙ ap (λ l. l ++ held2) (sym (flat_map-last (λ t. frame_bytes t.frame) turns turn)))

-- What lasts.

Last-more : (lasts0 lasts lasts2 : Since → List FrameText → Type 0) (first more all : List FrameText) → first ++ more ≡ all → Last lasts0 lasts first → Last lasts lasts2 more → Last lasts0 lasts2 all
Last-more lasts0 lasts lasts2 first more all is one two =
    λ since frames known. subst (lasts2 since) (append_assoc frames first more ∙ ap (λ l. frames ++ l) is) (two since (frames ++ first) (one since frames known))

no_more : (lasts0 lasts lasts2 : Since → List FrameText → Type 0) (frames : List FrameText) → Last lasts0 lasts frames → Last lasts lasts2 [] → Last lasts0 lasts2 frames
no_more lasts0 lasts lasts2 frames one two = Last-more lasts0 lasts lasts2 frames [] frames (append-nil frames) one two

is_acknowledged-pages_of : (ps : List (List ℕ)) → is_acknowledged (pages_of ps) ≡ false
is_acknowledged-pages_of [] = refl
is_acknowledged-pages_of (ids ∷ []) = refl
is_acknowledged-pages_of (ids ∷ more ∷ others) = refl

-- an update frame is acknowledged where it was taken
taken_by-acknowledged : (f : KeyedFn) (s : ServerState) (frame : FrameText) (answer : Answer) (page : List ℕ)
    → taken_by frame (stores.Answered answer) ≡ (if is_acknowledged (store_replies f s (stores.Answered answer) page) then frame ∷ [] else [])
taken_by-acknowledged f s frame (answers.Next q) page = refl
taken_by-acknowledged f s frame (answers.Took q) page = refl
taken_by-acknowledged f s frame (answers.Number q) page = refl
taken_by-acknowledged f s frame (answers.Clash what place) page = refl
taken_by-acknowledged f s frame (answers.Found count walk) page = sym (ap (λ b. if b then frame ∷ [] else []) (is_acknowledged-pages_of _))
taken_by-acknowledged f s frame answers.BadList page = refl
taken_by-acknowledged f s frame answers.NoMemory page = refl
taken_by-acknowledged f s frame answers.OutOfPlace page = refl

-- How a frame was answered.

lacks_memory : (answer : Answer) → (stores.Answered answer ≡ stores.Answered answers.NoMemory) ⊎ (stores.Answered answer ≢ stores.Answered answers.NoMemory)
lacks_memory (answers.Next q) = inr (λ e. absurd cc)
lacks_memory (answers.Took q) = inr (λ e. absurd cc)
lacks_memory (answers.Number q) = inr (λ e. absurd cc)
lacks_memory (answers.Clash what place) = inr (λ e. absurd cc)
lacks_memory (answers.Found count walk) = inr (λ e. absurd cc)
lacks_memory answers.BadList = inr (λ e. absurd cc)
lacks_memory answers.NoMemory = inl refl
lacks_memory answers.OutOfPlace = inr (λ e. absurd cc)

IsAnswered-handled : (f : KeyedFn) (before after : ServerState) (frame : FrameText) (answer : Answer) (page : List ℕ)
    → IsHandled f before frame (stores.Answered answer) page after → IsAnswered f before frame (store_replies f after (stores.Answered answer) page) after
IsAnswered-handled f before after frame answer page handled =
    let sound : stores.Answered answer ≢ stores.StoreFault = λ e. absurd cc in
    elim (lacks_memory answer) [
      | inl lacks ↦ inr (record {
        taken = (handled.no_memory lacks).1;
        state = (handled.no_memory lacks).0;
        replies_are = ap (λ a. store_replies f after a page) lacks;
      })
      | inr has ↦ inl (record {
        state = handled.state has sound;
        replies_are = handled.replies_are has sound;
      })
    ]

-- an end at which the sink failed
Finishes-cut : (end : ConnEnd) (turns : List Turn) (state : ServerState) (rest : List ℕ) (left written0 written : Option (List ℕ))
    → (end ≡ WriteFault) ⊎ (end ≡ OutOfMemory) → IsCut turns state rest written0 written → Finishes end turns state rest left written0 written
Finishes-cut end turns state rest left written0 written (inl is) cut = subst (λ e. Finishes e turns state rest left written0 written) (sym is) cut
Finishes-cut end turns state rest left written0 written (inr is) cut = subst (λ e. Finishes e turns state rest left written0 written) (sym is) cut

-- The steps.

module _ {S D : Type 0} (f : KeyedFn) (state : S → ServerState) (lasts : S → D → Since → List FrameText → Type 0) (left written written2 : Option (List ℕ)) (held held2 : List ℕ) (store store2 : S) (disk disk2 : D) where
  -- the frame in front was answered, or its replies cut
  Goes-answered : (frame : FrameText) (answer : Answer) (page : List ℕ) (result : Result Unit ConnEnd) → InGrammar frame → held ≡ frame_bytes frame ++ held2
      → IsHandled f (state store) frame (stores.Answered answer) page (state store2) → Last (lasts store disk) (lasts store2 disk2) (taken_by frame (stores.Answered answer))
      → IsReplied f written written2 (state store2) (stores.Answered answer) page result
      → Goes f state lasts left left written written2 held held2 store store2 disk disk2 result
  Goes-answered frame answer page (Ok _) grammar held_is handled last replied = λ left0 written0 store0 disk0 p.
      let turn : Turn = record { frame = frame; replies = store_replies f (state store2) (stores.Answered answer) page } in
      let acked : acknowledged p.turns ++ taken_by frame (stores.Answered answer) ≡ acknowledged (p.turns ++ turn ∷ []) = ap (λ l. acknowledged p.turns ++ l) (taken_by-acknowledged f (state store2) frame answer page)
      ∙ sym (flat_map-last (λ t. if is_acknowledged t.replies then t.frame ∷ [] else []) p.turns turn) in
      record {
        turns = p.turns ++ turn ∷ [];
        answered = AreTurns-last f (state store0) (state store) (state store2) p.turns turn p.answered
            (record { grammar = grammar; answered = IsAnswered-handled f (state store) (state store2) frame answer page handled });
        read_is = read-last left0 left p.turns turn held held2 p.read_is held_is;
        written_is = written-more written0 written written2 (replies_of p.turns) (bytes_of turn.replies) p.written_is replied.1
            ∙ ap (append_known written0) (sym (flat_map-last (λ t. bytes_of t.replies) p.turns turn));
        lasting = Last-more (lasts store0 disk0) (lasts store disk) (lasts store2 disk2) (acknowledged p.turns) (taken_by frame (stores.Answered answer)) (acknowledged (p.turns ++ turn ∷ [])) acked p.lasting last;
      }
  Goes-answered frame answer page (Err end) grammar held_is handled last (inl unsaid) = λ left0 written0 store0 disk0 p.
      let turn : Turn = record { frame = frame; replies = store_replies f (state store2) (stores.Answered answer) page } in
      let acked : acknowledged p.turns ++ taken_by frame (stores.Answered answer) ≡ acknowledged (p.turns ++ turn ∷ []) = ap (λ l. acknowledged p.turns ++ l) (taken_by-acknowledged f (state store2) frame answer page)
      ∙ sym (flat_map-last (λ t. if is_acknowledged t.replies then t.frame ∷ [] else []) p.turns turn) in
      record {
        turns = p.turns ++ turn ∷ [];
        rest = held2;
        answered = AreTurns-last f (state store0) (state store) (state store2) p.turns turn p.answered
            (record { grammar = grammar; answered = IsAnswered-handled f (state store) (state store2) frame answer page handled });
        read_is = read-last left0 left p.turns turn held held2 p.read_is held_is;
        finish = Finishes-cut end (p.turns ++ turn ∷ []) (state store2) held2 left written0 written2 unsaid.end_is
            (inl (subst (λ l. TookFront written0 written2 l) (sym (flat_map-last (λ t. bytes_of t.replies) p.turns turn))
            (front-more written0 written written2 (replies_of p.turns) (bytes_of turn.replies) p.written_is unsaid.front)));
        lasting = Last-more (lasts store0 disk0) (lasts store disk) (lasts store2 disk2) (acknowledged p.turns) (taken_by frame (stores.Answered answer)) (acknowledged (p.turns ++ turn ∷ [])) acked p.lasting last;
      }
  Goes-answered frame answer page (Err end) grammar held_is handled last (inr failed) = absurd (cored failed.0)
    where
      cored : stores.Answered answer ≡ stores.StoreFault → ⊥
      cored e = cc

  -- a reply that is the last was written, or cut
  Goes-last : (reply : ReplyText) (last end : ConnEnd) → state store2 ≡ state store → Last (lasts store disk) (lasts store2 disk2) []
      → IsLast (state store2) held reply
      → ((turns : List Turn) (written0 : Option (List ℕ)) → written2 ≡ append_known written0 (replies_of turns ++ reply_bytes reply) → Finishes last turns (state store2) held left written0 written2)
      → IsSaidLast written written2 reply last end
      → Goes f state lasts left left written written2 held held2 store store2 disk disk2 (Err end)
  Goes-last reply last end same kept is finishes (inl said) = λ left0 written0 store0 disk0 p. record {
    turns = p.turns;
    rest = held;
    answered = subst (λ s. AreTurns f (state store0) p.turns s) (sym same) p.answered;
    read_is = p.read_is;
    finish = subst (λ e. Finishes e p.turns (state store2) held left written0 written2) (sym said.0)
        (finishes p.turns written0 (written-more written0 written written2 (replies_of p.turns) (reply_bytes reply) p.written_is said.1));
    lasting = no_more (lasts store0 disk0) (lasts store disk) (lasts store2 disk2) (acknowledged p.turns) p.lasting kept;
  }
  Goes-last reply last end same kept is finishes (inr unsaid) = λ left0 written0 store0 disk0 p. record {
    turns = p.turns;
    rest = held;
    answered = subst (λ s. AreTurns f (state store0) p.turns s) (sym same) p.answered;
    read_is = p.read_is;
    finish = Finishes-cut end p.turns (state store2) held left written0 written2 unsaid.end_is
        (inr (reply, is, front-more written0 written written2 (replies_of p.turns) (reply_bytes reply) p.written_is unsaid.front));
    lasting = no_more (lasts store0 disk0) (lasts store disk) (lasts store2 disk2) (acknowledged p.turns) p.lasting kept;
  }

  -- the replies to a store fault are one reply
  SaidLast-fault : (page : List ℕ) (end : ConnEnd) → IsReplied f written written2 (state store2) stores.StoreFault page (Err end) → IsSaidLast written written2 replies.StoreFault StoreFault end
  SaidLast-fault page end (inl unsaid) = inr (record {
    end_is = unsaid.end_is;
    front = subst (λ l. TookFront written written2 l) (append-nil (reply_bytes replies.StoreFault)) unsaid.front;
  })
  SaidLast-fault page end (inr failed) = inl (failed.1, failed.2 ∙ ap (append_known written) (append-nil (reply_bytes replies.StoreFault)))

  -- the frame in front was answered, or its replies cut, or the store failed
  pub Goes-turn : (frame : FrameText) (answer : StoreAnswer) (page : List ℕ) (result : Result Unit ConnEnd) → InGrammar frame → held ≡ frame_bytes frame ++ held2
      → IsHandled f (state store) frame answer page (state store2) → Last (lasts store disk) (lasts store2 disk2) (taken_by frame answer)
      → IsReplied f written written2 (state store2) answer page result
      → Goes f state lasts left left written written2 held held2 store store2 disk disk2 result
  Goes-turn frame (stores.Answered answer) page result grammar held_is handled last replied = Goes-answered frame answer page result grammar held_is handled last replied
  Goes-turn frame stores.StoreFault page (Ok _) grammar held_is handled last replied = absurd (replied.0 refl)
  Goes-turn frame stores.StoreFault page (Err end) grammar held_is handled last replied =
      let stays = handled.store_fault refl in
      let failed : HasFailed (state store2) held = record { frame = frame; behind = held2; spelled = held_is; taken = subst (λ s. IsTaken s frame) (sym stays.0) stays.1 } in
      Goes-last replies.StoreFault StoreFault end stays.0 last failed (λ turns written0 said. (failed, said)) (SaidLast-fault page end replied)

  -- what is in front isn't a frame, and the reply to it was written or cut
  pub Goes-refused : (fault : FrameFault) (end : ConnEnd) → frame_outcome held ≡ Err fault → state store2 ≡ state store → Last (lasts store disk) (lasts store2 disk2) []
      → IsSaidLast written written2 (replies.BadFrame (bad_reason (Err fault))) BadFrame end
      → Goes f state lasts left left written written2 held held2 store store2 disk disk2 (Err end)
  Goes-refused fault end outcome same kept said =
      let bad : IsErr (frame_outcome held) = ap is_err outcome in
      let reply : bad_reply held ≡ replies.BadFrame (bad_reason (Err fault)) = ap (λ o. replies.BadFrame (bad_reason o)) outcome in
      Goes-last (replies.BadFrame (bad_reason (Err fault))) BadFrame end same kept (bad, sym reply)
      (λ turns written0 all. (bad, all ∙ ap (λ r. append_known written0 (replies_of turns ++ reply_bytes r)) (sym reply)))
      said

-- why no bytes came is how it ends
module _ (turns : List Turn) (state : ServerState) (held held2 held3 : List ℕ) (left left2 written0 written : Option (List ℕ)) where
  ends-more : (end : ConnEnd) → frame_outcome held ≡ Ok false → held2 ≡ held → held3 ≡ held2 → written ≡ append_known written0 (replies_of turns)
      → Stops end held2 left left2 → Finishes end turns state held left2 written0 written × (left ≡ left2)
  ends-more Closed part same still said stops = ((sym same ∙ stops.0, stops.1, said), stops.2)
  ends-more CutShort part same still said stops = ((λ e. stops.0 (same ∙ e), part, stops.1, said), stops.2)
  ends-more ReadFault part same still said stops = ((part, said), stops)
  ends-more WriteFault part same still said stops = absurd stops
  ends-more OutOfMemory part same still said stops = absurd stops
  ends-more BadFrame part same still said stops = absurd stops
  ends-more UnknownOwner part same still said stops = absurd stops
  ends-more StoreFault part same still said stops = absurd stops

-- no whole frame is in front, and more was read, or nothing came
module _ {S D : Type 0} (f : KeyedFn) (state : S → ServerState) (lasts : S → D → Since → List FrameText → Type 0) (left left2 written : Option (List ℕ)) (held held2 held3 : List ℕ) (store store2 : S) (disk disk2 : D) where
  pub Goes-more : (result : Result Unit ConnEnd) → frame_outcome held ≡ Ok false → held2 ≡ held → state store2 ≡ state store → Last (lasts store disk) (lasts store2 disk2) []
      → IsCame held2 held3 left left2 result
      → Goes f state lasts left left2 written written held held3 store store2 disk disk2 result
  Goes-more (Ok _) part same stays kept came = λ left0 written0 store0 disk0 p. record {
    turns = p.turns;
    answered = subst (λ s. AreTurns f (state store0) p.turns s) (sym stays) p.answered;
    read_is = read-more left0 left left2 (frames_of p.turns) held held2 held3 came.0 p.read_is same came.1 came.2;
    written_is = p.written_is;
    lasting = no_more (lasts store0 disk0) (lasts store disk) (lasts store2 disk2) (acknowledged p.turns) p.lasting kept;
  }
  Goes-more (Err end) part same stays kept came = λ left0 written0 store0 disk0 p.
      let how = ends-more p.turns (state store2) held held2 held3 left left2 written0 written end part same came.0 p.written_is came.1 in
      record {
        turns = p.turns;
        rest = held;
        answered = subst (λ s. AreTurns f (state store0) p.turns s) (sym stays) p.answered;
        read_is = p.read_is ∙ ap (prepend_known (frames_of p.turns ++ held)) how.1;
        finish = how.0;
        lasting = no_more (lasts store0 disk0) (lasts store disk) (lasts store2 disk2) (acknowledged p.turns) p.lasting kept;
      }
