-- A connection, a step further.
use Rattle.std.proofs.Common.{◌≡◌, ◌≢◌, ◌⊎◌, inl, inr, ℕ, List, [], ◌∷◌, ◌++◌, Ok, Err, refl, sym, ap, subst, ◌∙◌, append_assoc}
use Rattle.std.specs.Prelude.{flat_map}
use Rattle.std.specs.declared.option.Option.{Option}
use Rattle.std.specs.declared.result.Result.{Result}
use Rattle.std.specs.Io.KnownBytes.{append_known, prepend_known}
use Rattle.std.proofs.lemmas.List.{append-nil}
use Rattle.sse_outside.specs.Fronts.{TookFront}
use Rattle.tcp_service.specs.declared.conn_end.ConnEnd.{ConnEnd}
use Rattle.tcp_service.specs.declared.conn_end.ConnEnd.TheVariants as ends
use Rattle.tcp_service.specs.Arrivals.{IsCame, Stops}
use Rattle.tcp_service.proofs.Pieces.{flat_map-last, front-more, read-more, written-more}
use Rattle.vault_server.specs.VaultAnswers.{answer_reply, vault_answered}
use Rattle.vault_server.specs.VaultFrames.{VaultFrameText, VaultReplyText, BadFrame, StoreFault, vault_reply_bytes}
use Rattle.vault_server.specs.VaultRecords.{CanTake}
use Rattle.vault_server.specs.VaultServerView.{VaultServerView}
use Rattle.vault_server.specs.VaultState.{VaultState}
use Rattle.vault_server.specs.VaultTurns.{Answers}
use Rattle.vault_server.specs.declared.vault_answer.VaultAnswer.{VaultAnswer}
use Rattle.vault_server.specs.declared.vault_answer.VaultAnswer.TheVariants as answers
use Rattle.vault_served.specs.Connections.{Finishes, HasFailed, IsCut, IsLast}
use Rattle.vault_served.specs.Fronts.{OutOfRange, Unfinished, front_of}
use Rattle.vault_served.specs.Lasting.{Last}
use Rattle.vault_served.specs.Steps.{Goes, IsReplied, IsSaidLast}
use Rattle.vault_served.specs.Turns.{AreTurns, IsBody, IsTurn, Turn, acknowledged, acknowledged_by, frame_of, frames_of, replies_of}
use Rattle.vault_served.proofs.DiskAnswers.{store_fault_or_not}

-- One more frame.

AreTurns-last : (before mid after : VaultState) (turns : List Turn) (turn : Turn) → AreTurns before turns mid → IsTurn mid turn after → AreTurns before (turns ++ turn ∷ []) after
AreTurns-last before mid after [] turn are is = (after, subst (λ s. IsTurn s turn after) are is, refl)
AreTurns-last before mid after (first ∷ turns) turn are is = (are.0, are.1, AreTurns-last are.0 mid after turns turn are.2 is)

-- one more frame of what was read
read-last : (left0 left : Option (List ℕ)) (turns : List Turn) (turn : Turn) (held held2 : List ℕ)
    → left0 ≡ prepend_known (frames_of turns ++ held) left → held ≡ frame_of turn.body ++ held2
    → left0 ≡ prepend_known (frames_of (turns ++ turn ∷ []) ++ held2) left
read-last left0 left turns turn held held2 is held_is =
    is ∙ ap (λ l. prepend_known l left)
    (ap (λ l. frames_of turns ++ l) held_is
    ∙ sym (append_assoc (frames_of turns) (frame_of turn.body) held2)
    ∙ ap (λ l. l ++ held2) (sym (flat_map-last (λ t. frame_of t.body) turns turn)))

-- What lasts.

Last-more : (lasts0 lasts lasts2 : List VaultFrameText → Type 0) (first more all : List VaultFrameText) → first ++ more ≡ all → Last lasts0 lasts first → Last lasts lasts2 more → Last lasts0 lasts2 all
Last-more lasts0 lasts lasts2 first more all is one two =
    λ frames known. subst lasts2 (append_assoc frames first more ∙ ap (λ l. frames ++ l) is) (two (frames ++ first) (one frames known))

no_more : (lasts0 lasts lasts2 : List VaultFrameText → Type 0) (frames : List VaultFrameText) → Last lasts0 lasts frames → Last lasts lasts2 [] → Last lasts0 lasts2 frames
no_more lasts0 lasts lasts2 frames one two = Last-more lasts0 lasts lasts2 frames [] frames (append-nil frames) one two

-- How a frame was answered.

memory_or_not : (answer : VaultAnswer) → (answer ≡ answers.NoMemory) ⊎ (answer ≢ answers.NoMemory)
memory_or_not (answers.Took n) = inr (λ e. absurd cc)
memory_or_not (answers.Holds slot) = inr (λ e. absurd cc)
memory_or_not (answers.Next n) = inr (λ e. absurd cc)
memory_or_not answers.Clash = inr (λ e. absurd cc)
memory_or_not answers.NoMemory = inl refl
memory_or_not answers.StoreFault = inr (λ e. absurd cc)
memory_or_not answers.BadFrame = inr (λ e. absurd cc)

IsTurn-answered : (before after : VaultState) (body : List ℕ) (answer : VaultAnswer) → IsBody body → answer ≢ answers.StoreFault
    → Answers before after answer (vault_answered before body) (CanTake before body)
    → IsTurn before (record { body = body; reply = answer_reply after answer }) after
IsTurn-answered before after body answer sized other answered = record {
  sized = sized;
  answered = elim (memory_or_not answer) [
    | inl lacks ↦ inr (record { can = (answered.not_taken (inl lacks)).1; state = (answered.not_taken (inl lacks)).0; reply_is = ap (answer_reply after) lacks })
    | inr has ↦ inl (record { state = answered.state has other; reply_is = answered.reply has other })
  ];
}

-- an end at which the sink failed
Finishes-cut : (end : ConnEnd) (turns : List Turn) (state : VaultState) (rest : List ℕ) (left written0 written : Option (List ℕ))
    → (end ≡ ends.WriteFault) ⊎ (end ≡ ends.OutOfMemory) → IsCut turns state rest written0 written → Finishes end turns state rest left written0 written
Finishes-cut end turns state rest left written0 written (inl is) cut = subst (λ e. Finishes e turns state rest left written0 written) (sym is) cut
Finishes-cut end turns state rest left written0 written (inr is) cut = subst (λ e. Finishes e turns state rest left written0 written) (sym is) cut

-- The steps.

module _ {D : Type 0} (lasts : VaultServerView → D → List VaultFrameText → Type 0) (left written written2 : Option (List ℕ)) (held held2 : List ℕ) (server server2 : VaultServerView) (disk disk2 : D) where
  -- the frame in front was answered, or its reply cut
  Goes-answered : (body : List ℕ) (answer : VaultAnswer) (result : Result Unit ConnEnd) → IsBody body → answer ≢ answers.StoreFault → held ≡ frame_of body ++ held2
      → Answers server.state server2.state answer (vault_answered server.state body) (CanTake server.state body)
      → Last (lasts server disk) (lasts server2 disk2) (acknowledged_by body (answer_reply server2.state answer))
      → IsReplied written written2 server2.state answer result
      → Goes lasts left left written written2 held held2 server server2 disk disk2 result
  Goes-answered body answer (Ok _) sized other held_is answered last replied = λ left0 written0 server0 disk0 p.
      let turn : Turn = record { body = body; reply = answer_reply server2.state answer } in
      let acked : acknowledged p.turns ++ acknowledged_by body turn.reply ≡ acknowledged (p.turns ++ turn ∷ []) = sym (flat_map-last (λ t. acknowledged_by t.body t.reply) p.turns turn) in
      record {
        turns = p.turns ++ turn ∷ [];
        answered = AreTurns-last server0.state server.state server2.state p.turns turn p.answered (IsTurn-answered server.state server2.state body answer sized other answered);
        read_is = read-last left0 left p.turns turn held held2 p.read_is held_is;
        written_is = written-more written0 written written2 (replies_of p.turns) (vault_reply_bytes turn.reply) p.written_is replied.1
            ∙ ap (append_known written0) (sym (flat_map-last (λ t. vault_reply_bytes t.reply) p.turns turn));
        lasting = Last-more (lasts server0 disk0) (lasts server disk) (lasts server2 disk2) (acknowledged p.turns) (acknowledged_by body turn.reply) (acknowledged (p.turns ++ turn ∷ [])) acked p.lasting last;
      }
  Goes-answered body answer (Err end) sized other held_is answered last (inl unsaid) = λ left0 written0 server0 disk0 p.
      let turn : Turn = record { body = body; reply = answer_reply server2.state answer } in
      let acked : acknowledged p.turns ++ acknowledged_by body turn.reply ≡ acknowledged (p.turns ++ turn ∷ []) = sym (flat_map-last (λ t. acknowledged_by t.body t.reply) p.turns turn) in
      record {
        turns = p.turns ++ turn ∷ [];
        rest = held2;
        answered = AreTurns-last server0.state server.state server2.state p.turns turn p.answered (IsTurn-answered server.state server2.state body answer sized other answered);
        read_is = read-last left0 left p.turns turn held held2 p.read_is held_is;
        finish = Finishes-cut end (p.turns ++ turn ∷ []) server2.state held2 left written0 written2 unsaid.end_is
            (inl (subst (λ l. TookFront written0 written2 l) (sym (flat_map-last (λ t. vault_reply_bytes t.reply) p.turns turn))
            (front-more written0 written written2 (replies_of p.turns) (vault_reply_bytes turn.reply) p.written_is unsaid.front)));
        lasting = Last-more (lasts server0 disk0) (lasts server disk) (lasts server2 disk2) (acknowledged p.turns) (acknowledged_by body turn.reply) (acknowledged (p.turns ++ turn ∷ [])) acked p.lasting last;
      }
  Goes-answered body answer (Err end) sized other held_is answered last (inr failed) = absurd (other failed.0)

  -- a reply that is the last was written, or cut
  Goes-last : (reply : VaultReplyText) (last end : ConnEnd) → server2.state ≡ server.state → Last (lasts server disk) (lasts server2 disk2) []
      → IsLast server2.state held reply
      → ((turns : List Turn) (written0 : Option (List ℕ)) → written2 ≡ append_known written0 (replies_of turns ++ vault_reply_bytes reply) → Finishes last turns server2.state held left written0 written2)
      → IsSaidLast written written2 reply last end
      → Goes lasts left left written written2 held held2 server server2 disk disk2 (Err end)
  Goes-last reply last end same kept is finishes (inl said) = λ left0 written0 server0 disk0 p. record {
    turns = p.turns;
    rest = held;
    answered = subst (λ s. AreTurns server0.state p.turns s) (sym same) p.answered;
    read_is = p.read_is;
    finish = subst (λ e. Finishes e p.turns server2.state held left written0 written2) (sym said.0)
        (finishes p.turns written0 (written-more written0 written written2 (replies_of p.turns) (vault_reply_bytes reply) p.written_is said.1));
    lasting = no_more (lasts server0 disk0) (lasts server disk) (lasts server2 disk2) (acknowledged p.turns) p.lasting kept;
  }
  Goes-last reply last end same kept is finishes (inr unsaid) = λ left0 written0 server0 disk0 p. record {
    turns = p.turns;
    rest = held;
    answered = subst (λ s. AreTurns server0.state p.turns s) (sym same) p.answered;
    read_is = p.read_is;
    finish = Finishes-cut end p.turns server2.state held left written0 written2 unsaid.end_is
        (inr (reply, is, front-more written0 written written2 (replies_of p.turns) (vault_reply_bytes reply) p.written_is unsaid.front));
    lasting = no_more (lasts server0 disk0) (lasts server disk) (lasts server2 disk2) (acknowledged p.turns) p.lasting kept;
  }

  -- the reply to a store fault is the last
  SaidLast-fault : (answer : VaultAnswer) (end : ConnEnd) → answer ≡ answers.StoreFault → IsReplied written written2 server2.state answer (Err end) → IsSaidLast written written2 StoreFault ends.StoreFault end
  SaidLast-fault answer end fault (inl unsaid) = inr (record {
    end_is = unsaid.end_is;
    front = subst (λ (a : VaultAnswer). TookFront written written2 (vault_reply_bytes (answer_reply server2.state a))) fault unsaid.front;
  })
  SaidLast-fault answer end fault (inr failed) = inl (failed.1, failed.2 ∙ ap (λ (a : VaultAnswer). append_known written (vault_reply_bytes (answer_reply server2.state a))) fault)

  Goes-fault : (body : List ℕ) (answer : VaultAnswer) (result : Result Unit ConnEnd) → IsBody body → answer ≡ answers.StoreFault → held ≡ frame_of body ++ held2
      → Answers server.state server2.state answer (vault_answered server.state body) (CanTake server.state body)
      → Last (lasts server disk) (lasts server2 disk2) (acknowledged_by body (answer_reply server2.state answer))
      → IsReplied written written2 server2.state answer result
      → Goes lasts left left written written2 held held2 server server2 disk disk2 result
  Goes-fault body answer (Ok _) sized fault held_is answered last replied = absurd (replied.0 fault)
  Goes-fault body answer (Err end) sized fault held_is answered last replied =
      let stays = answered.not_taken (inr fault) in
      let kept : Last (lasts server disk) (lasts server2 disk2) [] = subst (λ (a : VaultAnswer). Last (lasts server disk) (lasts server2 disk2) (acknowledged_by body (answer_reply server2.state a))) fault last in
      let failed : HasFailed server2.state held = record { body = body; behind = held2; sized = sized; spelled = held_is; can = subst (λ s. CanTake s body) (sym stays.0) stays.1 } in
      Goes-last StoreFault ends.StoreFault end stays.0 kept failed (λ turns written0 said. (failed, said)) (SaidLast-fault answer end fault replied)

  -- the frame in front was answered, or its reply cut, or the disk failed
  pub Goes-turn : (body : List ℕ) (answer : VaultAnswer) (result : Result Unit ConnEnd) → IsBody body → held ≡ frame_of body ++ held2
      → Answers server.state server2.state answer (vault_answered server.state body) (CanTake server.state body)
      → Last (lasts server disk) (lasts server2 disk2) (acknowledged_by body (answer_reply server2.state answer))
      → IsReplied written written2 server2.state answer result
      → Goes lasts left left written written2 held held2 server server2 disk disk2 result
  Goes-turn body answer result sized held_is answered last replied = elim (store_fault_or_not answer) [
    | inl fault ↦ Goes-fault body answer result sized fault held_is answered last replied
    | inr other ↦ Goes-answered body answer result sized other held_is answered last replied
  ]

  -- what is in front is the length of no body, and the reply to it was written or cut
  pub Goes-refused : (end : ConnEnd) → front_of held ≡ OutOfRange → server2.state ≡ server.state → Last (lasts server disk) (lasts server2 disk2) []
      → IsSaidLast written written2 BadFrame ends.BadFrame end
      → Goes lasts left left written written2 held held2 server server2 disk disk2 (Err end)
  Goes-refused end bad same kept said = Goes-last BadFrame ends.BadFrame end same kept bad (λ turns written0 all. (bad, all)) said

-- why no bytes came is how it ends
module _ (turns : List Turn) (state : VaultState) (held held2 : List ℕ) (left left2 written0 written : Option (List ℕ)) where
  ends-more : (end : ConnEnd) → front_of held ≡ Unfinished → held2 ≡ held → written ≡ append_known written0 (replies_of turns)
      → Stops end held2 left left2 → Finishes end turns state held left2 written0 written × (left ≡ left2)
  ends-more ends.Closed part same said stops = ((sym same ∙ stops.0, stops.1, said), stops.2)
  ends-more ends.CutShort part same said stops = ((λ e. stops.0 (same ∙ e), part, stops.1, said), stops.2)
  ends-more ends.ReadFault part same said stops = ((part, said), stops)
  ends-more ends.WriteFault part same said stops = absurd stops
  ends-more ends.OutOfMemory part same said stops = absurd stops
  ends-more ends.BadFrame part same said stops = absurd stops
  ends-more ends.UnknownOwner part same said stops = absurd stops
  ends-more ends.StoreFault part same said stops = absurd stops

-- no whole frame is in front, and more was read, or nothing came
module _ {D : Type 0} (lasts : VaultServerView → D → List VaultFrameText → Type 0) (left left2 written : Option (List ℕ)) (held held2 held3 : List ℕ) (server server2 : VaultServerView) (disk disk2 : D) where
  pub Goes-more : (result : Result Unit ConnEnd) → front_of held ≡ Unfinished → held2 ≡ held → server2.state ≡ server.state → Last (lasts server disk) (lasts server2 disk2) []
      → IsCame held2 held3 left left2 result
      → Goes lasts left left2 written written held held3 server server2 disk disk2 result
  Goes-more (Ok _) part same stays kept came = λ left0 written0 server0 disk0 p. record {
    turns = p.turns;
    answered = subst (λ s. AreTurns server0.state p.turns s) (sym stays) p.answered;
    read_is = read-more left0 left left2 (frames_of p.turns) held held2 held3 came.0 p.read_is same came.1 came.2;
    written_is = p.written_is;
    lasting = no_more (lasts server0 disk0) (lasts server disk) (lasts server2 disk2) (acknowledged p.turns) p.lasting kept;
  }
  Goes-more (Err end) part same stays kept came = λ left0 written0 server0 disk0 p.
      let how = ends-more p.turns server2.state held held2 left left2 written0 written end part same p.written_is came.1 in
      record {
        turns = p.turns;
        rest = held;
        answered = subst (λ s. AreTurns server0.state p.turns s) (sym stays) p.answered;
        read_is = p.read_is ∙ ap (prepend_known (frames_of p.turns ++ held)) how.1;
        finish = how.0;
        lasting = no_more (lasts server0 disk0) (lasts server disk) (lasts server2 disk2) (acknowledged p.turns) p.lasting kept;
      }
