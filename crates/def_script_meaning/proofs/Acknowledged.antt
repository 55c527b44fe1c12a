-- An update whose frames were all acknowledged stops a run only in printing its line: no cause shows in the exchange after the last
-- acknowledgement, out of memory among them.
use Rattle.std.proofs.Common.{◌≡◌, ◌≢◌, ℕ, zero, suc, inl, inr, List, [], ◌∷◌, ◌++◌, length, map, take, drop, Some, refl, sym, ap, ◌∙◌, subst, arith, length-append}
use Rattle.std.specs.List.{AllByRecursion}
use Rattle.std.proofs.lemmas.List.{append_cancel_left, map-append, take-append-drop}
use Rattle.std.proofs.lemmas.List.Elements.{All-nil}
use Rattle.keyed_fn.specs.KeyedFn.{KeyedFn}
use Rattle.sse_frames.specs.Exchange as texts
use Rattle.sse_frames.specs.Exchange.{Asked, ForTook, answers_behind, answers_to, asked, exchange, expected, first_answer, searches}
use Rattle.sse_frames.specs.Frames.{FrameText, frame_bytes}
use Rattle.sse_frames.specs.Replies as reply
use Rattle.sse_frames.specs.Replies.{IsIdentifier, Took, reply_bytes}
use Rattle.def_link_events.specs.Events.{Event, Sent, Received}
use Rattle.def_link_events.specs.declared.mark.Mark.TheVariants.{Unknown}
use Rattle.sse_model.proofs.ExchangeLaws.{exchange-append}
use Rattle.sse_script.specs.Shown.{Cause, BadWords, BadLine, SourceFault, LinkFault, DiskFault, NoMemory, LabelClash, PlaceClash, NumberClash, Clash, PeerElsewhere, BadReply, NoJournal, HasRecords, BadRecord, WrongKey}
use Rattle.def_script_meaning.specs.Carries.{Outside, StopsIn, frames_by}
use Rattle.def_script_meaning.specs.Exchange.{Told, Adds, AreCut, AreExchanged, EndsWith, IsAwaiting, IsCut, ShowsInReplies, as_event, bare}
use Rattle.def_script_meaning.specs.Outcome.{Place, Outcome}
use Rattle.def_script_meaning.specs.Stops.{Stop}
use Rattle.def_script_meaning.proofs.GoneAsMeant.{Adds-nothing}
use Rattle.def_script_meaning.proofs.Honest.{bare_received, kind_of}

-- each of these frames asks for its acknowledgement
abbrev pub AreUpdates : List FrameText → Type 0
AreUpdates frames = AllByRecursion (λ frame. (q : ℕ) × (asked frame ≡ ForTook q)) frames

-- After an acknowledgement.

module _ (q : ℕ) where
  -- no more replies are to come
  none_awaited : IsAwaiting (ForTook q) (reply_bytes (Took q) ∷ []) → ⊥
  none_awaited awaiting = awaiting.more (let all : reply_bytes (Took q) ∷ awaiting.allowed.rest ≡ reply_bytes (Took q) ∷ [] = awaiting.allowed.first in cc)

  -- and it is the last
  last_is : (last : List ℕ) → EndsWith (ForTook q) (reply_bytes (Took q) ∷ []) last → last ≡ reply_bytes (Took q)
  last_is last ends = by ends.earlier ends.are
    where
      by : (earlier : List (List ℕ)) → reply_bytes (Took q) ∷ [] ≡ earlier ++ last ∷ [] → last ≡ reply_bytes (Took q)
      by [] are = cc
      by (first ∷ earlier) are = absurd (omega (arith, ap length are, length-append earlier (last ∷ [])))

  no_notice : (last : List ℕ) → EndsWith (ForTook q) (reply_bytes (Took q) ∷ []) last → kind_of last ≢ 0x82 → ⊥
  no_notice last ends other = other (ap kind_of (last_is last ends))

  -- so no cause shows
  shows_none : (cause : Cause) → ShowsInReplies (ForTook q) (reply_bytes (Took q) ∷ []) cause → ⊥
  shows_none LinkFault (inl awaiting) = none_awaited awaiting
  shows_none LinkFault (inr ends) = no_notice (reply_bytes reply.StoreFault) ends (λ e. omega (arith, e))
  shows_none NoMemory (inl awaiting) = none_awaited awaiting
  shows_none NoMemory (inr ends) = no_notice (reply_bytes reply.NoMemory) ends (λ e. omega (arith, e))
  shows_none (Clash what place) ends = no_notice (reply_bytes (reply.Clash what place)) ends (λ e. omega (arith, e))
  shows_none (BadReply start) bad = bad.not_allowed (record { ids = []; each = All-nil IsIdentifier; few = omega arith; rest = []; first = refl })
  shows_none BadWords shows = shows
  shows_none (BadLine number) shows = shows
  shows_none SourceFault shows = shows
  shows_none DiskFault shows = shows
  shows_none (LabelClash first second) shows = shows
  shows_none (PlaceClash first second) shows = shows
  shows_none (NumberClash first second) shows = shows
  shows_none (PeerElsewhere low high got) shows = shows
  shows_none NoJournal shows = shows
  shows_none HasRecords shows = shows
  shows_none (BadRecord number) shows = shows
  shows_none WrongKey shows = shows

-- All of them.

no_searches : (frames : List FrameText) → AreUpdates frames → searches frames ≡ 0
no_searches [] updates = refl
no_searches (frame ∷ frames) updates = omega (arith, ap answers_to updates.0.1, no_searches frames updates.1)

first_updates : (n : ℕ) (frames : List FrameText) → AreUpdates frames → AreUpdates (take n frames)
first_updates zero frames updates = tt
first_updates (suc n) [] updates = tt
first_updates (suc n) (frame ∷ frames) updates = (updates.0, first_updates n frames updates.1)

others_updates : (n : ℕ) (frames : List FrameText) → AreUpdates frames → AreUpdates (drop n frames)
others_updates zero frames updates = updates
others_updates (suc n) [] updates = tt
others_updates (suc n) (frame ∷ frames) updates = others_updates n frames updates.1

-- the exchange of an update's frame is the frame and its acknowledgement
one_acknowledged : (frame : FrameText) (later : List FrameText) (q : ℕ) → asked frame ≡ ForTook q
    → map as_event (exchange [] (frame ∷ later)) ≡ Sent (frame_bytes frame) Unknown ∷ Received (reply_bytes (Took q)) ∷ map as_event (exchange [] later)
one_acknowledged frame later q is = ap (λ asks. Sent (frame_bytes frame) Unknown ∷ map as_event (map texts.Received (expected [] asks) ++ exchange (answers_behind asks []) later)) is

-- so replies that are all of it are that acknowledgement, and no frame is left
whole_reply : (q : ℕ) (came : List (List ℕ)) (later : List FrameText) → map Received came ≡ Received (reply_bytes (Took q)) ∷ map as_event (exchange [] later) → came ≡ reply_bytes (Took q) ∷ []
whole_reply q [] later e = absurd (cc)
whole_reply q (first ∷ []) later e = ap (λ r. r ∷ []) (let same : first ≡ reply_bytes (Took q) = cc in same)
whole_reply q (first ∷ second ∷ came) [] e = absurd (let more : Received second ∷ map Received came ≡ [] = cc in cc)
whole_reply q (first ∷ second ∷ came) (frame ∷ later) e =
    absurd (let more : Received second ∷ map Received came ≡ map as_event (exchange [] (frame ∷ later)) = cc in cc)

-- a part that shows a cause isn't the whole
cut_part : (left : List FrameText) (cut : List Event) (cause : Cause) → AreUpdates left → IsCut left cut cause → map bare cut ≡ map as_event (exchange [] left) → ⊥
cut_part [] cut cause updates is e = is
cut_part (frame ∷ later) [] cause updates is e = absurd (cc)
cut_part (frame ∷ later) (Received bytes ∷ cut) cause updates is e = is
cut_part (frame ∷ later) (Sent bytes mark ∷ cut) cause updates is e =
    let q = updates.0.0 in
    let came = is.1.0 in
    let whole : Sent bytes Unknown ∷ map bare cut ≡ Sent (frame_bytes frame) Unknown ∷ Received (reply_bytes (Took q)) ∷ map as_event (exchange [] later) = e ∙ one_acknowledged frame later q updates.0.1 in
    let replies : map Received came ≡ Received (reply_bytes (Took q)) ∷ map as_event (exchange [] later) =
    sym (bare_received came) ∙ ap (map bare) (sym is.1.1) ∙ (let rest : map bare cut ≡ Received (reply_bytes (Took q)) ∷ map as_event (exchange [] later) = cc in rest) in
    shows_none q cause (subst (λ asks. ShowsInReplies asks (reply_bytes (Took q) ∷ []) cause) updates.0.1 (subst (λ rs. ShowsInReplies (asked frame) rs cause) (whole_reply q came later replies) is.1.2))

no_answers : (answers : List (List ℕ)) (frames : List FrameText) → AreUpdates frames → length answers ≡ searches frames → answers ≡ []
no_answers [] frames updates count = refl
no_answers (ids ∷ answers) frames updates count = absurd (omega (arith, count, no_searches frames updates))

-- an exchange of updates that was cut isn't whole
pub cut_unacknowledged : (answers : List (List ℕ)) (frames : List FrameText) (events : List Event) (cause : Cause) → AreUpdates frames → AreCut frames events cause → AreExchanged answers frames events → ⊥
cut_unacknowledged answers frames events cause updates c all =
    let front = take c.n frames in
    let left = drop c.n frames in
    let sent : map bare c.before ≡ map as_event (exchange [] front) =
    c.exchanged.each ∙ ap (λ ids. map as_event (exchange ids front)) (no_answers c.answers front (first_updates c.n frames updates) c.exchanged.count) in
    let whole : map bare events ≡ map as_event (exchange [] front) ++ map as_event (exchange [] left) =
    all.each
    ∙ ap (λ ids. map as_event (exchange ids frames)) (no_answers answers frames updates all.count)
    ∙ ap (λ fs. map as_event (exchange [] fs)) (sym (take-append-drop c.n frames))
    ∙ ap (map as_event) (exchange-append front left [] [] (sym (no_searches front (first_updates c.n frames updates))))
    ∙ map-append as_event (exchange [] front) (exchange [] left) in
    let parts : map bare events ≡ map as_event (exchange [] front) ++ map bare c.cut = ap (map bare) c.parts ∙ map-append bare c.before c.cut ∙ ap (λ es. es ++ map bare c.cut) sent in
    cut_part left c.cut cause (others_updates c.n frames updates) c.one_more (append_cancel_left (map as_event (exchange [] front)) (map bare c.cut) (map as_event (exchange [] left)) (sym parts ∙ whole))

-- what passed is one list, however it is told
one_list : (past first second : List Event) (told : Told) → Adds (Some past) told first → Adds (Some past) told second → first ≡ second
one_list past first second told one also =
    append_cancel_left past first second (let same : Some (past ++ first) ≡ Some (past ++ second) = sym one ∙ also in cc)

-- Promise P142, also here
-- a run doesn't stop before the printing of an update's line whose frames were all acknowledged
pub acknowledged_stops_not : (f : KeyedFn) (place : Place) (result : Outcome) (now end : Outside) (stop : Stop) (past events : List Event) (answers : List (List ℕ)) → StopsIn f place result now end stop
    → AreUpdates (frames_by f place result) → frames_by f place result ≢ [] → now.told ≡ Some past → Adds now.told end.told events → AreExchanged answers (frames_by f place result) events → ⊥
acknowledged_stops_not f place result now end stop past events answers stops updates some told adds all = elim stops [
  | inl clash ↦ unsent (ap (λ (o : Outside). o.told) clash.nothing)
  | inr (inl memory) ↦ unsent (ap (λ (o : Outside). o.told) memory.nothing)
  | inr (inr (inl unkept)) ↦ unsent unkept.unsent
  | inr (inr (inr cut)) ↦
      cut_unacknowledged answers (frames_by f place result) events cut.cause updates
      (subst (λ es. AreCut (frames_by f place result) es cut.cause) (same cut.events cut.adds) cut.cut) all
]
  where
    same : (others : List Event) → Adds now.told end.told others → others ≡ events
    same others also = one_list past others events end.told (subst (λ t. Adds t end.told others) told also) (subst (λ t. Adds t end.told events) told adds)

    nothing_sent : (frames : List FrameText) → AreExchanged answers frames [] → frames ≡ []
    nothing_sent [] none = refl
    nothing_sent (frame ∷ frames) none = absurd (let e = none.each in cc)

    unsent : end.told ≡ now.told → ⊥
    unsent silent =
        some (nothing_sent (frames_by f place result) (subst (AreExchanged answers (frames_by f place result)) (sym (same [] (silent ∙ Adds-nothing now.told))) all))
