-- A frame whose replies come, or of which at most a part passes, by the bytes that passed.
use Rattle.std.proofs.Common.{◌≡◌, ◌≢◌, ℕ, Bool, true, ◌≤◌, ◌<◌, ◌^◌, List, [], ◌∷◌, ◌++◌, map, Some, refl, sym, ap, ◌∙◌, subst, arith, inl, inr, ◌⊎◌}
use Rattle.std.proofs.lemmas.List.Elements.{All-nil}
use Rattle.client_replies.specs.Faults.{fault_told, IsFaultOf}
use Rattle.client_replies.specs.declared.reply_fault.ReplyFault.{ReplyFault}
use Rattle.client_replies.specs.declared.reply_fault.ReplyFault.TheVariants as faults
use Rattle.sse_frames.specs.Exchange as texts
use Rattle.sse_frames.specs.Exchange.{Asked, ForNext, ForTook, ForAnswer, asked, expected, answers_to}
use Rattle.sse_frames.specs.Frames.{FrameText, Hello, SetupBegin, SetupDict, SetupArray, SetupEnd, AddFrame, DeleteFrame, SearchFrame, frame_bytes, update_number}
use Rattle.sse_frames.specs.Replies.{ReplyText, Next, Took, Number, Clash, Page, BadList, NoMemory, StoreFault, BadFrame, OutOfPlace, InReplies, IsIdentifier, reply_bytes}
use Rattle.def_link_events.specs.Events.{Event, Sent, Received}
use Rattle.def_link_events.specs.declared.mark.Mark.{Mark}
use Rattle.def_link_events.specs.declared.mark.Mark.TheVariants.{Unknown}
use Rattle.sse_script.specs.Shown as cause
use Rattle.sse_script.specs.Shown.{Cause}
use Rattle.def_script_meaning.proofs.GoneAsMeant.{Adds-nothing, AreExchanged-none}
use Rattle.def_script_meaning.proofs.Honest.{IsBehindGreeting}
use Rattle.def_script_meaning.specs.HelloExchange.{Greets, AnswersHello, ShowsInAnswer, IsTurned, TurnsAway}
use Rattle.def_script_meaning.specs.Exchange.{Told, Adds, AreCut, IsAllowed, IsAwaiting, IsNotice, IsOutOfMemory, ShowsInReplies, IsPart, as_event}
use Rattle.sse_client.specs.Exchanges.{HasExchanged, HasCut}
use Rattle.sse_client.specs.Progress.{IsAnswered, IsUnanswered}
use Rattle.sse_client.specs.Stops.{cause_of_fault}
use Rattle.sse_client.proofs.PagesRead.{pages-full}

-- No reply came.

abbrev nothing_allowed : (asks : Asked) → IsAllowed asks []
nothing_allowed asks = record { ids = []; each = All-nil IsIdentifier; few = omega arith; rest = map reply_bytes (expected [] asks); first = refl }

some_expected : (asks : Asked) → IsBehindGreeting asks → map reply_bytes (expected [] asks) ≢ []
some_expected ForNext is e = absurd is
some_expected (ForTook q) is e = absurd (cc)
some_expected ForAnswer is e = absurd (let none : map reply_bytes (Page true [] ∷ []) ≡ [] = ap (map reply_bytes) (sym (pages-full [] [] tt (omega arith) (λ before. absurd (omega (arith, before))))) ∙ e in cc)

-- replies are to come
pub nothing_came : (asks : Asked) → IsBehindGreeting asks → IsAwaiting asks []
nothing_came asks is = record { allowed = nothing_allowed asks; more = some_expected asks is }

nothing_for_memory : (asks : Asked) → IsBehindGreeting asks → IsOutOfMemory asks []
nothing_for_memory ForNext is = absurd is
nothing_for_memory (ForTook q) is = nothing_came (ForTook q) is
nothing_for_memory ForAnswer is = nothing_allowed ForAnswer

shows_nothing : (asks : Asked) (c : Cause) → IsBehindGreeting asks → (c ≡ cause.LinkFault) ⊎ (c ≡ cause.NoMemory) → ShowsInReplies asks [] c
shows_nothing asks c is (inl e) = subst (ShowsInReplies asks []) (sym e) (inl (nothing_came asks is))
shows_nothing asks c is (inr e) = subst (ShowsInReplies asks []) (sym e) (inl (nothing_for_memory asks is))

part_most : (frame : FrameText) (events : List Event) (c : Cause) → IsBehindGreeting (asked frame) → (events ≡ []) ⊎ ((mark : Mark) × (events ≡ Sent (frame_bytes frame) mark ∷ [])) → (c ≡ cause.LinkFault) ⊎ (c ≡ cause.NoMemory) → IsPart frame events c
part_most frame events c is (inl e) outside = subst (λ es. IsPart frame es c) (sym e) outside
part_most frame events c is (inr e) outside = subst (λ es. IsPart frame es c) (sym e.1) (refl, ([], refl, shows_nothing (asked frame) c is outside))

-- the cut of the first frame cuts them all
pub AreCut-first : (frame : FrameText) (frames : List FrameText) (events : List Event) (c : Cause) → IsPart frame events c → AreCut (frame ∷ frames) events c
AreCut-first frame frames events c part = record { n = 0; answers = []; before = []; cut = events; parts = refl; exchanged = AreExchanged-none; one_more = part }

-- what passed of a frame without reply
pub record IsBegun (old new : Told) (frame : FrameText) (c : Cause) : Type 0 where
  pub events : List Event
  pub adds : Adds old new events
  pub part : IsPart frame events c

pub IsBegun-unanswered : (old new : Told) (bytes : List ℕ) (frame : FrameText) (c : Cause) → IsBehindGreeting (asked frame) → bytes ≡ frame_bytes frame → IsUnanswered old new bytes c → IsBegun old new frame c
IsBegun-unanswered old new bytes frame c is spelled un = record {
  events = un.events;
  adds = un.adds;
  part = part_most frame un.events c is (subst (λ b. (un.events ≡ []) ⊎ ((mark : Mark) × (un.events ≡ Sent b mark ∷ []))) spelled un.most) un.outside;
}

pub IsBegun-answered : (old new : Told) (bytes reply : List ℕ) (frame : FrameText) (c : Cause) → bytes ≡ frame_bytes frame → IsAnswered old new bytes reply → ShowsInReplies (asked frame) (reply ∷ []) c → IsBegun old new frame c
IsBegun-answered old new bytes reply frame c spelled answered shows = record {
  events = Sent bytes answered.0 ∷ Received reply ∷ [];
  adds = answered.1;
  part = (spelled, (reply ∷ [], refl, shows));
}

pub HasCut-begun : (old new : Told) (frame : FrameText) (frames : List FrameText) (c : Cause) → IsBegun old new frame c → HasCut old new (frame ∷ frames) c
HasCut-begun old new frame frames c begun = record { events = begun.events; adds = begun.adds; cut = AreCut-first frame frames begun.events c begun.part }

-- One reply came.

-- an update frame is sent after the greeting, and asks for its acknowledgement
pub asked-update_number : (frame : FrameText) (q : ℕ) → update_number frame ≡ Some q → asked frame ≡ ForTook q
asked-update_number Hello q e = absurd (cc)
asked-update_number (SetupBegin n b big m a) q e = let same : n ≡ q = cc in ap (λ k. ForTook k) same
asked-update_number (SetupDict n width entries) q e = let same : n ≡ q = cc in ap (λ k. ForTook k) same
asked-update_number (SetupArray n width blocks) q e = let same : n ≡ q = cc in ap (λ k. ForTook k) same
asked-update_number (SetupEnd n) q e = let same : n ≡ q = cc in ap (λ k. ForTook k) same
asked-update_number (AddFrame n entries numbers) q e = let same : n ≡ q = cc in ap (λ k. ForTook k) same
asked-update_number (DeleteFrame n numbers) q e = let same : n ≡ q = cc in ap (λ k. ForTook k) same
asked-update_number (SearchFrame token) q e = absurd (cc)

pub update-behind_greeting : (frame : FrameText) (q : ℕ) → update_number frame ≡ Some q → IsBehindGreeting (asked frame)
update-behind_greeting frame q e = subst IsBehindGreeting (sym (asked-update_number frame q e)) tt

-- a frame with the one reply that it is to have
pub HasExchanged-answered : (old new : Told) (bytes reply : List ℕ) (frame : FrameText) (asks : Asked) (r : ReplyText) → asked frame ≡ asks → answers_to asks ≡ 0 → expected [] asks ≡ r ∷ []
    → bytes ≡ frame_bytes frame → reply ≡ reply_bytes r → IsAnswered old new bytes reply → HasExchanged old new [] (frame ∷ [])
HasExchanged-answered old new bytes reply frame asks r is none expects spelled replied answered = record {
  events = Sent bytes answered.0 ∷ Received reply ∷ [];
  adds = answered.1;
  exchanged = record {
    ids = All-nil _;
    count = omega (arith, ap answers_to is, none);
    each =
        ap (λ b. Sent b Unknown ∷ Received reply ∷ []) spelled
        ∙ ap (λ b. Sent (frame_bytes frame) Unknown ∷ Received b ∷ []) replied
        ∙ ap (λ rs. Sent (frame_bytes frame) Unknown ∷ map as_event (map texts.Received rs ++ [])) (sym (ap (expected []) is ∙ expects));
  };
}

-- Which reply is no notice.

-- the reply tells of no fault
abbrev pub TellsNothing : ReplyText → Type 0
TellsNothing r = fault_told r ≡ faults.BadReply

by_reply : (N : ReplyText → Type 0) → ((q : ℕ) → N (Next q) → ⊥) → ((q : ℕ) → N (Took q) → ⊥) → ((q : ℕ) → N (Number q) → ⊥) → ((last : Bool) (ids : List ℕ) → N (Page last ids) → ⊥) → (N BadList → ⊥)
    → ((reason : ℕ) → N (BadFrame reason) → ⊥) → (N OutOfPlace → ⊥) → (r : ReplyText) → N r → TellsNothing r → ⊥
by_reply N next took number page list frame place (Next q) is tells = next q is
by_reply N next took number page list frame place (Took q) is tells = took q is
by_reply N next took number page list frame place (Number q) is tells = number q is
by_reply N next took number page list frame place (Clash what at) is tells = absurd (cc)
by_reply N next took number page list frame place (Page last ids) is tells = page last ids is
by_reply N next took number page list frame place BadList is tells = list is
by_reply N next took number page list frame place NoMemory is tells = absurd (cc)
by_reply N next took number page list frame place StoreFault is tells = absurd (cc)
by_reply N next took number page list frame place (BadFrame reason) is tells = frame reason is
by_reply N next took number page list frame place OutOfPlace is tells = place is

-- what tells of no fault is no notice to who sent an update
no_notice-took : (q : ℕ) (r : ReplyText) → IsNotice (ForTook q) r → TellsNothing r → ⊥
no_notice-took q = by_reply (IsNotice (ForTook q)) (λ q x. x) (λ q x. x) (λ q x. x) (λ last ids x. x) (λ x. x) (λ reason x. x) (λ x. x)

-- or a search
pub no_notice-answer : (r : ReplyText) → IsNotice ForAnswer r → TellsNothing r → ⊥
no_notice-answer = by_reply (IsNotice ForAnswer) (λ q x. x) (λ q x. x) (λ q x. x) (λ last ids x. x) (λ x. x) (λ reason x. x) (λ x. x)

-- The cause of a stop shows in the replies.

-- more replies were to come, and with this one they are none that are to come, and it is no notice: then the fault that is told is the cause
pub shows_fault : (asks : Asked) (earlier : List (List ℕ)) (reply : List ℕ) (fault : ReplyFault) → IsAwaiting asks earlier → (IsAllowed asks (earlier ++ reply ∷ []) → ⊥)
    → ((r : ReplyText) → InReplies r → IsNotice asks r → TellsNothing r → reply ≡ reply_bytes r → ⊥) → IsFaultOf reply fault → ShowsInReplies asks (earlier ++ reply ∷ []) (cause_of_fault fault reply)
shows_fault asks earlier reply (faults.Clash what place) awaiting never none is = record { earlier = earlier; are = ap (λ (x : List ℕ). earlier ++ x ∷ []) is.spelled; awaiting = awaiting }
shows_fault asks earlier reply faults.NoMemory awaiting never none is = inr (record { earlier = earlier; are = ap (λ (x : List ℕ). earlier ++ x ∷ []) is.spelled; awaiting = awaiting })
shows_fault asks earlier reply faults.StoreFault awaiting never none is = inr (record { earlier = earlier; are = ap (λ (x : List ℕ). earlier ++ x ∷ []) is.spelled; awaiting = awaiting })
shows_fault asks earlier reply faults.BadReply awaiting never none is = record {
  reply = reply;
  ends = record { earlier = earlier; are = refl; awaiting = awaiting };
  shown = refl;
  not_allowed = never;
  no_notice = λ r in_replies notice e. none r in_replies notice (is r (record { grammar = in_replies; spelled = e })) e;
}
shows_fault asks earlier reply faults.OutOfMemory awaiting never none is = absurd is

-- The greeting.

-- a reply to Hello that is no Next
pub shows_to_hello : (low high : ℕ) (reply : List ℕ) (fault : ReplyFault) → ((q : ℕ) → q < 2 ^ 32 → reply ≡ reply_bytes (Next q) → ⊥) → IsFaultOf reply fault → ShowsInAnswer low high reply (cause_of_fault fault reply)
shows_to_hello low high reply (faults.Clash what place) wrong is = is.spelled
shows_to_hello low high reply faults.NoMemory wrong is = is.spelled
shows_to_hello low high reply faults.StoreFault wrong is = is.spelled
shows_to_hello low high reply faults.OutOfMemory wrong is = absurd is
shows_to_hello low high reply faults.BadReply wrong is = record { none = λ r below answers e. other r below answers (is r (record { grammar = below; spelled = e })) e; shown = refl }
  where
    other : (r : ReplyText) → InReplies r → AnswersHello r → TellsNothing r → reply ≡ reply_bytes r → ⊥
    other (Next q) below answers tells e = wrong q below e
    other (Took q) below answers tells e = answers
    other (Number q) below answers tells e = answers
    other (Clash what place) below answers tells e = absurd (cc)
    other (Page last ids) below answers tells e = answers
    other BadList below answers tells e = answers
    other NoMemory below answers tells e = absurd (cc)
    other StoreFault below answers tells e = absurd (cc)
    other (BadFrame reason) below answers tells e = answers
    other OutOfPlace below answers tells e = answers

-- a Next reply of a number that isn't possible
pub shows_elsewhere : (low high : ℕ) (reply : List ℕ) (q : ℕ) → (q < low) ⊎ (high < q) → q < 2 ^ 32 → reply ≡ reply_bytes (Next q) → ShowsInAnswer low high reply (cause.PeerElsewhere low high q)
shows_elsewhere low high reply q outside fits is = (refl, refl, record { outside = outside; fits = fits; replied = is })

-- the greeting, with a number that is possible
pub Greets-answered : (low high : ℕ) (old new : Told) (bytes reply : List ℕ) (next : ℕ) → low ≤ next → next ≤ high → bytes ≡ frame_bytes Hello → reply ≡ reply_bytes (Next next) → IsAnswered old new bytes reply
    → Greets low high old new
Greets-answered low high old new bytes reply next least most spelled replied answered = record {
  next = next;
  least = least;
  most = most;
  events = Sent bytes answered.0 ∷ Received reply ∷ [];
  adds = answered.1;
  each = λ i. Sent (spelled i) Unknown ∷ Received (replied i) ∷ [];
}

-- no memory, before anything was sent
pub TurnsAway-memory : (low high : ℕ) (told : Told) → TurnsAway low high told told cause.NoMemory
TurnsAway-memory low high told = record { events = []; adds = Adds-nothing told; turned = inr refl }

-- Hello alone was sent, or nothing
pub TurnsAway-unanswered : (low high : ℕ) (old new : Told) (bytes : List ℕ) (c : Cause) → bytes ≡ frame_bytes Hello → IsUnanswered old new bytes c → TurnsAway low high old new c
TurnsAway-unanswered low high old new bytes c spelled un = record { events = un.events; adds = un.adds; turned = by un.events un.most }
  where
    by : (events : List Event) → (events ≡ []) ⊎ ((mark : Mark) × (events ≡ Sent bytes mark ∷ [])) → IsTurned low high events c
    by events (inl none) = subst (λ es. IsTurned low high es c) (sym none) un.outside
    by events (inr one) = subst (λ es. IsTurned low high es c) (sym one.1) (spelled, un.outside)

-- a reply in which the cause shows
pub TurnsAway-answered : (low high : ℕ) (old new : Told) (bytes reply : List ℕ) (c : Cause) → bytes ≡ frame_bytes Hello → IsAnswered old new bytes reply → ShowsInAnswer low high reply c → TurnsAway low high old new c
TurnsAway-answered low high old new bytes reply c spelled answered shows = record {
  events = Sent bytes answered.0 ∷ Received reply ∷ [];
  adds = answered.1;
  turned = (spelled, shows);
}

-- Update frames.

-- a reply to an update frame that isn't its acknowledgement
pub shows_to_update : (frame : FrameText) (q : ℕ) (reply : List ℕ) (fault : ReplyFault) → update_number frame ≡ Some q → (reply ≡ reply_bytes (Took q) → ⊥) → IsFaultOf reply fault
    → ShowsInReplies (asked frame) (reply ∷ []) (cause_of_fault fault reply)
shows_to_update frame q reply fault number wrong is =
    subst (λ asks. ShowsInReplies asks (reply ∷ []) (cause_of_fault fault reply)) (sym (asked-update_number frame q number))
    (shows_fault (ForTook q) [] reply fault (nothing_came (ForTook q) tt) (λ allowed. wrong (let first : reply ∷ allowed.rest ≡ reply_bytes (Took q) ∷ [] = allowed.first in cc)) (λ r below notice tells e. no_notice-took q r notice tells) is)
