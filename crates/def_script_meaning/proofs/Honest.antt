-- Over an honest link frames that were exchanged brought the server where their steps lead, with the answers that it gives;
-- and where the next one was cut, its replies are the first of those that are to come, or say that memory was wanting. The
-- greeting leaves the server as it was, and its number is the server's own.
use Rattle.std.proofs.Common.{◌<◌, ◌≡◌, ◌≢◌, ◌⊎◌, ℕ, zero, suc, ◌+◌, ◌^◌, ◌≤◌, inl, inr, List, [], ◌∷◌, ◌++◌, length, map, take, drop, slice_index, refl, sym, ap, ◌∙◌, subst, arith, lit≤, append_assoc, length-append}
use Rattle.std.specs.List.{AllByRecursion}
use Rattle.std.proofs.lemmas.Bool.{true≢false}
use Rattle.std.proofs.lemmas.List.{append-nil, map-append, length-map}
use Rattle.std.proofs.lemmas.List.Elements.{All-from_recursion}
use Rattle.keyed_fn.specs.KeyedFn.{KeyedFn}
use Rattle.list_packing.proofs.PartsLemmas.{length-parts}
use Rattle.list_packing.specs.Parts.{parts}
use Rattle.def_agreement.proofs.Histories.{IsAnswer}
use Rattle.sse_frames.proofs.AnswerPages.{pages_back}
use Rattle.sse_frames.proofs.ReplyBytesLaws.{one_reply}
use Rattle.sse_frames.specs.Exchange as texts
use Rattle.sse_frames.specs.Exchange.{Asked, ForNext, ForTook, ForAnswer, asked, expected, first_answer, answers_behind, replied, exchange, answers_to, searches, greeting}
use Rattle.sse_frames.specs.Frames.{FrameText, Hello, SetupBegin, SetupDict, SetupArray, SetupEnd, AddFrame, DeleteFrame, SearchFrame, InGrammar, frame_bytes}
use Rattle.sse_frames.specs.Replies as reply
use Rattle.sse_frames.specs.Replies.{ReplyText, Next, IsIdentifier, reply_bytes}
use Rattle.sse_frames.specs.SentParts.{page_each, pages_of}
use Rattle.server_core.specs.State.{ServerState}
use Rattle.server_core.specs.Step.{step, steps}
use Rattle.def_link_events.proofs.Honest.{IsServed-exchange, Answers-either}
use Rattle.def_link_events.specs.declared.mark.Mark.TheVariants.{Unknown}
use Rattle.def_link_events.specs.Events.{Event, Sent, Received}
use Rattle.def_link_events.specs.Served.{Served, IsServed, IsStep}
use Rattle.sse_model.proofs.ExchangeLaws.{length-answers_behind}
use Rattle.sse_script.specs.Shown.{Cause, BadWords, BadLine, SourceFault, LinkFault, DiskFault, NoMemory, LabelClash, PlaceClash, NumberClash, Clash, PeerElsewhere, BadReply, NoJournal, HasRecords, BadRecord, WrongKey}
use Rattle.sse_script.specs.Stops.{cause_status}
use Rattle.def_script_meaning.specs.HelloExchange.{ShowsInAnswer, IsTurned}
use Rattle.def_script_meaning.specs.Exchange.{as_event, bare, EndsWith, IsNotice, IsBadReply, ShowsInReplies, IsCut}

-- Events without their marks.

pub IsServed-bare : (f : KeyedFn) (start end : Served) (events : List Event) → IsServed f start events end → IsServed f start (map bare events) end
IsServed-bare f start end [] served = served
IsServed-bare f start end (Sent bytes mark ∷ events) served =
    (served.0, record { sent = served.1.sent; answered = Answers-either f start.state served.1.sent.frame mark served.0.state served.0.due served.1.answered }, IsServed-bare f served.0 end events served.2)
IsServed-bare f start end (Received bytes ∷ events) served = (served.0, served.1, IsServed-bare f _ end events served.2)

pub bare_received : (replies : List (List ℕ)) → map bare (map Received replies) ≡ map Received replies
bare_received [] = refl
bare_received (reply ∷ replies) = ap (λ rest. Received reply ∷ rest) (bare_received replies)

pub events_received : (rs : List ReplyText) → map as_event (map texts.Received rs) ≡ map Received (map reply_bytes rs)
events_received [] = refl
events_received (r ∷ rs) = ap (λ more. Received (reply_bytes r) ∷ more) (events_received rs)

-- The kinds of replies.

abbrev pub kind_of : List ℕ → ℕ
kind_of reply = slice_index reply 4

-- the kind of the replies that are to come
abbrev kind_to : Asked → ℕ
kind_to ForNext = 0x81
kind_to (ForTook q) = 0x82
kind_to ForAnswer = 0x85

abbrev AreOfKind : ℕ → List (List ℕ) → Type 0
AreOfKind kind replies = AllByRecursion (λ reply. kind_of reply ≡ kind) replies

kinds_each : (ids : List ℕ) (others : List (List ℕ)) → AreOfKind 0x85 (map reply_bytes (page_each ids others))
kinds_each ids [] = (refl, tt)
kinds_each ids (more ∷ others) = (refl, kinds_each more others)

kinds_of : (list : List (List ℕ)) → AreOfKind 0x85 (map reply_bytes (pages_of list))
kinds_of [] = (refl, tt)
kinds_of (ids ∷ others) = kinds_each ids others

kinds_expected : (ids : List ℕ) (asks : Asked) → AreOfKind (kind_to asks) (map reply_bytes (expected ids asks))
kinds_expected ids ForNext = tt
kinds_expected ids (ForTook q) = (refl, tt)
kinds_expected ids ForAnswer = kinds_of (parts 8192 ids)

-- a reply that stands somewhere among others is of their kind
kind_within : (kind : ℕ) (earlier : List (List ℕ)) (reply : List ℕ) (later : List (List ℕ)) → AreOfKind kind (earlier ++ reply ∷ later) → kind_of reply ≡ kind
kind_within kind [] reply later all = all.0
kind_within kind (first ∷ earlier) reply later all = kind_within kind earlier reply later all.1

-- an update or a search was asked for
abbrev pub IsBehindGreeting : Asked → Type 0
IsBehindGreeting ForNext = ⊥
IsBehindGreeting (ForTook q) = Unit {0}
IsBehindGreeting ForAnswer = Unit {0}

-- a frame whose replies are those that are to come is no Hello, as its step always has a reply
pub behind_greeting : (f : KeyedFn) (s : ServerState) (frame : FrameText) (ids : List ℕ) → (step f s frame).1 ≡ expected ids (asked frame) → IsBehindGreeting (asked frame)
behind_greeting f s Hello ids e = absurd (let none : Next s.next ∷ [] ≡ [] = e in cc)
behind_greeting f s (SetupBegin q b big m a) ids e = tt
behind_greeting f s (SetupDict q width entries) ids e = tt
behind_greeting f s (SetupArray q width blocks) ids e = tt
behind_greeting f s (SetupEnd q) ids e = tt
behind_greeting f s (AddFrame q entries numbers) ids e = tt
behind_greeting f s (DeleteFrame q numbers) ids e = tt
behind_greeting f s (SearchFrame token) ids e = tt

-- out of memory is no reply that is to come, nor is the report of a store fault
pub not_lacking : (why : ReplyText) (ids : List ℕ) (asks : Asked) (due : List (List ℕ)) → 0x87 ≤ kind_of (reply_bytes why) → IsBehindGreeting asks → map reply_bytes (expected ids asks) ++ due ≡ reply_bytes why ∷ [] → ⊥
not_lacking why ids asks due least is e = by asks (map reply_bytes (expected ids asks)) (kinds_expected ids asks) (some ids asks is) e
  where
    some : (ids : List ℕ) (asks : Asked) → IsBehindGreeting asks → 1 ≤ length (map reply_bytes (expected ids asks))
    some ids ForNext is = absurd is
    some ids (ForTook q) is = omega arith
    some ids ForAnswer is = of (parts 8192 ids)
      where
        each : (ids : List ℕ) (others : List (List ℕ)) → 1 ≤ length (map reply_bytes (page_each ids others))
        each ids [] = omega arith
        each ids (more ∷ others) = omega arith

        of : (list : List (List ℕ)) → 1 ≤ length (map reply_bytes (pages_of list))
        of [] = omega arith
        of (ids ∷ others) = each ids others

    other : (asks : Asked) (kind : ℕ) → 0x87 ≤ kind → kind_to asks ≢ kind
    other ForNext kind high e = omega (arith, high, e)
    other (ForTook q) kind high e = omega (arith, high, e)
    other ForAnswer kind high e = omega (arith, high, e)

    by : (asks : Asked) (replies : List (List ℕ)) → AreOfKind (kind_to asks) replies → 1 ≤ length replies → replies ++ due ≡ reply_bytes why ∷ [] → ⊥
    by asks [] kinds some e = omega (arith, some)
    by asks (first ∷ replies) kinds some e = let same : first ≡ reply_bytes why = cc in other asks (kind_of (reply_bytes why)) least (sym kinds.0 ∙ ap kind_of same)

-- One frame.

events-exchange : (answers : List (List ℕ)) (frame : FrameText) (frames : List FrameText) (later : List Event) → map as_event (exchange answers (frame ∷ frames)) ++ later
    ≡ Sent (frame_bytes frame) Unknown ∷ (map Received (map reply_bytes (expected (first_answer answers) (asked frame))) ++ (map as_event (exchange (answers_behind (asked frame) answers) frames) ++ later))
events-exchange answers frame frames later =
    let rs = expected (first_answer answers) (asked frame) in
    let more = map as_event (exchange (answers_behind (asked frame) answers) frames) in
    ap (λ events. Sent (frame_bytes frame) Unknown ∷ (events ++ later)) (map-append as_event (map texts.Received rs) (exchange (answers_behind (asked frame) answers) frames) ∙ ap (λ es. es ++ more) (events_received rs))
    ∙ ap (λ events. Sent (frame_bytes frame) Unknown ∷ events) (append_assoc (map Received (map reply_bytes rs)) more later)

-- the server made its step, and its replies begin with those that were received
first_exchanged : (f : KeyedFn) (start end : Served) (answers : List (List ℕ)) (frame : FrameText) (frames : List FrameText) (later : List Event) → InGrammar frame → IsBehindGreeting (asked frame)
    → IsServed f start (map as_event (exchange answers (frame ∷ frames)) ++ later) end
    → (after : Served) × IsStep f start.state frame after.state (map reply_bytes (expected (first_answer answers) (asked frame)) ++ after.due) × IsServed f after (map as_event (exchange (answers_behind (asked frame) answers) frames) ++ later) end
first_exchanged f start end answers frame frames later grammar is served =
    let one = IsServed-exchange f start end frame Unknown (map reply_bytes (expected (first_answer answers) (asked frame))) _ grammar
    (subst (λ events. IsServed f start events end) (events-exchange answers frame frames later) served) in (
      one.0,
      elim one.1 [
        | inl stepped ↦ stepped
        | inr kept ↦ elim kept [
          | inl lacked ↦ absurd (not_lacking reply.NoMemory (first_answer answers) (asked frame) one.0.due (lit≤ tt) is lacked.replies_are)
          | inr failed ↦ absurd (not_lacking reply.StoreFault (first_answer answers) (asked frame) one.0.due (lit≤ tt) is failed.replies_are)
        ]
      ],
      one.2,
    )

-- Several frames.

abbrev AreIdentifiers : List (List ℕ) → Type 0
AreIdentifiers answers = AllByRecursion (λ ids. AllByRecursion IsIdentifier ids) answers

-- the answers that came are the first that the server gives, where those after a frame are
taken : (asks : Asked) (xs ys left due : List (List ℕ)) → answers_to asks ≤ length xs → answers_to asks ≤ length ys → AreIdentifiers xs → AllByRecursion IsAnswer ys
    → map reply_bytes (expected (first_answer xs) asks) ++ due ≡ map reply_bytes (expected (first_answer ys) asks) → answers_behind asks ys ≡ answers_behind asks xs ++ left → ys ≡ xs ++ left
taken ForNext xs ys left due enough given are answers e behind = behind
taken (ForTook q) xs ys left due enough given are answers e behind = behind
taken ForAnswer [] ys left due enough given are answers e behind = absurd (omega (arith, enough))
taken ForAnswer (x ∷ xs) [] left due enough given are answers e behind = absurd (omega (arith, given))
taken ForAnswer (x ∷ xs) (y ∷ ys) left due enough given are answers e behind =
    λ i. sym (pages_back x y due are.0 answers.0.each e).0 i ∷ behind i

identifiers_behind : (asks : Asked) (xs : List (List ℕ)) → AreIdentifiers xs → AreIdentifiers (answers_behind asks xs)
identifiers_behind ForNext xs are = are
identifiers_behind (ForTook q) xs are = are
identifiers_behind ForAnswer [] are = tt
identifiers_behind ForAnswer (x ∷ xs) are = are.1

answers_left : (asks : Asked) (ys : List (List ℕ)) → AllByRecursion IsAnswer ys → AllByRecursion IsAnswer (answers_behind asks ys)
answers_left ForNext ys are = are
answers_left (ForTook q) ys are = are
answers_left ForAnswer [] are = tt
answers_left ForAnswer (y ∷ ys) are = are.1

-- after the first n frames a server is where their steps lead, with those replies to come that it gives to the others; and
-- the answers that came are the first of those that it gives
pub record IsBehind (f : KeyedFn) (start end : Served) (frames : List FrameText) (n : ℕ) (xs ys : List (List ℕ)) (later : List Event) : Type 0 where
  pub mid : Served
  pub state : mid.state ≡ (steps f start.state (take n frames)).0
  pub left : List (List ℕ)
  pub all : ys ≡ xs ++ left
  pub given : AllByRecursion IsAnswer left
  pub count : length left ≡ searches (drop n frames)
  pub replies : (steps f mid.state (drop n frames)).1 ≡ replied left (drop n frames)
  pub grammar : AllByRecursion InGrammar (drop n frames)
  pub served : IsServed f mid later end

no_answers : (xs : List (List ℕ)) → length xs ≡ 0 → xs ≡ []
no_answers [] e = refl
no_answers (x ∷ xs) e = absurd (omega (arith, e))

behind_none : (f : KeyedFn) (start end : Served) (frames : List FrameText) (n : ℕ) (xs ys : List (List ℕ)) (later : List Event) → take n frames ≡ [] → drop n frames ≡ frames → length xs ≡ 0 → AllByRecursion IsAnswer ys → length ys ≡ searches frames
    → (steps f start.state frames).1 ≡ replied ys frames → AllByRecursion InGrammar frames → IsServed f start (map as_event (exchange xs (take n frames)) ++ later) end → IsBehind f start end frames n xs ys later
behind_none f start end frames n xs ys later none all_left few given count replies grammar served = record {
  mid = start;
  state = ap (λ fs. (steps f start.state fs).0) (sym none);
  left = ys;
  all = ap (λ answers. answers ++ ys) (sym (no_answers xs few));
  given = given;
  count = count ∙ ap searches (sym all_left);
  replies = subst (λ fs. (steps f start.state fs).1 ≡ replied ys fs) (sym all_left) replies;
  grammar = subst (AllByRecursion InGrammar) (sym all_left) grammar;
  served = subst (λ fs. IsServed f start (map as_event (exchange xs fs) ++ later) end) none served;
}

pub behind : (f : KeyedFn) (start end : Served) (frames : List FrameText) (n : ℕ) (xs ys : List (List ℕ)) (later : List Event) → AllByRecursion InGrammar frames → AreIdentifiers xs → AllByRecursion IsAnswer ys
    → length xs ≡ searches (take n frames) → length ys ≡ searches frames → (steps f start.state frames).1 ≡ replied ys frames → IsServed f start (map as_event (exchange xs (take n frames)) ++ later) end → IsBehind f start end frames n xs ys later
behind f start end frames zero xs ys later grammar are given taken_all count replies served = behind_none f start end frames 0 xs ys later refl refl taken_all given count replies grammar served
behind f start end [] (suc n) xs ys later grammar are given taken_all count replies served = behind_none f start end [] (suc n) xs ys later refl refl taken_all given count replies grammar served
behind f start end (frame ∷ frames) (suc n) xs ys later grammar are given taken_all count replies served =
    let asks = asked frame in
    let here : (step f start.state frame).1 ≡ expected (first_answer ys) asks = head_same replies in
    let one = first_exchanged f start end xs frame (take n frames) later grammar.0 (behind_greeting f start.state frame (first_answer ys) here) served in
    let enough : answers_to asks ≤ length xs = omega (arith, taken_all) in
    let some : answers_to asks ≤ length ys = omega (arith, count) in
    let there : (steps f one.0.state frames).1 ≡ replied (answers_behind asks ys) frames = subst (λ s. (steps f s frames).1 ≡ replied (answers_behind asks ys) frames) (sym one.1.state) (tail_same replies) in
    let rest = behind f one.0 end frames n (answers_behind asks xs) (answers_behind asks ys) later grammar.1 (identifiers_behind asks xs are) (answers_left asks ys given)
    (omega (arith, taken_all, length-answers_behind asks xs enough)) (omega (arith, count, length-answers_behind asks ys some)) there one.2 in
    record {
      mid = rest.mid;
      state = subst (λ s. rest.mid.state ≡ (steps f s (take n frames)).0) one.1.state rest.state;
      left = rest.left;
      all = taken asks xs ys rest.left one.0.due enough some are given (one.1.replies_are ∙ ap (map reply_bytes) here) rest.all;
      given = rest.given;
      count = rest.count;
      replies = rest.replies;
      grammar = rest.grammar;
      served = rest.served;
    }
  where
    head_same : {A : Type 0} {x y : A} {xs ys : List A} → x ∷ xs ≡ y ∷ ys → x ≡ y
    head_same e = cc

    tail_same : {A : Type 0} {x y : A} {xs ys : List A} → x ∷ xs ≡ y ∷ ys → xs ≡ ys
    tail_same e = cc

-- One frame that was cut.

-- the only one of these is this
only_one : (earlier : List (List ℕ)) (last : List ℕ) (due : List (List ℕ)) (one : List ℕ) → earlier ++ last ∷ due ≡ one ∷ [] → last ≡ one
only_one [] last due one e = cc
only_one (first ∷ earlier) last due one e = absurd (omega (arith, ap length e, length-append earlier (last ∷ due)))

length-page_each : (ids : List ℕ) (others : List (List ℕ)) → length (page_each ids others) ≡ length others + 1
length-page_each ids [] = omega arith
length-page_each ids (more ∷ others) = omega (arith, length-page_each more others)

-- a page for each part, and one where there is none
length-pages_of : (list : List (List ℕ)) (most : ℕ) → 1 ≤ most → length list ≤ most → length (pages_of list) ≤ most
length-pages_of [] most some few = omega (arith, some)
length-pages_of (ids ∷ others) most some few = omega (arith, few, length-page_each ids others)

few_expected : (ids : List ℕ) (asks : Asked) → length ids < 2 ^ 33 → length (expected ids asks) ≤ 2 ^ 20
few_expected ids ForNext few = omega arith
few_expected ids (ForTook q) few = omega arith
few_expected ids ForAnswer few = length-pages_of (parts 8192 ids) (2 ^ 20) (omega arith) (omega (arith, few, length-parts 8192 ids))

module _ (ids : List ℕ) (answer : IsAnswer ids) (asks : Asked) (replies due : List (List ℕ)) where
  -- the replies are the first of the server's step, or of out of memory, or of a store fault
  abbrev IsFront : Type 0
  IsFront = (replies ++ due ≡ map reply_bytes (expected ids asks)) ⊎ ((replies ++ due ≡ reply_bytes reply.NoMemory ∷ []) ⊎ (replies ++ due ≡ reply_bytes reply.StoreFault ∷ []))

  module _ (last : List ℕ) (ends : EndsWith asks replies last) where
    split : replies ++ due ≡ ends.earlier ++ last ∷ due
    split = ap (λ rs. rs ++ due) ends.are ∙ append_assoc ends.earlier (last ∷ []) due

    -- the last reply has the kind of those that are to come, or that of out of memory or of a store fault
    kind_last : IsFront → (kind_of last ≡ kind_to asks) ⊎ (0x87 ≤ kind_of last)
    kind_last (inl e) = inl (kind_within (kind_to asks) ends.earlier last due (subst (AreOfKind (kind_to asks)) (sym e ∙ split) (kinds_expected ids asks)))
    kind_last (inr (inl e)) = let kind = kind_within 0x87 ends.earlier last due (subst (AreOfKind 0x87) (sym e ∙ split) (refl, tt)) in inr (omega (arith, kind))
    kind_last (inr (inr e)) = let kind = kind_within 0x88 ends.earlier last due (subst (AreOfKind 0x88) (sym e ∙ split) (refl, tt)) in inr (omega (arith, kind))

  -- so it isn't a clash
  no_clash : (what place : ℕ) → EndsWith asks replies (reply_bytes (reply.Clash what place)) → IsFront → ⊥
  no_clash what place ends front = by asks (kind_of (reply_bytes (reply.Clash what place))) refl (kind_last (reply_bytes (reply.Clash what place)) ends front)
    where
      by : (a : Asked) (kind : ℕ) → kind ≡ 0x84 → (kind ≡ kind_to a) ⊎ (0x87 ≤ kind) → ⊥
      by ForNext kind is (inl e) = omega (arith, is, e)
      by (ForTook q) kind is (inl e) = omega (arith, is, e)
      by ForAnswer kind is (inl e) = omega (arith, is, e)
      by a kind is (inr e) = omega (arith, is, e)

  -- nor a bad one
  no_bad : (start : List ℕ) → IsBadReply asks replies start → IsFront → ⊥
  no_bad start bad (inl e) = bad.not_allowed (record {
    ids = ids;
    each = All-from_recursion IsIdentifier ids answer.each;
    few = omega (arith, ap length e, length-append replies due, length-map (expected ids asks) reply_bytes, few_expected ids asks answer.few);
    rest = due;
    first = e;
  })
  no_bad start bad (inr (inl e)) = bad.no_notice reply.NoMemory tt (notice asks) (only_one bad.ends.earlier bad.reply due (reply_bytes reply.NoMemory) (sym (split bad.reply bad.ends) ∙ e))
    where
      notice : (a : Asked) → IsNotice a reply.NoMemory
      notice ForNext = tt
      notice (ForTook q) = tt
      notice ForAnswer = tt
  no_bad start bad (inr (inr e)) = bad.no_notice reply.StoreFault tt (notice asks) (only_one bad.ends.earlier bad.reply due (reply_bytes reply.StoreFault) (sym (split bad.reply bad.ends) ∙ e))
    where
      notice : (a : Asked) → IsNotice a reply.StoreFault
      notice ForNext = tt
      notice (ForTook q) = tt
      notice ForAnswer = tt

-- such replies show no cause of the statuses 8 and 9
shows_outside : (ids : List ℕ) (answer : IsAnswer ids) (asks : Asked) (replies due : List (List ℕ)) (cause : Cause) → IsFront ids answer asks replies due → ShowsInReplies asks replies cause → cause_status cause ≤ 7
shows_outside ids answer asks replies due BadWords front shows = absurd shows
shows_outside ids answer asks replies due (BadLine number) front shows = absurd shows
shows_outside ids answer asks replies due SourceFault front shows = absurd shows
shows_outside ids answer asks replies due LinkFault front shows = omega arith
shows_outside ids answer asks replies due DiskFault front shows = omega arith
shows_outside ids answer asks replies due NoMemory front shows = omega arith
shows_outside ids answer asks replies due (LabelClash first second) front shows = absurd shows
shows_outside ids answer asks replies due (PlaceClash first second) front shows = absurd shows
shows_outside ids answer asks replies due (NumberClash first second) front shows = absurd shows
shows_outside ids answer asks replies due (Clash what place) front shows = absurd (no_clash ids answer asks replies due what place shows front)
shows_outside ids answer asks replies due (PeerElsewhere low high got) front shows = absurd shows
shows_outside ids answer asks replies due (BadReply start) front shows = absurd (no_bad ids answer asks replies due start shows front)
shows_outside ids answer asks replies due NoJournal front shows = absurd shows
shows_outside ids answer asks replies due HasRecords front shows = absurd shows
shows_outside ids answer asks replies due (BadRecord number) front shows = absurd shows
shows_outside ids answer asks replies due WrongKey front shows = absurd shows

-- the first of the answers that are left is one
first_given : (asks : Asked) (left : List (List ℕ)) → AllByRecursion IsAnswer left → IsAnswer (first_answer left)
first_given asks [] given = record { each = tt; few = omega arith }
first_given asks (ids ∷ left) given = given.0

-- where frames that are left are cut at such a server, the cause is no collision and no bad reply
pub cut_outside : (f : KeyedFn) (mid end : Served) (frames : List FrameText) (left : List (List ℕ)) (cut : List Event) (cause : Cause) → AllByRecursion InGrammar frames → AllByRecursion IsAnswer left
    → (steps f mid.state frames).1 ≡ replied left frames → IsServed f mid (map bare cut) end → IsCut frames cut cause → cause_status cause ≤ 7
cut_outside f mid end [] left cut cause grammar given replies served is = absurd is
cut_outside f mid end (frame ∷ frames) left [] cause grammar given replies served (inl link) = omega (arith, ap cause_status link)
cut_outside f mid end (frame ∷ frames) left [] cause grammar given replies served (inr memory) = omega (arith, ap cause_status memory)
cut_outside f mid end (frame ∷ frames) left (Received bytes ∷ cut) cause grammar given replies served is = absurd is
cut_outside f mid end (frame ∷ frames) left (Sent bytes mark ∷ cut) cause grammar given replies served is =
    let came = is.1.0 in
    let events : map bare (Sent bytes mark ∷ cut) ≡ Sent (frame_bytes frame) Unknown ∷ (map Received came ++ []) =
    (λ i. Sent (is.0 i) Unknown ∷ map bare (is.1.1 i)) ∙ ap (λ es. Sent (frame_bytes frame) Unknown ∷ es) (bare_received came ∙ sym (append-nil (map Received came))) in
    let one = IsServed-exchange f mid end frame Unknown came [] grammar.0 (subst (λ events. IsServed f mid events end) events served) in
    let here : (step f mid.state frame).1 ≡ expected (first_answer left) (asked frame) = head replies in
    shows_outside (first_answer left) (first_given (asked frame) left given) (asked frame) came one.0.due cause
    (elim one.1 [
      | inl stepped ↦ inl (stepped.replies_are ∙ ap (map reply_bytes) here)
      | inr kept ↦ elim kept [ inl lacked ↦ inr (inl lacked.replies_are) | inr failed ↦ inr (inr failed.replies_are) ]
    ]) is.1.2
  where
    head : {A : Type 0} {x y : A} {xs ys : List A} → x ∷ xs ≡ y ∷ ys → x ≡ y
    head e = cc

-- The greeting.

-- the server answered Hello by the number of the update that it expects, and stayed as it was
greeted : (f : KeyedFn) (start end : Served) (reply : List ℕ) (later : List Event) → IsServed f start (Sent (frame_bytes Hello) Unknown ∷ Received reply ∷ later) end
    → (after : Served) × (after.state ≡ start.state) × (reply ≡ reply_bytes (Next start.state.next)) × IsServed f after later end
greeted f start end reply later served =
    let one = IsServed-exchange f start end Hello Unknown (reply ∷ []) later tt served in
    elim one.1 [
      | inl stepped ↦ (one.0, stepped.state, (let same : reply ∷ one.0.due ≡ reply_bytes (Next start.state.next) ∷ [] = stepped.replies_are in cc), one.2)
      | inr kept ↦ elim kept [ inl lacked ↦ absurd (true≢false (sym lacked.update)) | inr failed ↦ absurd (true≢false (sym failed.update)) ]
    ]

-- a Next reply has one spelling
one_next : (p q : ℕ) → p < 2 ^ 32 → q < 2 ^ 32 → reply_bytes (Next p) ≡ reply_bytes (Next q) → p ≡ q
one_next p q below fits e = same (one_reply (Next p) (Next q) [] [] below fits (ap (λ bytes. bytes ++ []) e)).0
  where
    same : Next p ≡ Next q → p ≡ q
    same e = cc

-- after the greeting the server is as it was before, and the number is its own
pub behind_greeted : (f : KeyedFn) (start end : Served) (next : ℕ) (events later : List Event) → next < 2 ^ 32 → start.state.next < 2 ^ 32 → map bare events ≡ map as_event (greeting next)
    → IsServed f start (map bare events ++ later) end → (mid : Served) × (mid.state ≡ start.state) × (next ≡ start.state.next) × IsServed f mid later end
behind_greeted f start end next events later fits below same served =
    let one = greeted f start end (reply_bytes (Next next)) later (subst (λ es. IsServed f start (es ++ later) end) same served) in
    (one.0, one.1, one_next next start.state.next fits below one.2, one.3)

-- where the number is one of those that are possible, no session is turned away for a collision or a reply
pub turned_outside : (f : KeyedFn) (start end : Served) (low high : ℕ) (events : List Event) (cause : Cause) → low ≤ start.state.next → start.state.next ≤ high → high < 2 ^ 32
    → IsServed f start (map bare events) end → IsTurned low high events cause → cause_status cause ≤ 7
turned_outside f start end low high [] cause least most fits served is = by is
  where
    by : (cause ≡ LinkFault) ⊎ (cause ≡ NoMemory) → cause_status cause ≤ 7
    by (inl link) = omega (arith, ap cause_status link)
    by (inr memory) = omega (arith, ap cause_status memory)
turned_outside f start end low high (Sent bytes mark ∷ []) cause least most fits served is = by is.1
  where
    by : (cause ≡ LinkFault) ⊎ (cause ≡ NoMemory) → cause_status cause ≤ 7
    by (inl link) = omega (arith, ap cause_status link)
    by (inr memory) = omega (arith, ap cause_status memory)
turned_outside f start end low high (Sent bytes mark ∷ Received answer ∷ []) cause least most fits served is =
    let one = greeted f start end answer [] (subst (λ b. IsServed f start (Sent b Unknown ∷ Received answer ∷ []) end) is.0 served) in
    by cause one.2 is.1
  where
    number : ℕ
    number = start.state.next

    below : number < 2 ^ 32
    below = omega (arith, most, fits)

    kind : (r : ReplyText) (k : ℕ) → kind_of (reply_bytes r) ≡ k → k ≢ 0x81 → answer ≡ reply_bytes (Next number) → answer ≡ reply_bytes r → ⊥
    kind r k is other next e = other (sym is ∙ ap kind_of (sym e ∙ next))

    by : (c : Cause) → answer ≡ reply_bytes (Next number) → ShowsInAnswer low high answer c → cause_status c ≤ 7
    by BadWords next shows = absurd shows
    by (BadLine n) next shows = absurd shows
    by SourceFault next shows = absurd shows
    by LinkFault next shows = omega arith
    by DiskFault next shows = omega arith
    by NoMemory next shows = omega arith
    by (LabelClash first second) next shows = absurd shows
    by (PlaceClash first second) next shows = absurd shows
    by (NumberClash first second) next shows = absurd shows
    by (Clash what place) next shows = absurd (kind (reply.Clash what place) 0x84 refl (λ e. omega (arith, e)) next shows)
    by (PeerElsewhere a b q) next shows =
        let same : q ≡ number = one_next q number shows.2.fits below (sym shows.2.replied ∙ next) in
        elim shows.2.outside [ inl low ↦ absurd (omega (arith, low, same, least)) | inr high ↦ absurd (omega (arith, high, same, most)) ]
    by (BadReply first) next shows = absurd (shows.none (Next number) below tt next)
    by NoJournal next shows = absurd shows
    by HasRecords next shows = absurd shows
    by (BadRecord n) next shows = absurd shows
    by WrongKey next shows = absurd shows
turned_outside f start end low high (Received bytes ∷ events) cause least most fits served is = absurd is
turned_outside f start end low high (Sent bytes mark ∷ Sent more other ∷ events) cause least most fits served is = absurd is
turned_outside f start end low high (Sent bytes mark ∷ Received reply ∷ event ∷ events) cause least most fits served is = absurd is
