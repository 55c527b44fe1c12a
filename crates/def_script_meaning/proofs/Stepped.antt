-- Over an honest link that knows how each frame was answered: frames whose replies were those that are to come were each answered by the
-- server's step, and none of them was refused. So a server that keeps its updates in a file keeps those among them.
use Rattle.std.proofs.Common.{◌≡◌, ℕ, Bool, true, false, List, [], ◌∷◌, ◌++◌, ◌-◌, drop, map, Option, None, Some, refl, sym, ap, ◌∙◌, subst, lit≤, append_assoc}
use Rattle.std.specs.Prelude.{IfSome, fold, if◌then◌else◌}
use Rattle.std.specs.List.{AllByRecursion}
use Rattle.std.specs.Option.{option_map_or}
use Rattle.std.proofs.lemmas.Bool.{true≢false}
use Rattle.client_registry.specs.Epochs.{Step, first_begins, step_after}
use Rattle.client_registry.specs.Histories.{IsKept, IsWhole}
use Rattle.client_registry.specs.Run.{History, Epochs}
use Rattle.keyed_fn.specs.KeyedFn.{KeyedFn, IsKeyedFn}
use Rattle.def_link_events.proofs.Honest.{IsServed-exchange, Serves-frame}
use Rattle.def_link_events.specs.Events.{Event, Sent, Received, IsKnown, AreKnown, IsStepped, AreStepped}
use Rattle.def_link_events.specs.Served.{Served, Answers, IsServed, Serves}
use Rattle.def_link_events.specs.Taken.{AreSent, NoneRefused, frames_taken, taken_one, updates_among}
use Rattle.def_link_events.specs.declared.mark.Mark.{Mark}
use Rattle.def_link_events.specs.declared.mark.Mark.TheVariants.{Unknown, Stepped, LackedMemory, StoreFailed}
use Rattle.list_packing.specs.Parts.{parts}
use Rattle.server_core.specs.Refusal.{clash, clash_at, first_known, first_of_two, in_place, is_next, refusal}
use Rattle.server_core.specs.State.{ServerState}
use Rattle.server_core.specs.Step.{answers, step, steps, taken}
use Rattle.def_agreement.specs.TakenFrames.{Expects}
use Rattle.sse_frames.specs.Exchange as texts
use Rattle.sse_frames.specs.Exchange.{Asked, ForNext, ForTook, ForAnswer, answers_behind, asked, exchange, expected, first_answer, greeting, replied}
use Rattle.sse_frames.specs.Frames.{FrameText, Hello, SetupBegin, SetupDict, SetupArray, SetupEnd, AddFrame, DeleteFrame, SearchFrame, InGrammar, frame_bytes}
use Rattle.sse_frames.specs.Replies as reply
use Rattle.sse_frames.specs.Replies.{ReplyText, Number, Clash, OutOfPlace, reply_bytes}
use Rattle.sse_frames.specs.SentParts.{pages_of}
use Rattle.sse_model.proofs.ExchangeLaws.{session-exchange}
use Rattle.def_script_meaning.proofs.Headline.{AreAnswered, history_is_answered, shown_with}
use Rattle.def_script_meaning.proofs.Honest.{IsBehindGreeting, behind_greeting, not_lacking}
use Rattle.def_script_meaning.specs.Exchange.{as_event, bare}
use Rattle.def_script_meaning.proofs.RejoinedSessions.{frames_behind, rest_is_answered}
use Rattle.def_script_meaning.proofs.TakenLast.{HasNoSearch}
use Rattle.def_script_meaning.specs.Rejoins.{HasTaken, frames_under}
use Rattle.def_script_meaning.specs.Session.{IsFree, frames_with, session_with}
use Rattle.def_script_meaning.specs.Since.{shown_since}

head_same : {A : Type 0} {x y : A} {xs ys : List A} → x ∷ xs ≡ y ∷ ys → x ≡ y
head_same e = cc

tail_same : {A : Type 0} {x y : A} {xs ys : List A} → x ∷ xs ≡ y ∷ ys → xs ≡ ys
tail_same e = cc

-- Why a frame isn't taken is no reply that is to come.

abbrev IsRefusal : ReplyText → Type 0
IsRefusal (Number next) = Unit {0}
IsRefusal (Clash what place) = Unit {0}
IsRefusal OutOfPlace = Unit {0}
IsRefusal _ = ⊥

clash_at-is : (what : ℕ) (place : Option ℕ) → IfSome (clash_at what place) IsRefusal
clash_at-is what None = tt
clash_at-is what (Some i) = tt

first_of_two-is : (a b : Option ReplyText) → IfSome a IsRefusal → IfSome b IsRefusal → IfSome (first_of_two a b) IsRefusal
first_of_two-is None b first second = second
first_of_two-is (Some x) b first second = first

clash-is : (s : ServerState) (frame : FrameText) → IfSome (clash s frame) IsRefusal
clash-is s Hello = tt
clash-is s (SetupBegin q b big m a) = tt
clash-is s (SetupDict q width entries) = clash_at-is 1 (first_known s.dictionary entries)
clash-is s (SetupArray q width blocks) = tt
clash-is s (SetupEnd q) = tt
clash-is s (AddFrame q entries numbers) = first_of_two-is (clash_at 2 (first_known s.additions entries)) _ (clash_at-is 2 (first_known s.additions entries)) (clash_at-is 3 _)
clash-is s (DeleteFrame q numbers) = clash_at-is 3 _
clash-is s (SearchFrame token) = tt

refusal-is : (s : ServerState) (frame : FrameText) → IfSome (refusal s frame) IsRefusal
refusal-is s frame = by (is_next s frame) (in_place s frame) (clash s frame) (clash-is s frame)
  where
    by : (n p : Bool) (o : Option ReplyText) → IfSome o IsRefusal → IfSome (if n then (if p then o else Some OutOfPlace) else Some (Number s.next)) IsRefusal
    by true true o is = is
    by true false o is = tt
    by false p o is = tt

unexpected : (ids : List ℕ) (asks : Asked) (why : ReplyText) → IsRefusal why → why ∷ [] ≡ expected ids asks → ⊥
unexpected ids ForNext why is e = absurd (cc)
unexpected ids (ForTook q) why is e = subst IsRefusal (head_same e) is
unexpected ids ForAnswer why is e = of (parts 8192 ids) e
  where
    of : (list : List (List ℕ)) → why ∷ [] ≡ pages_of list → ⊥
    of [] e = subst IsRefusal (head_same e) is
    of (first ∷ []) e = subst IsRefusal (head_same e) is
    of (first ∷ second ∷ others) e = subst IsRefusal (head_same e) is

module _ (f : KeyedFn) where
  accepted : (s : ServerState) (frame : FrameText) (ids : List ℕ) → (step f s frame).1 ≡ expected ids (asked frame) → refusal s frame ≡ None
  accepted s frame ids e = by (refusal s frame) (refusal-is s frame) e
    where
      by : (o : Option ReplyText) → IfSome o IsRefusal → (option_map_or {U = ServerState × List ReplyText} (λ why. (s, why ∷ [])) o (taken s frame, answers f s frame)).1 ≡ expected ids (asked frame) → o ≡ None
      by None is e = refl
      by (Some why) is e = absurd (unexpected ids (asked frame) why is e)

  pub step_taken : (s : ServerState) (frame : FrameText) → refusal s frame ≡ None → (step f s frame).0 ≡ taken s frame
  step_taken s frame none = rw none refl

  -- of frames that are answered as is to be expected none is refused, and none is a Hello
  pub none_refused : (s : ServerState) (frames : List FrameText) (shown : List (List ℕ)) → (steps f s frames).1 ≡ replied shown frames → NoneRefused s frames
  none_refused s [] shown e = tt
  none_refused s (frame ∷ frames) shown e =
      let none = accepted s frame (first_answer shown) (head_same e) in
      (none, subst (λ state. NoneRefused state frames) (step_taken s frame none) (none_refused (step f s frame).0 frames (answers_behind (asked frame) shown) (tail_same e)))

  abbrev pub AreBehindGreeting : List FrameText → Type 0
  AreBehindGreeting frames = AllByRecursion (λ frame. IsBehindGreeting (asked frame)) frames

  pub none_greets : (s : ServerState) (frames : List FrameText) (shown : List (List ℕ)) → (steps f s frames).1 ≡ replied shown frames → AreBehindGreeting frames
  none_greets s [] shown e = tt
  none_greets s (frame ∷ frames) shown e = (behind_greeting f s frame (first_answer shown) (head_same e), none_greets (step f s frame).0 frames (answers_behind (asked frame) shown) (tail_same e))

  -- One frame.

  stepped : (s : ServerState) (frame : FrameText) (mark : Mark) (after : ServerState) (ids : List ℕ) (due : List (List ℕ)) → IsKnown mark → IsBehindGreeting (asked frame)
      → Answers f s frame mark after (map reply_bytes (expected ids (asked frame)) ++ due) → IsStepped mark
  stepped s frame Unknown after ids due known behind answered = absurd known
  stepped s frame Stepped after ids due known behind answered = tt
  stepped s frame LackedMemory after ids due known behind answered = absurd (not_lacking reply.NoMemory ids (asked frame) due (lit≤ tt) behind answered.replies_are)
  stepped s frame StoreFailed after ids due known behind answered = absurd (not_lacking reply.StoreFault ids (asked frame) due (lit≤ tt) behind answered.replies_are)

  greeted : (s : ServerState) (mark : Mark) (after : ServerState) (replies : List (List ℕ)) → IsKnown mark → Answers f s Hello mark after replies → IsStepped mark
  greeted s Unknown after replies known answered = absurd known
  greeted s Stepped after replies known answered = tt
  greeted s LackedMemory after replies known answered = absurd (true≢false (sym answered.update))
  greeted s StoreFailed after replies known answered = absurd (true≢false (sym answered.update))

  -- Replies between frames.

  sent_behind : (replies : List (List ℕ)) (frames : List FrameText) (events : List Event) → AreSent frames events → AreSent frames (map Received replies ++ events)
  sent_behind [] frames events sent = sent
  sent_behind (r ∷ replies) frames events sent = sent_behind replies frames events sent

  stepped_behind : (replies : List (List ℕ)) (events : List Event) → AreStepped events → AreStepped (map Received replies ++ events)
  stepped_behind [] events all = all
  stepped_behind (r ∷ replies) events all = stepped_behind replies events all

  known_behind : (replies : List (List ℕ)) (events : List Event) → AreKnown (map Received replies ++ events) → AreKnown events
  known_behind [] events all = all
  known_behind (r ∷ replies) events all = known_behind replies events all

  -- what passed begins with these replies
  replies_first : (rs : List ReplyText) (later : List texts.Passed) (events : List Event) → map bare events ≡ map as_event (map texts.Received rs ++ later)
      → (rest : List Event) × (events ≡ map Received (map reply_bytes rs) ++ rest) × (map bare rest ≡ map as_event later)
  replies_first [] later events e = (events, refl, e)
  replies_first (r ∷ rs) later [] e = absurd (cc)
  replies_first (r ∷ rs) later (Sent bytes mark ∷ events) e = absurd (cc)
  replies_first (r ∷ rs) later (Received bytes ∷ events) e =
      let same : bytes ≡ reply_bytes r = cc in
      let more = replies_first rs later events (tail_same e) in
      (more.0, (λ i. Received (same i) ∷ more.1 i), more.2)

  -- Frames with their replies.

  exchange_stepped : (start end : Served) (shown : List (List ℕ)) (frames : List FrameText) (events : List Event) → AllByRecursion InGrammar frames → AreBehindGreeting frames → AreKnown events
      → IsServed f start events end → map bare events ≡ map as_event (exchange shown frames) → AreSent frames events × AreStepped events
  exchange_stepped start end shown [] [] grammar behind known served e = (refl, tt)
  exchange_stepped start end shown [] (event ∷ events) grammar behind known served e = absurd (cc)
  exchange_stepped start end shown (frame ∷ frames) [] grammar behind known served e = absurd (cc)
  exchange_stepped start end shown (frame ∷ frames) (Received bytes ∷ events) grammar behind known served e = absurd (cc)
  exchange_stepped start end shown (frame ∷ frames) (Sent bytes mark ∷ events) grammar behind known served e =
      let spelled : bytes ≡ frame_bytes frame = cc in
      let ids = first_answer shown in
      let rs = expected ids (asked frame) in
      let replies = map reply_bytes rs in
      let next = replies_first rs (exchange (answers_behind (asked frame) shown) frames) events (tail_same e) in
      let one = IsServed-exchange f start end frame mark replies next.0 grammar.0
      (subst (λ b. IsServed f start (Sent b mark ∷ (map Received replies ++ next.0)) end) spelled (subst (λ es. IsServed f start (Sent bytes mark ∷ es) end) next.1 served)) in
      let rest = exchange_stepped one.0 end (answers_behind (asked frame) shown) frames next.0 grammar.1 behind.1 (known_behind replies next.0 (subst AreKnown next.1 known.1)) one.2 next.2 in (
        (grammar.0, spelled, subst (AreSent frames) (sym next.1) (sent_behind replies frames next.0 rest.0)),
        (stepped start.state frame mark one.0.state ids one.0.due known.0 behind.0 one.1, subst AreStepped (sym next.1) (stepped_behind replies next.0 rest.1)),
      )

  greeting_stepped : (start end : Served) (next : ℕ) (shown : List (List ℕ)) (frames : List FrameText) (events : List Event) → AllByRecursion InGrammar frames → AreBehindGreeting frames → AreKnown events
      → IsServed f start events end → map bare events ≡ map as_event (greeting next ++ exchange shown frames) → AreSent (Hello ∷ frames) events × AreStepped events
  greeting_stepped start end next shown frames [] grammar behind known served e = absurd (cc)
  greeting_stepped start end next shown frames (Received bytes ∷ events) grammar behind known served e = absurd (cc)
  greeting_stepped start end next shown frames (Sent bytes mark ∷ []) grammar behind known served e = absurd (let none : [] ≡ map as_event (texts.Received (reply.Next next) ∷ exchange shown frames) = tail_same e in cc)
  greeting_stepped start end next shown frames (Sent bytes mark ∷ Sent other mark' ∷ events) grammar behind known served e =
      absurd (let two : Sent other Unknown ∷ map bare events ≡ map as_event (texts.Received (reply.Next next) ∷ exchange shown frames) = tail_same e in cc)
  greeting_stepped start end next shown frames (Sent bytes mark ∷ Received first ∷ events) grammar behind known served e =
      let spelled : bytes ≡ frame_bytes Hello = cc in
      let rest = exchange_stepped _ end shown frames events grammar behind known.1 served.2.2 (tail_same (tail_same e)) in (
        (tt, spelled, rest.0),
        (greeted start.state mark served.0.state served.0.due known.0 (Serves-frame f start.state Hello mark served.0 tt (subst (λ b. Serves f start.state b mark served.0) spelled served.1)), rest.1),
      )

-- What was sent, and then more.

pub AreSent-append : (xs ys : List FrameText) (events more : List Event) → AreSent xs events → AreSent ys more → AreSent (xs ++ ys) (events ++ more)
AreSent-append xs ys [] more sent also = subst (λ zs. AreSent (zs ++ ys) more) (sym sent) also
AreSent-append [] ys (Sent bytes mark ∷ events) more sent also = absurd sent
AreSent-append (x ∷ xs) ys (Sent bytes mark ∷ events) more sent also = (sent.0, sent.1, AreSent-append xs ys events more sent.2 also)
AreSent-append xs ys (Received bytes ∷ events) more sent also = AreSent-append xs ys events more sent also

pub AreStepped-append : (events more : List Event) → AreStepped events → AreStepped more → AreStepped (events ++ more)
AreStepped-append [] more all also = also
AreStepped-append (Sent bytes mark ∷ events) more all also = (all.0, AreStepped-append events more all.1 also)
AreStepped-append (Received bytes ∷ events) more all also = AreStepped-append events more all also

pub AreKnown-behind : (events more : List Event) → AreKnown (events ++ more) → AreKnown more
AreKnown-behind [] more all = all
AreKnown-behind (Sent bytes mark ∷ events) more all = AreKnown-behind events more all.1
AreKnown-behind (Received bytes ∷ events) more all = AreKnown-behind events more all

-- a server that answered each by its step is where the steps lead
pub stepped_state : (f : KeyedFn) (start end : Served) (frames : List FrameText) (events : List Event) → IsServed f start events end → AreSent frames events → AreStepped events → end.state ≡ (steps f start.state frames).0
stepped_state f start end frames [] served sent all = sym served.0 ∙ ap (λ fs. (steps f start.state fs).0) (sym sent)
stepped_state f start end [] (Sent bytes mark ∷ events) served sent all = absurd sent
stepped_state f start end (frame ∷ frames) (Sent bytes Unknown ∷ events) served sent all = absurd all.0
stepped_state f start end (frame ∷ frames) (Sent bytes LackedMemory ∷ events) served sent all = absurd all.0
stepped_state f start end (frame ∷ frames) (Sent bytes StoreFailed ∷ events) served sent all = absurd all.0
stepped_state f start end (frame ∷ frames) (Sent bytes Stepped ∷ events) served sent all =
    let now = served.0 in
    let one = Serves-frame f start.state frame Stepped now sent.0 (subst (λ b. Serves f start.state b Stepped now) sent.1 served.1) in
    stepped_state f now end frames events served.2 sent.2 all.1 ∙ ap (λ s. (steps f s frames).0) one.state
stepped_state f start end frames (Received bytes ∷ events) served sent all = stepped_state f _ end frames events served.2 sent all

-- the updates that it took
pub frames_taken-append : (f : KeyedFn) (s : ServerState) (xs ys : List FrameText) → frames_taken f s (xs ++ ys) ≡ frames_taken f s xs ++ frames_taken f (steps f s xs).0 ys
frames_taken-append f s [] ys = refl
frames_taken-append f s (x ∷ xs) ys =
    ap (λ rest. taken_one s x ++ rest) (frames_taken-append f (step f s x).0 xs ys) ∙ sym (append_assoc (taken_one s x) (frames_taken f (step f s x).0 xs) (frames_taken f (steps f (step f s x).0 xs).0 ys))

-- A whole session, and one that goes on.

-- all that was sent between two moments, each frame answered by the step of a server that was in this state before it and refused none
-- of them; the updates among them are those of these frames
pub record AreTaken (s : ServerState) (frames : List FrameText) (events : List Event) : Type 0 where
  pub all : List FrameText
  pub sent : AreSent all events
  pub stepped : AreStepped events
  pub accepted : NoneRefused s all
  pub updates : updates_among all ≡ updates_among frames

module _ (f : KeyedFn) (start : Served) (events : List Event) (known : AreKnown events) (end : Served) (served : IsServed f start events end) where
  pub taken_behind_greeting : (next : ℕ) (shown : List (List ℕ)) (frames : List FrameText) → AreAnswered f start.state frames shown → map bare events ≡ map as_event (greeting next ++ exchange shown frames) → AreTaken start.state frames events
  taken_behind_greeting next shown frames are e =
      let both = greeting_stepped f start end next shown frames events are.grammar (none_greets f start.state frames shown are.replies) known served e in
      record { all = Hello ∷ frames; sent = both.0; stepped = both.1; accepted = (refl, none_refused f start.state frames shown are.replies); updates = refl }

  -- a server that expects the first frame of a history takes the updates of its session
  pub session_taken : IsKeyedFn f → (key : Option (List ℕ)) (h : History) → IsWhole h → IsKept h → IsFree f key h → Expects 0 start.state → map bare events ≡ map as_event (session_with f key h) → AreTaken start.state (frames_with f key h) events
  session_taken laws None h whole kept free expects e = record { all = []; sent = nothing events e; stepped = still events e; accepted = tt; updates = refl }
    where
      nothing : (events : List Event) → map bare events ≡ [] → AreSent [] events
      nothing [] e = refl
      nothing (event ∷ events) e = absurd (cc)

      still : (events : List Event) → map bare events ≡ [] → AreStepped events
      still [] e = tt
      still (event ∷ events) e = absurd (cc)
  session_taken laws (Some key) h whole kept free expects e =
      taken_behind_greeting 0 (shown_with (Some key) h) (frames_with f (Some key) h) (history_is_answered f laws (Some key) h start.state whole kept free expects) (e ∙ ap (map as_event) (session-exchange f key h))

  -- and one that was sent the first frames of a history those of a session that goes on with it
  pub rejoined_taken : IsKeyedFn f → (key : List ℕ) (es : Epochs) → HasNoSearch es → (next : ℕ) → HasTaken f key es next start.state → (more : List Step) → IsKept (Some (fold step_after es more))
      → IsFree f (Some key) (Some (fold step_after es more)) → map bare events ≡ map as_event (greeting next ++ exchange (shown_since es more) (drop (next - (first_begins es).frame) (frames_under f key (Some (fold step_after es more)))))
      → AreTaken start.state (drop (next - (first_begins es).frame) (frames_under f key (Some (fold step_after es more)))) events
  rejoined_taken laws key es updates next had more kept free e =
      taken_behind_greeting next (shown_since es more) (drop (next - (first_begins es).frame) (frames_under f key (Some (fold step_after es more))))
      (subst (λ frames. AreAnswered f start.state frames (shown_since es more)) (sym (frames_behind f laws key es updates next start.state had more))
      (rest_is_answered f laws key es updates next start.state had more kept free)) e
