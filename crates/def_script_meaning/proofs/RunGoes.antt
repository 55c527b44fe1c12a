-- A run goes as its script means: by induction over the lines that are left.
use Rattle.keyed_fn.specs.KeyFormulas.{mark_of}
use Rattle.std.proofs.Common.{◌≡◌, ◌⊎◌, ℕ, ◌+◌, ◌≤◌, inl, inr, Bool, true, false, ◌||◌, List, [], ◌∷◌, ◌++◌, length, take, drop, Some, None, refl, sym, ap, ◌∙◌, subst, arith, append_assoc}
use Rattle.std.specs.Prelude.{Option, option_map}
use Rattle.std.specs.Io.KnownBytes.{append_known}
use Rattle.std.specs.List.{AllByRecursion}
use Rattle.std.proofs.Math.Seq.{take-append-add}
use Rattle.std.proofs.lemmas.List.{append-nil}
use Rattle.client_registry.proofs.HistoryLaws.{IsFirstOf-same, IsFirstOf-trans}
use Rattle.client_registry.specs.Histories.{empty, IsKept, IsFirstOf}
use Rattle.client_registry.specs.Run.{History}
use Rattle.sse_outside.proofs.Known.{append_known-twice}
use Rattle.keyed_fn.specs.KeyedFn.{KeyedFn}
use Rattle.sse_frames.specs.Exchange.{asked}
use Rattle.sse_frames.specs.Frames.{FrameText}
use Rattle.def_link_events.specs.Events.{Event, Sent, Received}
use Rattle.sse_model.specs.Compared.{Collision, Labels, Places, Numbers}
use Rattle.sse_model.specs.Histories.{frames_sent, HasNoCollision}
use Rattle.sse_script.specs.Shown.{Cause, DiskFault, NoMemory}
use Rattle.sse_script.specs.Stops.{cause_status}
use Rattle.sse_script.specs.TextLines.{lines_of}
use Rattle.def_script_meaning.proofs.UpdatesLeft.{updates_behind}
use Rattle.def_script_meaning.specs.Carries.{Outside, frames_by, collision_cause, clash_in_hand, text_with, Carries, FindsClash, LacksMemory, IsUnkept, IsCutShort, IsUnprinted}
use Rattle.def_script_meaning.specs.Exchange.{Told, Adds, AreCut, IsCut}
use Rattle.def_script_meaning.specs.Goes.{frames_in_hand, IsLeft, Passes, Prints, GoesFirst, updates_count}
use Rattle.def_script_meaning.specs.HelloExchange.{IsTurned}
use Rattle.def_script_meaning.specs.Lines.{Line, Empty, Key, Command, Request, script_lines}
use Rattle.def_script_meaning.specs.Meaning.{Meaning, showing, follow, meant_from, meaning}
use Rattle.def_script_meaning.specs.Outcome.{Place, Outcome, opened, outcome, after, shown_by, is_refusal}
use Rattle.def_script_meaning.specs.Runs.{Ended, ended, StopsReading, Stops, Runs, Opens}
use Rattle.def_script_meaning.specs.Session.{frames_with, IsFree}
use Rattle.def_script_meaning.specs.Stops.{Stop, AtEnd, SinkFault, At, status_of}
use Rattle.def_script_meaning.proofs.Kept.{IsWithinItem, IsKeptAt, IsKeptAt-opened, kept_next}
use Rattle.def_script_meaning.proofs.Within.{IsWithin-lines_in}
use Rattle.def_script_meaning.proofs.FollowedPlaces.{first-next, few-next, frames-next, searches-next, no_clash-next, after-key, follow-key, first-follow}
use Rattle.def_script_meaning.proofs.GoneAsMeant.{Adds-nothing, AreExchanged-none, append_known-nothing, text_with-append, front_more, Passes-behind, Passes-none, Prints-none, shows_status, answer_status}

-- Which statuses a stop within a line has.

pub clash_status : (o : Option Collision) (cause : Cause) → option_map collision_cause o ≡ Some cause → cause_status cause ≡ 8
clash_status None cause e = absurd (cc)
clash_status (Some (Labels first second)) cause e = ap cause_status (let same : cause ≡ collision_cause (Labels first second) = cc in same)
clash_status (Some (Places first second)) cause e = ap cause_status (let same : cause ≡ collision_cause (Places first second) = cc in same)
clash_status (Some (Numbers first second)) cause e = ap cause_status (let same : cause ≡ collision_cause (Numbers first second) = cc in same)

pub cut_status : (left : List FrameText) (cut : List Event) (cause : Cause) → IsCut left cut cause → 5 ≤ cause_status cause
cut_status [] cut cause is = absurd is
cut_status (frame ∷ left) [] cause (inl link) = omega (arith, ap cause_status link)
cut_status (frame ∷ left) [] cause (inr memory) = omega (arith, ap cause_status memory)
cut_status (frame ∷ left) (Sent bytes mark ∷ cut) cause is = shows_status (asked frame) is.1.0 cause is.1.2
cut_status (frame ∷ left) (Received bytes ∷ cut) cause is = absurd is

-- nor has one that turns a session away a lower one
pub turned_status : (low high : ℕ) (events : List Event) (cause : Cause) → IsTurned low high events cause → 5 ≤ cause_status cause
turned_status low high [] cause is = elim is [ inl link ↦ omega (arith, ap cause_status link) | inr memory ↦ omega (arith, ap cause_status memory) ]
turned_status low high (Sent bytes mark ∷ []) cause is = elim is.1 [ inl link ↦ omega (arith, ap cause_status link) | inr memory ↦ omega (arith, ap cause_status memory) ]
turned_status low high (Sent bytes mark ∷ Received reply ∷ []) cause is = answer_status low high reply cause is.1
turned_status low high (Received bytes ∷ events) cause is = absurd is
turned_status low high (Sent bytes mark ∷ Sent more other ∷ events) cause is = absurd is
turned_status low high (Sent bytes mark ∷ Received reply ∷ event ∷ events) cause is = absurd is

-- why nothing was sent of frames that are left, out of memory: unless none is left
pub unsent_left : (f : KeyedFn) (end : Ended) (frames : List FrameText) → end.stop ≡ At NoMemory → IsLeft f end frames []
unsent_left f end [] memory = inl (refl, refl, omega (arith, ap status_of memory))
unsent_left f end (frame ∷ frames) memory = inr (inl (NoMemory, memory, inr refl))

-- a cut exchange is what passed of these frames
pub Passes-cut : (f : KeyedFn) (frames : List FrameText) (now : Told) (end : Ended) (events : List Event) (cause : Cause) → end.stop ≡ At cause → Adds now end.outside.told events → updates_count frames ≤ frames_in_hand end.history → (c : AreCut frames events cause)
    → Passes f frames c.answers now end
Passes-cut f frames now end events cause stops adds few c = record {
  events = events;
  adds = adds;
  n = c.n;
  before = c.before;
  cut = c.cut;
  parts = c.parts;
  exchanged = c.exchanged;
  left = inr (inl (cause, stops, c.one_more));
  most = omega (arith, few, updates_behind c.n frames);
  whole = λ low. absurd (omega (arith, low, ap status_of stops, cut_status (drop c.n frames) c.cut cause c.one_more));
}

-- what a run does since a moment after a history, over lines of this meaning
pub record Went (f : KeyedFn) (key : List ℕ) (h : History) (m : Meaning) (now : Outside) (end : Ended) : Type 0 where
  pub same_key : end.key ≡ Some key
  pub history : IsFirstOf end.history m.history
  pub since : IsFirstOf h end.history
  pub more : List FrameText
  pub frames : frames_sent f key end.history ≡ frames_sent f key h ++ more
  pub answers : List (List ℕ)
  pub passes : Passes f more answers now.told end
  pub prints : Prints m answers now.written end.outside.written
  pub ended_well : status_of end.stop ≤ 2 → (end.stop ≡ m.end) × (end.history ≡ m.history) × (end.outside.written ≡ append_known now.written (text_with answers m.shown))

module _ (f : KeyedFn) where
  -- A run that stops between two lines.

  went-here : (key : List ℕ) (h : History) (m : Meaning) (now : Outside) (stop : Stop) (end : Ended) → end ≡ ended now (Some key) h stop → IsFirstOf h m.history → status_of stop ≤ 7
      → (status_of stop ≤ 2 → (stop ≡ m.end) × (h ≡ m.history) × (m.shown ≡ [])) → Went f key h m now end
  went-here key h m now stop end same first outside whole = subst (Went f key h m now) (sym same) (record {
    same_key = refl;
    history = first;
    since = IsFirstOf-same h;
    more = [];
    frames = sym (append-nil (frames_sent f key h));
    answers = [];
    passes = Passes-none f now.told (ended now (Some key) h stop) refl outside;
    prints = Prints-none m [] now.written now.written refl;
    ended_well = λ few.
        let all = whole few in
        (all.0, all.1, sym (ap (λ shown. append_known now.written (text_with [] shown)) all.2 ∙ append_known-nothing now.written));
  })

  went-reading : (key : List ℕ) (h : History) (m : Meaning) (now : Outside) (end : Ended) → IsFirstOf h m.history → StopsReading now (Some key) h end → Went f key h m now end
  went-reading key h m now end first (inl e) = went-here key h m now _ end e first (omega arith) (λ few. absurd (omega (arith, few)))
  went-reading key h m now end first (inr e) = went-here key h m now _ end e first (omega arith) (λ few. absurd (omega (arith, few)))

  module _ (place : Place) (line : Request) (m : Meaning) (now : Outside) (end : Ended) where
    abbrev result : Outcome
    result = outcome place line

    abbrev whole : Meaning
    whole = showing (shown_by result) m

    -- A run that stops in a line.

    module _ (s : Stops f place result now end) (kept : IsKept (after result place).history) (first : IsFirstOf (after result place).history m.history) where
      first_of : IsFirstOf end.history m.history
      first_of = subst (λ h. IsFirstOf h m.history) (sym s.history) first

      since_of : IsFirstOf place.history end.history
      since_of = subst (IsFirstOf place.history) (sym s.history) (first-next place line)

      frames_of : frames_sent f place.key end.history ≡ frames_sent f place.key place.history ++ frames_by f place result
      frames_of = ap (frames_sent f place.key) s.history ∙ frames-next place line f

      few_in_hand : updates_count (frames_by f place result) ≤ frames_in_hand end.history
      few_in_hand = subst (λ h. updates_count (frames_by f place result) ≤ frames_in_hand h) (sym s.history) (few-next place line f)

      went-clash : FindsClash f place result now end.outside end.stop → Went f place.key place.history whole now end
      went-clash c =
          let status : status_of end.stop ≡ 8 = ap status_of c.stops ∙ clash_status _ c.cause c.found in record {
            same_key = s.key;
            history = first_of;
            since = since_of;
            more = frames_by f place result;
            frames = frames_of;
            answers = [];
            passes = record {
              events = [];
              adds = ap (λ (o : Outside). o.told) c.nothing ∙ Adds-nothing now.told;
              n = 0;
              before = [];
              cut = [];
              parts = refl;
              exchanged = AreExchanged-none;
              left = inr (inr (inr (refl, λ free. never c.cause c.found (no_clash-next f place line kept (subst (λ h. HasNoCollision f place.key h) s.history (subst (λ k. IsFree f k end.history) s.key free))))));
              most = omega (arith, few_in_hand);
              whole = λ few. absurd (omega (arith, few, status));
            };
            prints = Prints-none whole [] now.written end.outside.written (ap (λ (o : Outside). o.written) c.nothing);
            ended_well = λ few. absurd (omega (arith, few, status));
          }
        where
          never : (cause : Cause) → clash_in_hand f place result ≡ Some cause → clash_in_hand f place result ≡ None → ⊥
          never cause some none = cc

      -- nothing of it was sent, and nothing printed
      went-unsent : (cause : Cause) → end.stop ≡ At cause → (cause ≡ DiskFault) ⊎ (cause ≡ NoMemory) → end.outside.told ≡ now.told → end.outside.written ≡ now.written → Went f place.key place.history whole now end
      went-unsent cause stops which unsent unprinted =
          let status : 6 ≤ status_of end.stop = elim which [ inl disk ↦ omega (arith, ap status_of stops, ap cause_status disk) | inr memory ↦ omega (arith, ap status_of stops, ap cause_status memory) ] in record {
            same_key = s.key;
            history = first_of;
            since = since_of;
            more = frames_by f place result;
            frames = frames_of;
            answers = [];
            passes = record {
              events = [];
              adds = unsent ∙ Adds-nothing now.told;
              n = 0;
              before = [];
              cut = [];
              parts = refl;
              exchanged = AreExchanged-none;
              left = elim which [
                | inl disk ↦ inr (inr (inl (refl, stops ∙ ap (λ c. At c) disk)))
                | inr memory ↦ unsent_left f end (frames_by f place result) (stops ∙ ap (λ c. At c) memory)
              ];
              most = omega (arith, few_in_hand);
              whole = λ few. absurd (omega (arith, few, status));
            };
            prints = Prints-none whole [] now.written end.outside.written unprinted;
            ended_well = λ few. absurd (omega (arith, few, status));
          }

      went-memory : LacksMemory now end.outside end.stop → Went f place.key place.history whole now end
      went-memory c = went-unsent NoMemory c.stops (inr refl) (ap (λ (o : Outside). o.told) c.nothing) (ap (λ (o : Outside). o.written) c.nothing)

      went-unkept : IsUnkept f place result now end.outside end.stop → Went f place.key place.history whole now end
      went-unkept u = elim u.stops [
        | inl disk ↦ went-unsent DiskFault disk (inl refl) u.unsent u.unprinted
        | inr memory ↦ went-unsent NoMemory memory (inr refl) u.unsent u.unprinted
      ]

      went-cut : IsCutShort f place result now end.outside end.stop → Went f place.key place.history whole now end
      went-cut c = record {
        same_key = s.key;
        history = first_of;
        since = since_of;
        more = frames_by f place result;
        frames = frames_of;
        answers = c.cut.answers;
        passes = Passes-cut f (frames_by f place result) now.told end c.events c.cause c.stops c.adds few_in_hand c.cut;
        prints = Prints-none whole c.cut.answers now.written end.outside.written c.unprinted;
        ended_well = λ few. absurd (omega (arith, few, ap status_of c.stops, cut_status _ c.cut.cut c.cause c.cut.one_more));
      }

      went-unprinted : IsUnprinted f place result now end.outside end.stop → Went f place.key place.history whole now end
      went-unprinted u =
          let frames = frames_by f place result in
          let status : (4 ≤ status_of end.stop) × (status_of end.stop ≤ 7) = by end.stop u.stops in
          let text = text_with u.answers (shown_by result) in
          let front = front_more u.printed.n text (text_with [] m.shown) in
          let all : text_with u.answers whole.shown ≡ text ++ text_with [] m.shown =
          ap (λ answers. text_with answers whole.shown) (sym (append-nil u.answers)) ∙ text_with-append u.answers [] (shown_by result) m.shown (u.sent.exchanged.count ∙ searches-next place line f) in record {
            same_key = s.key;
            history = first_of;
            since = since_of;
            more = frames;
            frames = frames_of;
            answers = u.answers;
            passes = subst (λ fs. Passes f fs u.answers now.told end) (append-nil frames) (subst (λ answers. Passes f (frames ++ []) answers now.told end) (append-nil u.answers)
                (Passes-behind f frames [] u.answers [] now.told end.outside.told end u.sent.events u.sent.adds u.sent.exchanged (Passes-none f end.outside.told end refl status.1)));
            prints = record { p = front.0; written = u.printed.taken ∙ ap (append_known now.written) (sym (ap (take front.0) all ∙ front.1)) };
            ended_well = λ few. absurd (omega (arith, few, status.0));
          }
        where
          by : (stop : Stop) → (stop ≡ SinkFault) ⊎ (stop ≡ At NoMemory) → (4 ≤ status_of stop) × (status_of stop ≤ 7)
          by stop (inl sink) = (omega (arith, ap status_of sink), omega (arith, ap status_of sink))
          by stop (inr memory) = (omega (arith, ap status_of memory), omega (arith, ap status_of memory))

      went-stopped : Went f place.key place.history whole now end
      went-stopped = elim s.within [
        | inl (inl c) ↦ went-clash c
        | inl (inr (inl c)) ↦ went-memory c
        | inl (inr (inr (inl u))) ↦ went-unkept u
        | inl (inr (inr (inr c))) ↦ went-cut c
        | inr u ↦ went-unprinted u
      ]

    -- A line that is carried out.

    went-carried : (next : Outside) → Carries f place result now next → Went f (after result place).key (after result place).history m next end → Went f place.key place.history whole now end
    went-carried next c later =
        let w : Went f place.key (after result place).history m next end = subst (λ k. Went f k (after result place).history m next end) (after-key result place) later in
        let text = text_with c.answers (shown_by result) in
        let all : text_with (c.answers ++ w.answers) whole.shown ≡ text ++ text_with w.answers m.shown =
        text_with-append c.answers w.answers (shown_by result) m.shown (c.sent.exchanged.count ∙ searches-next place line f) in
        record {
          same_key = w.same_key;
          history = w.history;
          since = IsFirstOf-trans place.history (after result place).history end.history (first-next place line) w.since;
          more = frames_by f place result ++ w.more;
          frames =
              w.frames
              ∙ ap (λ fs. fs ++ w.more) (frames-next place line f)
              ∙ append_assoc (frames_sent f place.key place.history) (frames_by f place result) w.more;
          answers = c.answers ++ w.answers;
          passes = Passes-behind f (frames_by f place result) w.more c.answers w.answers now.told next.told end c.sent.events c.sent.adds c.sent.exchanged w.passes;
          prints = record {
            p = length text + w.prints.p;
            written = behind now.written next.written end.outside.written text _ c.printed w.prints.written
                ∙ ap (append_known now.written) (sym (ap (take (length text + w.prints.p)) all ∙ take-append-add text (text_with w.answers m.shown) w.prints.p));
          };
          ended_well = λ few.
              let well = w.ended_well few in
              (well.0, well.1, behind now.written next.written end.outside.written text _ c.printed well.2 ∙ ap (append_known now.written) (sym all));
        }
      where
        behind : (a b e : Option (List ℕ)) (xs ys : List ℕ) → b ≡ append_known a xs → e ≡ append_known b ys → e ≡ append_known a (xs ++ ys)
        behind a b e xs ys first second = second ∙ ap (λ w. append_known w ys) first ∙ append_known-twice a xs ys

  -- All lines.

  pub went : (n : ℕ) (place : Place) (number : ℕ) (lines : List (Option Line)) (refused : Bool) (now : Outside) (end : Ended) → AllByRecursion IsWithinItem lines → IsKeptAt n place → Runs f place number lines refused now end
      → Went f place.key place.history (follow place number lines refused) now end
  went n place number [] refused now end within kept (inl e) = went-here place.key place.history _ now (AtEnd refused) end e (IsFirstOf-same place.history) (at_end refused) (λ few. (refl, refl, refl))
    where
      at_end : (b : Bool) → status_of (AtEnd b) ≤ 7
      at_end true = omega arith
      at_end false = omega arith
  went n place number [] refused now end within kept (inr reading) = went-reading place.key place.history _ now end (IsFirstOf-same place.history) reading
  went n place number (None ∷ lines) refused now end within kept (inl e) = went-here place.key place.history _ now _ end e (IsFirstOf-same place.history) (omega arith) (λ few. (refl, refl, refl))
  went n place number (None ∷ lines) refused now end within kept (inr reading) = went-reading place.key place.history _ now end (IsFirstOf-same place.history) reading
  went n place number (Some Empty ∷ lines) refused now end within kept (inl reading) = went-reading place.key place.history _ now end (first-follow place (number + 1) lines refused) reading
  went n place number (Some Empty ∷ lines) refused now end within kept (inr runs) = went n place (number + 1) lines refused now end within.1 kept runs
  went n place number (Some (Key key) ∷ lines) refused now end within kept (inl e) = went-here place.key place.history _ now _ end e (IsFirstOf-same place.history) (omega arith) (λ few. (refl, refl, refl))
  went n place number (Some (Key key) ∷ lines) refused now end within kept (inr reading) = went-reading place.key place.history _ now end (IsFirstOf-same place.history) reading
  went n place number (Some (Command line) ∷ lines) refused now end within kept (inl reading) =
      went-reading place.key place.history _ now end (first-follow place number (Some (Command line) ∷ lines) refused) reading
  went n place number (Some (Command line) ∷ lines) refused now end within kept (inr (inl stops)) =
      let r = outcome place line in
      went-stopped place line (follow (after r place) (number + 1) lines (refused || is_refusal r)) now end stops (kept_next n place line within.0 kept).history
      (first-follow (after r place) (number + 1) lines (refused || is_refusal r))
  went n place number (Some (Command line) ∷ lines) refused now end within kept (inr (inr (next, carries, runs))) =
      let r = outcome place line in
      went-carried place line (follow (after r place) (number + 1) lines (refused || is_refusal r)) now end next carries
      (went (n + 32) (after r place) (number + 1) lines (refused || is_refusal r) next end within.1 (kept_next n place line within.0 kept) runs)

  -- Before the key line.

  goes-here : (m : Meaning) (now : Outside) (stop : Stop) (end : Ended) → end ≡ ended now None empty stop → status_of stop ≤ 7 → (status_of stop ≤ 2 → (stop ≡ m.end) × (None ≡ m.key) × (empty ≡ m.history) × (m.shown ≡ []))
      → GoesFirst f m now end
  goes-here m now stop end same outside whole = subst (GoesFirst f m now) (sym same) (record {
    key = inl refl;
    history = tt;
    answers = [];
    passes = inl (record { key = refl; nothing = refl; stops = outside; none = refl });
    prints = Prints-none m [] now.written now.written refl;
    ended = λ few.
        let all = whole few in
        (all.0, all.1, all.2, sym (ap (λ shown. append_known now.written (text_with [] shown)) all.3 ∙ append_known-nothing now.written));
  })

  goes-reading : (m : Meaning) (now : Outside) (end : Ended) → StopsReading now None empty end → GoesFirst f m now end
  goes-reading m now end (inl e) = goes-here m now _ end e (omega arith) (λ few. absurd (omega (arith, few)))
  goes-reading m now end (inr e) = goes-here m now _ end e (omega arith) (λ few. absurd (omega (arith, few)))

  -- a run goes as its lines mean, whose identifiers are below 2^64
  pub goes_from : (number : ℕ) (lines : List (Option Line)) (now : Outside) (end : Ended) → AllByRecursion IsWithinItem lines → Opens f number lines now end → GoesFirst f (meant_from (Some (mark_of f)) number lines) now end
  goes_from number [] now end within (inl e) = goes-here _ now _ end e (omega arith) (λ few. (refl, refl, refl, refl))
  goes_from number [] now end within (inr reading) = goes-reading _ now end reading
  goes_from number (None ∷ lines) now end within (inl e) = goes-here _ now _ end e (omega arith) (λ few. (refl, refl, refl, refl))
  goes_from number (None ∷ lines) now end within (inr reading) = goes-reading _ now end reading
  goes_from number (Some (Command line) ∷ lines) now end within (inl e) = goes-here _ now _ end e (omega arith) (λ few. (refl, refl, refl, refl))
  goes_from number (Some (Command line) ∷ lines) now end within (inr reading) = goes-reading _ now end reading
  goes_from number (Some Empty ∷ lines) now end within (inl reading) = goes-reading _ now end reading
  goes_from number (Some Empty ∷ lines) now end within (inr opens) = goes_from (number + 1) lines now end within.1 opens
  goes_from number (Some (Key key) ∷ lines) now end within (inl reading) = goes-reading _ now end reading
  goes_from number (Some (Key key) ∷ lines) now end within (inr (inl away)) =
      let m = follow (opened (Some (mark_of f)) key) (number + 1) lines false in record {
        key = inr (away.same_key ∙ sym (follow-key (opened (Some (mark_of f)) key) (number + 1) lines false));
        history = subst (λ h. IsFirstOf h m.history) (sym away.history) tt;
        answers = [];
        passes = inr (inl (record { key = key; same_key = away.same_key; cause = away.cause; stops = away.stops; away = away.away; none = refl; most = λ next least most. omega (arith, ap updates_count (λ i. frames_with f (away.same_key i) (away.history i))) }));
        prints = Prints-none m [] now.written end.outside.written away.unprinted;
        ended = λ few. absurd (omega (arith, few, ap status_of away.stops, turned_status 0 0 away.away.events away.cause away.away.turned));
      }
  goes_from number (Some (Key key) ∷ lines) now end within (inr (inr (next, greeted, runs))) =
      let m = follow (opened (Some (mark_of f)) key) (number + 1) lines false in
      let w = went 0 (opened (Some (mark_of f)) key) (number + 1) lines false next end within.1 (IsKeptAt-opened (Some (mark_of f)) 0 key) runs in record {
        key = inr (w.same_key ∙ sym (follow-key (opened (Some (mark_of f)) key) (number + 1) lines false));
        history = w.history;
        answers = w.answers;
        passes = inr (inr (record {
          key = key;
          same_key = w.same_key;
          greeted = next.told;
          greets = greeted.greets;
          passes = subst (λ fs. Passes f fs w.answers next.told end) (sym w.frames ∙ ap (λ k. frames_with f k end.history) (sym w.same_key)) w.passes;
        }));
        prints = record { p = w.prints.p; written = w.prints.written ∙ ap (λ o. append_known o (take w.prints.p (text_with w.answers m.shown))) greeted.unprinted };
        ended = λ few.
            let well = w.ended_well few in
            (well.0, w.same_key ∙ sym (follow-key (opened (Some (mark_of f)) key) (number + 1) lines false), well.1, well.2 ∙ ap (λ o. append_known o (text_with w.answers m.shown)) greeted.unprinted);
      }

  -- Promise P162, also here
  -- so a run goes as its script means
  pub goes : (bytes : List ℕ) (now : Outside) (end : Ended) → Opens f 1 (script_lines bytes) now end → GoesFirst f (meaning (Some (mark_of f)) bytes) now end
  goes bytes now end opens = goes_from 1 (script_lines bytes) now end (IsWithin-lines_in (lines_of bytes)) opens
