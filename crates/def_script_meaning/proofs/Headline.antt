-- The headline, as a law of runs; and that no run over an honest link ends with a collision or a bad reply, where the history
-- up to its stop has no collision. Both begin with laws of any frames, sent after the greeting to a server in any state that
-- answers them so.
use Rattle.keyed_fn.specs.KeyFormulas.{mark_of}
use Rattle.std.proofs.Common.{◌≡◌, ◌⊎◌, ℕ, suc, false, ◌+◌, ◌^◌, ◌<◌, ◌≤◌, inl, inr, List, [], ◌∷◌, ◌++◌, length, map, take, drop, Some, None, refl, sym, ap, ◌∙◌, subst, arith}
use Rattle.std.specs.Prelude.{flat_map, Option, All, option_map}
use Rattle.std.specs.Io.KnownBytes.{append_known}
use Rattle.std.specs.List.{AllByRecursion}
use Rattle.std.proofs.Math.Seq.{take-length, take-append_seam, drop-append_seam}
use Rattle.std.proofs.lemmas.List.{append-nil, append_cancel_left, map-append, drop_all}
use Rattle.std.proofs.lemmas.List.Elements.{recursion_from_All}
use Rattle.client_registry.proofs.HistoryLaws.{IsKept-first}
use Rattle.client_registry.specs.Histories.{empty, IsKept, IsFirstOf, IsWhole, shown_in_turn}
use Rattle.client_registry.specs.Live.{in_order}
use Rattle.client_registry.specs.Run.{History}
use Rattle.sse_outside.proofs.Known.{append_known-twice}
use Rattle.keyed_fn.specs.KeyedFn.{KeyedFn, IsKeyedFn}
use Rattle.server_core.specs.State.{ServerState}
use Rattle.server_core.specs.Step.{step, steps}
use Rattle.def_agreement.proofs.Histories.{IsAnswer, replies_agree, shown_are_answers, in_order-shown_in_turn}
use Rattle.def_agreement.specs.TakenFrames.{Expects}
use Rattle.sse_frames.specs.Exchange.{greeting, exchange, replied, searches}
use Rattle.sse_frames.specs.Frames.{FrameText, InGrammar}
use Rattle.sse_frames.specs.Replies.{IsIdentifier}
use Rattle.def_link_events.specs.Events.{Event}
use Rattle.def_link_events.specs.Served.{Served, IsServed, idle}
use Rattle.sse_model.proofs.ExchangeLaws.{session-exchange, searches-sent}
use Rattle.sse_model.proofs.HistoryLaws.{frames_sent-in_grammar, HasNoCollision-first}
use Rattle.sse_script.specs.Shown.{Cause}
use Rattle.sse_script.specs.Shown.{Found, Matched}
use Rattle.sse_script.specs.Stops.{cause_status}
use Rattle.sse_script.specs.Texts.{text_of}
use Rattle.sse_outside.specs.Kept.{with_records}
use Rattle.def_script_meaning.proofs.UpdatesLeft.{updates_farther}
use Rattle.bool_search.specs.Chosen.{chosen_by}
use Rattle.def_script_meaning.specs.Carries.{Outside, with_answers, text_with}
use Rattle.def_script_meaning.specs.Exchange.{Told, Adds, AreExchanged, IsCut, as_event, bare}
use Rattle.def_script_meaning.specs.Goes.{frames_in_hand, Passes, IsOpened, HasPassed, GoesFirst, updates_count}
use Rattle.def_script_meaning.specs.Headline.{IsOverHonest, IsUndisturbed, Headline}
use Rattle.def_script_meaning.specs.Lines.{Line, Empty, Key, Command, script_lines}
use Rattle.def_script_meaning.specs.Meaning.{Meaning, meant_from, meaning}
use Rattle.def_script_meaning.specs.Outcome.{Printed, Says, Finds, Matches, said, opened}
use Rattle.def_script_meaning.specs.Runs.{Ended, Opens, Ends}
use Rattle.def_script_meaning.specs.Recorded.{records_with}
use Rattle.def_script_meaning.specs.Session.{session_with, session_of, frames_with, frames_of, IsFree}
use Rattle.def_script_meaning.specs.Stops.{status_of, stop_text}
use Rattle.def_script_meaning.proofs.FollowedPlaces.{finds, follow-key, finds-meant}
use Rattle.def_script_meaning.proofs.GoneAsMeant.{Adds-nothing, Adds-joined}
use Rattle.def_script_meaning.proofs.Honest.{IsServed-bare, behind, cut_outside, behind_greeted, turned_outside}
use Rattle.def_script_meaning.proofs.Whole.{IsWhole-first, expects_first, meaning_is_whole}
use Rattle.def_script_meaning.proofs.PartsLeft.{part_left, part_of_left, steps-next, turned_state}
use Rattle.def_script_meaning.proofs.Recorded.{KeepsFirst-all, recorded}
use Rattle.def_script_meaning.proofs.RunGoes.{goes, turned_status}
use Rattle.def_script_meaning.proofs.Simulated.{session_with-simulated}
use Rattle.def_script_meaning.proofs.Within.{meaning_is_kept}

-- what passed is one list of events, where the link tells it
pub same_events : (past xs ys : List Event) (now end : Told) → now ≡ Some past → Adds now end xs → Adds now end ys → xs ≡ ys
same_events past xs ys now end told first second =
    append_cancel_left past xs ys (inside (past ++ xs) (past ++ ys) (sym (first ∙ ap (option_map (λ es. es ++ xs)) told) ∙ second ∙ ap (option_map (λ es. es ++ ys)) told))
  where
    inside : (a b : List Event) → Some a ≡ Some b → a ≡ b
    inside a b e = cc

identifiers : (answers : List (List ℕ)) → All (All IsIdentifier) answers → AllByRecursion (λ ids. AllByRecursion IsIdentifier ids) answers
identifiers answers all = recursion_from_All (λ ids. AllByRecursion IsIdentifier ids) answers (λ k d below. recursion_from_All IsIdentifier _ (all k d below))

-- a server in this state answers these frames as the searches among them are to be answered
pub record AreAnswered (f : KeyedFn) (s : ServerState) (frames : List FrameText) (answers : List (List ℕ)) : Type 0 where
  pub grammar : AllByRecursion InGrammar frames
  pub given : AllByRecursion IsAnswer answers
  pub count : length answers ≡ searches frames
  pub replies : (steps f s frames).1 ≡ replied answers frames

-- what the searches of a history show; nothing without a key
abbrev pub shown_with : Option (List ℕ) → History → List (List ℕ)
shown_with None h = []
shown_with (Some key) h = shown_in_turn h

-- the frames of a history without collisions are so answered by a server that expects the first of them
pub history_is_answered : (f : KeyedFn) → IsKeyedFn f → (key : Option (List ℕ)) (h : History) (start : ServerState) → IsWhole h → IsKept h → IsFree f key h → Expects 0 start
    → AreAnswered f start (frames_with f key h) (shown_with key h)
history_is_answered f laws None h start is_whole kept free expects = record { grammar = tt; given = tt; count = refl; replies = refl }
history_is_answered f laws (Some key) h start is_whole kept free expects = record {
  grammar = frames_sent-in_grammar f key h laws kept free;
  given = shown_are_answers h kept;
  count = sym (searches-sent f key h);
  replies = replies_agree f key h start laws kept free (expects_first h start is_whole expects);
}

-- After such a server, from any state of it.

module _ (f : KeyedFn) (start : Served) (frames : List FrameText) (shown : List (List ℕ)) (answered : AreAnswered f start.state frames shown) (state : ServerState) where
  -- what passed over an honest link of these frames has no cause of the statuses 8 and 9
  pub passes_outside : (now : Told) (end : Ended) (answers : List (List ℕ)) (p : Passes f frames answers now end) → IsFree f end.key end.history → IsServed f start (map bare p.events) (idle state) → status_of end.stop ≤ 7
  passes_outside now end answers p free_end served = elim p.left [
    | inl whole ↦ whole.2
    | inr (inl cut) ↦ subst (λ stop. status_of stop ≤ 7) (sym cut.1) (by cut.0 cut.2)
    | inr (inr (inl disk)) ↦ omega (arith, ap status_of disk.1)
    | inr (inr (inr collision)) ↦ absurd (collision.1 free_end)
  ]
    where
      by : (cause : Cause) → IsCut (drop p.n frames) p.cut cause → cause_status cause ≤ 7
      by cause cut =
          let bared : map bare p.events ≡ map as_event (exchange answers (take p.n frames)) ++ map bare p.cut =
          ap (map bare) p.parts ∙ map-append bare p.before p.cut ∙ ap (λ es. es ++ map bare p.cut) p.exchanged.each in
          let b = behind f start (idle state) frames p.n answers shown (map bare p.cut) answered.grammar (identifiers answers p.exchanged.ids) answered.given
          p.exchanged.count answered.count answered.replies (subst (λ es. IsServed f start es (idle state)) bared served) in
          cut_outside f b.mid (idle state) (drop p.n frames) b.left p.cut cause b.grammar b.given b.replies b.served cut

  -- where all of them were exchanged, the answers are what is shown, and the server is one that was sent them
  pub all_exchanged : (answers : List (List ℕ)) (events : List Event) → AreExchanged answers frames events → IsServed f start (map bare events) (idle state) → (answers ≡ shown) × (state ≡ (steps f start.state frames).0)
  all_exchanged answers events all served =
      let whole : take (length frames) frames ≡ frames = take-length frames in
      let none : drop (length frames) frames ≡ [] = drop_all (length frames) frames (omega arith) in
      let bared : map bare events ≡ map as_event (exchange answers (take (length frames) frames)) ++ [] =
      all.each ∙ ap (λ fs. map as_event (exchange answers fs)) (sym whole) ∙ sym (append-nil (map as_event (exchange answers (take (length frames) frames)))) in
      let b = behind f start (idle state) frames (length frames) answers shown [] answered.grammar (identifiers answers all.ids) answered.given
      (all.count ∙ ap searches (sym whole)) answered.count answered.replies (subst (λ es. IsServed f start es (idle state)) bared served) in
      let left : b.left ≡ [] = empty b.left (b.count ∙ ap searches none) in
      (sym (b.all ∙ ap (λ left. answers ++ left) left ∙ append-nil answers), sym b.served.0 ∙ b.state ∙ ap (λ fs. (steps f start.state fs).0) whole)
    where
      empty : (xs : List (List ℕ)) → length xs ≡ 0 → xs ≡ []
      empty [] e = refl
      empty (x ∷ xs) e = absurd (omega (arith, e))

  -- wherever it stopped, the server is one that was sent the frames that were exchanged, and the next one or not
  pub passes_left : (now : Told) (end : Ended) (answers : List (List ℕ)) (p : Passes f frames answers now end) → IsServed f start (map bare p.events) (idle state)
      → (n : ℕ) × (p.n ≤ n) × (state ≡ (steps f start.state (take n frames)).0)
  passes_left now end answers p served =
      let bared : map bare p.events ≡ map as_event (exchange answers (take p.n frames)) ++ map bare p.cut =
      ap (map bare) p.parts ∙ map-append bare p.before p.cut ∙ ap (λ es. es ++ map bare p.cut) p.exchanged.each in
      let b = behind f start (idle state) frames p.n answers shown (map bare p.cut) answered.grammar (identifiers answers p.exchanged.ids) answered.given
      p.exchanged.count answered.count answered.replies (subst (λ es. IsServed f start es (idle state)) bared served) in
      elim (part_left f b.mid (idle state) (drop p.n frames) p.cut b.grammar (part_of_left f end (drop p.n frames) p.cut p.left) b.served) [
        | inl same ↦ (p.n, omega arith, same ∙ b.state)
        | inr (frame, rest, are, one) ↦ (suc p.n, omega arith, one ∙ ap (λ s. (step f s frame).0) b.state ∙ steps-next f start.state frames p.n frame rest are)
      ]

-- The greeting, and then such frames.

module _ (f : KeyedFn) (low high : ℕ) (frames : (next : ℕ) → List FrameText) (answers : List (List ℕ)) (now : Told) (end : Ended) (fits : high < 2 ^ 32)
    (before state : ServerState) (least : low ≤ before.next) (most : before.next ≤ high) (free : IsFree f end.key end.history)
    (served : (events : List Event) → Adds now end.outside.told events → IsServed f (idle before) events (idle state)) where
  abbrev number_fits : before.next < 2 ^ 32
  number_fits = omega (arith, most, fits)

  -- after the greeting the server is as it was, and expects the number that it told
  pub opened_over : (o : IsOpened f low high frames answers now end) → (mid : Served) × (mid.state ≡ before) × (o.greets.next ≡ before.next) × IsServed f mid (map bare o.passes.events) (idle state)
  opened_over o =
      let whole = served (o.greets.events ++ o.passes.events) (Adds-joined now o.greeted end.outside.told o.greets.events o.passes.events o.greets.adds o.passes.adds) in
      behind_greeted f (idle before) (idle state) o.greets.next o.greets.events (map bare o.passes.events) (omega (arith, o.greets.most, fits)) number_fits o.greets.each
      (subst (λ es. IsServed f (idle before) es (idle state)) (map-append bare o.greets.events o.passes.events) (IsServed-bare f (idle before) (idle state) (o.greets.events ++ o.passes.events) whole))

  -- no session that so passed is stopped by a collision or a reply
  pub session_outside : (shown : List (List ℕ)) → AreAnswered f before (frames before.next) shown → HasPassed f low high frames answers now end → status_of end.stop ≤ 7
  session_outside shown answered passed = elim passed [
    | inl u ↦ u.stops
    | inr (inl u) ↦
        subst (λ stop. status_of stop ≤ 7) (sym u.stops)
        (turned_outside f (idle before) (idle state) low high u.away.events u.cause least most fits
        (IsServed-bare f (idle before) (idle state) u.away.events (served u.away.events u.away.adds)) u.away.turned)
    | inr (inr o) ↦
        let mid = opened_over o in
        let here : AreAnswered f mid.0.state (frames o.greets.next) shown =
        subst (λ s. AreAnswered f s (frames o.greets.next) shown) (sym mid.1) (subst (λ n. AreAnswered f before (frames n) shown) (sym mid.2) answered) in
        passes_outside f mid.0 (frames o.greets.next) shown here state o.greeted end answers o.passes free mid.3
  ]

  -- wherever it stopped, the server is one that was sent the first of them, all but some of the last command's
  pub session_left : (key : List ℕ) → end.key ≡ Some key → (shown : List (List ℕ)) → AreAnswered f before (frames before.next) shown → HasPassed f low high frames answers now end
      → (n : ℕ) × (updates_count (drop n (frames before.next)) ≤ frames_in_hand end.history) × (state ≡ (steps f before (take n (frames before.next))).0)
  session_left key same_key shown answered passed = elim passed [
    | inl u ↦ absurd (let no : Some key ≡ None = sym same_key ∙ u.key in cc)
    | inr (inl u) ↦ let few = u.most before.next least most in (0, few, turned_state f (idle before) (idle state) low high u.away.events u.cause (IsServed-bare f (idle before) (idle state) u.away.events (served u.away.events u.away.adds)) u.away.turned)
    | inr (inr o) ↦
        let mid = opened_over o in
        let same : frames o.greets.next ≡ frames before.next = ap frames mid.2 in
        let here : AreAnswered f mid.0.state (frames o.greets.next) shown =
        subst (λ s. AreAnswered f s (frames o.greets.next) shown) (sym mid.1) (subst (λ n. AreAnswered f before (frames n) shown) (sym mid.2) answered) in
        let left = passes_left f mid.0 (frames o.greets.next) shown here state o.greeted end answers o.passes mid.3 in
        let all = o.passes.most in (
          left.0,
          omega (arith, all, updates_farther o.passes.n left.0 (frames o.greets.next) left.1, ap (λ fs. updates_count (drop left.0 fs)) same),
          left.2 ∙ (λ i. (steps f (mid.1 i) (take left.0 (same i))).0),
        )
  ]

  -- where all frames were exchanged, what passed is the greeting and their exchange, with the answers that are shown, and the
  -- server is one that was sent them
  pub session_whole : (shown : List (List ℕ)) → AreAnswered f before (frames before.next) shown → (o : IsOpened f low high frames answers now end) → status_of end.stop ≤ 2
      → (answers ≡ shown)
      × (state ≡ (steps f before (frames before.next)).0)
      × (map bare (o.greets.events ++ o.passes.events) ≡ map as_event (greeting before.next ++ exchange shown (frames before.next)))
  session_whole shown answered o few =
      let mid = opened_over o in
      let same : frames o.greets.next ≡ frames before.next = ap frames mid.2 in
      let here : AreAnswered f mid.0.state (frames before.next) shown = subst (λ s. AreAnswered f s (frames before.next) shown) (sym mid.1) answered in
      let all : AreExchanged answers (frames before.next) o.passes.events = subst (λ fs. AreExchanged answers fs o.passes.events) same (o.passes.whole few) in
      let r = all_exchanged f mid.0 (frames before.next) shown here state answers o.passes.events all mid.3 in (
        r.0,
        r.1 ∙ ap (λ s. (steps f s (frames before.next)).0) mid.1,
        map-append bare o.greets.events o.passes.events
            ∙ (λ i. (o.greets.each ∙ ap (λ n. map as_event (greeting n)) mid.2) i ++ all.each i)
            ∙ sym (map-append as_event (greeting before.next) (exchange answers (frames before.next)))
            ∙ ap (λ found. map as_event (greeting before.next ++ exchange found (frames before.next))) r.0,
      )

-- lines that are given their own answers are the same
pub with_answers-finds : (shown : List Printed) → with_answers (finds shown) shown ≡ map said shown
with_answers-finds [] = refl
with_answers-finds (Says line ∷ shown) = ap (λ rest. line ∷ rest) (with_answers-finds shown)
with_answers-finds (Finds ids ∷ shown) = ap (λ rest. Found ids ∷ rest) (with_answers-finds shown)
with_answers-finds (Matches fields lists ∷ shown) =
    (λ i. Matched (chosen_by fields (take-append_seam lists (finds shown) i)) ∷ with_answers (drop-append_seam lists (finds shown) i) shown)
    ∙ ap (λ rest. Matched (chosen_by fields lists) ∷ rest) (with_answers-finds shown)

-- the first part of a history has no collision where the whole has none
pub IsFree-first : (f : KeyedFn) (key whole_key : Option (List ℕ)) (part whole : History) → (key ≡ None) ⊎ (key ≡ whole_key) → IsFirstOf part whole → IsFree f whole_key whole → IsFree f key part
IsFree-first f key whole_key part whole (inl none) first free = subst (λ k. IsFree f k part) (sym none) tt
IsFree-first f key whole_key part whole (inr same) first free = subst (λ k. IsFree f k part) (sym same) (by whole_key free)
  where
    by : (k : Option (List ℕ)) → IsFree f k whole → IsFree f k part
    by None free = tt
    by (Some key) free = HasNoCollision-first f key part whole first free

-- without a key there is no history
keyless : (mark : Option (List ℕ → List ℕ)) (number : ℕ) (lines : List (Option Line)) → (meant_from mark number lines).key ≡ None → (meant_from mark number lines).history ≡ empty
keyless mark number [] none = refl
keyless mark number (None ∷ lines) none = refl
keyless mark number (Some Empty ∷ lines) none = keyless mark (number + 1) lines none
keyless mark number (Some (Key key) ∷ lines) none = absurd (let no : Some key ≡ None = sym (follow-key (opened mark key) (number + 1) lines false) ∙ none in cc)
keyless mark number (Some (Command line) ∷ lines) none = refl

pub few : (status : ℕ) → status ≤ 7 → IsUndisturbed status → status ≤ 2
few status outside calm =
    let source = calm.source in
    let sink = calm.sink in
    let link = calm.link in
    let disk = calm.disk in
    let memory = calm.memory in
    omega (arith, outside, source, sink, link, disk, memory)

module _ (f : KeyedFn) (laws : IsKeyedFn f) (bytes : List ℕ) (now : Outside) (end : Ended) (opens : Opens f 1 (script_lines bytes) now end) where
  abbrev m : Meaning
  m = meaning (Some (mark_of f)) bytes

  abbrev g : GoesFirst f (meaning (Some (mark_of f)) bytes) now end
  g = goes f bytes now end opens

  kept : IsKept m.history
  kept = (meaning_is_kept (Some (mark_of f)) bytes).0

  is_whole : IsWhole end.history
  is_whole = IsWhole-first end.history m.history g.history (meaning_is_whole (Some (mark_of f)) bytes)

  -- from any state of a server that expects the first frame of a history
  module _ (before state : ServerState) (expects : Expects 0 before) (honest : IsOverHonest f before now.told end.outside.told state) where
    served : (events : List Event) → Adds now.told end.outside.told events → IsServed f (idle before) events (idle state)
    served events adds = subst (λ es. IsServed f (idle before) es (idle state)) (same_events honest.past honest.events events now.told end.outside.told honest.told honest.adds adds) honest.honest

    least : 0 ≤ before.next
    least = omega arith

    most : before.next ≤ 0
    most = omega (arith, expects.next)

    -- Promise P162, also here
    -- over an honest link a run whose history up to its stop has no collision isn't stopped by a collision or a reply
    pub honest_status : IsFree f end.key end.history → status_of end.stop ≤ 7
    honest_status free =
        session_outside f 0 0 (λ next. frames_with f end.key end.history) g.answers now.told end (omega arith) before state least most free served (shown_with end.key end.history)
        (history_is_answered f laws end.key end.history before is_whole (IsKept-first end.history m.history g.history kept) free expects) g.passes

    -- wherever it stopped, the server is one that was sent the first frames of the history up to there, all but some of the last command's
    pub frames_left : (key : List ℕ) → end.key ≡ Some key → IsFree f end.key end.history
        → (n : ℕ) × (updates_count (drop n (frames_with f end.key end.history)) ≤ frames_in_hand end.history) × (state ≡ (steps f before (take n (frames_with f end.key end.history))).0)
    frames_left key same_key free =
        session_left f 0 0 (λ next. frames_with f end.key end.history) g.answers now.told end (omega arith) before state least most free served key same_key (shown_with end.key end.history)
        (history_is_answered f laws end.key end.history before is_whole (IsKept-first end.history m.history g.history kept) free expects) g.passes

    module _ (free : IsFree f m.key m.history) (low : status_of end.stop ≤ 2) where
      -- all that passed, with the answers that the history shows; and the server is one that was sent its frames
      pub record PassedWhole : Type 0 where
        pub events : List Event
        pub adds : Adds now.told end.outside.told events
        pub session : map bare events ≡ map as_event (session_of f m)
        pub answers : g.answers ≡ shown_in_turn m.history
        pub stored : state ≡ (steps f before (frames_of f m)).0

      whole : PassedWhole
      whole = elim g.passes [
        | inl u ↦
            let none : m.key ≡ None = sym (g.ended low).1 ∙ u.key in record {
              events = [];
              adds = u.nothing ∙ Adds-nothing now.told;
              session = ap (λ k. map as_event (session_with f k m.history)) (sym none);
              answers = u.none ∙ ap shown_in_turn (sym (keyless (Some (mark_of f)) 1 (script_lines bytes) none));
              stored = sym (served [] (u.nothing ∙ Adds-nothing now.told)).0 ∙ ap (λ k. (steps f before (frames_with f k m.history)).0) (sym none);
            }
        | inr (inl u) ↦ absurd (omega (arith, low, ap status_of u.stops, turned_status 0 0 u.away.events u.cause u.away.turned))
        | inr (inr o) ↦
            let key : m.key ≡ Some o.key = sym (g.ended low).1 ∙ o.same_key in
            let same : frames_with f end.key end.history ≡ frames_of f m = λ i. frames_with f ((g.ended low).1 i) ((g.ended low).2 i) in
            let free_end : IsFree f end.key end.history = subst (λ k. IsFree f k end.history) (sym (g.ended low).1) (subst (IsFree f m.key) (sym (g.ended low).2) free) in
            let r = session_whole f 0 0 (λ next. frames_with f end.key end.history) g.answers now.told end (omega arith) before state least most free_end served (shown_with end.key end.history)
            (history_is_answered f laws end.key end.history before is_whole (IsKept-first end.history m.history g.history kept) free_end expects) o low in
            record {
              events = o.greets.events ++ o.passes.events;
              adds = Adds-joined now.told o.greeted end.outside.told o.greets.events o.passes.events o.greets.adds o.passes.adds;
              session =
                  r.2
                  ∙ (λ i. map as_event (greeting (expects.next i) ++ exchange (shown_with (o.same_key i) ((g.ended low).2 i)) (same i)))
                  ∙ ap (λ k. map as_event (greeting 0 ++ exchange (shown_in_turn m.history) (frames_with f k m.history))) key
                  ∙ ap (map as_event) (sym (session-exchange f o.key m.history))
                  ∙ ap (λ k. map as_event (session_with f k m.history)) (sym key);
              answers = r.0 ∙ λ i. shown_with (o.same_key i) ((g.ended low).2 i);
              stored = r.1 ∙ ap (λ fs. (steps f before fs).0) same;
            }
      ]

      -- so the lines that were printed are the meaning's
      own_text : text_with g.answers m.shown ≡ flat_map text_of (map said m.shown)
      own_text = ap (λ answers. flat_map text_of (with_answers answers m.shown))
          (ap (map in_order) whole.answers ∙ in_order-shown_in_turn m.history kept ∙ finds-meant (Some (mark_of f)) 1 (script_lines bytes))
          ∙ ap (flat_map text_of) (with_answers-finds m.shown)

    -- Promise P162, also here
    -- the headline
    pub headline : (last : Outside) → Ends end last → IsFree f m.key m.history → IsUndisturbed (status_of end.stop) → Headline f before m now last (status_of end.stop) state
    headline last ends free calm =
        let low : status_of end.stop ≤ 2 = few (status_of end.stop) (honest_status (IsFree-first f end.key m.key end.history m.history g.key g.history free)) calm in
        let well = g.ended low in
        let all = whole free low in
        let records = recorded f 1 (script_lines bytes) now end opens in
        let history : records.held ≡ m.history = records.whole (λ e. absurd (omega (arith, low, e))) (λ e. absurd (omega (arith, low, e))) (λ e. absurd (omega (arith, low, e))) ∙ well.2 in record {
          status_is = ap status_of well.0;
          q = ends.q;
          printed =
              ends.printed
              ∙ (λ i. append_known (well.3 i) (take ends.q (stop_text (well.0 i))))
              ∙ append_known-twice now.written (text_with g.answers m.shown) (take ends.q (stop_text m.end))
              ∙ ap (λ text. append_known now.written (text ++ take ends.q (stop_text m.end))) (own_text free low);
          events = all.events;
          adds = subst (λ told. Adds now.told told all.events) (sym ends.told) all.adds;
          session = all.session;
          simulated = record { passed = session_of f m; made = session_with-simulated f m.key m.history (meaning_is_whole (Some (mark_of f)) bytes) kept; same = all.session };
          kept = ends.kept ∙ KeepsFirst-all _ _ (status_of end.stop) now.kept end.outside.kept (λ e. absurd (omega (arith, low, e))) (λ e. absurd (omega (arith, low, e))) records.kept ∙ (λ i. with_records (records_with f (well.1 i) (history i)) now.kept);
          stored = all.stored;
        }
