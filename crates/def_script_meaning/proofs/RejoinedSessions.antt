-- A session that goes on after a history with a server that took the first of its frames: over an honest link no collision and no reply
-- stops it where the history up to its stop has no collision; and where nothing stopped it from outside either, it sent what the
-- server lacked and did what its lines mean.
use Rattle.std.proofs.Common.{◌≡◌, ◌⊎◌, ℕ, zero, suc, ◌+◌, ◌-◌, false, ◌^◌, ◌<◌, ◌≤◌, inl, inr, List, [], ◌∷◌, ◌++◌, length, map, take, drop, Some, refl, sym, ap, ◌∙◌, subst, arith, append_assoc, length-append}
use Rattle.std.specs.Prelude.{filter, flat_map, fold, Option}
use Rattle.std.specs.Io.KnownBytes.{append_known}
use Rattle.std.specs.List.{AllByRecursion}
use Rattle.std.proofs.Math.Seq.{take-add}
use Rattle.std.proofs.lemmas.List.{append-nil, append_cancel_left, drop-drop, drop-append-le, length-drop, take-append-drop, take-append-le}
use Rattle.client_registry.proofs.HistoryLaws.{IsKept-first}
use Rattle.client_registry.specs.Command.{Command, Add, Delete, Search, is_update}
use Rattle.client_registry.specs.Epochs.{Step, first_begins, step_after}
use Rattle.client_registry.specs.Histories.{IsKept, IsFirstOf, frames_in, shown_by, shown_in_turn, found_in_turn}
use Rattle.client_registry.specs.Live.{in_order}
use Rattle.client_registry.specs.Over.{over}
use Rattle.client_registry.specs.Run.{Run, History, Offsets, Epochs, From, Renewed}
use Rattle.client_registry.specs.Setup.{Setup}
use Rattle.keyed_fn.specs.KeyedFn.{KeyedFn, IsKeyedFn}
use Rattle.def_link_events.specs.Events.{Event}
use Rattle.def_link_events.specs.Served.{IsServed, idle}
use Rattle.server_core.proofs.Laws.{steps-append}
use Rattle.server_core.specs.State.{ServerState}
use Rattle.server_core.specs.Step.{step, steps}
use Rattle.def_agreement.proofs.Histories.{in_order-shown_in_turn, replies_agree, shown_are_answers}
use Rattle.def_agreement.specs.TakenFrames.{Expects}
use Rattle.sse_frames.specs.Exchange.{Asked, ForNext, ForTook, ForAnswer, answers_behind, answers_to, asked, exchange, greeting, replied, searches}
use Rattle.sse_frames.specs.Frames.{FrameText}
use Rattle.sse_model.proofs.ExchangeLaws.{searches-append, searches-sent}
use Rattle.sse_model.proofs.HistoryLaws.{frames_sent-in_grammar}
use Rattle.sse_model.specs.Histories.{frames_sent, HasNoCollision}
use Rattle.sse_outside.proofs.Known.{append_known-twice}
use Rattle.sse_script.specs.Shown.{NoMemory, Resumed}
use Rattle.sse_script.specs.Stops.{cause_status}
use Rattle.sse_script.specs.Texts.{text_of}
use Rattle.sse_outside.specs.Kept.{with_records}
use Rattle.def_script_meaning.proofs.UpdatesLeft.{updates_fewer}
use Rattle.def_script_meaning.specs.Carries.{Keeps, Outside, text_with, with_answers}
use Rattle.def_script_meaning.specs.Continues.{at_epochs}
use Rattle.def_script_meaning.specs.Exchange.{Adds, as_event, bare}
use Rattle.def_script_meaning.specs.Goes.{frames_in_hand, Passes, IsOpened, HasPassed, updates_count}
use Rattle.def_script_meaning.specs.Headline.{IsOverHonest, IsUndisturbed}
use Rattle.def_script_meaning.specs.Lines.{Line}
use Rattle.def_script_meaning.specs.Meaning.{Meaning, follow}
use Rattle.def_script_meaning.specs.Outcome.{Place, said}
use Rattle.def_script_meaning.specs.Recorded.{records_in}
use Rattle.def_script_meaning.specs.Rejoins.{frames_under, HasTaken, lacking, StopsShort, StopsUntold, HasCaughtUp, Rejoins, Rejoined}
use Rattle.def_script_meaning.specs.Runs.{Ended, Ends, IsGreeted, Runs}
use Rattle.def_script_meaning.specs.Session.{IsFree}
use Rattle.def_script_meaning.specs.Since.{frames_since, records_since, shown_since}
use Rattle.def_script_meaning.specs.Stops.{SinkFault, At, status_of, stop_text}
use Rattle.def_script_meaning.proofs.FollowedPlaces.{finds, finds-follow, first-follow, follow-key}
use Rattle.def_script_meaning.proofs.GoneAsMeant.{Adds-joined, Adds-nothing, AreExchanged-none, Passes-behind, Passes-none}
use Rattle.def_script_meaning.proofs.Headline.{AreAnswered, session_left, session_outside, session_whole, opened_over, same_events, with_answers-finds, few, IsFree-first}
use Rattle.def_script_meaning.proofs.Kept.{IsWithinItem, IsKeptAt, kept_follow}
use Rattle.def_script_meaning.proofs.Recorded.{KeepsFirst-all, kept_since}
use Rattle.def_script_meaning.proofs.RunGoes.{Passes-cut, clash_status, cut_status, turned_status, unsent_left, Went, went}
use Rattle.def_script_meaning.proofs.SimulatedAfter.{simulated_after}
use Rattle.def_script_meaning.proofs.SinceLaws.{begins-since, frames_sent-since, records_in-since, shown_in_turn-since, since}
use Rattle.def_script_meaning.proofs.TakenLast.{HasNoSearch, length-frames}

-- After some frames of which none is a search.

no_answer : (asks : Asked) (answers : List (List ℕ)) → answers_to asks ≡ 0 → answers_behind asks answers ≡ answers
no_answer ForNext answers none = refl
no_answer (ForTook q) answers none = refl
no_answer ForAnswer answers none = absurd (omega (arith, none))

-- a server that was sent them answers the others as it answers all
answered_behind : (f : KeyedFn) (s : ServerState) (n : ℕ) (frames : List FrameText) (answers : List (List ℕ)) → searches (take n frames) ≡ 0 → AreAnswered f s frames answers
    → AreAnswered f (steps f s (take n frames)).0 (drop n frames) answers
answered_behind f s zero frames answers none are = are
answered_behind f s (suc n) [] answers none are = are
answered_behind f s (suc n) (frame ∷ frames) answers none are =
    answered_behind f (step f s frame).0 n frames answers (omega (arith, none)) (record {
      grammar = are.grammar.1;
      given = are.given;
      count = omega (arith, are.count, none);
      replies = tail_same are.replies ∙ ap (λ left. replied left frames) (no_answer (asked frame) answers (omega (arith, none)));
    })
  where
    tail_same : {A : Type 0} {x y : A} {xs ys : List A} → x ∷ xs ≡ y ∷ ys → xs ≡ ys
    tail_same e = cc

-- Frames of a history without searches.

no_searches-run : (run : Run) → filter is_update run.later ≡ run.later → flat_map (λ r. r) (over (shown_by run.setup) [] run.later) ≡ []
no_searches-run run updates = ap (λ later. flat_map (λ r. r) (over (shown_by run.setup) [] later)) (sym updates) ∙ by run.setup [] run.later
  where
    by : (s : Setup) (past later : List Command) → flat_map (λ r. r) (over (shown_by s) past (filter is_update later)) ≡ []
    by s past [] = refl
    by s past (Add d ∷ later) = by s (past ++ Add d ∷ []) later
    by s past (Delete id ∷ later) = by s (past ++ Delete id ∷ []) later
    by s past (Search word ∷ later) = by s past later

no_searches : (es : Epochs) → HasNoSearch es → shown_in_turn (Some es) ≡ []
no_searches (From o run) updates = no_searches-run run updates
no_searches (Renewed before own run) updates = λ i. no_searches before updates.0 i ++ no_searches-run run updates.1 i

-- the frames of a history without collisions are answered by a server that expects the first of them
epochs_are_answered : (f : KeyedFn) → IsKeyedFn f → (key : List ℕ) (es : Epochs) (start : ServerState) → IsKept (Some es) → HasNoCollision f key (Some es) → Expects (first_begins es).frame start
    → AreAnswered f start (frames_under f key (Some es)) (shown_in_turn (Some es))
epochs_are_answered f laws key es start kept free expects = record {
  grammar = frames_sent-in_grammar f key (Some es) laws kept free;
  given = shown_are_answers (Some es) kept;
  count = sym (searches-sent f key (Some es));
  replies = replies_agree f key (Some es) start laws kept free expects;
}

module _ (f : KeyedFn) (laws : IsKeyedFn f) (key : List ℕ) (es : Epochs) (updates : HasNoSearch es) (next : ℕ) (before : ServerState) (had : HasTaken f key es next before) where
  abbrev all : List FrameText
  all = frames_under f key (Some es)

  -- the place of a number among them
  abbrev behind_first : ℕ → ℕ
  behind_first n = n - (first_begins es).frame

  count_all : length all + (first_begins es).frame ≡ frames_in (Some es)
  count_all = length-frames f key es updates

  place_within : behind_first next ≤ length all
  place_within = omega (arith, had.from, had.within, count_all)

  -- those from a number on of the history and of steps after it
  pub frames_behind : (more : List Step) → drop (behind_first next) (frames_under f key (Some (fold step_after es more))) ≡ lacking f key es next ++ frames_since f key es more
  frames_behind more =
      ap (drop (behind_first next)) (frames_sent-since f key es more)
      ∙ drop-append-le (behind_first next) all (frames_since f key es more) place_within

  -- the server was sent the first of all
  first_frames : (more : List Step) → take (behind_first next) (frames_under f key (Some (fold step_after es more))) ≡ take (behind_first next) all
  first_frames more =
      ap (take (behind_first next)) (frames_sent-since f key es more)
      ∙ take-append-le (behind_first next) all (frames_since f key es more) place_within

  -- it so answers those that it lacks, and the frames of steps after them
  pub rest_is_answered : (more : List Step) → IsKept (Some (fold step_after es more)) → HasNoCollision f key (Some (fold step_after es more)) → AreAnswered f before (lacking f key es next ++ frames_since f key es more) (shown_since es more)
  rest_is_answered more kept free =
      let after = fold step_after es more in
      let whole = frames_under f key (Some after) in
      let q = behind_first next in
      let first : take q whole ≡ take q all = first_frames more in
      let none : searches (take q all) ≡ 0 =
      omega (
        arith,
        searches-append (take q all) (drop q all),
        ap searches (take-append-drop q all),
        searches-sent f key (Some es),
        ap length (no_searches es updates),
      ) in
      let shown : shown_in_turn (Some after) ≡ shown_since es more = shown_in_turn-since es more ∙ ap (λ answers. answers ++ shown_since es more) (no_searches es updates) in
      let behind : AreAnswered f (steps f had.start (take q whole)).0 (drop q whole) (shown_in_turn (Some after)) =
      answered_behind f had.start q whole (shown_in_turn (Some after)) (ap searches first ∙ none)
      (epochs_are_answered f laws key after had.start kept free (subst (λ (o : Offsets). Expects o.frame had.start) (sym (begins-since es more)) had.expects)) in
      subst (λ (p : ServerState × List FrameText × List (List ℕ)). AreAnswered f p.0 p.1 p.2)
      (λ i. ((ap (λ fs. (steps f had.start fs).0) first ∙ sym had.sent) i, frames_behind more i, shown i)) behind

  module _ (mark : List ℕ → List ℕ) (used : List (List ℕ)) (n number : ℕ) (lines : List (Option Line)) (within : AllByRecursion IsWithinItem lines) (kept_at : IsKeptAt n (at_epochs mark used key [] es))
      (low high : ℕ) (fits : high < 2 ^ 32) (from : (first_begins es).frame ≤ low) (least : low ≤ next) (most : next ≤ high) (near : frames_in (Some es) ≤ low + frames_in_hand (Some es))
      (now : Outside) (end : Ended) (goes : Rejoins f low high mark used key es number lines now end) where
    abbrev place : Place
    place = at_epochs mark used key [] es

    abbrev m : Meaning
    m = follow place number lines false

    kept : IsKept m.history
    kept = (kept_follow n place number lines false within kept_at).0

    -- with a server that says this number it sends these
    abbrev to_send : List Step → ℕ → List FrameText
    to_send more q = lacking f key es q ++ frames_since f key es more

    -- it sends the frames that are lacking and then those after the history
    pub record GoesRejoining : Type 0 where
      pub more : List Step
      pub are : end.history ≡ Some (fold step_after es more)
      pub same_key : end.key ≡ Some key
      pub history : IsFirstOf end.history m.history
      pub answers : List (List ℕ)
      pub passes : HasPassed f low high (to_send more) answers now.told end

    -- at a stop before the lines the history has no steps after it
    stopped : (answers : List (List ℕ)) → end.key ≡ Some key → end.history ≡ Some es → HasPassed f low high (to_send []) answers now.told end → GoesRejoining
    stopped answers same_key history passes = record {
      more = [];
      are = history;
      same_key = same_key;
      history = subst (λ h. IsFirstOf h m.history) (sym history) (first-follow place number lines false);
      answers = answers;
      passes = passes;
    }

    -- of the history's frames from a possible number on there are at most those of its last command
    few_lacking : (q : ℕ) → low ≤ q → end.history ≡ Some es → length (lacking f key es q) ≤ frames_in_hand end.history
    few_lacking q at_least history =
        subst (λ h. length (lacking f key es q) ≤ frames_in_hand h) (sym history)
        (omega (arith, near, from, at_least, length-drop (behind_first q) all, count_all))

    few_lacking_updates : (q : ℕ) → low ≤ q → end.history ≡ Some es → updates_count (lacking f key es q) ≤ frames_in_hand end.history
    few_lacking_updates q at_least history = let few = few_lacking q at_least history in omega (arith, few, updates_fewer (lacking f key es q))

    module _ (greeted : Outside) (g : IsGreeted low high now greeted) where
      abbrev lacked : List FrameText
      lacked = lacking f key es g.greets.next

      abbrev opened : (more : List Step) (answers : List (List ℕ)) → end.key ≡ Some key → Passes f (to_send more g.greets.next) answers greeted.told end → IsOpened f low high (to_send more) answers now.told end
      opened more answers same_key passes = record { key = key; same_key = same_key; greeted = greeted.told; greets = g.greets; passes = passes }

      -- it stops in those frames, or behind them
      stopped_open : (answers : List (List ℕ)) → end.key ≡ Some key → end.history ≡ Some es → Passes f lacked answers greeted.told end → GoesRejoining
      stopped_open answers same_key history passes =
          stopped answers same_key history (inr (inr (opened [] answers same_key (subst (λ fs. Passes f fs answers greeted.told end) (sym (append-nil lacked)) passes))))

      short : StopsShort f lacked key es greeted end → GoesRejoining
      short s = elim s.short [
        | inl cut ↦ stopped_open cut.2.answers s.same_key s.history (Passes-cut f lacked greeted.told end cut.0 s.cause s.stops cut.1 (few_lacking_updates g.greets.next g.greets.least s.history) cut.2)
        | inr (inl unsent) ↦
            let memory : end.stop ≡ At NoMemory = s.stops ∙ ap (λ c. At c) unsent.1 in
            stopped_open [] s.same_key s.history (record {
              events = [];
              adds = unsent.0 ∙ Adds-nothing greeted.told;
              n = 0;
              before = [];
              cut = [];
              parts = refl;
              exchanged = AreExchanged-none;
              most = let few = few_lacking_updates g.greets.next g.greets.least s.history in omega (arith, few);
              left = unsent_left f end lacked memory;
              whole = λ low_status. absurd (omega (arith, low_status, ap status_of memory));
            })
        | inr (inr clash) ↦
            let status : status_of end.stop ≡ 8 = ap status_of s.stops ∙ clash_status (Some clash.1.0) s.cause (ap (λ c. Some c) (sym clash.1.1)) in
            stopped_open [] s.same_key s.history (record {
              events = [];
              adds = clash.0 ∙ Adds-nothing greeted.told;
              n = 0;
              before = [];
              cut = [];
              parts = refl;
              exchanged = AreExchanged-none;
              most = few_lacking_updates g.greets.next g.greets.least s.history;
              left = inr (inr (inr (refl, λ free. clash.2 (subst (λ h. IsFree f (Some key) h) s.history (subst (λ k. IsFree f k end.history) s.same_key free)))));
              whole = λ low_status. absurd (omega (arith, low_status, status));
            })
      ]

      untold : StopsUntold lacked key es greeted end → GoesRejoining
      untold u =
          stopped_open [] u.same_key u.history
          (subst (λ fs. Passes f fs [] greeted.told end) (append-nil lacked)
          (Passes-behind f lacked [] [] [] greeted.told end.outside.told end u.sent.events u.sent.adds u.sent.exchanged (Passes-none f end.outside.told end refl (status u.stops))))
        where
          status : (end.stop ≡ SinkFault) ⊎ (end.stop ≡ At NoMemory) → status_of end.stop ≤ 7
          status (inl sink) = omega (arith, ap status_of sink)
          status (inr memory) = omega (arith, ap status_of memory)

      -- it went over the lines
      module _ (later : Outside) (caught : HasCaughtUp lacked greeted later) (runs : Runs f place number lines false later end) where
        w : Went f key (Some es) m later end
        w = went f n place number lines false later end within kept_at runs

        behind : (more : List Step) × (end.history ≡ Some (fold step_after es more))
        behind = since es end.history w.since

        abbrev more : List Step
        more = behind.0

        frames_after : w.more ≡ frames_since f key es more
        frames_after =
            append_cancel_left all w.more (frames_since f key es more)
            (sym w.frames ∙ ap (frames_sent f key) behind.1 ∙ frames_sent-since f key es more)

        abbrev went_opened : IsOpened f low high (to_send more) w.answers now.told end
        went_opened =
            opened more w.answers w.same_key
            (subst (λ fs. Passes f (lacked ++ fs) w.answers greeted.told end) frames_after
            (Passes-behind f lacked w.more [] w.answers greeted.told later.told end caught.sent.events caught.sent.adds caught.sent.exchanged w.passes))

        went_on : GoesRejoining
        went_on = record { more = more; are = behind.1; same_key = w.same_key; history = w.history; answers = w.answers; passes = inr (inr went_opened) }

        -- the records after the history were kept
        kept_on : status_of end.stop ≤ 2 → Keeps now.kept end.outside.kept (records_since f more)
        kept_on low_status =
            let k = kept_since f place number lines false later end runs in
            let held : k.held ≡ Some (fold step_after es more) =
            k.whole (λ e. absurd (omega (arith, low_status, e))) (λ e. absurd (omega (arith, low_status, e))) (λ e. absurd (omega (arith, low_status, e))) ∙ behind.1 in
            let same : k.records ≡ records_since f more =
            append_cancel_left (records_in f key (Some es)) k.records (records_since f more)
            (sym k.are ∙ ap (records_in f key) held ∙ records_in-since f key es more) in
            KeepsFirst-all k.all k.records (status_of end.stop) later.kept end.outside.kept (λ e. absurd (omega (arith, low_status, e))) (λ e. absurd (omega (arith, low_status, e))) k.kept
            ∙ (λ i. with_records (same i) ((caught.unkept ∙ g.unkept) i))

    pub goes_rejoining : GoesRejoining
    goes_rejoining = elim goes [
      | inl away ↦ stopped [] away.same_key away.history (inr (inl (record {
        key = key;
        same_key = away.same_key;
        cause = away.cause;
        stops = away.stops;
        away = away.away;
        none = refl;
        most = λ q least most.
            let here = few_lacking q least away.history in
            omega (arith, here, updates_fewer (lacking f key es q ++ []), length-append (lacking f key es q) []);
      })))
      | inr (greeted, g, inl s) ↦ short greeted g s
      | inr (greeted, g, inr (inl u)) ↦ untold greeted g u
      | inr (greeted, g, inr (inr (later, caught, runs))) ↦ went_on greeted g later caught runs
    ]

    module _ (state : ServerState) (honest : IsOverHonest f before now.told end.outside.told state) where
      served : (events : List Event) → Adds now.told end.outside.told events → IsServed f (idle before) events (idle state)
      served events adds = subst (λ es. IsServed f (idle before) es (idle state)) (same_events honest.past honest.events events now.told end.outside.told honest.told honest.adds adds) honest.honest

      abbrev at_least : low ≤ before.next
      at_least = omega (arith, least, had.number)

      abbrev at_most : before.next ≤ high
      at_most = omega (arith, most, had.number)

      -- what the frames after the greeting are answered, where the history up to the stop has no collision
      answered : (h : History) (more : List Step) → h ≡ Some (fold step_after es more) → IsFirstOf h m.history → HasNoCollision f key h → AreAnswered f before (to_send more before.next) (shown_since es more)
      answered h more whole part free =
          subst (λ q. AreAnswered f before (to_send more q) (shown_since es more)) (sym had.number)
          (rest_is_answered more (subst IsKept whole (IsKept-first h m.history part kept)) (subst (HasNoCollision f key) whole free))

      -- Promise P166 (inside): A session with a server that is missing frames sends those first and then carries out its lines as they are meant.
      --   assumes: keyed function, kept limits, honest link, no collision, no device fault, enough memory, resumable state
      -- no collision and no reply stops it
      pub rejoined_status : IsFree f end.key end.history → status_of end.stop ≤ 7
      rejoined_status free =
          let g = goes_rejoining in
          session_outside f low high (to_send g.more) g.answers now.told end fits before state at_least at_most free served (shown_since es g.more)
          (answered end.history g.more g.are g.history (subst (λ k. IsFree f k end.history) g.same_key free)) g.passes

      -- wherever it stopped, the server is one that was sent the first frames of the history up to there, all but some of the last command's
      pub frames_left_after : IsFree f end.key end.history
          → (n : ℕ) × (updates_count (drop n (frames_under f key end.history)) ≤ frames_in_hand end.history) × (state ≡ (steps f had.start (take n (frames_under f key end.history))).0)
      frames_left_after free =
          let g = goes_rejoining in
          let cs = g.more in
          let q = behind_first next in
          let whole = frames_under f key end.history in
          let history : end.history ≡ Some (fold step_after es cs) = g.are in
          let left = session_left f low high (to_send cs) g.answers now.told end fits before state at_least at_most free served key g.same_key (shown_since es cs)
          (answered end.history g.more g.are g.history (subst (λ k. IsFree f k end.history) g.same_key free)) g.passes in
          let sends : to_send cs before.next ≡ drop q whole = ap (to_send cs) had.number ∙ sym (frames_behind cs) ∙ ap (λ h. drop q (frames_under f key h)) (sym history) in
          let first : take q whole ≡ take q all = ap (λ h. take q (frames_under f key h)) history ∙ first_frames cs in (
            q + left.0,
            omega (arith, left.1, ap (λ fs. updates_count (drop left.0 fs)) sends, ap updates_count (drop-drop left.0 q whole)),
            left.2
                ∙ ap (λ fs. (steps f before (take left.0 fs)).0) sends
                ∙ ap (λ s. (steps f s (take left.0 (drop q whole))).0) (had.sent ∙ ap (λ fs. (steps f had.start fs).0) (sym first))
                ∙ sym (ap (λ r. r.0) (steps-append f had.start (take q whole) (take left.0 (drop q whole))))
                ∙ ap (λ fs. (steps f had.start fs).0) (sym (take-add q left.0 whole)),
          )

      -- Promise P166, also here
      -- and where nothing else did, it sent what the server lacked and did what its lines mean
      pub rejoined : (last : Outside) → Ends end last → HasNoCollision f key m.history → IsUndisturbed (status_of end.stop)
          → Rejoined f had.start key es next m now last (status_of end.stop) state
      rejoined last ends free calm =
          let whole_key : m.key ≡ Some key = follow-key place number lines false in
          let g = goes_rejoining in
          let free_end : IsFree f end.key end.history =
          IsFree-first f end.key m.key end.history m.history (inr (g.same_key ∙ sym whole_key)) g.history (subst (λ k. IsFree f k m.history) (sym whole_key) free) in
          let low_status : status_of end.stop ≤ 2 = few (status_of end.stop) (rejoined_status free_end) calm in
          elim goes [
            | inl away ↦ absurd (omega (arith, low_status, ap status_of away.stops, turned_status low high away.away.events away.cause away.away.turned))
            | inr (greeted, g, inl s) ↦ absurd (omega (arith, low_status, ap status_of s.stops, short_status (lacked greeted g) greeted s))
            | inr (greeted, g, inr (inl u)) ↦ absurd (omega (arith, low_status, untold_status (lacked greeted g) greeted u))
            | inr (greeted, g, inr (inr (later, caught, runs))) ↦ by greeted g later caught runs free_end low_status
          ]
        where
          short_status : (frames : List FrameText) (greeted : Outside) (s : StopsShort f frames key es greeted end) → 5 ≤ cause_status s.cause
          short_status frames greeted s = elim s.short [
            | inl cut ↦ cut_status (drop cut.2.n frames) cut.2.cut s.cause cut.2.one_more
            | inr (inl unsent) ↦ omega (arith, ap cause_status unsent.1)
            | inr (inr clash) ↦ omega (arith, clash_status (Some clash.1.0) s.cause (ap (λ c. Some c) (sym clash.1.1)))
          ]

          untold_status : (frames : List FrameText) (greeted : Outside) → StopsUntold frames key es greeted end → 4 ≤ status_of end.stop
          untold_status frames greeted u = elim u.stops [ inl sink ↦ omega (arith, ap status_of sink) | inr memory ↦ omega (arith, ap status_of memory) ]

          by : (greeted : Outside) (g : IsGreeted low high now greeted) (later : Outside) (caught : HasCaughtUp (lacked greeted g) greeted later) → Runs f place number lines false later end
              → IsFree f end.key end.history → status_of end.stop ≤ 2 → Rejoined f had.start key es next m now last (status_of end.stop) state
          by greeted g later caught runs free_end low_status =
              let v = w greeted g later caught runs in
              let cs = more greeted g later caught runs in
              let o = went_opened greeted g later caught runs in
              let whole = behind greeted g later caught runs in
              let well = v.ended_well low_status in
              let history : m.history ≡ Some (fold step_after es cs) = sym well.1 ∙ whole.1 in
              let free_here : HasNoCollision f key end.history = subst (λ k. IsFree f k end.history) v.same_key free_end in
              let passed = session_whole f low high (to_send cs) v.answers now.told end fits before state at_least at_most free_end served (shown_since es cs) (answered end.history cs whole.1 v.history free_here) o low_status in
              let told : o.greets.next ≡ before.next = (opened_over f low high (to_send cs) v.answers now.told end fits before state at_least at_most free_end served o).2 in
              let number : g.greets.next ≡ next = told ∙ had.number in
              let q = behind_first next in
              let behind : to_send cs before.next ≡ drop q (frames_under f key m.history) =
              ap (to_send cs) had.number ∙ sym (frames_behind cs) ∙ ap (λ h. drop q (frames_under f key h)) (sym history) in
              -- the answers, each in order, are those of the lines
              let answers : map in_order (shown_since es cs) ≡ finds m.shown = answers_found cs history in
              let own_text : text_with v.answers m.shown ≡ flat_map text_of (map said m.shown) =
              ap (λ found. flat_map text_of (with_answers found m.shown)) (ap (map in_order) passed.0 ∙ answers) ∙ ap (flat_map text_of) (with_answers-finds m.shown) in
              let line = text_of (Resumed (length (lacking f key es next))) in
              let exchanged : map bare (o.greets.events ++ o.passes.events) ≡ map as_event (greeting next ++ exchange (shown_since es cs) (drop q (frames_under f key m.history))) =
              passed.2 ∙ (λ i. map as_event (greeting (had.number i) ++ exchange (shown_since es cs) (behind i))) in
              record {
                status_is = ap status_of well.0;
                q = ends.q;
                printed =
                    ends.printed
                    ∙ (λ i. append_known (well.2 i) (take ends.q (stop_text (well.0 i))))
                    ∙ append_known-twice later.written (text_with v.answers m.shown) (take ends.q (stop_text m.end))
                    ∙ ap (λ text. append_known later.written (text ++ take ends.q (stop_text m.end))) own_text
                    ∙ ap (λ written. append_known written (flat_map text_of (map said m.shown) ++ take ends.q (stop_text m.end)))
                    (caught.printed ∙ (λ i. append_known (g.unprinted i) (text_of (Resumed (length (lacking f key es (number i)))))))
                    ∙ append_known-twice now.written line (flat_map text_of (map said m.shown) ++ take ends.q (stop_text m.end))
                    ∙ ap (append_known now.written) (sym (append_assoc line (flat_map text_of (map said m.shown)) (take ends.q (stop_text m.end))));
                more = cs;
                history = history;
                events = o.greets.events ++ o.passes.events;
                adds = subst (λ told. Adds now.told told (o.greets.events ++ o.passes.events)) (sym ends.told) (Adds-joined now.told o.greeted end.outside.told o.greets.events o.passes.events o.greets.adds o.passes.adds);
                passed = exchanged;
                simulated =
                    simulated_after f key es cs next (o.greets.events ++ o.passes.events) (subst IsKept history kept) had.from place_within
                    (exchanged ∙ ap (λ h. map as_event (greeting next ++ exchange (shown_since es cs) (drop q (frames_under f key h)))) history);
                kept = ends.kept ∙ kept_on greeted g later caught runs low_status;
                stored = passed.1 ∙ ap (λ fs. (steps f before fs).0) behind ∙ stored_whole cs history;
              }
            where
              answers_found : (cs : List Step) → m.history ≡ Some (fold step_after es cs) → map in_order (shown_since es cs) ≡ finds m.shown
              answers_found cs history =
                  let after = Some (fold step_after es cs) in
                  let shown : shown_in_turn after ≡ shown_since es cs = shown_in_turn-since es cs ∙ ap (λ answers. answers ++ shown_since es cs) (no_searches es updates) in
                  let none : found_in_turn (Some es) ≡ [] = sym (in_order-shown_in_turn (Some es) kept_at.history) ∙ ap (map in_order) (no_searches es updates) in
                  ap (map in_order) (sym shown)
                  ∙ in_order-shown_in_turn after (subst IsKept history kept)
                  ∙ ap found_in_turn (sym history)
                  ∙ finds-follow place number lines false
                  ∙ ap (λ found. found ++ finds m.shown) none

              stored_whole : (cs : List Step) → m.history ≡ Some (fold step_after es cs) → (steps f before (drop (behind_first next) (frames_under f key m.history))).0 ≡ (steps f had.start (frames_under f key m.history)).0
              stored_whole cs history =
                  let q = behind_first next in
                  let whole = frames_under f key m.history in
                  let first : take q whole ≡ take q all = ap (λ h. take q (frames_under f key h)) history ∙ first_frames cs in
                  ap (λ s. (steps f s (drop q whole)).0) (had.sent ∙ ap (λ fs. (steps f had.start fs).0) (sym first))
                  ∙ sym (ap (λ r. r.0) (steps-append f had.start (take q whole) (drop q whole)))
                  ∙ ap (λ fs. (steps f had.start fs).0) (take-append-drop q whole)
