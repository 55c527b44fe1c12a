-- A session that goes on after a history: over an honest link from a server that holds what its last epoch leaves, however it came to
-- that, no collision and no reply stops it where the history up to its stop has no collision; and where nothing stopped it from
-- outside either, it did what its lines mean.
use Rattle.std.proofs.Common.{◌≡◌, ℕ, Bool, ◌^◌, ◌<◌, ◌≤◌, inl, inr, List, [], ◌∷◌, ◌++◌, length, map, take, Some, None, refl, sym, ap, ◌∙◌, subst, arith, length-append}
use Rattle.std.specs.Prelude.{flat_map, fold, Option}
use Rattle.std.specs.Io.KnownBytes.{append_known}
use Rattle.std.specs.List.{AllByRecursion}
use Rattle.std.proofs.lemmas.List.{append_cancel_left, map-append}
use Rattle.client_registry.proofs.HistoryLaws.{IsKept-first}
use Rattle.client_registry.specs.Document.{Document}
use Rattle.client_registry.specs.Epochs.{Step, Does, Renews, step_after}
use Rattle.client_registry.specs.Histories.{IsKept, IsFirstOf, shown_in_turn, found_in_turn}
use Rattle.client_registry.specs.Live.{in_order}
use Rattle.client_registry.specs.Run.{Epochs}
use Rattle.keyed_fn.specs.KeyedFn.{KeyedFn, IsKeyedFn}
use Rattle.def_link_events.specs.Events.{Event}
use Rattle.def_link_events.specs.Served.{IsServed, idle}
use Rattle.server_core.specs.State.{ServerState}
use Rattle.server_core.specs.Step.{steps}
use Rattle.def_agreement.proofs.Histories.{IsAnswer, shown_are_answers, in_order-shown_in_turn}
use Rattle.def_agreement.proofs.StepsTaken as taken
use Rattle.def_agreement.proofs.StepsTaken.{HoldsNow, steps_gone}
use Rattle.sse_frames.specs.Exchange.{replied, searches}
use Rattle.sse_frames.specs.Frames.{InGrammar}
use Rattle.sse_model.proofs.ExchangeLaws.{searches-append, searches-sent}
use Rattle.sse_model.proofs.HistoryLaws.{frames_sent-in_grammar}
use Rattle.sse_model.specs.Histories.{frames_sent, HasNoCollision}
use Rattle.sse_outside.proofs.Known.{append_known-twice}
use Rattle.sse_script.specs.Texts.{text_of}
use Rattle.sse_outside.specs.Kept.{with_records}
use Rattle.def_script_meaning.specs.Carries.{Keeps, Outside, text_with, with_answers}
use Rattle.def_script_meaning.specs.Continues.{at_epochs, GoesOn, Continued}
use Rattle.def_script_meaning.specs.Exchange.{Adds}
use Rattle.def_script_meaning.specs.Goes.{Passes, HasPassed, Goes}
use Rattle.def_script_meaning.specs.Headline.{IsOverHonest, IsUndisturbed}
use Rattle.def_script_meaning.specs.Lines.{Line}
use Rattle.def_script_meaning.specs.Meaning.{Meaning, follow}
use Rattle.def_script_meaning.specs.Outcome.{Place, said}
use Rattle.def_script_meaning.specs.Recorded.{records_in}
use Rattle.def_script_meaning.specs.Runs.{Ended, Ends}
use Rattle.def_script_meaning.specs.Session.{IsFree}
use Rattle.def_script_meaning.specs.Since.{frames_of_step, frames_since, records_since, shown_of_step, shown_since}
use Rattle.def_script_meaning.specs.Stops.{status_of, stop_text}
use Rattle.def_script_meaning.proofs.FollowedPlaces.{finds, finds-follow, first-follow, follow-key}
use Rattle.def_script_meaning.proofs.GoneAsMeant.{Adds-joined, Prints-none}
use Rattle.def_script_meaning.proofs.Headline.{AreAnswered, session_outside, session_whole, same_events, with_answers-finds, few, IsFree-first}
use Rattle.def_script_meaning.proofs.Kept.{IsWithinItem, IsKeptAt, kept_follow}
use Rattle.def_script_meaning.proofs.Recorded.{KeepsFirst-all, kept_since}
use Rattle.def_script_meaning.proofs.RunGoes.{turned_status, went}
use Rattle.def_script_meaning.proofs.SinceLaws.{first-since, frames_sent-since, records_in-since, shown_in_turn-since, since}

-- what holds of each of two lists holds of each of the second
second_half : {X : Type 0} (P : X → Type 0) (xs ys : List X) → AllByRecursion P (xs ++ ys) → AllByRecursion P ys
second_half P [] ys all = all
second_half P (x ∷ xs) ys all = second_half P xs ys all.1

-- the frames of steps, and what the searches among them show, as a server is said to take them
same_frames : (f : KeyedFn) (key : List ℕ) (es : Epochs) (more : List Step) → taken.frames_since f key es more ≡ frames_since f key es more
same_frames f key es [] = refl
same_frames f key es (Does c ∷ more) = ap (λ rest. frames_of_step f key es (Does c) ++ rest) (same_frames f key (step_after es (Does c)) more)
same_frames f key es (Renews own ∷ more) = ap (λ rest. frames_of_step f key es (Renews own) ++ rest) (same_frames f key (step_after es (Renews own)) more)

same_shown : (es : Epochs) (more : List Step) → taken.shown_since es more ≡ shown_since es more
same_shown es [] = refl
same_shown es (Does c ∷ more) = ap (λ rest. shown_of_step es (Does c) ++ rest) (same_shown (step_after es (Does c)) more)
same_shown es (Renews own ∷ more) = same_shown (step_after es (Renews own)) more

module _ (f : KeyedFn) (laws : IsKeyedFn f) (key : List ℕ) (es : Epochs) (before : ServerState) (held : HoldsNow f key es before) where
  -- a server that holds what the last epoch leaves so answers the frames of steps after it
  pub since_is_answered : (more : List Step) → IsKept (Some (fold step_after es more)) → HasNoCollision f key (Some (fold step_after es more)) → AreAnswered f before (frames_since f key es more) (shown_since es more)
  since_is_answered more kept free =
      let whole = Some (fold step_after es more) in
      let all : frames_sent f key whole ≡ frames_sent f key (Some es) ++ frames_since f key es more = frames_sent-since f key es more in
      record {
        grammar = second_half InGrammar (frames_sent f key (Some es)) (frames_since f key es more) (subst (AllByRecursion InGrammar) all (frames_sent-in_grammar f key whole laws kept free));
        given = second_half IsAnswer (shown_in_turn (Some es)) (shown_since es more) (subst (AllByRecursion IsAnswer) (shown_in_turn-since es more) (shown_are_answers whole kept));
        count = omega (
          arith,
          searches-sent f key whole,
          searches-sent f key (Some es),
          ap searches all,
          searches-append (frames_sent f key (Some es)) (frames_since f key es more),
          ap length (shown_in_turn-since es more),
          length-append (shown_in_turn (Some es)) (shown_since es more),
        );
        replies =
            ap (λ frames. (steps f before frames).1) (sym (same_frames f key es more))
            ∙ (steps_gone f laws key es more before kept.0 free held).replies
            ∙ (λ i. replied (same_shown es more i) (same_frames f key es more i));
      }

  module _ (mark : List ℕ → List ℕ) (used : List (List ℕ)) (docs : List Document) (n number : ℕ) (lines : List (Option Line)) (refused : Bool) (within : AllByRecursion IsWithinItem lines)
      (kept_at : IsKeptAt n (at_epochs mark used key docs es)) (low high : ℕ) (fits : high < 2 ^ 32) (least : low ≤ before.next) (most : before.next ≤ high)
      (now : Outside) (end : Ended) (goes_on : GoesOn f low high (at_epochs mark used key docs es) number lines refused now end) where
    abbrev place : Place
    place = at_epochs mark used key docs es

    abbrev m : Meaning
    m = follow place number lines refused

    kept : IsKept m.history
    kept = (kept_follow n place number lines refused within kept_at).0

    -- it goes as its lines mean, and sends the frames after the history
    pub record GoesSince : Type 0 where
      pub more : List Step
      pub history : end.history ≡ Some (fold step_after es more)
      pub same_key : end.key ≡ Some key
      pub goes : Goes f m low high (λ next. frames_since f key es more) now end

    pub goes_since : GoesSince
    goes_since = elim goes_on [
      | inl away ↦ record {
        more = [];
        history = away.history;
        same_key = away.same_key;
        goes = record {
          key = inr (away.same_key ∙ sym (follow-key place number lines refused));
          history = subst (λ h. IsFirstOf h m.history) (sym away.history) (first-follow place number lines refused);
          answers = [];
          passes = inr (inl (record { key = key; same_key = away.same_key; cause = away.cause; stops = away.stops; away = away.away; none = refl; most = λ next least most. omega arith }));
          prints = Prints-none m [] now.written end.outside.written away.unprinted;
          ended = λ low_status. absurd (omega (arith, low_status, ap status_of away.stops, turned_status low high away.away.events away.cause away.away.turned));
        };
      }
      | inr opened ↦
          let greeted = opened.1 in
          let w = went f n place number lines refused opened.0 end within kept_at opened.2 in
          let behind = since es end.history w.since in
          let frames : w.more ≡ frames_since f key es behind.0 =
          append_cancel_left (frames_sent f key (Some es)) w.more (frames_since f key es behind.0)
          (sym w.frames ∙ ap (frames_sent f key) behind.1 ∙ frames_sent-since f key es behind.0) in
          record {
            more = behind.0;
            history = behind.1;
            same_key = w.same_key;
            goes = record {
              key = inr (w.same_key ∙ sym (follow-key place number lines refused));
              history = w.history;
              answers = w.answers;
              passes = inr (inr (record { key = key; same_key = w.same_key; greeted = opened.0.told; greets = greeted.greets; passes = subst (λ fs. Passes f fs w.answers opened.0.told end) frames w.passes }));
              prints = record { p = w.prints.p; written = w.prints.written ∙ ap (λ o. append_known o (take w.prints.p (text_with w.answers m.shown))) greeted.unprinted };
              ended = λ few.
                  let well = w.ended_well few in
                  (well.0, w.same_key ∙ sym (follow-key place number lines refused), well.1, well.2 ∙ ap (λ o. append_known o (text_with w.answers m.shown)) greeted.unprinted);
            };
          }
    ]

    -- at its end the records after the history were kept
    kept_on : status_of end.stop ≤ 2 → (more : List Step) → end.history ≡ Some (fold step_after es more) → Keeps now.kept end.outside.kept (records_since f more)
    kept_on low_status more history = elim goes_on [
      | inl away ↦ absurd (omega (arith, low_status, ap status_of away.stops, turned_status low high away.away.events away.cause away.away.turned))
      | inr opened ↦
          let w = kept_since f place number lines refused opened.0 end opened.2 in
          let held : w.held ≡ Some (fold step_after es more) = w.whole (λ e. absurd (omega (arith, low_status, e))) (λ e. absurd (omega (arith, low_status, e))) (λ e. absurd (omega (arith, low_status, e))) ∙ history in
          let same : w.records ≡ records_since f more =
          append_cancel_left (records_in f key (Some es)) w.records (records_since f more)
          (sym w.are ∙ ap (records_in f key) held ∙ records_in-since f key es more) in
          KeepsFirst-all w.all w.records (status_of end.stop) opened.0.kept end.outside.kept (λ e. absurd (omega (arith, low_status, e))) (λ e. absurd (omega (arith, low_status, e))) w.kept
          ∙ (λ i. with_records (same i) (opened.1.unkept i))
    ]

    module _ (state : ServerState) (honest : IsOverHonest f before now.told end.outside.told state) where
      served : (events : List Event) → Adds now.told end.outside.told events → IsServed f (idle before) events (idle state)
      served events adds = subst (λ es. IsServed f (idle before) es (idle state)) (same_events honest.past honest.events events now.told end.outside.told honest.told honest.adds adds) honest.honest

      abbrev g : GoesSince
      g = goes_since

      abbrev more : List Step
      more = g.more

      answered : IsFree f end.key end.history → AreAnswered f before (frames_since f key es more) (shown_since es more)
      answered free =
          since_is_answered more (subst IsKept g.history (IsKept-first end.history m.history g.goes.history kept))
          (subst (HasNoCollision f key) g.history (subst (λ k. IsFree f k end.history) g.same_key free))

      -- Promise P165 (inside): A session that continues after a run has the traffic, the printed lines and the server state of its lines' meaning.
      --   assumes: keyed function, kept limits, honest link, no collision, no device fault, enough memory; not: A server that doesn't hold all that the run left (P166).
      -- no collision and no reply stops it
      pub continued_status : IsFree f end.key end.history → status_of end.stop ≤ 7
      continued_status free =
          session_outside f low high (λ next. frames_since f key es more) g.goes.answers now.told end fits before state least most free served (shown_since es more) (answered free) g.goes.passes

      -- Promise P165, also here
      -- and where nothing else did, it did what its lines mean
      pub continued : (last : Outside) → Ends end last → HasNoCollision f key m.history → IsUndisturbed (status_of end.stop) → Continued f before key es m now last (status_of end.stop) state
      continued last ends free calm =
          let whole_key : m.key ≡ Some key = follow-key place number lines refused in
          let free_end : IsFree f end.key end.history = IsFree-first f end.key m.key end.history m.history g.goes.key g.goes.history (subst (λ k. IsFree f k m.history) (sym whole_key) free) in
          let low_status : status_of end.stop ≤ 2 = few (status_of end.stop) (continued_status free_end) calm in
          by free_end low_status g.goes.passes
        where
          by : IsFree f end.key end.history → status_of end.stop ≤ 2 → HasPassed f low high (λ next. frames_since f key es more) g.goes.answers now.told end → Continued f before key es m now last (status_of end.stop) state
          by free_end low_status (inl u) = absurd (let no : Some key ≡ None = sym g.same_key ∙ u.key in cc)
          by free_end low_status (inr (inl u)) = absurd (omega (arith, low_status, ap status_of u.stops, turned_status low high u.away.events u.cause u.away.turned))
          by free_end low_status (inr (inr o)) =
              let well = g.goes.ended low_status in
              let all = session_whole f low high (λ next. frames_since f key es more) g.goes.answers now.told end fits before state least most free_end served (shown_since es more) (answered free_end) o low_status in
              let kept_end : IsKept (Some (fold step_after es more)) = subst IsKept g.history (IsKept-first end.history m.history g.goes.history kept) in
              let history : m.history ≡ Some (fold step_after es more) = sym well.2 ∙ g.history in
              -- the answers, each in order, are those of the lines
              let answers : map in_order (shown_since es more) ≡ finds m.shown =
              append_cancel_left (found_in_turn (Some es)) (map in_order (shown_since es more)) (finds m.shown)
              (ap (λ found. found ++ map in_order (shown_since es more)) (sym (in_order-shown_in_turn (Some es) (IsKept-first (Some es) (Some (fold step_after es more)) (first-since es more) kept_end)))
              ∙ sym (map-append in_order (shown_in_turn (Some es)) (shown_since es more))
              ∙ ap (map in_order) (sym (shown_in_turn-since es more))
              ∙ in_order-shown_in_turn (Some (fold step_after es more)) kept_end
              ∙ ap found_in_turn (sym history)
              ∙ finds-follow place number lines refused) in
              let own_text : text_with g.goes.answers m.shown ≡ flat_map text_of (map said m.shown) =
              ap (λ found. flat_map text_of (with_answers found m.shown)) (ap (map in_order) all.0 ∙ answers) ∙ ap (flat_map text_of) (with_answers-finds m.shown) in
              record {
                status_is = ap status_of well.0;
                q = ends.q;
                printed =
                    ends.printed
                    ∙ (λ i. append_known (well.3 i) (take ends.q (stop_text (well.0 i))))
                    ∙ append_known-twice now.written (text_with g.goes.answers m.shown) (take ends.q (stop_text m.end))
                    ∙ ap (λ text. append_known now.written (text ++ take ends.q (stop_text m.end))) own_text;
                more = more;
                history = history;
                events = o.greets.events ++ o.passes.events;
                adds = subst (λ told. Adds now.told told (o.greets.events ++ o.passes.events)) (sym ends.told) (Adds-joined now.told o.greeted end.outside.told o.greets.events o.passes.events o.greets.adds o.passes.adds);
                kept = ends.kept ∙ kept_on low_status more g.history;
                passed = all.2;
                stored = all.1;
              }
