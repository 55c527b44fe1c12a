-- What a session sends that resumes after updates, and what passes in it, is what the simulator makes after any history with these updates.
use Rattle.std.proofs.Common.{◌≡◌, ℕ, ◌-◌, ◌≤◌, List, [], ◌∷◌, ◌++◌, length, map, take, drop, Some, refl, sym, ap, ◌∙◌, subst, arith, length-append}
use Rattle.std.specs.Prelude.{fold}
use Rattle.std.proofs.lemmas.List.{drop-append-le, take-append-drop, take-map}
use Rattle.client_registry.proofs.HistoryLaws.{IsFirstOf-trans, IsKept-first}
use Rattle.client_registry.specs.Epochs.{Step, first_begins, step_after}
use Rattle.client_registry.specs.Histories.{IsFirstOf, IsKept, IsWhole}
use Rattle.client_registry.specs.Run.{History, Epochs}
use Rattle.keyed_fn.specs.KeyedFn.{KeyedFn}
use Rattle.def_link_events.specs.Events.{Event}
use Rattle.def_link_events.specs.Taken.{updates_among}
use Rattle.sse_frames.specs.Exchange as texts
use Rattle.sse_frames.specs.Exchange.{Passed, asked, answers_behind, exchange, expected, first_answer, greeting, searches, sent_among}
use Rattle.sse_frames.specs.Frames.{FrameText, Hello, SetupBegin, SetupDict, SetupArray, SetupEnd, AddFrame, DeleteFrame, SearchFrame, frame_bytes}
use Rattle.sse_frames.specs.Replies.{ReplyText}
use Rattle.sse_model.proofs.ExchangeLaws.{exchange-append, searches-append}
use Rattle.sse_model.proofs.HistoryLaws.{frames_sent-first, sent_among-session}
use Rattle.def_script_meaning.specs.Carries.{Outside}
use Rattle.def_script_meaning.specs.Exchange.{Told, as_event, bare}
use Rattle.def_script_meaning.specs.Joined.{updates_of}
use Rattle.def_script_meaning.specs.Rejoins.{IsRecordedBehind, frames_under}
use Rattle.def_script_meaning.specs.Runs.{Ended}
use Rattle.def_script_meaning.specs.Session.{session_with}
use Rattle.def_script_meaning.specs.SimulatedAfter.{HasUpdates, IsSimulatedAfter, MakesAfter, ResumesSimulated, SendsFrom}
use Rattle.def_script_meaning.specs.Since.{frames_since, shown_since}
use Rattle.def_script_meaning.proofs.GoneAsMeant.{front_more}
use Rattle.def_script_meaning.proofs.Simulated.{session_with-simulated}
use Rattle.def_script_meaning.proofs.SinceLaws.{begins-since, first-since, frames_sent-since, session-since, since}
use Rattle.def_script_meaning.proofs.TakenLast.{drop_behind}
use Rattle.def_script_meaning.proofs.UpdatesAlone.{IsKept-after, frames_before, same_updates, since-frames, since-shown, updates_sent}

-- Frames.

sent_among-replies : (rs : List ReplyText) (later : List Passed) → sent_among (map texts.Received rs ++ later) ≡ sent_among later
sent_among-replies [] later = refl
sent_among-replies (r ∷ rs) later = sent_among-replies rs later

-- the frames of an exchange
sent_among-exchange : (answers : List (List ℕ)) (frames : List FrameText) → sent_among (exchange answers frames) ≡ frames
sent_among-exchange answers [] = refl
sent_among-exchange answers (frame ∷ frames) =
    ap (λ rest. frame ∷ rest) (sent_among-replies (expected (first_answer answers) (asked frame)) _ ∙ sent_among-exchange (answers_behind (asked frame) answers) frames)

-- updates ask for no answer
searches-updates : (frames : List FrameText) → searches (updates_among frames) ≡ 0
searches-updates [] = refl
searches-updates (Hello ∷ frames) = searches-updates frames
searches-updates (SetupBegin q b big m a ∷ frames) = omega (arith, searches-updates frames)
searches-updates (SetupDict q width entries ∷ frames) = omega (arith, searches-updates frames)
searches-updates (SetupArray q width blocks ∷ frames) = omega (arith, searches-updates frames)
searches-updates (SetupEnd q ∷ frames) = omega (arith, searches-updates frames)
searches-updates (AddFrame q entries numbers ∷ frames) = omega (arith, searches-updates frames)
searches-updates (DeleteFrame q numbers ∷ frames) = omega (arith, searches-updates frames)
searches-updates (SearchFrame token ∷ frames) = searches-updates frames

searches-drop : (n : ℕ) (frames : List FrameText) → searches frames ≡ 0 → searches (drop n frames) ≡ 0
searches-drop n frames none = omega (arith, searches-append (take n frames) (drop n frames), ap searches (take-append-drop n frames), none)

-- The simulator.

module _ (f : KeyedFn) (first : List ℕ) (earlier : Epochs) (more : List Step) where
  abbrev whole : History
  whole = Some (fold step_after earlier more)

  -- what passes for the steps after the history
  abbrev pub own_passed : List Passed
  own_passed = exchange (shown_since earlier more) (frames_since f first earlier more)

  -- all that passes is what passes for the history, and then that
  pub session_with-since : session_with f (Some first) whole ≡ session_with f (Some first) (Some earlier) ++ own_passed
  session_with-since = session-since f first earlier more

  -- the updates of the first part are the frames of the history's updates
  updates_before : updates_among (sent_among (session_with f (Some first) (Some earlier))) ≡ frames_under f first (Some (updates_of earlier))
  updates_before = ap updates_among (sent_among-session f first (Some earlier)) ∙ updates_sent f first earlier

  abbrev pub makes_after : IsWhole (Some earlier) → IsKept whole → MakesAfter f first earlier more
  makes_after is_whole kept = record {
    before = session_with f (Some first) (Some earlier);
    made_before = session_with-simulated f (Some first) (Some earlier) is_whole (IsKept-first (Some earlier) whole (first-since earlier more) kept);
    own = own_passed;
    made = session_with-simulated f (Some first) whole (begins-since earlier more ∙ is_whole) kept ∙ ap Some session_with-since;
  }

  -- For a session that knows the updates of the last epoch.

  module _ (key : List ℕ) (es : Epochs) (has : HasUpdates key es first earlier) where
    -- the frames of the second part are those of the steps after these updates
    own_frames : sent_among own_passed ≡ frames_since f key es more
    own_frames = sent_among-exchange (shown_since earlier more) (frames_since f first earlier more) ∙ since-frames f first key earlier es more (same_updates first key earlier es has)

    -- what keeps all limits after the updates keeps them after the history
    pub kept_after : IsKept (Some (fold step_after es more)) → IsKept whole
    kept_after = IsKept-after first key earlier es more (same_updates first key earlier es has) has.kept

    abbrev front : List FrameText
    front = (frames_before f first key earlier es has).0

    abbrev mine : List FrameText
    mine = frames_under f key (Some es)

    all_before : updates_among (sent_among (session_with f (Some first) (Some earlier))) ≡ front ++ mine
    all_before = updates_before ∙ (frames_before f first key earlier es has).1

    -- so a session that sends the frames of the updates that its server is missing, and then those of its steps, sends what the simulator makes
    pub sends_parts : (old new : Told) → SendsFrom (front ++ mine) (frames_since f key es more) old new → SendsFrom (updates_among (sent_among (session_with f (Some first) (Some earlier)))) (sent_among own_passed) old new
    sends_parts old new = subst (λ (p : List FrameText × List FrameText). SendsFrom p.0 p.1 old new) (λ i. (sym all_before i, sym own_frames i))

    -- and if their replies are those of an honest server, all that passes is what it makes
    passes_simulated : IsKept whole → (next : ℕ) (events : List Event) → (first_begins es).frame ≤ next → next - (first_begins es).frame ≤ length mine
        → map bare events ≡ map as_event (greeting next ++ exchange (shown_since es more) (drop (next - (first_begins es).frame) (frames_under f key (Some (fold step_after es more))))) → IsSimulatedAfter f first earlier more next events
    passes_simulated kept next events from within passed =
        let q = next - (first_begins es).frame in
        let steps = frames_since f key es more in
        let same = same_updates first key earlier es has in
        let behind : drop next (front ++ mine) ≡ drop q mine = drop_behind front mine q next (omega (arith, from, (frames_before f first key earlier es has).2)) in
        let left : drop q (frames_under f key (Some (fold step_after es more))) ≡ drop next (front ++ mine) ++ steps =
        ap (drop q) (frames_sent-since f key es more) ∙ drop-append-le q mine steps within ∙ ap (λ fs. fs ++ steps) (sym behind) in
        let none : searches (drop next (front ++ mine)) ≡ 0 =
        searches-drop next (front ++ mine) (ap searches (sym all_before) ∙ searches-updates (sent_among (session_with f (Some first) (Some earlier)))) in
        record {
          makes = makes_after has.whole kept;
          same =
              passed
              ∙ (λ i. map as_event (greeting next ++ exchange (sym (since-shown first key earlier es more same) i) (left i)))
              ∙ ap (λ later. map as_event (greeting next ++ later)) (exchange-append (drop next (front ++ mine)) steps [] (shown_since earlier more) (sym none))
              ∙ (λ i. map as_event (greeting next ++ (exchange [] (drop next (sym all_before i)) ++ exchange (shown_since earlier more) (sym (since-frames f first key earlier es more same) i))));
        }

-- A session that resumes.

module _ (f : KeyedFn) (key : List ℕ) (es : Epochs) (now : Outside) (end : Ended) (r : IsRecordedBehind f key es now end) where
  abbrev own : List FrameText
  own = frames_under f key (Some es)

  -- it sends the frames that the server is missing, and then those of the steps after these epochs: of all whose records were taken, and so of more
  pub sends_recorded : (front : List FrameText) → length front ≡ (first_begins es).frame → (more : List Step) → IsFirstOf r.held (Some (fold step_after es more)) → SendsFrom (front ++ own) (frames_since f key es more) now.told end.outside.told
  sends_recorded front count more part =
      let held = frames_under f key r.held in
      let q = r.next - (first_begins es).frame in
      let later = frames_sent-first f key (Some es) r.held r.since in
      let rest = frames_sent-first f key r.held (Some (fold step_after es more)) part in
      let from = r.from in
      let within = r.within in
      let few : q ≤ length own = omega (arith, from, within) in
      let few_held : q ≤ length held = omega (arith, few, ap length later.1, length-append own later.0) in
      let all : drop q held ++ rest.0 ≡ drop r.next (front ++ own) ++ frames_since f key es more =
      sym (drop-append-le q held rest.0 few_held)
      ∙ ap (drop q) (sym rest.1)
      ∙ ap (drop q) (frames_sent-since f key es more)
      ∙ drop-append-le q own (frames_since f key es more) few
      ∙ ap (λ fs. fs ++ frames_since f key es more) (sym (drop_behind front own q r.next (omega (arith, from, count)))) in
      let sent = front_more r.count (Hello ∷ drop q held) rest.0 in
      record {
        events = r.events;
        adds = r.adds;
        next = r.next;
        within = omega (arith, within, count, length-append front own);
        replied = r.replied;
        n = sent.0;
        sent =
            r.sent
            ∙ ap (map frame_bytes) (sym sent.1)
            ∙ ap (λ fs. map frame_bytes (take sent.0 (Hello ∷ fs))) all
            ∙ sym (take-map frame_bytes sent.0 (Hello ∷ drop r.next (front ++ own) ++ frames_since f key es more));
      }

  -- Promise P182, also here
  -- and that is what the simulator makes after any history with these updates, of the history up to its stop
  pub resumes_simulated : IsKept end.history → ResumesSimulated f key es now end
  resumes_simulated kept =
      let later = since es end.history (IsFirstOf-trans (Some es) r.held end.history r.since r.first) in
      record {
        same_key = r.same_key;
        more = later.0;
        history = later.1;
        sends = λ first earlier has.
            let before = frames_before f first key earlier es has in
            record {
              makes = makes_after f first earlier later.0 has.whole (kept_after f first earlier later.0 key es has (subst IsKept later.1 kept));
              sends = sends_parts f first earlier later.0 key es has now.told end.outside.told (sends_recorded before.0 before.2 later.0 (subst (IsFirstOf r.held) later.1 r.first));
            };
      }

-- Promise P25, also here
-- all that passes in an undisturbed one over an honest link is, with its replies
pub simulated_after : (f : KeyedFn) (key : List ℕ) (es : Epochs) (more : List Step) (next : ℕ) (events : List Event) → IsKept (Some (fold step_after es more)) → (first_begins es).frame ≤ next
    → next - (first_begins es).frame ≤ length (frames_under f key (Some es))
    → map bare events ≡ map as_event (greeting next ++ exchange (shown_since es more) (drop (next - (first_begins es).frame) (frames_under f key (Some (fold step_after es more)))))
    → (first : List ℕ) (earlier : Epochs) → HasUpdates key es first earlier → IsSimulatedAfter f first earlier more next events
simulated_after f key es more next events kept from within passed first earlier has =
    passes_simulated f first earlier more key es has (kept_after f first earlier more key es has kept) next events from within passed
