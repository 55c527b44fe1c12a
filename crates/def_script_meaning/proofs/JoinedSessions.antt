-- Two sessions of one history. What a whole run leaves, where nothing disturbed it, is what a run supposes that goes on: its records open
-- to its history without the searches, and its server took all frames of that. And the second session is the history's after the first.
use Rattle.std.proofs.Common.{◌≡◌, ℕ, ◌-◌, List, [], ◌∷◌, ◌++◌, length, map, take, drop, filter, Option, Some, None, refl, sym, ap, ◌∙◌, subst, arith}
use Rattle.std.specs.Prelude.{fold}
use Rattle.std.specs.Option.{option_map_or}
use Rattle.std.proofs.Math.Seq.{drop-append_seam, take-length}
use Rattle.std.proofs.lemmas.List.{drop-map, length-take, map-append}
use Rattle.client_records.proofs.RecordedLaws.{opens-records}
use Rattle.client_records.specs.Openings.{MarksDiffer, Opens}
use Rattle.client_records.specs.Recorded.{as_recorded}
use Rattle.client_registry.specs.Epochs.{Step, begins, first_begins, key_now, step_after}
use Rattle.client_registry.specs.Histories.{IsKept, IsWhole, frames_in}
use Rattle.client_registry.specs.Run.{History, Epochs, From, Renewed}
use Rattle.keyed_fn.specs.KeyFormulas.{mark_of}
use Rattle.keyed_fn.specs.KeyedFn.{KeyedFn, IsKeyedFn}
use Rattle.server_core.proofs.Laws.{steps-append}
use Rattle.server_core.specs.Refusal.{refusal}
use Rattle.server_core.specs.State.{ServerState}
use Rattle.server_core.specs.Step.{answers, step, steps}
use Rattle.def_agreement.proofs.Histories.{history_held}
use Rattle.def_agreement.specs.TakenFrames.{Expects}
use Rattle.sse_frames.specs.Exchange.{exchange}
use Rattle.sse_frames.specs.Frames.{FrameText, Hello, SetupBegin, SetupDict, SetupArray, SetupEnd, AddFrame, DeleteFrame, SearchFrame}
use Rattle.sse_frames.specs.Replies.{ReplyText}
use Rattle.sse_model.proofs.Updates.{is_no_search}
use Rattle.sse_model.specs.Histories.{HasNoCollision}
use Rattle.def_script_meaning.specs.Carries.{Outside}
use Rattle.def_script_meaning.specs.Exchange.{as_event, bare}
use Rattle.def_script_meaning.specs.Headline.{Headline}
use Rattle.def_script_meaning.specs.Joined.{updates_of, IsOneSession}
use Rattle.def_script_meaning.specs.Meaning.{Meaning}
use Rattle.def_script_meaning.specs.Recorded.{records_in}
use Rattle.def_script_meaning.specs.Rejoins.{frames_under, HasTaken, Rejoined}
use Rattle.def_script_meaning.specs.Session.{session_with}
use Rattle.def_script_meaning.specs.Since.{frames_since, last_epoch, shown_since}
use Rattle.def_script_meaning.proofs.Simulated.{session_with-simulated}
use Rattle.def_script_meaning.proofs.SimulatedAfter.{own_passed, session_with-since}
use Rattle.def_script_meaning.proofs.SinceLaws.{begins-since, frames_sent-since}
use Rattle.def_script_meaning.proofs.TakenLast.{expects_last, last_start, length-frames}
use Rattle.def_script_meaning.proofs.UpdatesAlone.{frame-alone, frames_alone, no_search-last, same-known, since-frames, since-shown}

-- The server.

-- a search leaves it as it was
unchanged : (s : ServerState) (o : Option ReplyText) (replies : List ReplyText) → (option_map_or {U = ServerState × List ReplyText} (λ reply. (s, reply ∷ [])) o (s, replies)).0 ≡ s
unchanged s None replies = refl
unchanged s (Some reply) replies = refl

-- so it comes to the same without the searches among its frames
pub steps-updates : (f : KeyedFn) (s : ServerState) (frames : List FrameText) → (steps f s (filter is_no_search frames)).0 ≡ (steps f s frames).0
steps-updates f s [] = refl
steps-updates f s (Hello ∷ frames) = steps-updates f (step f s Hello).0 frames
steps-updates f s (SetupBegin q b big m a ∷ frames) = steps-updates f (step f s (SetupBegin q b big m a)).0 frames
steps-updates f s (SetupDict q width entries ∷ frames) = steps-updates f (step f s (SetupDict q width entries)).0 frames
steps-updates f s (SetupArray q width blocks ∷ frames) = steps-updates f (step f s (SetupArray q width blocks)).0 frames
steps-updates f s (SetupEnd q ∷ frames) = steps-updates f (step f s (SetupEnd q)).0 frames
steps-updates f s (AddFrame q entries numbers ∷ frames) = steps-updates f (step f s (AddFrame q entries numbers)).0 frames
steps-updates f s (DeleteFrame q numbers ∷ frames) = steps-updates f (step f s (DeleteFrame q numbers)).0 frames
steps-updates f s (SearchFrame token ∷ frames) =
    steps-updates f s frames ∙ ap (λ state. (steps f state frames).0) (sym (unchanged s (refusal s (SearchFrame token)) (answers f s (SearchFrame token))))

-- so a server that was sent the updates of all epochs before the last one expects that epoch's first frame, since one that was sent their searches too does
pub expects_updates : (f : KeyedFn) → IsKeyedFn f → (key : List ℕ) (es : Epochs) (start : ServerState) → IsKept (Some es) → HasNoCollision f key (Some es) → Expects (first_begins es).frame start
    → Expects (begins (updates_of es)).frame (last_start f start key (updates_of es))
expects_updates f laws key (From o run) start kept free expects = expects
expects_updates f laws key (Renewed before own run) start kept free expects =
    let same : (steps f start (frames_under f key (Some before))).0 ≡ (steps f start (frames_under f key (Some (updates_of before)))).0 =
    sym (steps-updates f start (frames_under f key (Some before))) ∙ ap (λ fs. (steps f start fs).0) (sym (frames_alone f key before)) in
    subst (λ (p : ℕ × ServerState). Expects p.0 p.1) (λ i. (sym (frame-alone before) i, same i)) (expects_last f laws key (Renewed before own run) start kept free expects)

module _ (f : KeyedFn) (key : List ℕ) (es : Epochs) where
  -- a history takes as many update frames as its updates
  pub count_alone : frames_in (Some (updates_of es)) ≡ frames_in (Some es)
  count_alone = frame-alone es

  -- so does the last epoch of these alone, from where it begins on
  pub count_last : frames_in (Some (last_epoch (updates_of es))) ≡ frames_in (Some es)
  count_last = frame-alone es

  abbrev alone : List FrameText
  alone = frames_under f key (Some (updates_of es))

  abbrev own : List ℕ
  own = key_now key es

  -- what a session knows that resumes: the updates of the last epoch, where it begins, and its key
  abbrev known : Epochs
  known = last_epoch (updates_of es)

  abbrev mine : List FrameText
  mine = frames_under f own (Some known)

  -- the server that was sent the frames of these after the updates before them is one that was sent all
  pub sent_last : (start : ServerState) → (steps f (last_start f start key (updates_of es)) mine).0 ≡ (steps f start (frames_under f key (Some es))).0
  sent_last start = by es ∙ ap (λ fs. (steps f start fs).0) (frames_alone f key es) ∙ steps-updates f start (frames_under f key (Some es))
    where
      by : (es : Epochs) → (steps f (last_start f start key (updates_of es)) (frames_under f (key_now key es) (Some (last_epoch (updates_of es))))).0 ≡ (steps f start (frames_under f key (Some (updates_of es)))).0
      by (From o run) = refl
      by (Renewed before own run) =
          sym (ap (λ r. r.0) (steps-append f start (frames_under f key (Some (updates_of before))) (frames_under f own (Some (last_epoch (updates_of (Renewed before own run)))))))

  -- Promise P147, also here
  -- a server that was sent all frames of a history took all those of its last epoch's updates
  pub took_all : IsKeyedFn f → (start behind : ServerState) → IsKept (Some es) → HasNoCollision f key (Some es) → Expects (first_begins es).frame start → behind ≡ (steps f start (frames_under f key (Some es))).0
      → (taken : HasTaken f own known (frames_in (Some es)) behind) × (taken.start ≡ last_start f start key (updates_of es))
  took_all laws start behind kept free expects stored =
      let count = length-frames f own known (no_search-last es) in
      let place : frames_in (Some es) - (first_begins known).frame ≡ length mine = omega (arith, count, count_last) in (
        record {
          start = last_start f start key (updates_of es);
          expects = expects_updates f laws key es start kept free expects;
          from = omega (arith, count, count_last);
          within = omega (arith, count_last);
          sent = stored ∙ sym (sent_last start) ∙ ap (λ fs. (steps f (last_start f start key (updates_of es)) fs).0) (sym (take-length mine) ∙ ap (λ n. take n mine) (sym place));
          number = omega (arith, ap (λ (s : ServerState). s.next) stored, (history_held f key es start laws kept free expects).next);
        },
        refl,
      )

-- Both sessions.

module _ (f : KeyedFn) (key : List ℕ) (es : Epochs) (start start' : ServerState) (m n : Meaning) (now last now' last' : Outside) (status status' : ℕ) (between behind : ServerState)
    (key_is : m.key ≡ Some key) (history_is : m.history ≡ Some es) (first : Headline f start m now last status between)
    (second : Rejoined f start' (key_now key es) (last_epoch (updates_of es)) (frames_in (Some es)) n now' last' status' behind) where
  abbrev more : List Step
  more = second.more

  abbrev whole : History
  whole = Some (fold step_after es more)

  abbrev own' : List ℕ
  own' = key_now key es

  abbrev known' : Epochs
  known' = last_epoch (updates_of es)

  abbrev mine' : List FrameText
  mine' = frames_under f own' (Some known')

  -- the frames of the second session are those behind all of the first
  frames_behind : drop (frames_in (Some es) - (first_begins known').frame) (frames_under f own' n.history) ≡ frames_since f key es more
  frames_behind =
      let count : frames_in (Some es) - (first_begins known').frame ≡ length mine' = omega (arith, length-frames f own' known' (no_search-last es), count_last f key es) in
      (λ i. drop (count i) ((ap (frames_under f own') second.history ∙ frames_sent-since f own' known' more) i))
      ∙ drop-append_seam mine' (frames_since f own' known' more)
      ∙ sym (since-frames f key own' es known' more (same-known key es))

  shown_behind_all : shown_since known' more ≡ shown_since es more
  shown_behind_all = sym (since-shown key own' es known' more (same-known key es))

  passed_second : map bare (drop 2 second.events) ≡ map as_event (exchange (shown_since es more) (frames_since f key es more))
  passed_second =
      sym (drop-map bare 2 second.events)
      ∙ ap (drop 2) second.passed
      ∙ (λ i. map as_event (exchange (shown_behind_all i) (frames_behind i)))

  one : map bare (first.events ++ drop 2 second.events) ≡ map as_event (session_with f (Some key) whole)
  one =
      map-append bare first.events (drop 2 second.events)
      ∙ (λ i. (first.session ∙ (λ i. map as_event (session_with f (key_is i) (history_is i)))) i ++ passed_second i)
      ∙ sym (map-append as_event (session_with f (Some key) (Some es)) (own_passed f key es more))
      ∙ ap (map as_event) (sym (session_with-since f key es more))

  -- Promise P147, also here
  -- are one session of the history with the searches of the first
  pub one_session : IsWhole (Some es) → IsKept whole → start' ≡ last_start f start key (updates_of es) → IsOneSession f start key es more first.events second.events behind
  one_session is_whole kept from = record {
    session = one;
    passed = session_with f (Some key) whole;
    made = session_with-simulated f (Some key) whole (begins-since es more ∙ is_whole) kept;
    same = one;
    stored =
        second.stored
        ∙ (λ i. (steps f (from i) (frames_under f own' (second.history i))).0)
        ∙ ap (λ fs. (steps f (last_start f start key (updates_of es)) fs).0) (frames_sent-since f own' known' more)
        ∙ ap (λ r. r.0) (steps-append f (last_start f start key (updates_of es)) mine' (frames_since f own' known' more))
        ∙ (λ i. (steps f (sent_last f key es start i) (sym (since-frames f key own' es known' more (same-known key es)) i)).0)
        ∙ sym (ap (λ r. r.0) (steps-append f start (frames_under f key (Some es)) (frames_since f key es more)))
        ∙ ap (λ fs. (steps f start fs).0) (sym (frames_sent-since f key es more));
  }

-- What the records of the first session open to.

-- Promise P147, also here
pub opened_by : (f : KeyedFn) (key : List ℕ) (es : Epochs) → IsKeyedFn f → IsWhole (Some es) → IsKept (Some es) → MarksDiffer (mark_of f) key (Some es) → Opens (mark_of f key) (records_in f key (Some es)) (as_recorded (mark_of f) es)
opened_by f key es laws whole kept differ = opens-records (mark_of f) (λ k. omega (arith, length-take 16 (f.prf k (7 ∷ [])), laws.prf_length k (7 ∷ []))) key (Some es) whole kept differ
