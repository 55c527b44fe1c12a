-- A run that goes on from records: with the frames of the last command it sends all that the server lacks of the history, so that it
-- is a session that goes on after it; and which stop its script and its records alone make.
use Rattle.std.proofs.Common.{◌≡◌, ◌+◌, ◌-◌, ◌<◌, ◌≤◌, ◌^◌, ℕ, false, inl, inr, List, [], ◌∷◌, ◌++◌, drop, filter, length, map, Option, None, Some, refl, sym, ap, ◌∙◌, subst, arith, append_assoc, length-append}
use Rattle.std.specs.Prelude.{◌⊎◌, IfSome, flat_map, fold, option_map, slice_index_or}
use Rattle.std.specs.Io.KnownBytes.{append_known}
use Rattle.std.specs.List.{AllByRecursion}
use Rattle.std.proofs.Math.Seq.{drop-append-add}
use Rattle.std.proofs.lemmas.List.{append-nil, length-drop, length-take}
use Rattle.std.proofs.lemmas.List.Elements.{filter-append}
use Rattle.client_core.proofs.OwesLaws.{last_frames-with_command}
use Rattle.client_core.proofs.ResumeLaws.{last_collision-with_command}
use Rattle.client_core.specs.Owes.{last_frames}
use Rattle.client_core.specs.Resumes.{IsWithin, first_of_last, last_collision}
use Rattle.client_core.specs.StandsFor.{frames_next}
use Rattle.client_journal.proofs.Fronts.{bad_not_elsewhere, bad_once, open_not_bad}
use Rattle.client_records.proofs.OpeningLaws.{not_elsewhere, opens_once}
use Rattle.client_records.proofs.RecordedLaws.{opens-records}
use Rattle.client_records.specs.Openings.{AreStepRecords, IsBadRecord, IsStepRecord, MarksDiffer, Opens, OpensElsewhere, epochs_by}
use Rattle.client_records.specs.Recorded.{as_recorded}
use Rattle.client_registry.proofs.FromEnd.{from_end}
use Rattle.client_registry.proofs.OverLaws.{length-over}
use Rattle.client_registry.specs.Command.{Command, Add, Delete, Search, is_update}
use Rattle.client_registry.proofs.HistoryLaws.{IsHistory-last, last_run-with_commands}
use Rattle.client_registry.specs.Epochs.{Does, Renews, Step, key_now, step_after, with_commands, with_renewal}
use Rattle.client_registry.specs.Histories.{IsKept, IsWhole, commands_in, empty, frames_in}
use Rattle.sse_outside.specs.Kept.{Kept}
use Rattle.client_registry.specs.Over.{over}
use Rattle.client_registry.specs.Run.{Run, Offsets, Epochs, From, last_run}
use Rattle.client_registry.specs.Sized.{update_frames}
use Rattle.keyed_fn.specs.KeyFormulas.{mark_of}
use Rattle.keyed_fn.specs.KeyedFn.{KeyedFn, IsKeyedFn}
use Rattle.def_agreement.proofs.NoCollision.{collision_of_next-none, setup-none}
use Rattle.server_core.specs.State.{ServerState}
use Rattle.server_core.specs.Step.{steps}
use Rattle.def_agreement.specs.TakenFrames.{Expects}
use Rattle.sse_frames.specs.Exchange.{greeting}
use Rattle.sse_frames.specs.Frames.{FrameText}
use Rattle.sse_model.proofs.Counts.{length-frames_of_setup}
use Rattle.sse_model.proofs.Prefixes.{frames_by}
use Rattle.sse_model.specs.Compared.{Collision}
use Rattle.sse_model.specs.Histories.{HasNoCollision, first_known, table_of}
use Rattle.sse_model.specs.Wire.{frames_of_setup, wire}
use Rattle.sse_outside.specs.Fronts.{TookFront}
use Rattle.sse_script.specs.Shown as says
use Rattle.sse_script.specs.Shown.{Cause}
use Rattle.sse_script.specs.Texts.{text_of}
use Rattle.def_script_meaning.proofs.FollowedPlaces.{follow-key}
use Rattle.def_script_meaning.proofs.Kept.{IsKeptAt, IsKeptAt-opened, IsWithinItem, kept_follow}
use Rattle.def_script_meaning.proofs.JoinedSessions.{count_alone, count_last, took_all}
use Rattle.def_script_meaning.proofs.MarksApart.{meaning_differs}
use Rattle.def_script_meaning.proofs.TakenLast.{length-frames}
use Rattle.def_script_meaning.proofs.UpdatesAlone.{key-recorded, last-recorded}
use Rattle.def_script_meaning.proofs.Whole.{meaning_is_whole}
use Rattle.def_script_meaning.proofs.LeftServers.{leaves_last, rejoined_leaves}
use Rattle.def_script_meaning.proofs.RecordedBehind.{recorded_behind, rejoined_is_kept}
use Rattle.def_script_meaning.proofs.RejoinedSessions.{rejoined, rejoined_status}
use Rattle.def_script_meaning.proofs.SimulatedAfter.{resumes_simulated}
use Rattle.def_script_meaning.proofs.Within.{IsWithin-lines_in, meaning_is_kept}
use Rattle.def_script_meaning.specs.Carries.{Outside}
use Rattle.def_script_meaning.specs.Exchange.{Told, AreCut, AreExchanged, as_event}
use Rattle.def_script_meaning.specs.Goes.{frames_in_hand, frames_of_last}
use Rattle.def_script_meaning.specs.Headline.{Headline, IsOverHonest, IsUndisturbed}
use Rattle.def_script_meaning.specs.Joined.{updates_of, LeavesServer}
use Rattle.def_script_meaning.specs.Lines.{Line, Empty, Key, Command as CommandLine, script_lines}
use Rattle.def_script_meaning.specs.Meaning.{meaning}
use Rattle.def_script_meaning.specs.Recorded.{records_in, records_with}
use Rattle.def_script_meaning.specs.Rejoins.{frames_under, lacking, CatchesUp, HasSent, HasTaken, IsRecordedBehind, Rejoins, Rejoined}
use Rattle.def_script_meaning.specs.Runs.{Ended, Ends, IsGreeted, StopsReading}
use Rattle.def_script_meaning.specs.Since.{last_epoch}
use Rattle.def_script_meaning.specs.Session.{IsFree, frames_with}
use Rattle.def_script_meaning.specs.SimulatedAfter.{ResumesSimulated}
use Rattle.def_script_meaning.specs.Stops.{At, status_of}
use Rattle.sse_script.specs.TextLines.{lines_of}
use Rattle.sse_client.specs.CanGoOn.{CanGoOn, CanResume, IsRecordedAfter, SendsSimulatedFrom, StopsUnsent, meaning_after}
use Rattle.sse_client.specs.LastLine.{EndsLine}
use Rattle.sse_client.proofs.LastLine.{Ends-line}
use Rattle.sse_client.specs.Known.{Known, OpensUnder, epochs_known, known_of, place_known}
use Rattle.sse_client.specs.ResumedRun.{GoesOnBehindKey, GoesOnFrom, GoesOnOver, HasResent, IsFound, IsHeldUp, IsUnrestored, AtKeyLine, Restores, collision_again, frames_lacking}
use Rattle.sse_client.specs.KeyLines.{KeyLine, Keyed, Missing, key_line}
use Rattle.sse_client.specs.OnDisk.{HasGoneOn}

-- The history of records.

-- steps that have records leave no search in the last epoch
updates_alone : (payloads : List (List ℕ)) (steps : List Step) (es : Epochs) → AreStepRecords payloads steps → filter is_update (last_run es).later ≡ (last_run es).later
    → filter is_update (last_run (fold step_after es steps)).later ≡ (last_run (fold step_after es steps)).later
updates_alone [] [] es are alone = alone
updates_alone [] (step ∷ steps) es are alone = absurd are
updates_alone (payload ∷ payloads) [] es are alone = absurd are
updates_alone (payload ∷ payloads) (Does c ∷ steps) es are alone = updates_alone payloads steps (with_commands (c ∷ []) es) are.1 (pushed c are.0)
  where
    update : (c : Command) → IsStepRecord payload (Does c) → filter is_update (c ∷ []) ≡ c ∷ []
    update (Add d) is = refl
    update (Delete id) is = refl
    update (Search word) is = absurd is

    pushed : (c : Command) → IsStepRecord payload (Does c) → filter is_update (last_run (with_commands (c ∷ []) es)).later ≡ (last_run (with_commands (c ∷ []) es)).later
    pushed c is =
        let later : (last_run (with_commands (c ∷ []) es)).later ≡ (last_run es).later ++ c ∷ [] = ap (λ (r : Run). r.later) (last_run-with_commands (c ∷ []) es) in
        subst (λ cs. filter is_update cs ≡ cs) (sym later) (filter-append is_update (last_run es).later (c ∷ []) ∙ (λ i. alone i ++ update c is i))
updates_alone (payload ∷ payloads) (Renews own ∷ steps) es are alone = updates_alone payloads steps (with_renewal own es) are.1 refl

-- they have no search in the last epoch
pub opened_updates : (first : List ℕ) (payloads : List (List ℕ)) (es : Epochs) → Opens first payloads es → filter is_update (last_run es).later ≡ (last_run es).later
opened_updates first [] es opened = absurd opened.say
opened_updates first (payload ∷ others) es opened =
    let say = opened.say in
    subst (λ (e : Epochs). filter is_update (last_run e).later ≡ (last_run e).later) (sym say.are) (updates_alone others say.steps (epochs_by say.setup []) say.of_steps refl)

pub known_updates : (mark : List ℕ) (payloads : List (List ℕ)) (known : Known) → OpensUnder mark payloads known → filter is_update known.run.later ≡ known.run.later
known_updates mark payloads known opens = subst (λ (k : Known). filter is_update k.run.later ≡ k.run.later) (sym opens.is) (opened_updates opens.first payloads opens.es opens.opened)

-- records open to one history, so one thing is known of it
pub known_once : (mark other : List ℕ) (payloads : List (List ℕ)) (known again : Known) → OpensUnder mark payloads known → OpensUnder other payloads again → known ≡ again
known_once mark other payloads known again opens also =
    let once = opens_once opens.first also.first payloads opens.es also.es opens.opened also.opened in
    opens.is ∙ (λ i. known_of (once.0 i) (once.1 i)) ∙ sym also.is

-- The frames that the server lacks.

-- lists joined are those before the last, and the last
last_joined : {A : Type 0} (first : List A) (lists : List (List A)) → (front : List A) × (flat_map (λ xs. xs) (first ∷ lists) ≡ front ++ slice_index_or (first ∷ lists) (length lists) [])
last_joined first [] = ([], append-nil first)
last_joined first (next ∷ lists) =
    let rest = last_joined next lists in
    (first ++ rest.0, ap (λ xs. first ++ xs) rest.1 ∙ sym (append_assoc first rest.0 (slice_index_or (next ∷ lists) (length lists) [])))

module _ (f : KeyedFn) (key : List ℕ) (known : Known) (updates : filter is_update known.run.later ≡ known.run.later) where
  abbrev o : Offsets
  o = known.begins

  abbrev run : Run
  run = known.run

  abbrev keys : ℕ → List ℕ
  keys = λ epoch. key

  abbrev own : List FrameText
  own = last_frames f keys o run

  abbrev lists : List (List FrameText)
  lists = over (frames_by (table_of f keys run) o run.setup) [] run.later

  abbrev all_frames : List FrameText
  all_frames = frames_under f key (Some (epochs_known known))

  -- all of the epoch are those before the last command, and its own
  parts : (front : List FrameText) × (all_frames ≡ front ++ own)
  parts =
      let all = last_joined (frames_of_setup (table_of f keys run) o run.setup) lists in
      (all.0, all.1 ∙ ap (λ n. all.0 ++ slice_index_or (wire (table_of f keys run) o run) n []) (length-over (frames_by (table_of f keys run) o run.setup) [] run.later))

  pub length-all_frames : length all_frames ≡ update_frames run
  length-all_frames = omega (arith, length-frames f key (epochs_known known) updates)

  -- the last command's are no more than all
  pub from_begin : o.frame ≤ first_of_last f key o run
  from_begin = omega (arith, length-all_frames, ap length parts.1, length-append parts.0 own)

  -- so those of the last command from a number on are those of the epoch from there on
  pub lacking_is : (next : ℕ) → IsWithin f key o run next → frames_lacking f key known next ≡ lacking f key (epochs_known known) next
  lacking_is next within =
      let front = parts.0 in
      let count : length front + length own ≡ update_frames run = sym (length-append front own) ∙ ap length (sym parts.1) ∙ length-all_frames in
      let low = first_of_last f key o run in
      let at : length front + (next - low) ≡ next - o.frame = omega (arith, count, within.0) in
      sym (ap (drop (next - o.frame)) parts.1 ∙ ap (λ n. drop n (front ++ own)) (sym at) ∙ drop-append-add front own (next - low))

  -- as many as its number tells
  pub length-lacking : (next left : ℕ) → IsWithin f key o run next → next + left ≡ o.frame + update_frames run → length (lacking f key (epochs_known known) next) ≡ left
  length-lacking next left within is = omega (arith, length-drop (next - o.frame) all_frames, length-all_frames, from_begin, within.0, is)

-- those of the last command are as many as a setup has, or one
pub length-last_frames : (f : KeyedFn) (key : List ℕ) (o : Offsets) (run : Run) → length (last_frames f (λ epoch. key) o run) ≡ frames_in_hand (Some (From o run))
length-last_frames f key o run = from_end (λ cs. length (last_frames f keys o (with_later cs)) ≡ frames_of_last run.setup cs) (length-frames_of_setup (table_of f keys run) o run.setup) push run.later
  where
    keys : ℕ → List ℕ
    keys = λ epoch. key

    with_later : List Command → Run
    with_later cs = record { setup = run.setup; later = cs }

    one : (cs : List Command) (c : Command) → length (frames_next f keys o (with_later cs) c) ≡ 1
    one cs (Add d) = refl
    one cs (Delete id) = refl
    one cs (Search word) = refl

    one_in_hand : (cs : List Command) (c : Command) → frames_of_last run.setup (cs ++ c ∷ []) ≡ 1
    one_in_hand [] c = refl
    one_in_hand (first ∷ cs) c = refl

    push : (cs : List Command) (c : Command) → length (last_frames f keys o (with_later cs)) ≡ frames_of_last run.setup cs → length (last_frames f keys o (with_later (cs ++ c ∷ []))) ≡ frames_of_last run.setup (cs ++ c ∷ [])
    push cs c before = ap length (last_frames-with_command f keys o (with_later cs) c) ∙ one cs c ∙ sym (one_in_hand cs c)

-- Equal values of the last command.

only_one : (c : Option Collision) → first_known (c ∷ []) ≡ None → c ≡ None
only_one None e = refl
only_one (Some c) e = absurd (cc)

-- there are none where the history has no collision
none_in_last : (f : KeyedFn) (key : List ℕ) (o : Offsets) (run : Run) → IsKept (Some (From o run)) → HasNoCollision f key (Some (From o run)) → last_collision f (λ epoch. key) o run ≡ None
none_in_last f key o run = from_end (λ cs. IsKept (Some (From o (with_later cs))) → HasNoCollision f key (Some (From o (with_later cs))) → last_collision f keys o (with_later cs) ≡ None) first push run.later
  where
    keys : ℕ → List ℕ
    keys = λ epoch. key

    with_later : List Command → Run
    with_later cs = record { setup = run.setup; later = cs }

    first : IsKept (Some (From o (with_later []))) → HasNoCollision f key (Some (From o (with_later []))) → last_collision f keys o (with_later []) ≡ None
    first kept free = setup-none (table_of f keys run) o run.setup free

    push : (cs : List Command) (c : Command) → (IsKept (Some (From o (with_later cs))) → HasNoCollision f key (Some (From o (with_later cs))) → last_collision f keys o (with_later cs) ≡ None)
        → IsKept (Some (From o (with_later (cs ++ c ∷ [])))) → HasNoCollision f key (Some (From o (with_later (cs ++ c ∷ [])))) → last_collision f keys o (with_later (cs ++ c ∷ [])) ≡ None
    push cs c before kept free = last_collision-with_command f keys o (with_later cs) c ∙ only_one _ (collision_of_next-none f key (Some (From o (with_later cs))) c kept free)

pub none_again : (f : KeyedFn) (key : List ℕ) (known : Known) → IsKept (Some (epochs_known known)) → HasNoCollision f key (Some (epochs_known known)) → collision_again f key known ≡ None
none_again f key known kept free = none_in_last f key known.begins known.run kept free

no_collision : (o : Option Collision) (c : Collision) → o ≡ Some c → o ≡ None → ⊥
no_collision o c some none = cc

-- The session.

module _ (f : KeyedFn) (key : List ℕ) (known : Known) (updates : filter is_update known.run.later ≡ known.run.later) (kept : IsKept (Some (epochs_known known))) (number : ℕ) (lines : List (Option Line)) (now : Outside) (end : Ended) where
  abbrev low : ℕ
  low = first_of_last f key known.begins known.run

  abbrev high : ℕ
  high = known.begins.frame + update_frames known.run

  -- a session that was opened with a server that expects this number
  module _ (next : ℕ) (told : Told) (found : IsFound f key known next now.told told) where
    abbrev greeted : Outside
    greeted = record { told = told; kept = now.kept; written = now.written }

    greets : IsGreeted low high now greeted
    greets =
        let g = found.greets in
        let same : g.next ≡ next = omega (arith, g.least, g.most) in
        record {
          greets = record {
            next = next;
            least = found.within.0;
            most = found.within.1;
            events = g.events;
            adds = g.adds;
            each = g.each ∙ ap (λ n. map as_event (greeting n)) same;
          };
          unkept = refl;
          unprinted = refl;
        }

    open_session : CatchesUp f (lacking f key (epochs_known known) next) (mark_of f) known.used key (epochs_known known) number lines greeted end → Rejoins f low high (mark_of f) known.used key (epochs_known known) number lines now end
    unfolding greets
    open_session goes = inr (greeted, greets, goes)

    abbrev same_frames : frames_lacking f key known next ≡ lacking f key (epochs_known known) next
    same_frames = lacking_is f key known updates next found.within

  rejoins-held : IsHeldUp f key known now end → Rejoins f low high (mark_of f) known.used key (epochs_known known) number lines now end
  rejoins-held h = elim h.why [
    | inl away ↦ inl (record { cause = h.cause; stops = h.stops; away = away; unkept = h.unkept; unprinted = h.unprinted; same_key = h.same_key; history = h.history })
    | inr (next, told, found, inl (same, some, (c, again, is))) ↦
        open_session next told found (inl (record {
          cause = h.cause;
          stops = h.stops;
          short = inr (inr (same, (c, is), λ free. no_collision (collision_again f key known) c again (none_again f key known kept free)));
          unkept = h.unkept;
          unprinted = h.unprinted;
          same_key = h.same_key;
          history = h.history;
        }))
    | inr (next, told, found, inr (inl (same, memory))) ↦
        open_session next told found (inl (record {
          cause = h.cause;
          stops = h.stops;
          short = inr (inl (same, memory));
          unkept = h.unkept;
          unprinted = h.unprinted;
          same_key = h.same_key;
          history = h.history;
        }))
    | inr (next, told, found, inr (inr (some, none, cut))) ↦
        open_session next told found (inl (record {
          cause = h.cause;
          stops = h.stops;
          short = inl (cut.events, cut.adds, subst (λ fs. AreCut fs cut.events h.cause) (same_frames next told found) cut.cut);
          unkept = h.unkept;
          unprinted = h.unprinted;
          same_key = h.same_key;
          history = h.history;
        }))
  ]

  module _ (new : Told) (frames : ℕ) (resent : HasResent f key known now.told new frames) where
    sent : HasSent (lacking f key (epochs_known known) resent.next) resent.greeted new
    sent = record {
      events = resent.sent.events;
      adds = resent.sent.adds;
      exchanged = subst (λ fs. AreExchanged [] fs resent.sent.events) (same_frames resent.next resent.greeted resent.found) resent.sent.exchanged;
    }

    line : text_of (says.Resumed frames) ≡ text_of (says.Resumed (length (lacking f key (epochs_known known) resent.next)))
    line = ap (λ n. text_of (says.Resumed n)) (sym (length-lacking f key known updates resent.next frames resent.found.within resent.lacking))

  -- Promise P166, also here
  -- a run that goes on after a history is such a session
  pub rejoins : GoesOnFrom f key known number lines now end → Rejoins f low high (mark_of f) known.used key (epochs_known known) number lines now end
  rejoins (inl held) = rejoins-held held
  rejoins (inr (inl u)) =
      let r = u.resent in
      open_session r.next r.greeted r.found (inr (inl (record {
        sent = sent end.outside.told u.frames r;
        stops = u.stops;
        printed = subst (TookFront now.written end.outside.written) (line end.outside.told u.frames r) u.printed;
        unkept = u.unkept;
        same_key = u.same_key;
        history = u.history;
      })))
  rejoins (inr (inr (next, resumed, runs))) =
      let r = resumed.resent in
      open_session r.next r.greeted r.found (inr (inr (
        next,
        record {
          sent = sent next.told resumed.frames r;
          printed = resumed.printed ∙ ap (append_known now.written) (line next.told resumed.frames r);
          unkept = resumed.unkept;
        },
        runs,
      )))

-- The script.

-- behind the key line stand lines of the script
within_behind : (number : ℕ) (all : List (Option Line)) (key : List ℕ) (next : ℕ) (lines : List (Option Line)) → key_line number all ≡ Keyed key next lines → AllByRecursion IsWithinItem all → AllByRecursion IsWithinItem lines
within_behind number [] key next lines is all = absurd (cc)
within_behind number (None ∷ rest) key next lines is all = absurd (cc)
within_behind number (Some Empty ∷ rest) key next lines is all = within_behind (number + 1) rest key next lines is all.1
within_behind number (Some (Key other) ∷ rest) key next lines is all = subst (AllByRecursion IsWithinItem) (let same : rest ≡ lines = cc in same) all.1
within_behind number (Some (CommandLine line) ∷ rest) key next lines is all = absurd (cc)

lines_within : (bytes key : List ℕ) (number : ℕ) (lines : List (Option Line)) → key_line 1 (script_lines bytes) ≡ Keyed key number lines → AllByRecursion IsWithinItem lines
lines_within bytes key number lines found = within_behind 1 (script_lines bytes) key number lines found (IsWithin-lines_in (lines_of bytes))

-- and the place after a history that keeps all limits keeps them
kept_at_known : (f : KeyedFn) (key : List ℕ) (known : Known) → IsKept (Some (epochs_known known)) → IsKeptAt (commands_in (Some (epochs_known known))) (place_known f key known)
kept_at_known f key known kept = record { documents = (IsKeptAt-opened (Some (mark_of f)) 0 key).documents; history = kept; few = omega arith }

-- what is known of records that open keeps the rules of a history
pub kept_known : (mark : List ℕ) (payloads : List (List ℕ)) (known : Known) → OpensUnder mark payloads known → IsKept (Some (epochs_known known))
kept_known mark payloads known opens = subst (λ (k : Known). IsKept (Some (epochs_known k))) (sym opens.is) (IsHistory-last opens.es opens.opened.kept.0, opens.opened.kept.1)

-- what such records and such a script make: no search stands among the commands, and the lines behind the key line go on with a history
-- that keeps its rules
module _ (f : KeyedFn) (bytes : List ℕ) (records : Kept) (before : ServerState) (has : CanResume f bytes records before) where
  pub updates_behind : filter is_update has.known.run.later ≡ has.known.run.later
  updates_behind = known_updates (mark_of f has.key) has.payloads has.known has.opens

  pub known_is_kept : IsKept (Some (epochs_known has.known))
  known_is_kept = kept_known (mark_of f has.key) has.payloads has.known has.opens

  pub kept_behind : IsKept (meaning_after f has.key has.known has.number has.lines).history
  kept_behind =
      (kept_follow (commands_in (Some (epochs_known has.known))) (place_known f has.key has.known) has.number has.lines false (lines_within bytes has.key has.number has.lines has.found) (kept_at_known f has.key has.known known_is_kept)).0

-- The records.

-- why they make no history under a key
abbrev WhyUnrestored : List ℕ → List (List ℕ) → Cause → Type 0
WhyUnrestored mark payloads cause =
    ((n : ℕ) × (cause ≡ says.BadRecord n) × IsBadRecord payloads n)
    ⊎ ((cause ≡ says.WrongKey) × OpensElsewhere mark payloads)
    ⊎ (cause ≡ says.DiskFault)
    ⊎ (cause ≡ says.NoMemory)

module _ (f : KeyedFn) (key : List ℕ) (kept : Kept) (payloads : List (List ℕ)) (told : kept.records ≡ Some payloads) where
  of_told : (P : List (List ℕ) → Type 0) → IfSome kept.records P → P payloads
  of_told P holds = subst (λ k. IfSome k P) told holds

  why_unrestored : (cause : Cause) → IsUnrestored f key kept cause → WhyUnrestored (mark_of f key) payloads cause
  why_unrestored (says.BadRecord n) why = inl (n, refl, of_told _ why)
  why_unrestored says.WrongKey why = inr (inl (refl, of_told _ why))
  why_unrestored says.NoJournal why = absurd (of_told (λ payloads. ⊥) why)
  why_unrestored says.DiskFault why = inr (inr (inl refl))
  why_unrestored says.NoMemory why = inr (inr (inr refl))
  why_unrestored says.BadWords why = absurd why
  why_unrestored (says.BadLine number) why = absurd why
  why_unrestored says.SourceFault why = absurd why
  why_unrestored says.LinkFault why = absurd why
  why_unrestored (says.LabelClash first second) why = absurd why
  why_unrestored (says.PlaceClash first second) why = absurd why
  why_unrestored (says.NumberClash first second) why = absurd why
  why_unrestored (says.Clash what place) why = absurd why
  why_unrestored (says.PeerElsewhere least most got) why = absurd why
  why_unrestored (says.BadReply start) why = absurd why
  why_unrestored says.HasRecords why = absurd why

-- A run that goes on.

module _ (f : KeyedFn) (laws : IsKeyedFn f) (bytes : List ℕ) (now last : Outside) (status : ℕ) (end : Ended) (goes_on : GoesOnOver f (script_lines bytes) now end) (is : status ≡ status_of end.stop) where
  -- its reading stops
  reading_status : StopsReading now None empty end → (status ≡ 3) ⊎ (status ≡ 7)
  reading_status (inl source) = inl (is ∙ ap (λ (e : Ended). status_of e.stop) source)
  reading_status (inr memory) = inr (is ∙ ap (λ (e : Ended). status_of e.stop) memory)

  behind_key : (key : List ℕ) (number : ℕ) (lines : List (Option Line)) → key_line 1 (script_lines bytes) ≡ Keyed key number lines → StopsReading now None empty end ⊎ GoesOnBehindKey f key number lines now end
  behind_key key number lines found = elim goes_on [ inl reading ↦ inl reading | inr at ↦ inr (subst (λ k. AtKeyLine f k now end) found at) ]

  stops_unsent : StopsUnsent f bytes now end status
  stops_unsent = record {
    no_key = λ number missing source memory. elim goes_on [
      | inl reading ↦ absurd (elim (reading_status reading) [ inl e ↦ source e | inr e ↦ memory e ])
      | inr at ↦ ap (λ (e : Ended). e.stop) (subst (λ k. AtKeyLine f k now end) missing at)
    ];
    bad_record = λ key number lines payloads n found told bad source disk memory. elim (behind_key key number lines found) [
      | inl reading ↦ absurd (elim (reading_status reading) [ inl e ↦ source e | inr e ↦ memory e ])
      | inr (inl (cause, why, ends)) ↦
          let stop : end.stop ≡ At cause = ap (λ (e : Ended). e.stop) ends in
          elim (why_unrestored f key now.kept payloads told cause why) [
            | inl (m, named, other) ↦ stop ∙ ap (λ c. At c) (named ∙ ap (λ k. says.BadRecord k) (bad_once payloads m n other bad))
            | inr (inl (named, other)) ↦ absurd (bad_not_elsewhere (mark_of f key) payloads n bad other)
            | inr (inr (inl named)) ↦ absurd (disk (is ∙ ap status_of (stop ∙ ap (λ c. At c) named)))
            | inr (inr (inr named)) ↦ absurd (memory (is ∙ ap status_of (stop ∙ ap (λ c. At c) named)))
          ]
      | inr (inr (known, restores, goes)) ↦ let opens = of_told f key now.kept payloads told (λ ps. OpensUnder (mark_of f key) ps known) restores.1 in absurd (open_not_bad opens.first payloads (Some opens.es) n opens.opened bad)
    ];
    wrong_key = λ key number lines payloads found told elsewhere source disk memory. elim (behind_key key number lines found) [
      | inl reading ↦ absurd (elim (reading_status reading) [ inl e ↦ source e | inr e ↦ memory e ])
      | inr (inl (cause, why, ends)) ↦
          let stop : end.stop ≡ At cause = ap (λ (e : Ended). e.stop) ends in
          elim (why_unrestored f key now.kept payloads told cause why) [
            | inl (m, named, bad) ↦ absurd (bad_not_elsewhere (mark_of f key) payloads m bad elsewhere)
            | inr (inl (named, other)) ↦ stop ∙ ap (λ c. At c) named
            | inr (inr (inl named)) ↦ absurd (disk (is ∙ ap status_of (stop ∙ ap (λ c. At c) named)))
            | inr (inr (inr named)) ↦ absurd (memory (is ∙ ap status_of (stop ∙ ap (λ c. At c) named)))
          ]
      | inr (inr (known, restores, goes)) ↦ let opens = of_told f key now.kept payloads told (λ ps. OpensUnder (mark_of f key) ps known) restores.1 in absurd (not_elsewhere opens.first (mark_of f key) payloads opens.es opens.opened opens.last elsewhere)
    ];
  }

  -- The records, and the frames.

  module _ (payloads : List (List ℕ)) (told : now.kept.records ≡ Some payloads) where
    -- it goes on after the history of its records
    module _ (key : List ℕ) (number : ℕ) (lines : List (Option Line)) (known : Known) (restores : Restores f key now.kept known) (goes : GoesOnFrom f key known number lines now end) where
      opens : OpensUnder (mark_of f key) payloads known
      opens = of_told f key now.kept payloads told (λ ps. OpensUnder (mark_of f key) ps known) restores.1

      updates_only : filter is_update known.run.later ≡ known.run.later
      updates_only = known_updates (mark_of f key) payloads known opens

      abbrev known_low : ℕ
      known_low = first_of_last f key known.begins known.run

      abbrev known_high : ℕ
      known_high = known.begins.frame + update_frames known.run

      session : Rejoins f known_low known_high (mark_of f) known.used key (epochs_known known) number lines now end
      session = rejoins f key known updates_only restores.0 number lines now end goes

      records : IsRecordedBehind f key (epochs_known known) now end
      records = recorded_behind f (mark_of f) known.used key (epochs_known known) known_low known_high number lines now end (omega (arith, length-all_frames f key known updates_only)) (from_begin f key known updates_only) session

      simulated : key_line 1 (script_lines bytes) ≡ Keyed key number lines → ResumesSimulated f key (epochs_known known) now end
      simulated found =
          resumes_simulated f key (epochs_known known) now end records
          (rejoined_is_kept f (mark_of f) known.used key (epochs_known known) known_low known_high number lines now end (commands_in (Some (epochs_known known)))
          (lines_within bytes key number lines found) (kept_at_known f key known restores.0) session)

    recorded_at : (k : KeyLine) → AtKeyLine f k now end → IsRecordedAfter f payloads now end
    recorded_at (Keyed key number lines) (inl (cause, why, ends)) = inl (ap (λ (e : Ended). e.outside.told) ends, ap (λ (e : Ended). e.outside.kept) ends)
    recorded_at (Keyed key number lines) (inr (known, restores, goes)) = inr (key, known, opens key number lines known restores goes, records key number lines known restores goes)
    recorded_at (Missing number) at = inl (ap (λ (e : Ended). e.outside.told) at, ap (λ (e : Ended). e.outside.kept) at)

    simulated_at : (k : KeyLine) → key_line 1 (script_lines bytes) ≡ k → AtKeyLine f k now end → SendsSimulatedFrom f payloads now end
    simulated_at (Keyed key number lines) found (inl (cause, why, ends)) = inl (ap (λ (e : Ended). e.outside.told) ends)
    simulated_at (Keyed key number lines) found (inr (known, restores, goes)) = inr (key, known, opens key number lines known restores goes, simulated key number lines known restores goes found)
    simulated_at (Missing number) found at = inl (ap (λ (e : Ended). e.outside.told) at)

    recorded_so : IsRecordedAfter f payloads now end
    recorded_so = elim goes_on [
      | inl reading ↦ inl (elim reading [
        | inl e ↦ (ap (λ (s : Ended). s.outside.told) e, ap (λ (s : Ended). s.outside.kept) e)
        | inr e ↦ (ap (λ (s : Ended). s.outside.told) e, ap (λ (s : Ended). s.outside.kept) e)
      ])
      | inr at ↦ recorded_at (key_line 1 (script_lines bytes)) at
    ]

    simulated_so : SendsSimulatedFrom f payloads now end
    simulated_so = elim goes_on [
      | inl reading ↦ inl (elim reading [ inl e ↦ ap (λ (s : Ended). s.outside.told) e | inr e ↦ ap (λ (s : Ended). s.outside.told) e ])
      | inr at ↦ simulated_at (key_line 1 (script_lines bytes)) refl at
    ]

  -- if the records are told
  if_told : (P : List (List ℕ) → Type 0) → ((payloads : List (List ℕ)) → now.kept.records ≡ Some payloads → P payloads) → IfSome now.kept.records P
  if_told P holds = by now.kept.records refl
    where
      by : (records : Option (List (List ℕ))) → now.kept.records ≡ records → IfSome records P
      by None told = tt
      by (Some payloads) told = holds payloads told

  -- Where it can go on.

  module _ (can : CanGoOn f bytes now last) where
    abbrev has : CanResume f bytes now.kept can.before
    has = can.resumes

    abbrev updates : filter is_update has.known.run.later ≡ has.known.run.later
    updates = updates_behind f bytes now.kept can.before has

    abbrev within : AllByRecursion IsWithinItem has.lines
    within = lines_within bytes has.key has.number has.lines has.found

    abbrev has_kept : IsKept (Some (epochs_known has.known))
    has_kept = known_is_kept f bytes now.kept can.before has

    abbrev kept_at : IsKeptAt (commands_in (Some (epochs_known has.known))) (place_known f has.key has.known)
    kept_at = kept_at_known f has.key has.known has_kept

    abbrev has_low : ℕ
    has_low = first_of_last f has.key has.known.begins has.known.run

    abbrev has_high : ℕ
    has_high = has.known.begins.frame + update_frames has.known.run

    near : has_high ≤ has_low + frames_in_hand (Some (epochs_known has.known))
    near = omega (arith, length-last_frames f has.key has.known.begins has.known.run)

    numbered : has_high < 2 ^ 32
    numbered = omega (arith, has_kept.1)

    -- it goes on after that history, but where a device failed or memory was wanting before
    goes_or_not : (((status ≡ 3) ⊎ (status ≡ 6) ⊎ (status ≡ 7)) × (end.history ≡ empty)) ⊎ GoesOnFrom f has.key has.known has.number has.lines now end
    goes_or_not = elim (behind_key has.key has.number has.lines has.found) [
      | inl reading ↦ inl (elim (reading_status reading) [ inl e ↦ inl e | inr e ↦ inr (inr e) ], elim reading [ inl e ↦ ap (λ (s : Ended). s.history) e | inr e ↦ ap (λ (s : Ended). s.history) e ])
      | inr (inl (cause, why, ends)) ↦
          let stop : end.stop ≡ At cause = ap (λ (e : Ended). e.stop) ends in
          let none : end.history ≡ empty = ap (λ (e : Ended). e.history) ends in
          elim (why_unrestored f has.key now.kept has.payloads has.told cause why) [
            | inl (m, named, bad) ↦ absurd (open_not_bad has.opens.first has.payloads (Some has.opens.es) m has.opens.opened bad)
            | inr (inl (named, elsewhere)) ↦ absurd (not_elsewhere has.opens.first (mark_of f has.key) has.payloads has.opens.es has.opens.opened has.opens.last elsewhere)
            | inr (inr (inl named)) ↦ inl (inr (inl (is ∙ ap status_of (stop ∙ ap (λ c. At c) named))), none)
            | inr (inr (inr named)) ↦ inl (inr (inr (is ∙ ap status_of (stop ∙ ap (λ c. At c) named))), none)
          ]
      | inr (inr (known, restores, goes)) ↦
          let same : known ≡ has.known = known_once (mark_of f has.key) (mark_of f has.key) has.payloads known has.known (of_told f has.key now.kept has.payloads has.told (λ ps. OpensUnder (mark_of f has.key) ps known) restores.1) has.opens in
          inr (subst (λ r. GoesOnFrom f has.key r has.number has.lines now end) same goes)
    ]

    module _ (told : last.told ≡ end.outside.told) where
      abbrev over_link : IsOverHonest f can.before now.told end.outside.told can.state
      over_link = subst (λ t. IsOverHonest f can.before now.told t can.state) told can.honest

      honest_after : IsFree f end.key end.history → status ≤ 7
      honest_after free = elim goes_or_not [
        | inl early ↦ elim early.0 [ inl e ↦ omega (arith, e) | inr (inl e) ↦ omega (arith, e) | inr (inr e) ↦ omega (arith, e) ]
        | inr goes ↦
            subst (λ n. n ≤ 7) (sym is)
            (rejoined_status f laws has.key (epochs_known has.known) updates has.next can.before has.taken (mark_of f) has.known.used (commands_in (Some (epochs_known has.known))) has.number has.lines within kept_at
            has_low has_high numbered (from_begin f has.key has.known updates) has.within.0 has.within.1 near now end
            (rejoins f has.key has.known updates has_kept has.number has.lines now end goes) can.state over_link free)
      ]

      left_after : IsFree f end.key end.history → LeavesServer f end.key end.history can.state
      left_after free = elim goes_or_not [
        | inl early ↦ subst (λ h. LeavesServer f end.key h can.state) (sym early.1) (unset end.key)
        | inr goes ↦
            rejoined_leaves f laws has.key (epochs_known has.known) updates has.next can.before has.taken (mark_of f) has.known.used (commands_in (Some (epochs_known has.known))) has.number has.lines within kept_at
            has_low has_high numbered (from_begin f has.key has.known updates) has.within.0 has.within.1 near now end
            (rejoins f has.key has.known updates has_kept has.number has.lines now end goes) can.state over_link free
      ]
        where
          unset : (key : Option (List ℕ)) → LeavesServer f key empty can.state
          unset None = tt
          unset (Some key) = tt

      headline_after : Ends end last → IsFree f (meaning_after f has.key has.known has.number has.lines).key (meaning_after f has.key has.known has.number has.lines).history → IsUndisturbed status
          → Rejoined f has.taken.start has.key (epochs_known has.known) has.next (meaning_after f has.key has.known has.number has.lines) now last status can.state
      headline_after ends free calm =
          let m = meaning_after f has.key has.known has.number has.lines in
          elim goes_or_not [
            | inl early ↦ absurd (elim early.0 [ inl e ↦ calm.source e | inr (inl e) ↦ calm.disk e | inr (inr e) ↦ calm.memory e ])
            | inr goes ↦
                subst (λ n. Rejoined f has.taken.start has.key (epochs_known has.known) has.next m now last n can.state) (sym is)
                (rejoined f laws has.key (epochs_known has.known) updates has.next can.before has.taken (mark_of f) has.known.used (commands_in (Some (epochs_known has.known))) has.number has.lines within kept_at
                has_low has_high numbered (from_begin f has.key has.known updates) has.within.0 has.within.1 near now end
                (rejoins f has.key has.known updates has_kept has.number has.lines now end goes) can.state over_link last ends
                (subst (λ k. IsFree f k m.history) (follow-key (place_known f has.key has.known) has.number has.lines false) free) (subst IsUndisturbed is calm))
          ]

  -- all that is said of it
  module _ (f0 f2 s0 s2 : ℕ) (told : last.told ≡ end.outside.told) (kept : last.kept ≡ end.outside.kept) (line : EndsLine end.stop end.outside.written last.written status f0 f2 s0 s2) where
    ends : Ends end last
    ends = Ends-line end last status f0 f2 s0 s2 told kept line

    pub has_gone_on_so : HasGoneOn f bytes now last status f0 f2 s0 s2
    has_gone_on_so = record {
      end = end;
      goes_on = goes_on;
      told = told;
      kept = kept;
      line = line;
      status_is = is;
      unsent = stops_unsent;
      recorded = if_told (λ payloads. IsRecordedAfter f payloads now end) recorded_so;
      simulated = if_told (λ payloads. SendsSimulatedFrom f payloads now end) simulated_so;
      honest = λ can free. honest_after can told free;
      left = λ can free. left_after can told free;
      headline = λ can free calm. headline_after can told ends free calm;
    }

-- The records of a whole history.

module _ (f : KeyedFn) (key : List ℕ) (es : Epochs) where
  -- what they tell of it
  abbrev pub recorded_as : Known
  recorded_as = known_of (mark_of f key) (as_recorded (mark_of f) es)

  -- it is its last epoch's updates
  pub known_whole : epochs_known recorded_as ≡ last_epoch (updates_of es)
  known_whole = last-recorded (mark_of f) es

  -- which take as many frames, and as many for the last command
  pub frames_whole : recorded_as.begins.frame + update_frames recorded_as.run ≡ frames_in (Some es)
  frames_whole = ap (λ (e : Epochs). frames_in (Some e)) known_whole ∙ count_last f key es

  hand_whole : frames_in_hand (Some (epochs_known recorded_as)) ≡ frames_in_hand (Some (updates_of es))
  hand_whole = ap (λ (e : Epochs). frames_in_hand (Some e)) known_whole

-- they open to it
pub opens_whole : (f : KeyedFn) → IsKeyedFn f → (key : List ℕ) (es : Epochs) → IsWhole (Some es) → IsKept (Some es) → MarksDiffer (mark_of f) key (Some es)
    → OpensUnder (mark_of f (key_now key es)) (records_in f key (Some es)) (recorded_as f key es)
opens_whole f laws key es whole kept differ = record {
  first = mark_of f key;
  es = as_recorded (mark_of f) es;
  opened = opens-records (mark_of f) (λ k. omega (arith, length-take 16 (f.prf k (7 ∷ [])), laws.prf_length k (7 ∷ []))) key (Some es) whole kept differ;
  last = key-recorded (mark_of f) key es;
  is = refl;
}

-- Behind a whole run.

-- Promise P147 (inside): Two undisturbed runs in a row, the second with `more`, are without the second greeting one session of one history, which the simulator makes.
--   assumes: observable devices, honest link, no collision, no device fault, enough memory, keyed function; not: A first run that was interrupted, a third session, a link that
--     isn't honest: P182. No call makes both runs. A first run over a journal that has records.
-- what a run left that nothing disturbed, over records of which there were none, is what one supposes that goes on under its last key
pub can_go_on : (f : KeyedFn) (laws : IsKeyedFn f) (start between state : ServerState) (script bytes key : List ℕ) (es : Epochs) (now last now' last' : Outside) (status number : ℕ) (lines : List (Option Line))
    → Headline f start (meaning (Some (mark_of f)) script) now last status between → (meaning (Some (mark_of f)) script).key ≡ Some key → (meaning (Some (mark_of f)) script).history ≡ Some es → now.kept.records ≡ Some [] → Expects 0 start
    → IsFree f (Some key) (Some es) → now'.kept.records ≡ last.kept.records → key_line 1 (script_lines bytes) ≡ Keyed (key_now key es) number lines → IsOverHonest f between now'.told last'.told state → CanGoOn f bytes now' last'
can_go_on f laws start between state script bytes key es now last now' last' status number lines headline key_is es_is none expects free same found honest =
    let m = meaning (Some (mark_of f)) script in
    let kept : IsKept (Some es) = subst IsKept es_is (meaning_is_kept (Some (mark_of f)) script).0 in
    let whole : IsWhole (Some es) = subst IsWhole es_is (meaning_is_whole (Some (mark_of f)) script) in
    let differ : MarksDiffer (mark_of f) key (Some es) = subst (MarksDiffer (mark_of f) key) es_is (meaning_differs (mark_of f) script key key_is) in
    let took = took_all f key es laws start between kept free (subst (λ (o : Offsets). Expects o.frame start) (sym whole) expects) (headline.stored ∙ (λ i. (steps f start (frames_with f (key_is i) (es_is i))).0)) in
    record {
      before = between;
      resumes = record {
        key = key_now key es;
        number = number;
        lines = lines;
        found = found;
        payloads = records_in f key (Some es);
        told = same ∙ ap (λ (k : Kept). k.records) headline.kept ∙ (λ i. option_map (λ told. told ++ records_with f (key_is i) (es_is i)) (none i));
        known = recorded_as f key es;
        opens = opens_whole f laws key es whole kept differ;
        next = frames_in (Some es);
        taken = subst (λ (e : Epochs). HasTaken f (key_now key es) e (frames_in (Some es)) between) (sym (known_whole f key es)) took.0;
        within = (omega (arith, frames_whole f key es), omega (arith, frames_whole f key es));
      };
      state = state;
      honest = honest;
    }

-- Behind any run.

-- Promise P167, also here
-- what a run left whose records were all taken, is what one supposes that goes on under its last key: whatever stopped it, over an honest link
pub can_resume : (f : KeyedFn) → IsKeyedFn f → (bytes key : List ℕ) (number : ℕ) (lines : List (Option Line)) (es : Epochs) (kept : Kept) (state : ServerState)
    → kept.records ≡ Some (records_in f key (Some es)) → IsWhole (Some es) → IsKept (Some es) → MarksDiffer (mark_of f) key (Some es) → IsFree f (Some key) (Some es) → LeavesServer f (Some key) (Some es) state
    → key_line 1 (script_lines bytes) ≡ Keyed (key_now key es) number lines → CanResume f bytes kept state
can_resume f laws bytes key number lines es kept state told whole is_kept differ free left found =
    let most = left.most in
    let count = frames_whole f key es in
    let hand = length-last_frames f (key_now key es) (recorded_as f key es).begins (recorded_as f key es).run in
    let alone = count_alone f key es in
    let had = left.taken.within in
    let low : first_of_last f (key_now key es) (recorded_as f key es).begins (recorded_as f key es).run ≤ left.next = omega (arith, most, count, hand, alone, hand_whole f key es) in
    record {
      key = key_now key es;
      number = number;
      lines = lines;
      found = found;
      payloads = records_in f key (Some es);
      told = told;
      known = recorded_as f key es;
      opens = opens_whole f laws key es whole is_kept differ;
      next = left.next;
      taken = subst (λ (e : Epochs). HasTaken f (key_now key es) e left.next state) (sym (known_whole f key es)) (leaves_last f laws key es is_kept free state left);
      within = (low, omega (arith, had, alone, count));
    }
