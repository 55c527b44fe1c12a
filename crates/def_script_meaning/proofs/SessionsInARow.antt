-- The simulator makes all that sessions in a row send, of the leakage of their one history: by induction over the sessions.
use Rattle.std.proofs.Common.{◌≡◌, ℕ, inl, inr, List, [], ◌∷◌, ◌++◌, map, take, Some, refl, sym, ap, ◌∙◌, subst, append_assoc}
use Rattle.std.specs.Prelude.{flat_map, option_map}
use Rattle.std.proofs.lemmas.List.{append-nil, append_cancel_left, map-append}
use Rattle.client_registry.proofs.HistoryLaws.{IsFirstOf-same, IsFirstOf-trans, IsKept-first}
use Rattle.client_registry.specs.Epochs.{key_now}
use Rattle.client_registry.specs.Histories.{IsFirstOf, IsKept, IsWhole}
use Rattle.client_registry.specs.Run.{Epochs}
use Rattle.keyed_fn.specs.KeyedFn.{KeyedFn}
use Rattle.sse_frames.specs.Exchange.{Passed, sent_among}
use Rattle.sse_frames.specs.Frames.{Hello, frame_bytes}
use Rattle.sse_model.proofs.HistoryLaws.{frames_sent-first}
use Rattle.def_script_meaning.specs.Carries.{Outside}
use Rattle.def_script_meaning.specs.Headline.{SendsSimulated}
use Rattle.def_script_meaning.specs.Joined.{updates_of}
use Rattle.def_script_meaning.specs.Recorded.{records_in}
use Rattle.def_script_meaning.specs.Rejoins.{IsRecordedBehind}
use Rattle.def_script_meaning.specs.Runs.{Ended}
use Rattle.def_script_meaning.specs.Session.{session_with, simulated_with}
use Rattle.def_script_meaning.specs.SessionsInARow.{AreInARow, AreSimulated, Begins, HaveParts, ResumesAfter, Session, joined, with_session}
use Rattle.def_script_meaning.specs.SimulatedAfter.{HasUpdates}
use Rattle.def_script_meaning.specs.Since.{last_epoch, records_since}
use Rattle.def_script_meaning.proofs.GoneAsMeant.{front_more}
use Rattle.def_script_meaning.proofs.Sent.{frames_with_hello}
use Rattle.def_script_meaning.proofs.Simulated.{frames_among, session_with-simulated}
use Rattle.def_script_meaning.proofs.SimulatedAfter.{own_passed, sends_parts, sends_recorded, session_with-since}
use Rattle.def_script_meaning.proofs.SinceLaws.{begins-since, first-since, records_in-since, since}
use Rattle.def_script_meaning.proofs.UpdatesAlone.{frames_before}
use Rattle.sse_outside.specs.Kept.{Kept}

-- the joined history begins with the first one
first_joined : (earlier : Epochs) (sessions : List Session) → IsFirstOf (Some earlier) (Some (joined earlier sessions))
first_joined earlier [] = IsFirstOf-same (Some earlier)
first_joined earlier (s ∷ later) = IsFirstOf-trans (Some earlier) (Some (with_session earlier s)) (Some (joined (with_session earlier s) later)) (first-since earlier s.more) (first_joined (with_session earlier s) later)

module _ (f : KeyedFn) (key : List ℕ) where
  abbrev passed : Epochs → List Passed
  passed es = session_with f (Some key) (Some es)

  -- The first run.

  begins_simulated : (first : Epochs) (now last : Outside) → IsKept (Some first) → Begins f key first now last → SendsSimulated f (Some key) (Some first) now.told last.told
  begins_simulated first now last kept b =
      let r = b.recorded in
      let part = map frame_bytes (sent_among (session_with f (Some key) r.held)) in
      let rest = frames_sent-first f key r.held (Some first) b.least in
      let all : map frame_bytes (sent_among (passed first)) ≡ part ++ map frame_bytes rest.0 =
      ap (map frame_bytes) (sym (frames_among f (Some key) (Some first)) ∙ ap (λ fs. Hello ∷ fs) rest.1)
      ∙ map-append frame_bytes (frames_with_hello f (Some key) r.held) rest.0
      ∙ ap (λ fs. map frame_bytes fs ++ map frame_bytes rest.0) (frames_among f (Some key) r.held) in
      let front = front_more r.count part (map frame_bytes rest.0) in
      record {
        events = r.events;
        adds = r.adds;
        passed = passed first;
        made = session_with-simulated f (Some key) (Some first) b.whole kept;
        n = front.0;
        sent = r.sent ∙ sym front.1 ∙ ap (take front.0) (sym all);
      }

  -- The sessions after it.

  -- each of which knows the updates of the last epoch before it
  has_known : (earlier : Epochs) → IsWhole (Some earlier) → IsKept (Some earlier) → HasUpdates (key_now key earlier) (last_epoch (updates_of earlier)) key earlier
  has_known earlier whole kept = record { whole = whole; kept = kept; same_key = refl; same = refl }

  have_parts : (earlier : Epochs) (sessions : List Session) → IsWhole (Some earlier) → IsKept (Some (joined earlier sessions)) → AreInARow f key earlier sessions → (parts : List (List Passed)) × HaveParts f key earlier (passed earlier) sessions parts
  have_parts earlier [] whole kept row = ([], tt)
  have_parts earlier (s ∷ later) whole kept row =
      let next = with_session earlier s in
      let whole_next : IsWhole (Some next) = begins-since earlier s.more ∙ whole in
      let kept_next : IsKept (Some next) = IsKept-first (Some next) (Some (joined next later)) (first_joined next later) kept in
      let both : passed next ≡ passed earlier ++ own_passed f key earlier s.more = session_with-since f key earlier s.more in
      let rest = have_parts next later whole_next kept row.1 in
      let has = has_known earlier whole (IsKept-first (Some earlier) (Some next) (first-since earlier s.more) kept_next) in
      let own = key_now key earlier in
      let known = last_epoch (updates_of earlier) in
      let before = frames_before f key own earlier known has in (
        own_passed f key earlier s.more ∷ rest.0,
        (
          session_with-simulated f (Some key) (Some next) whole_next kept_next ∙ ap Some both,
          sends_parts f key earlier s.more own known has s.now.told s.end.outside.told (sends_recorded f own known s.now s.end row.0.recorded before.0 before.2 s.more row.0.least),
          subst (λ before. HaveParts f key next before later rest.0) both rest.1,
        ),
      )

  -- of the last history the simulator makes all parts, one after the other
  all_made : (earlier : Epochs) (before : List Passed) (sessions : List Session) (parts : List (List Passed)) → simulated_with f (Some key) (Some earlier) ≡ Some before → HaveParts f key earlier before sessions parts
      → simulated_with f (Some key) (Some (joined earlier sessions)) ≡ Some (before ++ flat_map (λ part. part) parts)
  all_made earlier before [] [] made have = made ∙ ap Some (sym (append-nil before))
  all_made earlier before [] (part ∷ parts) made have = absurd have
  all_made earlier before (s ∷ later) [] made have = absurd have
  all_made earlier before (s ∷ later) (part ∷ parts) made have =
      all_made (with_session earlier s) (before ++ part) later parts have.0 have.2 ∙ ap Some (append_assoc before part (flat_map (λ part. part) parts))

  -- Promise P182, also here
  -- of any number of sessions, each of them interrupted or not, over any links, and whichever of them renew the key
  pub sessions_are_simulated : (first : Epochs) (now last : Outside) (sessions : List Session) → IsKept (Some (joined first sessions)) → Begins f key first now last → AreInARow f key first sessions → AreSimulated f key first now last sessions
  sessions_are_simulated first now last sessions kept begins row =
      let begun : IsKept (Some first) = IsKept-first (Some first) (Some (joined first sessions)) (first_joined first sessions) kept in
      let opened = session_with-simulated f (Some key) (Some first) begins.whole begun in
      let have = have_parts first sessions begins.whole kept row in
      record {
        begun = begins_simulated first now last begun begins;
        opening = passed first;
        opened = opened;
        parts = have.0;
        each = have.1;
        made = all_made first (passed first) sessions have.0 opened have.1;
      }

-- Sessions come in a row by their records.

-- a session that began with the records of earlier epochs resumed after the updates of the last of them, and left the records of these epochs with its own
-- steps: so the next session can begin with these
pub row_goes_on : (f : KeyedFn) (key : List ℕ) (earlier : Epochs) (now : Outside) (end : Ended) → now.kept.records ≡ Some (records_in f key (Some earlier)) → IsRecordedBehind f (key_now key earlier) (last_epoch (updates_of earlier)) now end
    → (s : Session) × ResumesAfter f (key_now key earlier) (last_epoch (updates_of earlier)) s × (s.now ≡ now) × (s.end ≡ end) × (end.outside.kept.records ≡ Some (records_in f key (Some (with_session earlier s))))
row_goes_on f key earlier now end told r =
    let own = key_now key earlier in
    let known = last_epoch (updates_of earlier) in
    let later = since known r.held r.since in
    let taken : r.taken ≡ records_since f later.0 =
    append_cancel_left (records_in f own (Some known)) r.taken (records_since f later.0) (sym r.taken_are ∙ ap (records_in f own) later.1 ∙ records_in-since f own known later.0) in
    let kept : end.outside.kept.records ≡ option_map (λ all. all ++ r.taken) now.kept.records = elim r.kept [
      | inl taken ↦ ap (λ (k : Kept). k.records) taken
      | inr refused ↦ ap (λ (k : Kept). k.records) refused.kept
    ] in (
      record { more = later.0; now = now; end = end },
      record { recorded = r; least = subst (IsFirstOf r.held) later.1 (IsFirstOf-same r.held); most = subst (λ h. IsFirstOf h end.history) later.1 r.first },
      refl,
      refl,
      kept
          ∙ ap (option_map (λ all. all ++ r.taken)) told
          ∙ ap (λ records. Some (records_in f key (Some earlier) ++ records)) taken
          ∙ ap Some (sym (records_in-since f key earlier later.0)),
    )
