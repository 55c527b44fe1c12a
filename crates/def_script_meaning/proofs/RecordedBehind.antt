-- The records that are kept of a run that goes on after a history and the frames that it sends are of one history after it.
use Rattle.std.proofs.Common.{◌≡◌, ℕ, suc, ◌+◌, ◌-◌, ◌<◌, ◌≤◌, inl, inr, false, List, [], ◌∷◌, ◌++◌, length, map, take, drop, Some, refl, sym, ap, ◌∙◌, subst, arith, length-append}
use Rattle.std.specs.Prelude.{Option}
use Rattle.std.proofs.Math.Seq.{take-append-add, take-length}
use Rattle.std.specs.List.{AllByRecursion}
use Rattle.std.proofs.lemmas.List.{append-nil, drop-append-le, length-map, length-take, map-append}
use Rattle.client_registry.proofs.HistoryLaws.{IsFirstOf-same, IsKept-first}
use Rattle.client_registry.specs.Epochs.{first_begins}
use Rattle.client_registry.specs.Histories.{IsFirstOf, IsKept}
use Rattle.client_registry.specs.Run.{Epochs}
use Rattle.keyed_fn.specs.KeyedFn.{KeyedFn}
use Rattle.def_link_events.specs.Events.{Event}
use Rattle.sse_frames.specs.Exchange.{greeting}
use Rattle.sse_frames.specs.Frames.{FrameText, Hello, frame_bytes}
use Rattle.def_script_meaning.specs.Carries.{Outside}
use Rattle.def_script_meaning.specs.Continues.{at_epochs}
use Rattle.def_script_meaning.specs.Exchange.{Told, Adds, as_event, bare, sent_in}
use Rattle.def_script_meaning.specs.Lines.{Line}
use Rattle.def_script_meaning.specs.Meaning.{follow}
use Rattle.def_script_meaning.specs.Recorded.{KeepsFirst, records_in}
use Rattle.def_script_meaning.specs.Rejoins.{HasCaughtUp, HasSent, IsRecordedBehind, Rejoins, StopsShort, StopsUntold, frames_under, lacking}
use Rattle.def_script_meaning.specs.Runs.{Ended, IsGreeted, IsTurnedAway, Runs}
use Rattle.def_script_meaning.specs.Stops.{status_of}
use Rattle.def_script_meaning.proofs.FollowedPlaces.{first-follow}
use Rattle.def_script_meaning.proofs.GoneAsMeant.{Adds-joined, Adds-nothing, Keeps-nothing, front_more}
use Rattle.def_script_meaning.proofs.Kept.{IsKeptAt, IsWithinItem, kept_follow}
use Rattle.def_script_meaning.proofs.RunGoes.{went}
use Rattle.def_script_meaning.proofs.Recorded.{KeptSince, kept_since, sent_in-cut_short, sent_in-exchanged}
use Rattle.def_script_meaning.proofs.Sent.{sent_in-append, sent_in-bare, sent_in-turned}

module _ (f : KeyedFn) (mark : List ℕ → List ℕ) (used : List (List ℕ)) (key : List ℕ) (es : Epochs) (low high number : ℕ) (lines : List (Option Line)) (now : Outside) (end : Ended) where
  abbrev own : List FrameText
  own = frames_under f key (Some es)

  -- where its first frame has its number
  abbrev first : ℕ
  first = (first_begins es).frame

  -- before any frame but Hello this server had replied that it expects the update of this number
  abbrev HasReplied : (next : ℕ) → List Event → Type 0
  HasReplied next events = 1 < length (sent_in events) → map bare (take 2 events) ≡ map as_event (greeting next)

  -- a run that took no record and sent the first of these
  none_taken : end.key ≡ Some key → end.history ≡ Some es → end.outside.kept ≡ now.kept → (next : ℕ) → first ≤ next → next ≤ first + length own → (events : List Event) → Adds now.told end.outside.told events
      → HasReplied next events → (count : ℕ) → sent_in events ≡ map frame_bytes (take count (Hello ∷ drop (next - first) own)) → IsRecordedBehind f key es now end
  none_taken same_key history unkept next from within events adds replied count sent = record {
    same_key = same_key;
    held = Some es;
    since = IsFirstOf-same (Some es);
    first = subst (λ h. IsFirstOf (Some es) h) (sym history) (IsFirstOf-same (Some es));
    taken = [];
    taken_are = sym (append-nil (records_in f key (Some es)));
    all = [];
    all_are = ap (records_in f key) history ∙ sym (append-nil (records_in f key (Some es)));
    kept = inl (unkept ∙ Keeps-nothing now.kept);
    most = omega arith;
    next = next;
    from = from;
    within = within;
    events = events;
    adds = adds;
    replied = replied;
    count = count;
    sent = sent;
    whole = λ disk memory clash. sym history;
  }

  away : IsTurnedAway low high key (Some es) now end → IsRecordedBehind f key es now end
  away a =
      let turned = sent_in-turned low high a.away.events a.cause a.away.turned in
      let more = front_more turned.0 (Hello ∷ []) (drop (first - first) own) in
      let alone : length (sent_in a.away.events) ≤ 1 =
      omega (arith, ap length turned.1, length-map (take turned.0 (Hello ∷ [])) frame_bytes, length-take turned.0 (Hello ∷ [])) in
      none_taken a.same_key a.history a.unkept first (omega arith) (omega arith) a.away.events a.away.adds (λ more. absurd (omega (arith, more, alone))) more.0 (turned.1 ∙ ap (map frame_bytes) (sym more.1))

  -- After the greeting, with a server that expects no number after those of the history's frames.

  module _ (few : high ≤ first + length own) (least : first ≤ low) (greeted : Outside) (g : IsGreeted low high now greeted) where
    abbrev next : ℕ
    next = g.greets.next

    abbrev from : first ≤ next
    from = omega (arith, least, g.greets.least)

    abbrev within : next ≤ first + length own
    within = omega (arith, few, g.greets.most)

    abbrev left : List FrameText
    left = lacking f key es next

    -- Hello, and then what was sent behind it
    behind : (events : List Event) (frames : List FrameText) → sent_in events ≡ map frame_bytes frames → sent_in (g.greets.events ++ events) ≡ map frame_bytes (Hello ∷ frames)
    behind events frames sent =
        sent_in-append g.greets.events events
        ∙ (λ i. (sym (sent_in-bare g.greets.events) ∙ ap sent_in g.greets.each) i ++ sent i)

    replied : (events : List Event) → HasReplied next (g.greets.events ++ events)
    replied events more = ap (map bare) (both g.greets.events g.greets.each) ∙ g.greets.each
      where
        both : (first : List Event) → map bare first ≡ map as_event (greeting next) → take 2 (first ++ events) ≡ first
        both [] e = absurd (cc)
        both (x ∷ []) e = absurd (cc)
        both (x ∷ y ∷ []) e = refl
        both (x ∷ y ∷ z ∷ first) e = absurd (cc)

    joined : (events : List Event) → Adds greeted.told end.outside.told events → Adds now.told end.outside.told (g.greets.events ++ events)
    joined events adds = Adds-joined now.told greeted.told end.outside.told g.greets.events events g.greets.adds adds

    -- so many of the frames that the server lacks
    lacking_sent : end.key ≡ Some key → end.history ≡ Some es → end.outside.kept ≡ now.kept → (events : List Event) → Adds greeted.told end.outside.told events
        → (count : ℕ) → sent_in events ≡ map frame_bytes (take count left) → IsRecordedBehind f key es now end
    lacking_sent same_key history unkept events adds count sent = none_taken same_key history unkept next from within (g.greets.events ++ events) (joined events adds) (replied events) (suc count) (behind events (take count left) sent)

    short : StopsShort f left key es greeted end → IsRecordedBehind f key es now end
    short s = elim s.short [
      | inl (events, adds, cut) ↦
          let sent = sent_in-cut_short left events s.cause cut in
          lacking_sent s.same_key s.history (s.unkept ∙ g.unkept) events adds sent.0 sent.1
      | inr (inl unsent) ↦ lacking_sent s.same_key s.history (s.unkept ∙ g.unkept) [] (unsent.0 ∙ Adds-nothing greeted.told) 0 refl
      | inr (inr (same, why, free)) ↦ lacking_sent s.same_key s.history (s.unkept ∙ g.unkept) [] (same ∙ Adds-nothing greeted.told) 0 refl
    ]

    -- all of them
    whole_sent : (old new : Told) (h : HasSent left old new) → sent_in h.events ≡ map frame_bytes left
    whole_sent old new h = sent_in-exchanged [] left h.events h.exchanged

    untold : StopsUntold left key es greeted end → IsRecordedBehind f key es now end
    untold u =
        lacking_sent u.same_key u.history (u.unkept ∙ g.unkept) u.sent.events u.sent.adds (length left)
        (whole_sent greeted.told end.outside.told u.sent ∙ ap (map frame_bytes) (sym (take-length left)))

    -- and the lines behind
    module _ (later : Outside) (caught : HasCaughtUp left greeted later) (runs : Runs f (at_epochs mark used key [] es) number lines false later end) where
      abbrev w : KeptSince f key (Some es) later end
      w = kept_since f (at_epochs mark used key [] es) number lines false later end runs

      frames_is : drop (next - first) (frames_under f key w.held) ≡ left ++ w.more
      frames_is = ap (drop (next - first)) w.frames ∙ drop-append-le (next - first) own w.more (omega (arith, from, within))

      went_on : IsRecordedBehind f key es now end
      went_on = record {
        same_key = w.same_key;
        held = w.held;
        since = w.since;
        first = w.first;
        taken = w.records;
        taken_are = w.are;
        all = w.all;
        all_are = w.all_are;
        kept = subst (λ kept. KeepsFirst w.all w.records (status_of end.stop) kept end.outside.kept) (caught.unkept ∙ g.unkept) w.kept;
        most = omega (arith, w.most, ap length w.are, ap length w.all_are, length-append (records_in f key (Some es)) w.records, length-append (records_in f key (Some es)) w.all);
        next = next;
        from = from;
        within = within;
        events = g.greets.events ++ (caught.sent.events ++ w.events);
        replied = replied (caught.sent.events ++ w.events);
        adds = joined (caught.sent.events ++ w.events) (Adds-joined greeted.told later.told end.outside.told caught.sent.events w.events caught.sent.adds w.adds);
        count = suc (length left + w.count);
        sent =
            behind (caught.sent.events ++ w.events) (take (length left + w.count) (left ++ w.more))
            (sent_in-append caught.sent.events w.events
            ∙ (λ i. whole_sent greeted.told later.told caught.sent i ++ w.sent i)
            ∙ sym (map-append frame_bytes left (take w.count w.more))
            ∙ ap (map frame_bytes) (sym (take-append-add left w.more w.count)))
            ∙ ap (λ frames. map frame_bytes (Hello ∷ take (length left + w.count) frames)) (sym frames_is);
        whole = w.whole;
      }

  pub recorded_behind : high ≤ first + length own → first ≤ low → Rejoins f low high mark used key es number lines now end → IsRecordedBehind f key es now end
  recorded_behind few least (inl a) = away a
  recorded_behind few least (inr (greeted, g, inl s)) = short few least greeted g s
  recorded_behind few least (inr (greeted, g, inr (inl u))) = untold few least greeted g u
  recorded_behind few least (inr (greeted, g, inr (inr (later, caught, runs)))) = went_on few least greeted g later caught runs

  -- the history up to its stop is the first part of what the lines mean
  pub rejoined_first : (n : ℕ) → AllByRecursion IsWithinItem lines → IsKeptAt n (at_epochs mark used key [] es) → Rejoins f low high mark used key es number lines now end
      → IsFirstOf end.history (follow (at_epochs mark used key [] es) number lines false).history
  rejoined_first n within_all kept goes = by goes
    where
      here : end.history ≡ Some es → IsFirstOf end.history (follow (at_epochs mark used key [] es) number lines false).history
      here history = subst (λ h. IsFirstOf h (follow (at_epochs mark used key [] es) number lines false).history) (sym history) (first-follow (at_epochs mark used key [] es) number lines false)

      by : Rejoins f low high mark used key es number lines now end → IsFirstOf end.history (follow (at_epochs mark used key [] es) number lines false).history
      by (inl a) = here a.history
      by (inr (greeted, g, inl s)) = here s.history
      by (inr (greeted, g, inr (inl u))) = here u.history
      by (inr (greeted, g, inr (inr (later, caught, runs)))) = (went f n (at_epochs mark used key [] es) number lines false later end within_all kept runs).history

  -- and keeps all limits
  pub rejoined_is_kept : (n : ℕ) → AllByRecursion IsWithinItem lines → IsKeptAt n (at_epochs mark used key [] es) → Rejoins f low high mark used key es number lines now end → IsKept end.history
  rejoined_is_kept n within_all kept goes =
      IsKept-first end.history (follow (at_epochs mark used key [] es) number lines false).history (rejoined_first n within_all kept goes) (kept_follow n (at_epochs mark used key [] es) number lines false within_all kept).0
