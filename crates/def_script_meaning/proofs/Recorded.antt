-- The records that are kept of a run and the frames that it sends are of one history: by induction over the lines that are left.
use Rattle.std.proofs.Common.{◌≡◌, ◌≢◌, ◌⊎◌, ℕ, suc, ◌+◌, ◌≤◌, inl, inr, true, false, Bool, ◌||◌, List, [], ◌∷◌, ◌++◌, length, map, take, drop, Some, None, refl, sym, ap, ◌∙◌, subst, arith, append_assoc, length-append}
use Rattle.std.specs.Prelude.{filter, Option}
use Rattle.std.proofs.Math.Seq.{take-add, take-append-add, take-length}
use Rattle.std.proofs.lemmas.List.{append-nil, map-append, take-map}
use Rattle.client_records.proofs.RecordedLaws as recorded_laws
use Rattle.client_records.specs.Records.{renewal_record, update_record}
use Rattle.client_registry.proofs.HistoryLaws.{IsFirstOf-same, IsFirstOf-trans}
use Rattle.client_registry.specs.Command.{Command, is_update}
use Rattle.client_registry.specs.Histories.{empty, is_set_up, longer, renewed, IsFirstOf}
use Rattle.client_registry.specs.Run.{History}
use Rattle.keyed_fn.specs.KeyFormulas.{mark_of}
use Rattle.keyed_fn.specs.KeyedFn.{KeyedFn}
use Rattle.def_link_events.specs.Events.{Event}
use Rattle.sse_frames.specs.Exchange.{sent_among}
use Rattle.sse_frames.specs.Frames.{FrameText, Hello, frame_bytes}
use Rattle.sse_model.specs.Histories.{frames_sent}
use Rattle.sse_outside.specs.Kept.{Kept, with_records, with_refused}
use Rattle.sse_script.specs.Shown.{Cause}
use Rattle.bool_search.specs.Fields.{words_of}
use Rattle.def_script_meaning.proofs.QueryLaws.{no_updates}
use Rattle.def_script_meaning.specs.Carries.{Keeps, Outside, frames_by, records_by, Carries, FindsClash, LacksMemory, IsUnkept, IsCutShort, IsUnprinted}
use Rattle.def_script_meaning.specs.Exchange.{Adds, AreExchanged, AreCut, sent_in}
use Rattle.def_script_meaning.specs.Lines.{Line, Empty, Key, Command as CommandLine, Request}
use Rattle.def_script_meaning.specs.Outcome.{Place, Outcome, opened, outcome, after, is_refusal}
use Rattle.def_script_meaning.specs.Recorded.{records_in, IsRecorded, KeepsFirst}
use Rattle.def_script_meaning.specs.Runs.{Ended, ended, StopsReading, Stops, Runs, Opens, IsTurnedAway, IsGreeted}
use Rattle.def_script_meaning.specs.Session.{session_with}
use Rattle.def_script_meaning.specs.Stops.{Stop, status_of}
use Rattle.def_script_meaning.proofs.FollowedPlaces.{first-next, frames-next, after-key}
use Rattle.def_script_meaning.proofs.GoneAsMeant.{Adds-nothing, Adds-joined, Keeps-nothing, Keeps-joined}
use Rattle.def_script_meaning.proofs.Outcomes.{by_cases}
use Rattle.def_script_meaning.proofs.RunGoes.{clash_status}
use Rattle.def_script_meaning.proofs.Sent.{sent_in-append, sent_in-bare, sent_in-exchange, sent_in-cut, sent_in-turned, frames_with_hello}
use Rattle.def_script_meaning.proofs.Simulated.{frames_among}

-- What one line adds.

pub records-longer : (f : KeyedFn) (key : List ℕ) (h : History) (commands : List Command) → is_set_up h ≡ true
    → records_in f key (longer commands h) ≡ records_in f key h ++ map update_record (filter is_update commands)
records-longer f key h commands up = recorded_laws.records-longer (mark_of f) key h commands up

-- those after a renewal are those before it, and then its own
pub records-renewed : (f : KeyedFn) (key own : List ℕ) (h : History) → is_set_up h ≡ true → records_in f key (renewed own h) ≡ records_in f key h ++ renewal_record (mark_of f own) ∷ []
records-renewed f key own None up = absurd (cc)
records-renewed f key own (Some es) up = refl

module _ (f : KeyedFn) (place : Place) (line : Request) where
  abbrev result : Outcome
  result = outcome place line

  -- at most one record
  few-records : length (records_by f place result) ≤ 1
  few-records = by_cases place line (λ r. length (records_by f place r) ≤ 1) (record {
    refuses = λ refusal. omega arith;
    collects = λ id words is none e. omega arith;
    sets_up = λ b big pad none e. omega arith;
    adds = λ id words is up e. omega arith;
    deletes = λ id is up e. omega arith;
    finds = λ word up e. omega arith;
    queries = λ fields up e. omega (arith, ap (λ updates. length (map update_record updates)) (no_updates (words_of fields)));
    renews = λ key up e. omega arith;
  })

  -- the records after a line are those before it, and then its own
  records-next : records_in f place.key (after result place).history ≡ records_in f place.key place.history ++ records_by f place result
  records-next = by_cases place line (λ r. records_in f place.key (after r place).history ≡ records_in f place.key place.history ++ records_by f place r) (record {
    refuses = λ refusal. sym (append-nil (records_in f place.key place.history));
    collects = λ id words is none e. sym (append-nil (records_in f place.key place.history));
    sets_up = λ b big pad none e. before place.history none _;
    adds = λ id words is up e. records-longer f place.key place.history _ up;
    deletes = λ id is up e. records-longer f place.key place.history _ up;
    finds = λ word up e. records-longer f place.key place.history _ up;
    queries = λ fields up e. records-longer f place.key place.history _ up;
    renews = λ key up e. records-renewed f place.key key place.history up;
  })
    where
      before : (h : History) → is_set_up h ≡ false → (records : List (List ℕ)) → records ≡ records_in f place.key h ++ records
      before None none records = refl
      before (Some es) none records = absurd (cc)

-- Records that are taken behind others.

KeepsFirst-behind : (before all taken : List (List ℕ)) (status : ℕ) (old between new : Kept) → Keeps old between before → KeepsFirst all taken status between new → KeepsFirst (before ++ all) (before ++ taken) status old new
KeepsFirst-behind before all taken status old between new first (inl kept) = inl (Keeps-joined old between new before taken first kept)
KeepsFirst-behind before all taken status old between new first (inr r) = inr (record {
  refused = r.refused;
  kept = r.kept ∙ ap (with_refused r.refused) (Keeps-joined old between (with_records taken between) before taken first refl);
  last = ap (λ records. before ++ records) r.last ∙ sym (append_assoc before taken r.refused);
  status_is = r.status_is;
})

-- where the disk didn't fail and memory wasn't wanting, none was refused
pub KeepsFirst-all : (all taken : List (List ℕ)) (status : ℕ) (old new : Kept) → status ≢ 6 → status ≢ 7 → KeepsFirst all taken status old new → Keeps old new taken
KeepsFirst-all all taken status old new disk memory (inl kept) = kept
KeepsFirst-all all taken status old new disk memory (inr r) = absurd (elim r.status_is [ inl is ↦ disk is | inr is ↦ memory is ])

-- What was sent of frames that were exchanged, or cut.

pub sent_in-exchanged : (answers : List (List ℕ)) (frames : List FrameText) (events : List Event) → AreExchanged answers frames events → sent_in events ≡ map frame_bytes frames
sent_in-exchanged answers frames events e = sym (sent_in-bare events) ∙ ap sent_in e.each ∙ sent_in-exchange answers frames

pub sent_in-cut_short : (frames : List FrameText) (events : List Event) (cause : Cause) → AreCut frames events cause → (k : ℕ) × (sent_in events ≡ map frame_bytes (take k frames))
sent_in-cut_short frames events cause c =
    let last = sent_in-cut (drop c.n frames) c.cut cause c.one_more in (
      c.n + last.0,
      ap sent_in c.parts
          ∙ sent_in-append c.before c.cut
          ∙ (λ i. sent_in-exchanged c.answers (take c.n frames) c.before c.exchanged i ++ last.1 i)
          ∙ sym (map-append frame_bytes (take c.n frames) (take last.0 (drop c.n frames)))
          ∙ ap (map frame_bytes) (sym (take-add c.n last.0 frames)),
    )

-- what is kept of a run since a moment after a history, and what it sent: those of a history after it
pub record KeptSince (f : KeyedFn) (key : List ℕ) (h : History) (now : Outside) (end : Ended) : Type 0 where
  pub same_key : end.key ≡ Some key
  pub held : History
  pub since : IsFirstOf h held
  pub first : IsFirstOf held end.history
  pub records : List (List ℕ)
  pub are : records_in f key held ≡ records_in f key h ++ records
  pub all : List (List ℕ)
  pub all_are : records_in f key end.history ≡ records_in f key h ++ all
  pub kept : KeepsFirst all records (status_of end.stop) now.kept end.outside.kept
  pub most : length (records_in f key end.history) ≤ length (records_in f key held) + 1
  pub more : List FrameText
  pub frames : frames_sent f key held ≡ frames_sent f key h ++ more
  pub events : List Event
  pub adds : Adds now.told end.outside.told events
  pub count : ℕ
  pub sent : sent_in events ≡ map frame_bytes (take count more)
  pub whole : status_of end.stop ≢ 6 → status_of end.stop ≢ 7 → status_of end.stop ≢ 8 → held ≡ end.history

module _ (f : KeyedFn) where
  -- A run that stops between two lines.

  since-here : (key : List ℕ) (h : History) (now : Outside) (stop : Stop) (end : Ended) → end ≡ ended now (Some key) h stop → KeptSince f key h now end
  since-here key h now stop end same = subst (KeptSince f key h now) (sym same) (record {
    same_key = refl;
    held = h;
    since = IsFirstOf-same h;
    first = IsFirstOf-same h;
    records = [];
    are = sym (append-nil (records_in f key h));
    all = [];
    all_are = sym (append-nil (records_in f key h));
    kept = inl (Keeps-nothing now.kept);
    most = omega arith;
    more = [];
    frames = sym (append-nil (frames_sent f key h));
    events = [];
    adds = Adds-nothing now.told;
    count = 0;
    sent = refl;
    whole = λ disk memory clash. refl;
  })

  since-reading : (key : List ℕ) (h : History) (now : Outside) (end : Ended) → StopsReading now (Some key) h end → KeptSince f key h now end
  since-reading key h now end (inl e) = since-here key h now _ end e
  since-reading key h now end (inr e) = since-here key h now _ end e

  module _ (place : Place) (line : Request) (now : Outside) (end : Ended) where
    abbrev came : Outcome
    came = outcome place line

    -- A run that stops in a line.

    module _ (s : Stops f place came now end) where
      -- nothing was sent of it, and its records weren't taken
      without : end.outside.told ≡ now.told → KeepsFirst (records_by f place came) [] (status_of end.stop) now.kept end.outside.kept → (status_of end.stop ≡ 6) ⊎ (status_of end.stop ≡ 7) ⊎ (status_of end.stop ≡ 8) → KeptSince f place.key place.history now end
      without told kept status = record {
        same_key = s.key;
        held = place.history;
        since = IsFirstOf-same place.history;
        first = subst (IsFirstOf place.history) (sym s.history) (first-next place line);
        records = [];
        are = sym (append-nil (records_in f place.key place.history));
        all = records_by f place came;
        all_are = ap (records_in f place.key) s.history ∙ records-next f place line;
        kept = kept;
        most = omega (
          arith,
          few-records f place line,
          ap length (ap (records_in f place.key) s.history ∙ records-next f place line),
          length-append (records_in f place.key place.history) (records_by f place came),
        );
        more = [];
        frames = sym (append-nil (frames_sent f place.key place.history));
        events = [];
        adds = told ∙ Adds-nothing now.told;
        count = 0;
        sent = refl;
        whole = λ disk memory clash. absurd (elim status [ inl e ↦ disk e | inr (inl e) ↦ memory e | inr (inr e) ↦ clash e ]);
      }

      -- its records were taken, and of its frames a front was sent
      within : (events : List Event) → Adds now.told end.outside.told events → (k : ℕ) × (sent_in events ≡ map frame_bytes (take k (frames_by f place came)))
          → Keeps now.kept end.outside.kept (records_by f place came) → KeptSince f place.key place.history now end
      within events adds sent kept = record {
        same_key = s.key;
        held = end.history;
        since = subst (IsFirstOf place.history) (sym s.history) (first-next place line);
        first = IsFirstOf-same end.history;
        records = records_by f place came;
        are = ap (records_in f place.key) s.history ∙ records-next f place line;
        all = records_by f place came;
        all_are = ap (records_in f place.key) s.history ∙ records-next f place line;
        kept = inl kept;
        most = omega arith;
        more = frames_by f place came;
        frames = ap (frames_sent f place.key) s.history ∙ frames-next place line f;
        events = events;
        adds = adds;
        count = sent.0;
        sent = sent.1;
        whole = λ disk memory clash. refl;
      }

      -- nothing was handed over
      unkept : end.outside.kept ≡ now.kept → KeepsFirst (records_by f place came) [] (status_of end.stop) now.kept end.outside.kept
      unkept same = inl (same ∙ Keeps-nothing now.kept)

      since-clash : FindsClash f place came now end.outside end.stop → KeptSince f place.key place.history now end
      since-clash c = without (ap (λ (o : Outside). o.told) c.nothing) (unkept (ap (λ (o : Outside). o.kept) c.nothing)) (inr (inr (ap status_of c.stops ∙ clash_status _ c.cause c.found)))

      since-memory : LacksMemory now end.outside end.stop → KeptSince f place.key place.history now end
      since-memory c = without (ap (λ (o : Outside). o.told) c.nothing) (unkept (ap (λ (o : Outside). o.kept) c.nothing)) (inr (inl (ap status_of c.stops)))

      since-unkept : IsUnkept f place came now end.outside end.stop → KeptSince f place.key place.history now end
      since-unkept u = without u.unsent (elim u.kept [
        | inl same ↦ unkept same
        | inr refused ↦ inr (record {
          refused = records_by f place came;
          kept = refused ∙ ap (with_refused (records_by f place came)) (Keeps-nothing now.kept);
          last = refl;
          status_is = elim u.stops [ inl disk ↦ inl (ap status_of disk) | inr memory ↦ inr (ap status_of memory) ];
        })
      ]) (elim u.stops [ inl disk ↦ inl (ap status_of disk) | inr memory ↦ inr (inl (ap status_of memory)) ])

      since-cut : IsCutShort f place came now end.outside end.stop → KeptSince f place.key place.history now end
      since-cut c = within c.events c.adds (sent_in-cut_short (frames_by f place came) c.events c.cause c.cut) c.kept

      since-unprinted : IsUnprinted f place came now end.outside end.stop → KeptSince f place.key place.history now end
      since-unprinted u = within u.sent.events u.sent.adds (all (frames_by f place came) u.sent.events (sent_in-exchanged u.answers (frames_by f place came) u.sent.events u.sent.exchanged)) u.kept
        where
          all : (frames : List FrameText) (events : List Event) → sent_in events ≡ map frame_bytes frames → (k : ℕ) × (sent_in events ≡ map frame_bytes (take k frames))
          all frames events e = (length frames, e ∙ ap (map frame_bytes) (sym (take-length frames)))

      since-stopped : KeptSince f place.key place.history now end
      since-stopped = elim s.within [
        | inl (inl c) ↦ since-clash c
        | inl (inr (inl c)) ↦ since-memory c
        | inl (inr (inr (inl u))) ↦ since-unkept u
        | inl (inr (inr (inr c))) ↦ since-cut c
        | inr u ↦ since-unprinted u
      ]

    -- A line that is carried out.

    since-carried : (next : Outside) → Carries f place came now next → KeptSince f (after came place).key (after came place).history next end → KeptSince f place.key place.history now end
    since-carried next c later =
        let w : KeptSince f place.key (after came place).history next end = subst (λ k. KeptSince f k (after came place).history next end) (after-key came place) later in
        record {
          same_key = w.same_key;
          held = w.held;
          since = IsFirstOf-trans place.history (after came place).history w.held (first-next place line) w.since;
          first = w.first;
          records = records_by f place came ++ w.records;
          are =
              w.are
              ∙ ap (λ records. records ++ w.records) (records-next f place line)
              ∙ append_assoc (records_in f place.key place.history) (records_by f place came) w.records;
          all = records_by f place came ++ w.all;
          all_are =
              w.all_are
              ∙ ap (λ records. records ++ w.all) (records-next f place line)
              ∙ append_assoc (records_in f place.key place.history) (records_by f place came) w.all;
          kept = KeepsFirst-behind (records_by f place came) w.all w.records (status_of end.stop) now.kept next.kept end.outside.kept c.kept w.kept;
          most = w.most;
          more = frames_by f place came ++ w.more;
          frames =
              w.frames
              ∙ ap (λ fs. fs ++ w.more) (frames-next place line f)
              ∙ append_assoc (frames_sent f place.key place.history) (frames_by f place came) w.more;
          events = c.sent.events ++ w.events;
          adds = Adds-joined now.told next.told end.outside.told c.sent.events w.events c.sent.adds w.adds;
          count = length (frames_by f place came) + w.count;
          sent =
              sent_in-append c.sent.events w.events
              ∙ (λ i. sent_in-exchanged c.answers (frames_by f place came) c.sent.events c.sent.exchanged i ++ w.sent i)
              ∙ sym (map-append frame_bytes (frames_by f place came) (take w.count w.more))
              ∙ ap (map frame_bytes) (sym (take-append-add (frames_by f place came) w.more w.count));
          whole = w.whole;
        }

  -- All lines.

  pub kept_since : (place : Place) (number : ℕ) (lines : List (Option Line)) (refused : Bool) (now : Outside) (end : Ended) → Runs f place number lines refused now end → KeptSince f place.key place.history now end
  kept_since place number [] refused now end (inl e) = since-here place.key place.history now _ end e
  kept_since place number [] refused now end (inr reading) = since-reading place.key place.history now end reading
  kept_since place number (None ∷ lines) refused now end (inl e) = since-here place.key place.history now _ end e
  kept_since place number (None ∷ lines) refused now end (inr reading) = since-reading place.key place.history now end reading
  kept_since place number (Some Empty ∷ lines) refused now end (inl reading) = since-reading place.key place.history now end reading
  kept_since place number (Some Empty ∷ lines) refused now end (inr runs) = kept_since place (number + 1) lines refused now end runs
  kept_since place number (Some (Key key) ∷ lines) refused now end (inl e) = since-here place.key place.history now _ end e
  kept_since place number (Some (Key key) ∷ lines) refused now end (inr reading) = since-reading place.key place.history now end reading
  kept_since place number (Some (CommandLine line) ∷ lines) refused now end (inl reading) = since-reading place.key place.history now end reading
  kept_since place number (Some (CommandLine line) ∷ lines) refused now end (inr (inl stops)) = since-stopped place line now end stops
  kept_since place number (Some (CommandLine line) ∷ lines) refused now end (inr (inr (next, carries, runs))) =
      let result = outcome place line in
      since-carried place line now end next carries (kept_since (after result place) (number + 1) lines (refused || is_refusal result) next end runs)

  -- From before the key line.

  recorded-here : (now : Outside) (stop : Stop) (end : Ended) → end ≡ ended now None empty stop → IsRecorded f end.key end.history (status_of end.stop) now end.outside
  recorded-here now stop end same = subst (λ (e : Ended). IsRecorded f e.key e.history (status_of e.stop) now e.outside) (sym same) (record {
    held = empty;
    first = tt;
    most = omega arith;
    kept = inl (Keeps-nothing now.kept);
    events = [];
    adds = Adds-nothing now.told;
    count = 0;
    sent = refl;
    whole = λ disk memory clash. refl;
  })

  recorded-reading : (now : Outside) (end : Ended) → StopsReading now None empty end → IsRecorded f end.key end.history (status_of end.stop) now end.outside
  recorded-reading now end (inl e) = recorded-here now _ end e
  recorded-reading now end (inr e) = recorded-here now _ end e

  -- the first of its frames, Hello first, as what a session sends
  first_sent : (key : List ℕ) (h : History) (events : List Event) (n : ℕ) → sent_in events ≡ map frame_bytes (take n (frames_with_hello f (Some key) h))
      → sent_in events ≡ take n (map frame_bytes (sent_among (session_with f (Some key) h)))
  first_sent key h events n e =
      e
      ∙ sym (take-map frame_bytes n (frames_with_hello f (Some key) h))
      ∙ ap (λ frames. take n (map frame_bytes frames)) (frames_among f (Some key) h)

  recorded-away : (key : List ℕ) (now : Outside) (end : Ended) → IsTurnedAway 0 0 key empty now end → IsRecorded f end.key end.history (status_of end.stop) now end.outside
  recorded-away key now end away =
      let turned = sent_in-turned 0 0 away.away.events away.cause away.away.turned in
      subst (λ k. IsRecorded f k end.history (status_of end.stop) now end.outside) (sym away.same_key)
      (subst (λ h. IsRecorded f (Some key) h (status_of end.stop) now end.outside) (sym away.history)
      (record {
        held = empty;
        first = tt;
        most = omega arith;
        kept = inl (away.unkept ∙ Keeps-nothing now.kept);
        events = away.away.events;
        adds = away.away.adds;
        count = turned.0;
        sent = first_sent key empty away.away.events turned.0 turned.1;
        whole = λ disk memory clash. refl;
      }))

  recorded-greeted : (key : List ℕ) (number : ℕ) (lines : List (Option Line)) (now next : Outside) (end : Ended) → IsGreeted 0 0 now next → Runs f (opened (Some (mark_of f)) key) number lines false next end
      → IsRecorded f end.key end.history (status_of end.stop) now end.outside
  recorded-greeted key number lines now next end greeted runs =
      let w = kept_since (opened (Some (mark_of f)) key) number lines false next end runs in
      subst (λ k. IsRecorded f k end.history (status_of end.stop) now end.outside) (sym w.same_key)
      (record {
        held = w.held;
        first = w.first;
        most = w.most;
        kept = subst (λ all. KeepsFirst all (records_in f key w.held) (status_of end.stop) now.kept end.outside.kept) (sym w.all_are)
            (subst (λ taken. KeepsFirst w.all taken (status_of end.stop) now.kept end.outside.kept) (sym w.are) (subst (λ kept. KeepsFirst w.all w.records (status_of end.stop) kept end.outside.kept) greeted.unkept w.kept));
        events = greeted.greets.events ++ w.events;
        adds = Adds-joined now.told next.told end.outside.told greeted.greets.events w.events greeted.greets.adds w.adds;
        count = suc w.count;
        sent = first_sent key w.held (greeted.greets.events ++ w.events) (suc w.count)
            (sent_in-append greeted.greets.events w.events
            ∙ (λ i. (sym (sent_in-bare greeted.greets.events) ∙ ap sent_in greeted.greets.each) i ++ w.sent i)
            ∙ ap (λ frames. map frame_bytes (Hello ∷ take w.count frames)) (sym w.frames));
        whole = w.whole;
      })

  pub recorded : (number : ℕ) (lines : List (Option Line)) (now : Outside) (end : Ended) → Opens f number lines now end → IsRecorded f end.key end.history (status_of end.stop) now end.outside
  recorded number [] now end (inl e) = recorded-here now _ end e
  recorded number [] now end (inr reading) = recorded-reading now end reading
  recorded number (None ∷ lines) now end (inl e) = recorded-here now _ end e
  recorded number (None ∷ lines) now end (inr reading) = recorded-reading now end reading
  recorded number (Some (CommandLine line) ∷ lines) now end (inl e) = recorded-here now _ end e
  recorded number (Some (CommandLine line) ∷ lines) now end (inr reading) = recorded-reading now end reading
  recorded number (Some Empty ∷ lines) now end (inl reading) = recorded-reading now end reading
  recorded number (Some Empty ∷ lines) now end (inr opens) = recorded (number + 1) lines now end opens
  recorded number (Some (Key key) ∷ lines) now end (inl reading) = recorded-reading now end reading
  recorded number (Some (Key key) ∷ lines) now end (inr (inl away)) = recorded-away key now end away
  recorded number (Some (Key key) ∷ lines) now end (inr (inr (next, greeted, runs))) = recorded-greeted key (number + 1) lines now next end greeted runs
