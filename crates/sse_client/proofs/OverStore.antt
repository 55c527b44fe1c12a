-- A run over a link to a store, from and to a client's disk in memory: what it did is on both sides.
use Rattle.std.proofs.Common.{◌≡◌, ◌⊎◌, inl, inr, ℕ, ◌-◌, false, List, [], ◌++◌, drop, map, Option, None, Some, refl, sym, ap, ◌∙◌, subst, append_assoc}
use Rattle.std.specs.Prelude.{IfSome}
use Rattle.std.proofs.lemmas.List.{append-nil, append_cancel_left, map-append}
use Rattle.client_registry.specs.Histories.{IsKept}
use Rattle.keyed_fn.specs.KeyFormulas.{mark_of}
use Rattle.keyed_fn.specs.KeyedFn.{KeyedFn, IsKeyedFn}
use Rattle.def_link_events.proofs.Taken.{frames_sent, frames_taken-updates}
use Rattle.def_link_events.specs.Events.{Event, AreKnown, AreStepped}
use Rattle.def_link_events.specs.Served.{IsServed, idle}
use Rattle.def_link_events.specs.Taken.{AreSent, frames_taken, updates_among}
use Rattle.script_run_texts.specs.Stops.{journal_status}
use Rattle.script_run_texts.specs.declared.journal_stop.JournalStop.{JournalStop}
use Rattle.script_run_texts.specs.declared.journal_stop.JournalStop.TheVariants as journals
use Rattle.def_script_meaning.proofs.FollowedPlaces.{follow-key}
use Rattle.def_script_meaning.proofs.Whole.{meaning_is_whole}
use Rattle.def_script_meaning.proofs.Stepped.{AreSent-append, AreStepped-append, AreKnown-behind, AreTaken, frames_taken-append, rejoined_taken, session_taken, stepped_state}
use Rattle.def_script_meaning.proofs.Within.{meaning_is_kept}
use Rattle.def_script_meaning.specs.Carries.{Keeps, Outside}
use Rattle.def_script_meaning.specs.Exchange.{Adds, as_event, bare}
use Rattle.def_script_meaning.specs.Headline.{Headline, IsOverHonest, IsUndisturbed}
use Rattle.def_script_meaning.specs.Meaning.{meaning}
use Rattle.def_script_meaning.specs.Recorded.{records_with}
use Rattle.def_script_meaning.specs.Rejoins.{Rejoined, frames_under}
use Rattle.def_script_meaning.specs.Session.{IsFree, frames_of}
use Rattle.def_script_meaning.specs.Since.{records_since, shown_since}
use Rattle.server_core.specs.Step.{steps}
use Rattle.sse_frames.specs.Exchange.{exchange, greeting}
use Rattle.sse_frames.specs.Frames.{FrameText, body_of}
use Rattle.sse_journal.proofs.FileRecords.{gives_records}
use Rattle.sse_journal.proofs.Once.{gives_once}
use Rattle.sse_journal.specs.FileRecords.{records_in_file}
use Rattle.sse_journal.specs.Files.{Gives, file}
use Rattle.sse_link.specs.Stored.{IsStored}
use Rattle.sse_link.specs.LinkStates.{LinkState, served}
use Rattle.sse_outside.specs.Kept.{Kept}
use Rattle.client_recorder.specs.KeepsOn.{LeavesKept}
use Rattle.sse_server.specs.Taken.{bodies}
use Rattle.sse_client.proofs.EmptyFile.{is_journal}
use Rattle.sse_client.proofs.FirstFrames.{AddsFrames, gone_on_adds, run_adds}
use Rattle.sse_client.proofs.LentLink.{remote, same_start, same_file, all_are, added_honest, lent-over}
use Rattle.sse_client.proofs.RunRejoins.{kept_behind, updates_behind}
use Rattle.sse_client.specs.CanGoOn.{meaning_after}
use Rattle.sse_client.specs.Known.{epochs_known, place_known}
use Rattle.client_journal.specs.DiskRuns.{IsExact, IsNotBegun, kept_on}
use Rattle.sse_client.specs.OnDisk.{HasGoneOn}
use Rattle.sse_client.specs.OverStore.{BeginsOnBothSides, GoesOnOnBothSides, HasStoredUpdates, seen_over}
use Rattle.sse_client.specs.Stands.{outside_of, seen}
use Rattle.client_journal.specs.Shows.{SinkShows}
use Rattle.sse_client.specs.WholeRuns.{IsRun}

inside : {A : Type 0} (a b : A) → Some a ≡ Some b → a ≡ b
inside a b e = cc

-- what is so of each value, where something is supposed by which some records are kept
pub supposing : {T A : Type 0} (o : Option T) {L : Kept → Type 0} {P : Kept → T → Type 0} (Q : T → Type 0) → (A → (kept : Kept) × L kept × IfSome o (P kept)) → ((x : T) (kept : Kept) → L kept → P kept x → A → Q x) → IfSome o (λ x. A → Q x)
supposing None Q has all = tt
supposing (Some x) Q has all = λ a. let h = has a in all x h.0 h.1 h.2 a

-- The client's file.

-- what was kept behind the records of a file, and which each crash at the end leaves whole, is what the file has then
kept_is : (own own' : List ℕ) (images : List ℕ → Type 0) (kept : Kept) (more : List (List ℕ)) → images own' → Keeps (kept_on (Some own)) kept more → LeavesKept kept images → kept ≡ kept_on (Some own')
kept_is own own' images kept more reads keeps leaves =
    let records = records_in_file own ++ more in
    let gives : Gives records own' = elim (subst (λ k. LeavesKept k images) keeps leaves own' reads) [ inl g ↦ g | inr g ↦ subst (λ all. Gives all own') (append-nil records) g ] in
    keeps ∙ ap (λ all. record { records = Some all; refused = [] }) (sym (gives_records records own' gives))

-- so a file that is exactly that of its records is that of all of them
exactly_kept : (own own' : List ℕ) (images : List ℕ → Type 0) (more : List (List ℕ)) → IsExact (Some own') images → Keeps (kept_on (Some own)) (kept_on (Some own')) more → own' ≡ file (records_in_file own ++ more)
exactly_kept own own' images more exact keeps = exact.are ∙ ap (λ records. file records) (inside (records_in_file own') (records_in_file own ++ more) (ap (λ (k : Kept). k.records) keeps))

-- a file without records stops no run but by its disk or for want of memory
pub unopened_status : (own : List ℕ) (stop : JournalStop) → Gives [] own → IsNotBegun stop own → (journal_status stop ≡ 6) ⊎ (journal_status stop ≡ 7)
unopened_status own journals.HasRecords none why = absurd (why.some (gives_once why.payloads [] own why.gives none))
unopened_status own journals.NoJournal none why = absurd (is_journal own none why)
unopened_status own journals.Disk none why = inl refl
unopened_status own journals.Memory none why = inr refl
unopened_status own (journals.BadRecord n) none why = absurd why
unopened_status own journals.WrongKey none why = absurd why

-- Over a link that was lent.

module _ (f : KeyedFn) (laws : IsKeyedFn f) (old new : LinkState) (remains : remote new ≡ remote old) (known : AreKnown old.events) (known_now : AreKnown new.events)
    (before : IsServed f (idle old.began) old.events (served old)) (after : IsServed f (idle new.began) new.events (served new)) (stored : IsStored f old) (stored_now : IsStored f new) where
  -- the store's file, with the updates among frames that were taken
  stored_updates : (adds : AddsFrames (Some old.events) (Some new.events)) (frames : List FrameText) → AreTaken old.state frames adds.events → HasStoredUpdates frames old new
  stored_updates adds frames taken was =
      let payloads = was.1.0 in
      let had = frames_sent f (idle old.began) (served old) old.events before in
      let began : new.began_file ≡ Some (file payloads) = same_file f old new remains known before after ∙ was.1.2 in
      let events : new.events ≡ old.events ++ adds.events = all_are f old new remains known before after adds in
      let all_sent : AreSent (had.0 ++ taken.all) new.events = subst (AreSent (had.0 ++ taken.all)) (sym events) (AreSent-append had.0 taken.all old.events adds.events had.1 taken.sent) in
      let all_stepped : AreStepped new.events = subst AreStepped (sym events) (AreStepped-append old.events adds.events was.0 taken.stepped) in
      let here : (steps f old.began had.0).0 ≡ old.state = sym (stepped_state f (idle old.began) (served old) had.0 old.events before had.1 was.0) in
      let updates : frames_taken f new.began (had.0 ++ taken.all) ≡ frames_taken f old.began had.0 ++ updates_among frames =
      ap (λ s. frames_taken f s (had.0 ++ taken.all)) (same_start f old new remains known before after)
      ∙ frames_taken-append f old.began had.0 taken.all
      ∙ ap (λ s. frames_taken f old.began had.0 ++ frames_taken f s taken.all) here
      ∙ ap (λ fs. frames_taken f old.began had.0 ++ fs) (frames_taken-updates f old.state taken.all taken.accepted ∙ taken.updates) in (
        (all_stepped, (payloads, was.1.1, began)),
        (
          payloads ++ bodies (frames_taken f old.began had.0),
          stored payloads had.0 was.1.1 was.1.2 had.1 was.0,
          stored_now payloads (had.0 ++ taken.all) was.1.1 began all_sent all_stepped
              ∙ ap (λ fs. Some (file (payloads ++ bodies fs))) updates
              ∙ ap (λ ps. Some (file (payloads ++ ps))) (map-append body_of (frames_taken f old.began had.0) (updates_among frames))
              ∙ ap (λ ps. Some (file ps)) (sym (append_assoc payloads (bodies (frames_taken f old.began had.0)) (bodies (updates_among frames)))),
        ),
      )

  -- what the run added
  module _ (adds : AddsFrames (Some old.events) (Some new.events)) where
    known_added : AreKnown adds.events
    known_added = AreKnown-behind old.events adds.events (subst AreKnown (all_are f old new remains known before after adds) known_now)

    -- it is one list, however it is told
    one_list : (events : List Event) → Adds (Some old.events) (Some new.events) events → events ≡ adds.events
    one_list events also = append_cancel_left old.events events adds.events (sym (inside new.events (old.events ++ events) also) ∙ all_are f old new remains known before after adds)

    pub over : IsOverHonest f old.state (Some old.events) (Some new.events) new.state
    over = lent-over f old new remains known before after adds

    served_added : IsServed f (idle old.state) adds.events (idle new.state)
    served_added = added_honest f old new remains known before after adds

  module _ (bytes own : List ℕ) (sink sink' : SinkShows) (status : ℕ) (kept : Kept) where
    abbrev now : Outside
    now = seen_over old own sink.written

    abbrev last : Kept → Outside
    last k = outside_of (seen (Some new.events) k) sink'.written

    pub begun_over : IsRun f bytes now (last kept) sink sink' status → IsOverHonest f old.state (Some old.events) (Some new.events) new.state
    begun_over has = over (run_adds f bytes now (last kept) sink sink' status has)

    pub gone_on_over : HasGoneOn f bytes now (last kept) status sink.faults sink'.faults sink.shortages sink'.shortages → IsOverHonest f old.state (Some old.events) (Some new.events) new.state
    gone_on_over has = over (gone_on_adds f bytes now (last kept) status sink.faults sink'.faults sink.shortages sink'.shortages has)

    module _ (own' : List ℕ) (images : List ℕ → Type 0) (reads : images own') where
      pub begins : LeavesKept kept images → IsExact (Some own') images → IsRun f bytes now (last kept) sink sink' status → IsUndisturbed status → BeginsOnBothSides f bytes old new own own' sink.written sink'.written status
      begins leaves exact has calm none expects free =
          let adds = run_adds f bytes now (last kept) sink sink' status has in
          let did : Headline f old.state (meaning (Some (mark_of f)) bytes) now (last kept) status new.state = has.headline old.state new.state expects (over adds) free calm in
          let all : Headline f old.state (meaning (Some (mark_of f)) bytes) now (last (kept_on (Some own'))) status new.state =
          subst (λ k. Headline f old.state (meaning (Some (mark_of f)) bytes) now (last k) status new.state) (kept_is own own' images kept _ reads did.kept leaves) did in
          record {
            headline = all;
            own_file =
                exactly_kept own own' images (records_with f (meaning (Some (mark_of f)) bytes).key (meaning (Some (mark_of f)) bytes).history) exact all.kept
                ∙ ap (λ records. file (records ++ records_with f (meaning (Some (mark_of f)) bytes).key (meaning (Some (mark_of f)) bytes).history)) (gives_records [] own none);
            stored =
                stored_updates adds (frames_of f (meaning (Some (mark_of f)) bytes))
                (session_taken f (idle old.state) adds.events (known_added adds) (idle new.state) (served_added adds) laws (meaning (Some (mark_of f)) bytes).key (meaning (Some (mark_of f)) bytes).history (meaning_is_whole (Some (mark_of f)) bytes) (meaning_is_kept (Some (mark_of f)) bytes).0 free expects
                (ap (map bare) (sym (one_list adds did.events did.adds)) ∙ did.session));
          }

      pub goes_on : LeavesKept kept images → IsExact (Some own') images → HasGoneOn f bytes now (last kept) status sink.faults sink'.faults sink.shortages sink'.shortages → IsUndisturbed status → GoesOnOnBothSides f bytes old new own own' sink.written sink'.written status
      goes_on leaves exact has calm some can free =
          let m = meaning_after f can.key can.known can.number can.lines in
          let adds = gone_on_adds f bytes now (last kept) status sink.faults sink'.faults sink.shortages sink'.shortages has in
          let did : Rejoined f can.taken.start can.key (epochs_known can.known) can.next m now (last kept) status new.state = has.headline (record { before = old.state; resumes = can; state = new.state; honest = over adds }) free calm in
          let rules : IsKept m.history = kept_behind f bytes (kept_on (Some own)) old.state can in
          let free_under : IsFree f (Some can.key) m.history = subst (λ k. IsFree f k m.history) (follow-key (place_known f can.key can.known) can.number can.lines false) free in
          let all : Rejoined f can.taken.start can.key (epochs_known can.known) can.next m now (last (kept_on (Some own'))) status new.state =
          subst (λ k. Rejoined f can.taken.start can.key (epochs_known can.known) can.next m now (last k) status new.state) (kept_is own own' images kept _ reads did.kept leaves) did in
          record {
            rejoined = all;
            own_file = exactly_kept own own' images (records_since f all.more) exact all.kept;
            stored =
                stored_updates adds (drop (can.next - can.known.begins.frame) (frames_under f can.key m.history))
                (subst (λ h. AreTaken old.state (drop (can.next - can.known.begins.frame) (frames_under f can.key h)) adds.events) (sym did.history)
                (rejoined_taken f (idle old.state) adds.events (known_added adds) (idle new.state) (served_added adds) laws can.key (epochs_known can.known) (updates_behind f bytes (kept_on (Some own)) old.state can) can.next can.taken did.more
                (subst IsKept did.history rules) (subst (λ h. IsFree f (Some can.key) h) did.history free_under)
                (ap (map bare) (sym (one_list adds did.events did.adds))
                ∙ did.passed
                ∙ ap (λ h. map as_event (greeting can.next ++ exchange (shown_since (epochs_known can.known) did.more) (drop (can.next - can.known.begins.frame) (frames_under f can.key h)))) did.history)));
          }
