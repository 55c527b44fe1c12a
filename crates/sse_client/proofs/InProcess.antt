-- A run over a store and a client's file that were made for it, in memory and empty.
use Rattle.std.proofs.Common.{◌≡◌, ◌≢◌, inl, inr, ℕ, List, [], ◌∷◌, ◌++◌, drop, Option, None, Some, refl, sym, ap, subst, ◌∙◌, arith}
use Rattle.std.specs.Prelude.{IfSome}
use Rattle.std.proofs.lemmas.List.Elements.{All-nil}
use Rattle.keyed_fn.specs.KeyFormulas.{mark_of}
use Rattle.keyed_fn.specs.KeyedFn.{KeyedFn, IsKeyedFn}
use Rattle.def_link_events.specs.Events.{Event}
use Rattle.def_link_events.specs.Served.{IsHonest}
use Rattle.def_link_events.specs.Taken.{updates_among}
use Rattle.def_script_meaning.specs.Carries.{Outside}
use Rattle.def_script_meaning.specs.Headline.{IsOverHonest}
use Rattle.def_script_meaning.specs.Meaning.{meaning}
use Rattle.def_script_meaning.specs.Runs.{ended}
use Rattle.def_script_meaning.specs.Session.{frames_of}
use Rattle.def_script_meaning.specs.Stops as ends
use Rattle.outside_memory_disk.specs.SteadyDisk.{file_of}
use Rattle.outside_memory_disk.specs.declared.steady_disk.SteadyDisk.{SteadyDisk}
use Rattle.script_run_texts.specs.Stops.{journal_cause, journal_status}
use Rattle.script_run_texts.specs.declared.journal_stop.JournalStop.{JournalStop}
use Rattle.script_run_texts.specs.declared.journal_stop.JournalStop.TheVariants as journals
use Rattle.server_core.specs.State.{at_first}
use Rattle.sse_frames.specs.Frames.{FrameText}
use Rattle.sse_journal.proofs.Once.{gives_once}
use Rattle.sse_journal.specs.Files.{Gives, IsPayload, file, front}
use Rattle.sse_link.specs.LinkStates.{LinkState, link_state_on}
use Rattle.sse_outside.specs.Fronts.{TookOrRose}
use Rattle.sse_outside.specs.Kept.{Kept}
use Rattle.sse_script.specs.Shown.{NoMemory}
use Rattle.sse_script.specs.TextLines.{lines_left}
use Rattle.sse_server.specs.StoreView.{StoreView, IsStoreFrom}
use Rattle.sse_server.specs.Taken.{bodies, taken_all}
use Rattle.sse_client.proofs.EmptyFile.{is_journal}
use Rattle.sse_client.proofs.LastLine.{ends_line}
use Rattle.sse_client.proofs.NoRecord.{none_or_memory}
use Rattle.sse_client.proofs.OverServer.{fresh_expects, over_honest}
use Rattle.sse_client.proofs.WholeRun.{is_run, opens_memory}
use Rattle.sse_client.specs.InProcess.{HasNoJournal, PrintsAsMeant, RunsInProcess, unused}
use Rattle.sse_client.specs.LastLine.{EndsLine}
use Rattle.sse_client.specs.NoRecord.{IsRefusedMore}
use Rattle.client_journal.specs.DiskRuns.{IsNotBegun, kept_on}
use Rattle.sse_client.specs.OverStore.{BeginsOnBothSides, BeginsOverStore, HasStoredUpdates, LeavesStore, seen_over}
use Rattle.sse_client.specs.Stands.{outside_of, seen}
use Rattle.client_journal.specs.Shows.{SinkShows}
use Rattle.sse_client.specs.WholeRuns.{IsRun}

pub inside : {A : Type 0} (a b : A) → Some a ≡ Some b → a ≡ b
inside a b e = cc

-- The store's start, and its file.

no_frames : (frames : List FrameText) → bodies frames ≡ [] → frames ≡ []
no_frames [] none = refl
no_frames (frame ∷ frames) none = absurd (cc)

-- an empty file gives no record
nothing : Gives [] []
nothing = inl (omega arith, refl)

-- nor does one that is known to be empty
pub nothing_in : (bytes : List ℕ) → bytes ≡ [] → Gives [] bytes
nothing_in bytes empty = subst (Gives []) (sym empty) nothing

-- a store that was started on an empty file has taken nothing, and its file is the journal of no record
pub started_unused : (store : StoreView) (bytes : List ℕ) (content : Option (List ℕ)) (images : List ℕ → Type 0) → bytes ≡ [] → IsStoreFrom bytes store content images → link_state_on store.state content ≡ unused
started_unused store bytes content images empty from =
    let none : from.frames ≡ [] = no_frames from.frames (gives_once (bodies from.frames) [] [] (subst (Gives (bodies from.frames)) empty from.gives) nothing) in
    ap (λ s. link_state_on s content) (from.store_is.state_is ∙ ap (taken_all at_first) none)
    ∙ ap (link_state_on at_first) (from.store_is.journal_is.settled.reads ∙ ap (λ fs. Some (file (bodies fs))) none)

abbrev first : List ℕ → ℕ
first [] = 0
first (a ∷ l) = a

-- the journal of no record is that of no others
no_records : (payloads : List (List ℕ)) → file [] ≡ file payloads → payloads ≡ []
unfolding front
no_records [] same = refl
no_records (payload ∷ payloads) same = let e : 0 ≡ 1 = ap (λ l. first (drop 8 l)) same in absurd (omega (arith, e))

-- so what such a store's file has is the updates among the frames alone
stored_alone : (frames : List FrameText) (new : LinkState) → HasStoredUpdates frames unused new → new.file ≡ Some (file (bodies (updates_among frames)))
stored_alone frames new has =
    let was = (has (tt, ([], All-nil IsPayload, refl))).1 in
    was.2 ∙ ap (λ ps. Some (file (ps ++ bodies (updates_among frames)))) (no_records was.0 (inside (file []) (file was.0) was.1))

-- The run.

module _ (f : KeyedFn) (laws : IsKeyedFn f) (sink sink' : SinkShows) (status : ℕ) where
  -- with its journal begun
  begun : (bytes : List ℕ) (old new : LinkState) (own own' : List ℕ) (kept : Kept) → old ≡ unused → own ≡ [] → IsHonest f at_first new.events new.state
      → IsRun f bytes (seen_over old own sink.written) (outside_of (seen (Some new.events) kept) sink'.written) sink sink' status → status ≢ 5
      → (status ≢ 3 → status ≢ 4 → status ≢ 7 → BeginsOnBothSides f bytes old new own own' sink.written sink'.written status) → RunsInProcess f bytes sink sink' status
  begun bytes old new own own' kept fresh empty honest has link both =
      let last : Outside = outside_of (seen (Some new.events) kept) sink'.written in
      let run : IsRun f bytes (seen_over unused [] sink.written) last sink sink' status =
      subst (λ o. IsRun f bytes (seen_over unused o sink.written) last sink sink' status) empty (subst (λ t. IsRun f bytes (seen_over t own sink.written) last sink sink' status) fresh has) in
      let over : IsOverHonest f at_first (Some []) (Some new.events) new.state = over_honest f [] new.events new.state refl honest in
      record {
        link = new;
        kept = kept;
        own = own';
        honest = honest;
        run = record {
          run = run;
          stopped = run.honest at_first new.state fresh_expects over;
          headline = λ source sound disk memory free. run.headline at_first new.state fresh_expects over free (record { source = source; sink = sound; link = link; disk = disk; memory = memory });
        };
        both = λ source sound memory free.
            let sides : BeginsOnBothSides f bytes unused new [] own' sink.written sink'.written status =
            subst (λ o. BeginsOnBothSides f bytes unused new o own' sink.written sink'.written status) empty (subst (λ t. BeginsOnBothSides f bytes t new own own' sink.written sink'.written status) fresh (both source sound memory)) in
            let done = sides nothing fresh_expects free in
            record { headline = done.headline; own_file = done.own_file; stored = stored_alone (frames_of f (meaning (Some (mark_of f)) bytes)) new done.stored };
      }

  -- out of memory before anything was read
  out_of_memory : (bytes : List ℕ) → status ≡ 7 → EndsLine (ends.At NoMemory) sink.written sink'.written status sink.faults sink'.faults sink.shortages sink'.shortages → RunsInProcess f bytes sink sink' status
  out_of_memory bytes is line =
      let now : Outside = seen_over unused [] sink.written in
      let opened = opens_memory f (lines_left [] (Some bytes)) now in
      let run : IsRun f bytes now (outside_of (seen (Some []) (kept_on (Some []))) sink'.written) sink sink' status =
      is_run f laws bytes now (outside_of (seen (Some []) (kept_on (Some []))) sink'.written) sink sink' status (ended now opened.0 opened.1 (ends.At NoMemory)) opened.2 refl refl line is in
      record {
        link = unused;
        kept = kept_on (Some []);
        own = [];
        honest = (refl, inl refl);
        run = record { run = run; stopped = λ free. omega (arith, is); headline = λ source sound disk memory free. absurd (memory is) };
        both = λ source sound memory free. absurd (memory is);
      }

  -- the same where its last line was taken, or a front of it as a count of the sink rose
  pub memory-run : (remaining : Option (List ℕ)) → status ≡ 7 → TookOrRose sink.written sink'.written (ends.stop_text (ends.At NoMemory)) sink.faults sink'.faults sink.shortages sink'.shortages
      → IfSome remaining (λ bytes. RunsInProcess f bytes sink sink' status)
  memory-run None is took = tt
  memory-run (Some bytes) is took =
      out_of_memory bytes is (ends_line (ends.At NoMemory) sink.written sink'.written status sink.faults sink.faults sink'.faults sink.shortages sink.shortages sink'.shortages is took (λ other. refl) (omega arith))

  -- a journal that isn't begun in an empty file
  not_begun : (bytes own : List ℕ) (stop : JournalStop) → Gives [] own → IsNotBegun stop own → status ≡ journal_status stop → status ≢ 6
      → EndsLine (ends.At (journal_cause stop)) sink.written sink'.written status sink.faults sink'.faults sink.shortages sink'.shortages → RunsInProcess f bytes sink sink' status
  not_begun bytes own journals.HasRecords none why is disk line = absurd (why.some (gives_once why.payloads [] own why.gives none))
  not_begun bytes own journals.NoJournal none why is disk line = absurd (is_journal own none why)
  not_begun bytes own (journals.BadRecord number) none why is disk line = absurd why
  not_begun bytes own journals.WrongKey none why is disk line = absurd why
  not_begun bytes own journals.Disk none why is disk line = absurd (disk is)
  not_begun bytes own journals.Memory none why is disk line = out_of_memory bytes is line

  -- either
  pub run_of_store : (remaining : Option (List ℕ)) (old new : LinkState) (own own' : SteadyDisk) → old ≡ unused → file_of own ≡ [] → BeginsOverStore f remaining old new own own' sink sink' status → LeavesStore f remaining old new
      → status ≢ 5 → status ≢ 6 → IfSome remaining (λ bytes. RunsInProcess f bytes sink sink' status)
  run_of_store None old new own own' fresh empty begins leaves link disk = tt
  run_of_store (Some bytes) old new own own' fresh empty begins leaves link disk = elim begins.on_disk.begun [
    | inl was ↦ not_begun bytes (file_of own) was.0.stop (nothing_in (file_of own) empty) was.0.why was.0.status_is disk was.0.line
    | inr keeps ↦
        let honest : IsHonest f at_first new.events new.state = subst (λ s. IsHonest f s new.events new.state) (leaves.began.0 ∙ ap (λ (t : LinkState). t.began) fresh) leaves.honest in
        begun bytes old new (file_of own) (file_of own') keeps.kept fresh empty honest keeps.has link begins.both
  ]

-- The run that is to go on.

-- it finds no journal
pub has_no_journal : {S : Type 0} (source source' : S) (told told' : Option (List Event)) (own : List ℕ) (content' : Option (List ℕ)) (sink sink' : SinkShows) (status : ℕ) → IsRefusedMore source source' told told' (Some own) content' sink sink' status
    → status ≢ 6 → HasNoJournal source source' sink sink' status
has_no_journal source source' told told' own content' sink sink' status refused disk =
    let was = refused.unopened in
    record {
      unread = refused.unread;
      stop = was.stop;
      why = none_or_memory was.stop own was.why (λ e. disk (was.status_is ∙ e));
      status_is = was.status_is;
      line = was.line;
    }

-- or there was no memory before that
pub memory-more : {S : Type 0} (source : S) (sink sink' : SinkShows) (status : ℕ) → status ≡ 7 → TookOrRose sink.written sink'.written (ends.stop_text (ends.At NoMemory)) sink.faults sink'.faults sink.shortages sink'.shortages
    → HasNoJournal source source sink sink' status
memory-more source sink sink' status is took = record {
  unread = refl;
  stop = journals.Memory;
  why = inr refl;
  status_is = is;
  line = ends_line (ends.At NoMemory) sink.written sink'.written status sink.faults sink.faults sink'.faults sink.shortages sink.shortages sink'.shortages is took (λ other. refl) (omega arith);
}

-- What is printed.

-- where no device and no want of memory stopped such a run, it printed what its script means
pub prints_as_meant : (f : KeyedFn) (bytes : List ℕ) (sink sink' : SinkShows) (status : ℕ) → status ≢ 3 → status ≢ 4 → status ≢ 7 → RunsInProcess f bytes sink sink' status → PrintsAsMeant f bytes sink.written sink'.written status
prints_as_meant f bytes sink sink' status source sound memory p = λ free.
    let done = (p.both source sound memory free).headline in record { status_is = done.status_is; q = done.q; printed = done.printed }
