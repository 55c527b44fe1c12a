use Rattle.std.proofs.Common.{◌≡◌, inl, ℕ, List, refl, ap}
use Rattle.std.specs.Prelude.{Err}
use Rattle.sse_frames.specs.Frames.{FrameText}
use Rattle.sse_journal.specs.JournalView.{IsJournalFrom}
use Rattle.sse_journal.specs.declared.start_fault.StartFault.TheVariants.{NotAJournal}
use Rattle.sse_server.specs.Faults.{of_start}
use Rattle.sse_server.specs.declared.open_fault.OpenFault.TheVariants as opens
use Rattle.sse_server.proofs.StartedStore.{so_far, only_first, no_error, place_told, no_record_told, synced_on, store_from, bad_from}
use Rattle.sse_server.proofs.AnswerLaws.{for_some}
use Rattle.sse_server.proofs.Once.{no_bad_record_of, bad_record_once_of}
use Rattle.sse_server.proofs.store.Store.start.Goals as goal

-- a start of the journal that was refused

pub returns-in-Err-clause-no_journal : goal.returns-in-Err-clause-no_journal
returns-in-Err-clause-no_journal g c place same =
    let told : of_start c.in-Err.fault ≡ opens.NotAJournal place = cc in
    c.in-Err.ensures.no_journal place (ap Err (place_told c.in-Err.fault place told))

pub returns-in-Err-clause-no_journal_refused : goal.returns-in-Err-clause-no_journal_refused
returns-in-Err-clause-no_journal_refused g c =
    so_far (g.D.Disk.content c.args.disk.now) _ _ c.in-Err.ensures.refused (λ bytes was place there. (
      refl,
      λ other same.
          let told : of_start c.in-Err.fault ≡ opens.NotAJournal other = cc in
          (was place there).1 other (ap Err (place_told c.in-Err.fault other told)),
    ))

pub returns-in-Err-clause-bad_record_refused : goal.returns-in-Err-clause-bad_record_refused
returns-in-Err-clause-bad_record_refused g c =
    for_some (g.D.Disk.content c.args.disk.now) _ (λ bytes number has. (
      refl,
      λ other same.
          let told : of_start c.in-Err.fault ≡ opens.BadRecord other = cc in
          absurd (no_record_told c.in-Err.fault other told),
    ))

pub returns-in-Err-clause-accepted : goal.returns-in-Err-clause-accepted
returns-in-Err-clause-accepted g c =
    so_far (g.D.Disk.content c.args.disk.now) _ _ c.in-Err.ensures.accepted (λ bytes was frames are gives n. (
      λ same.
          let told : of_start c.in-Err.fault ≡ opens.NotAJournal n = cc in
          was _ gives n (ap Err (place_told c.in-Err.fault n told)),
      λ same.
          let told : of_start c.in-Err.fault ≡ opens.BadRecord n = cc in
          no_record_told c.in-Err.fault n told,
    ))

-- after a journal that was started

pub returns-in-Ok-replay-clause-any_moment : goal.returns-in-Ok-replay-clause-any_moment
returns-in-Ok-replay-clause-any_moment g c =
    inl (synced_on g.D.Disk.content g.D.Disk.images g.D.Disk.moment g.D.Disk.left_since c.args.disk.now c.start.new.disk c.replay.new.disk c.in-Ok.journal (only_first c.in-Ok.ensures.any_moment no_error) c.in-Ok.ensures.started c.replay.ensures.quiet)

pub returns-in-Err-replay-clause-any_moment : goal.returns-in-Err-replay-clause-any_moment
returns-in-Err-replay-clause-any_moment g c =
    inl (synced_on g.D.Disk.content g.D.Disk.images g.D.Disk.moment g.D.Disk.left_since c.args.disk.now c.start.new.disk c.replay.new.disk c.in-Ok.journal (only_first c.in-Ok.ensures.any_moment no_error) c.in-Ok.ensures.started c.replay.ensures.quiet)

pub returns-in-Ok-replay-clause-no_journal_refused : goal.returns-in-Ok-replay-clause-no_journal_refused
returns-in-Ok-replay-clause-no_journal_refused g c =
    so_far (g.D.Disk.content c.args.disk.now) _ _ c.in-Ok.ensures.refused (λ bytes was place there. absurd (no_error (was place there).0))

pub returns-in-Err-replay-clause-no_journal_refused : goal.returns-in-Err-replay-clause-no_journal_refused
returns-in-Err-replay-clause-no_journal_refused g c =
    so_far (g.D.Disk.content c.args.disk.now) _ _ c.in-Ok.ensures.refused (λ bytes was place there. absurd (no_error (was place there).0))

pub returns-in-Ok-replay-clause-bad_record_refused : goal.returns-in-Ok-replay-clause-bad_record_refused
returns-in-Ok-replay-clause-bad_record_refused g c =
    so_far (g.D.Disk.content c.args.disk.now) (λ bytes. IsJournalFrom bytes c.in-Ok.journal (g.D.Disk.content c.start.new.disk) (g.D.Disk.images c.start.new.disk)) _ c.in-Ok.ensures.started (λ bytes from number has.
    let store = store_from bytes c.in-Ok.journal c.replay.new.server.state (g.D.Disk.content c.start.new.disk) (g.D.Disk.content c.replay.new.disk) (g.D.Disk.images c.start.new.disk) (g.D.Disk.images c.replay.new.disk) from c.in-Ok-replay.ensures.replayed c.replay.ensures.kept c.replay.ensures.images_kept in
    absurd (no_bad_record_of bytes number store.frames has store.store_is.are_taken store.gives))

pub returns-in-Err-replay-clause-bad_record_refused : goal.returns-in-Err-replay-clause-bad_record_refused
returns-in-Err-replay-clause-bad_record_refused g c =
    so_far (g.D.Disk.content c.args.disk.now) (λ bytes. IsJournalFrom bytes c.in-Ok.journal (g.D.Disk.content c.start.new.disk) (g.D.Disk.images c.start.new.disk)) _ c.in-Ok.ensures.started (λ bytes from number has. (
      refl,
      λ other same.
          let told : c.in-Err-replay.fault ≡ opens.BadRecord other = cc in
          bad_record_once_of bytes other number (bad_from bytes c.in-Ok.journal other (g.D.Disk.content c.start.new.disk) (g.D.Disk.images c.start.new.disk) from (c.in-Err-replay.ensures.bad other (ap Err told))) has,
    ))

pub returns-in-Err-replay-clause-accepted : goal.returns-in-Err-replay-clause-accepted
returns-in-Err-replay-clause-accepted g c =
    so_far (g.D.Disk.content c.args.disk.now) (λ bytes. IsJournalFrom bytes c.in-Ok.journal (g.D.Disk.content c.start.new.disk) (g.D.Disk.images c.start.new.disk)) _ c.in-Ok.ensures.started (λ bytes from frames are gives n. (
      λ same.
          let told : c.in-Err-replay.fault ≡ opens.NotAJournal n = cc in
          c.in-Err-replay.ensures.never n (ap Err told) from.payloads from.journal,
      λ same.
          let told : c.in-Err-replay.fault ≡ opens.BadRecord n = cc in
          no_bad_record_of bytes n frames (bad_from bytes c.in-Ok.journal n (g.D.Disk.content c.start.new.disk) (g.D.Disk.images c.start.new.disk) from (c.in-Err-replay.ensures.bad n (ap Err told))) are gives,
    ))
