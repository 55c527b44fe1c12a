use Rattle.std.proofs.Common.{◌≡◌, inl, refl, ap}
use Rattle.std.specs.Prelude.{Err}
use Rattle.sse_journal.specs.JournalView.{IsJournalFrom}
use Rattle.vault_server.specs.VaultFaults.{of_start}
use Rattle.vault_server.specs.declared.vault_open_fault.VaultOpenFault.TheVariants as opens
use Rattle.vault_server.proofs.Starting.{so_far, only_first, no_error, place_told, no_record_told, synced_on, store_from, bad_from}
use Rattle.vault_server.proofs.Maybe.{for_some}
use Rattle.vault_server.proofs.Once.{no_bad_record_of, bad_record_once_of}
use Rattle.vault_server.proofs.server.VaultServer.start.Goals as goal

-- a start of the journal that was refused

pub returns-in-Err-clause-refuses : goal.returns-in-Err-clause-refuses
returns-in-Err-clause-refuses g c = record {
  no_journal = λ place same.
      let told : of_start c.in-Err.fault ≡ opens.NotAJournal place = cc in
      c.in-Err.ensures.no_journal place (ap Err (place_told c.in-Err.fault place told));
  no_journal_refused = so_far (g.D.Disk.content c.args.disk.now) _ _ c.in-Err.ensures.refused (λ bytes was place there. (
    refl,
    λ other same.
        let told : of_start c.in-Err.fault ≡ opens.NotAJournal other = cc in
        (was place there).1 other (ap Err (place_told c.in-Err.fault other told)),
  ));
  bad_record = λ number same.
      let told : of_start c.in-Err.fault ≡ opens.BadRecord number = cc in
      absurd (no_record_told c.in-Err.fault number told);
  bad_record_refused = for_some (g.D.Disk.content c.args.disk.now) _ (λ bytes number has. (
    refl,
    λ other same.
        let told : of_start c.in-Err.fault ≡ opens.BadRecord other = cc in
        absurd (no_record_told c.in-Err.fault other told),
  ));
  accepted = so_far (g.D.Disk.content c.args.disk.now) _ _ c.in-Err.ensures.accepted (λ bytes was frames are gives n. (
    λ same.
        let told : of_start c.in-Err.fault ≡ opens.NotAJournal n = cc in
        was _ gives n (ap Err (place_told c.in-Err.fault n told)),
    λ same.
        let told : of_start c.in-Err.fault ≡ opens.BadRecord n = cc in
        no_record_told c.in-Err.fault n told,
  ));
}

-- after a journal that was started

pub returns-in-Ok-replay-clause-any_moment : goal.returns-in-Ok-replay-clause-any_moment
returns-in-Ok-replay-clause-any_moment g c =
    inl (synced_on g.D.Disk.content g.D.Disk.images g.D.Disk.moment g.D.Disk.left_since c.args.disk.now c.start.new.disk c.replay.new.disk c.in-Ok.journal (only_first c.in-Ok.ensures.any_moment no_error) c.in-Ok.ensures.started c.replay.ensures.disk.quiet)

pub returns-in-Err-replay-clause-any_moment : goal.returns-in-Err-replay-clause-any_moment
returns-in-Err-replay-clause-any_moment g c =
    inl (synced_on g.D.Disk.content g.D.Disk.images g.D.Disk.moment g.D.Disk.left_since c.args.disk.now c.start.new.disk c.replay.new.disk c.in-Ok.journal (only_first c.in-Ok.ensures.any_moment no_error) c.in-Ok.ensures.started c.replay.ensures.disk.quiet)

pub returns-in-Ok-replay-clause-refuses : goal.returns-in-Ok-replay-clause-refuses
returns-in-Ok-replay-clause-refuses g c = record {
  no_journal = λ place same. cc;
  no_journal_refused = so_far (g.D.Disk.content c.args.disk.now) _ _ c.in-Ok.ensures.refused (λ bytes was place there. absurd (no_error (was place there).0));
  bad_record = λ number same. cc;
  bad_record_refused = so_far (g.D.Disk.content c.args.disk.now) (λ bytes. IsJournalFrom bytes c.in-Ok.journal (g.D.Disk.content c.start.new.disk) (g.D.Disk.images c.start.new.disk)) _ c.in-Ok.ensures.started (λ bytes from number has.
      let store = store_from bytes c.in-Ok.journal c.replay.new.vault (g.D.Disk.content c.start.new.disk) (g.D.Disk.content c.replay.new.disk) (g.D.Disk.images c.start.new.disk) (g.D.Disk.images c.replay.new.disk) from c.in-Ok-replay.ensures.replayed c.replay.ensures.disk.kept c.replay.ensures.disk.images_kept in
      absurd (no_bad_record_of bytes number store.frames has store.store_is.are_taken store.gives));
  accepted = for_some (g.D.Disk.content c.args.disk.now) _ (λ bytes frames are gives n. ((λ same. cc), (λ same. cc)));
}

pub returns-in-Err-replay-clause-refuses : goal.returns-in-Err-replay-clause-refuses
returns-in-Err-replay-clause-refuses g c = record {
  no_journal = λ place same. so_far (g.D.Disk.content c.args.disk.now) (λ bytes. IsJournalFrom bytes c.in-Ok.journal (g.D.Disk.content c.start.new.disk) (g.D.Disk.images c.start.new.disk)) _ c.in-Ok.ensures.started (λ bytes from.
      let told : c.in-Err-replay.fault ≡ opens.NotAJournal place = cc in
      absurd (c.in-Err-replay.ensures.never place (ap Err told) from.payloads from.journal));
  no_journal_refused = so_far (g.D.Disk.content c.args.disk.now) _ _ c.in-Ok.ensures.refused (λ bytes was place there. absurd (no_error (was place there).0));
  bad_record = λ number same. so_far (g.D.Disk.content c.args.disk.now) (λ bytes. IsJournalFrom bytes c.in-Ok.journal (g.D.Disk.content c.start.new.disk) (g.D.Disk.images c.start.new.disk)) _ c.in-Ok.ensures.started (λ bytes from.
      let told : c.in-Err-replay.fault ≡ opens.BadRecord number = cc in
      bad_from bytes c.in-Ok.journal number (g.D.Disk.content c.start.new.disk) (g.D.Disk.images c.start.new.disk) from (c.in-Err-replay.ensures.bad number (ap Err told)));
  bad_record_refused = so_far (g.D.Disk.content c.args.disk.now) (λ bytes. IsJournalFrom bytes c.in-Ok.journal (g.D.Disk.content c.start.new.disk) (g.D.Disk.images c.start.new.disk)) _ c.in-Ok.ensures.started (λ bytes from number has. (
    refl,
    λ other same.
        let told : c.in-Err-replay.fault ≡ opens.BadRecord other = cc in
        bad_record_once_of bytes other number (bad_from bytes c.in-Ok.journal other (g.D.Disk.content c.start.new.disk) (g.D.Disk.images c.start.new.disk) from (c.in-Err-replay.ensures.bad other (ap Err told))) has,
  ));
  accepted = so_far (g.D.Disk.content c.args.disk.now) (λ bytes. IsJournalFrom bytes c.in-Ok.journal (g.D.Disk.content c.start.new.disk) (g.D.Disk.images c.start.new.disk)) _ c.in-Ok.ensures.started (λ bytes from frames are gives n. (
    λ same.
        let told : c.in-Err-replay.fault ≡ opens.NotAJournal n = cc in
        c.in-Err-replay.ensures.never n (ap Err told) from.payloads from.journal,
    λ same.
        let told : c.in-Err-replay.fault ≡ opens.BadRecord n = cc in
        no_bad_record_of bytes n frames (bad_from bytes c.in-Ok.journal n (g.D.Disk.content c.start.new.disk) (g.D.Disk.images c.start.new.disk) from (c.in-Err-replay.ensures.bad n (ap Err told))) are gives,
  ));
}
