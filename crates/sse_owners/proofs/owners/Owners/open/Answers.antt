use Rattle.std.proofs.Common.{◌≡◌, inl, refl, sym, ap, subst, rules}
use Rattle.std.specs.Prelude.{Err, map}
use Rattle.std.specs.Vec.{with_items}
use Rattle.std.proofs.lemmas.List.{with_items_is, places}
use Rattle.sse_journal.specs.JournalView.{IsJournalFrom}
use Rattle.sse_server.specs.Faults.{of_start}
use Rattle.sse_server.specs.declared.open_fault.OpenFault.TheVariants as opens
use Rattle.sse_owners.specs.OwnedRecords.{AreReplayed, IsBadOwned}
use Rattle.sse_owners.specs.OwnersView.{IsOwnersFrom}
use Rattle.sse_owners.proofs.OwnedOnce.{no_bad_record_of, bad_record_once_of}
use Rattle.sse_server.proofs.StartedStore.{so_far, only_first, no_error, place_told, no_record_told, synced_on}
use Rattle.sse_owners.proofs.StartedOwners.{owners_from, bad_from}
use Rattle.sse_owners.proofs.owners.Owners.open.Goals as goal

-- a start of the journal that was refused

pub returns-in-Err-clause-no_journal_refused : goal.returns-in-Err-clause-no_journal_refused
returns-in-Err-clause-no_journal_refused g c =
    so_far (g.D.Disk.content c.args.disk.now) _ _ c.in-Err.ensures.refused (λ bytes was place there. (
      refl,
      λ other same.
          let told : of_start c.in-Err.fault ≡ opens.NotAJournal other = cc in
          (was place there).1 other (ap Err (place_told c.in-Err.fault other told)),
    ))

pub returns-in-Err-clause-accepted : goal.returns-in-Err-clause-accepted
returns-in-Err-clause-accepted g c =
    so_far (g.D.Disk.content c.args.disk.now) _ _ c.in-Err.ensures.accepted (λ bytes was frames are gives n. (
      λ same.
          let told : of_start c.in-Err.fault ≡ opens.NotAJournal n = cc in
          was _ gives n (ap Err (place_told c.in-Err.fault n told)),
      λ same.
          let told : of_start c.in-Err.fault ≡ opens.BadRecord n = cc in
          no_record_told c.in-Err.fault n told,
    ))

-- after a journal that was started

pub returns-in-Ok-replay-clause-started : goal.returns-in-Ok-replay-clause-started
returns-in-Ok-replay-clause-started g c =
    let items : (with_items c.args.servers c.replay.new.servers).items ≡ c.replay.new.servers = with_items_is c.args.servers c.replay.new.servers (search (rules, places)) in
    so_far (g.D.Disk.content c.args.disk.now) (λ bytes. IsJournalFrom bytes c.in-Ok.journal (g.D.Disk.content c.start.new.disk) (g.D.Disk.images c.start.new.disk)) _ c.in-Ok.ensures.started (λ bytes from.
    subst (λ servers. IsOwnersFrom bytes (record { numbers = c.args.numbers.items; states = map (λ server. server.state) servers; chosen = 0; journal = c.in-Ok.journal }) (g.D.Disk.content c.replay.new.disk) (g.D.Disk.images c.replay.new.disk)) (sym items)
    (owners_from bytes c.args.numbers.items c.requires.some c.in-Ok.journal (map (λ server. server.state) c.replay.new.servers) (g.D.Disk.content c.start.new.disk) (g.D.Disk.content c.replay.new.disk) (g.D.Disk.images c.start.new.disk) (g.D.Disk.images c.replay.new.disk) from (λ payloads is. subst (λ ns. AreReplayed ns payloads (map (λ server. server.state) c.replay.new.servers)) c.deref.ensures.value (c.in-Ok-replay.ensures.replayed payloads is)) c.replay.ensures.kept c.replay.ensures.images_kept))

pub returns-in-Ok-replay-clause-any_moment : goal.returns-in-Ok-replay-clause-any_moment
returns-in-Ok-replay-clause-any_moment g c =
    inl (synced_on g.D.Disk.content g.D.Disk.images g.D.Disk.moment g.D.Disk.left_since c.args.disk.now c.start.new.disk c.replay.new.disk c.in-Ok.journal (only_first c.in-Ok.ensures.any_moment no_error) c.in-Ok.ensures.started c.replay.ensures.quiet)

pub returns-in-Err-replay-clause-any_moment : goal.returns-in-Err-replay-clause-any_moment
returns-in-Err-replay-clause-any_moment g c =
    inl (synced_on g.D.Disk.content g.D.Disk.images g.D.Disk.moment g.D.Disk.left_since c.args.disk.now c.start.new.disk c.replay.new.disk c.in-Ok.journal (only_first c.in-Ok.ensures.any_moment no_error) c.in-Ok.ensures.started c.replay.ensures.quiet)

pub returns-in-Ok-replay-clause-no_journal_refused : goal.returns-in-Ok-replay-clause-no_journal_refused
returns-in-Ok-replay-clause-no_journal_refused g c =
    so_far (g.D.Disk.content c.args.disk.now) _ _ c.in-Ok.ensures.refused (λ bytes was place there. absurd (no_error (was place there).0))

pub returns-in-Err-replay-clause-no_journal_refused : goal.returns-in-Err-replay-clause-no_journal_refused
returns-in-Err-replay-clause-no_journal_refused g c =
    so_far (g.D.Disk.content c.args.disk.now) _ _ c.in-Ok.ensures.refused (λ bytes was place there. absurd (no_error (was place there).0))

pub returns-in-Err-replay-clause-no_journal : goal.returns-in-Err-replay-clause-no_journal
returns-in-Err-replay-clause-no_journal g c place same =
    let told : c.in-Err-replay.fault ≡ opens.NotAJournal place = cc in
    so_far (g.D.Disk.content c.args.disk.now) (λ bytes. IsJournalFrom bytes c.in-Ok.journal (g.D.Disk.content c.start.new.disk) (g.D.Disk.images c.start.new.disk)) _ c.in-Ok.ensures.started (λ bytes from. absurd (c.in-Err-replay.ensures.never place (ap Err told) from.payloads from.journal))

pub returns-in-Err-replay-clause-bad_record : goal.returns-in-Err-replay-clause-bad_record
returns-in-Err-replay-clause-bad_record g c number same =
    let told : c.in-Err-replay.fault ≡ opens.BadRecord number = cc in
    so_far (g.D.Disk.content c.args.disk.now) (λ bytes. IsJournalFrom bytes c.in-Ok.journal (g.D.Disk.content c.start.new.disk) (g.D.Disk.images c.start.new.disk)) _ c.in-Ok.ensures.started (λ bytes from. (bad_from c.args.numbers.items bytes c.in-Ok.journal number (g.D.Disk.content c.start.new.disk) (g.D.Disk.images c.start.new.disk) from (λ payloads is. subst (λ ns. IsBadOwned ns payloads number) c.deref.ensures.value (c.in-Err-replay.ensures.bad number (ap Err told) payloads is))))

pub returns-in-Ok-replay-clause-bad_record_refused : goal.returns-in-Ok-replay-clause-bad_record_refused
returns-in-Ok-replay-clause-bad_record_refused g c =
    so_far (g.D.Disk.content c.args.disk.now) (λ bytes. IsJournalFrom bytes c.in-Ok.journal (g.D.Disk.content c.start.new.disk) (g.D.Disk.images c.start.new.disk)) _ c.in-Ok.ensures.started (λ bytes from number has.
    let owners = owners_from bytes c.args.numbers.items c.requires.some c.in-Ok.journal (map (λ server. server.state) c.replay.new.servers) (g.D.Disk.content c.start.new.disk) (g.D.Disk.content c.replay.new.disk) (g.D.Disk.images c.start.new.disk) (g.D.Disk.images c.replay.new.disk) from (λ payloads is. subst (λ ns. AreReplayed ns payloads (map (λ server. server.state) c.replay.new.servers)) c.deref.ensures.value (c.in-Ok-replay.ensures.replayed payloads is)) c.replay.ensures.kept c.replay.ensures.images_kept in
    absurd (no_bad_record_of c.args.numbers.items bytes number owners.frames has owners.owners_are.are_taken owners.gives))

pub returns-in-Err-replay-clause-bad_record_refused : goal.returns-in-Err-replay-clause-bad_record_refused
returns-in-Err-replay-clause-bad_record_refused g c =
    so_far (g.D.Disk.content c.args.disk.now) (λ bytes. IsJournalFrom bytes c.in-Ok.journal (g.D.Disk.content c.start.new.disk) (g.D.Disk.images c.start.new.disk)) _ c.in-Ok.ensures.started (λ bytes from number has. (
      refl,
      λ other same.
          let told : c.in-Err-replay.fault ≡ opens.BadRecord other = cc in
          bad_record_once_of c.args.numbers.items bytes other number (bad_from c.args.numbers.items bytes c.in-Ok.journal other (g.D.Disk.content c.start.new.disk) (g.D.Disk.images c.start.new.disk) from (λ payloads is. subst (λ ns. IsBadOwned ns payloads other) c.deref.ensures.value (c.in-Err-replay.ensures.bad other (ap Err told) payloads is))) has,
    ))

pub returns-in-Err-replay-clause-accepted : goal.returns-in-Err-replay-clause-accepted
returns-in-Err-replay-clause-accepted g c =
    so_far (g.D.Disk.content c.args.disk.now) (λ bytes. IsJournalFrom bytes c.in-Ok.journal (g.D.Disk.content c.start.new.disk) (g.D.Disk.images c.start.new.disk)) _ c.in-Ok.ensures.started (λ bytes from frames are gives n. (
      λ same.
          let told : c.in-Err-replay.fault ≡ opens.NotAJournal n = cc in
          c.in-Err-replay.ensures.never n (ap Err told) from.payloads from.journal,
      λ same.
          let told : c.in-Err-replay.fault ≡ opens.BadRecord n = cc in
          no_bad_record_of c.args.numbers.items bytes n frames (bad_from c.args.numbers.items bytes c.in-Ok.journal n (g.D.Disk.content c.start.new.disk) (g.D.Disk.images c.start.new.disk) from (λ payloads is. subst (λ ns. IsBadOwned ns payloads n) c.deref.ensures.value (c.in-Err-replay.ensures.bad n (ap Err told) payloads is))) are gives,
    ))
