use Rattle.std.proofs.Common.{◌≡◌, refl, ap}
use Rattle.std.specs.Prelude.{Err}
use Rattle.sse_server.specs.declared.open_fault.OpenFault.TheVariants as opens
use Rattle.sse_server.proofs.StartedStore.{so_far, no_error}
use Rattle.sse_owners.proofs.owners.Owners.start.Goals as goal

pub returns-in-Ok-clause-no_journal_refused : goal.returns-in-Ok-clause-no_journal_refused
returns-in-Ok-clause-no_journal_refused g c = so_far (g.D.Disk.content c.args.disk.now) _ _ c.in-Ok.ensures.no_journal_refused (λ bytes was place there. absurd (no_error (was place there).0))

pub returns-in-Ok-clause-bad_record_refused : goal.returns-in-Ok-clause-bad_record_refused
returns-in-Ok-clause-bad_record_refused g c = so_far (g.D.Disk.content c.args.disk.now) _ _ c.in-Ok.ensures.bad_record_refused (λ bytes was number has. absurd (no_error (was number has).0))

pub returns-in-Err-clause-no_journal_refused : goal.returns-in-Err-clause-no_journal_refused
returns-in-Err-clause-no_journal_refused g c =
    so_far (g.D.Disk.content c.args.disk.now) _ _ c.in-Err.ensures.no_journal_refused (λ bytes was place there. (
      refl,
      λ other same.
          let told : c.in-Err.fault ≡ opens.NotAJournal other = cc in
          (was place there).1 other (ap Err told),
    ))

pub returns-in-Err-clause-bad_record_refused : goal.returns-in-Err-clause-bad_record_refused
returns-in-Err-clause-bad_record_refused g c =
    so_far (g.D.Disk.content c.args.disk.now) _ _ c.in-Err.ensures.bad_record_refused (λ bytes was number has. (
      refl,
      λ other same.
          let told : c.in-Err.fault ≡ opens.BadRecord other = cc in
          (was number has).1 other (ap Err told),
    ))

pub returns-in-Err-clause-accepted : goal.returns-in-Err-clause-accepted
returns-in-Err-clause-accepted g c =
    so_far (g.D.Disk.content c.args.disk.now) _ _ c.in-Err.ensures.accepted (λ bytes was frames are gives n. (
      λ same.
          let told : c.in-Err.fault ≡ opens.NotAJournal n = cc in
          (was frames are gives n).0 (ap Err told),
      λ same.
          let told : c.in-Err.fault ≡ opens.BadRecord n = cc in
          (was frames are gives n).1 (ap Err told),
    ))
