use Rattle.std.proofs.Common.{◌≡◌, ℕ, ◌∙◌, refl, subst, arith}
use Rattle.std.specs.Prelude.{Option, Some, IfSome}
use Rattle.sse_journal.proofs.Moments.{started, goes_on_to, weakened}
use Rattle.sse_journal.specs.JournalView.{end_of}
use Rattle.vault_server.specs.VaultRecords.{TakesNext}
use Rattle.vault_server.specs.VaultStarts.{IsNextPlace}
use Rattle.vault_server.proofs.Replaying.{journal_on, replayed_none, replayed_next}
use Rattle.vault_server.proofs.replay.replay.Goals as goal

pub records-init : goal.records-init
records-init g c = record {
  count = omega arith;
  kept = refl;
  images_kept = λ f left. left;
  quiet = started g.D.Disk.moment g.D.Disk.left_since c.args.disk.now (g.D.Disk.images c.args.disk.now) (g.met.D.Disk.only_now c.args.disk.now);
  steady = refl;
  here = λ payloads is. record { within = omega arith; at_is = c.first-at.ensures.place payloads; replayed = replayed_none payloads c.args.vault.now c.requires.first };
}

pub records-preserved : goal.records-preserved
records-preserved g c =
    let next : c.in-Ok-Some.field-0 ≡ Some c.in-Ok-Some.next = cc in
    let goes : IsNextPlace c.records.at (end_of c.args.journal.now) c.in-Ok-Some.next = subst (λ (o : Option ℕ). IfSome o (λ place. IsNextPlace c.records.at (end_of c.args.journal.now) place)) next c.in-Ok-Some.ensures.goes_on in
    record {
      count = omega (arith, goes.goes_on, c.records.invariant.count);
      kept = c.take_next.ensures.disk.kept ∙ c.records.invariant.kept;
      images_kept = λ f left. c.records.invariant.images_kept f (c.take_next.ensures.disk.images_kept f left);
      quiet = goes_on_to g.D.Disk.moment g.D.Disk.left_since c.args.disk.now c.records.disk c.take_next.new.disk (g.D.Disk.images c.args.disk.now) c.records.invariant.quiet
          (weakened g.D.Disk.moment g.D.Disk.left_since c.records.disk c.take_next.new.disk (g.D.Disk.images c.records.disk) (g.D.Disk.images c.args.disk.now) c.records.invariant.images_kept c.take_next.ensures.disk.quiet);
      steady = c.in-Ok-Some.ensures.count.steady (λ same. cc) ∙ c.records.invariant.steady;
      here = λ payloads is.
          let here = c.records.invariant.here payloads is in
          let now = journal_on payloads c.args.journal.now (g.D.Disk.content c.args.disk.now) (g.D.Disk.content c.records.disk) (g.D.Disk.images c.args.disk.now) (g.D.Disk.images c.records.disk) is c.records.invariant.kept c.records.invariant.images_kept in
          let one = subst (λ (o : Option ℕ). TakesNext payloads c.records.number o c.records.vault c.take_next.new.vault) next (c.in-Ok-Some.ensures.taken payloads now here.within here.at_is) in
          record { within = omega (arith, one.0); at_is = one.2; replayed = replayed_next payloads c.records.number c.records.vault c.take_next.new.vault one.0 here.replayed one.1 };
    }
