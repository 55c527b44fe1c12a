use Rattle.std.proofs.Common.{◌≡◌, ◌+◌, ◌≤◌, ℕ, ◌∙◌, refl, sym, ap, subst, arith}
use Rattle.std.specs.Prelude.{Option, Some, Err, IfSome, map}
use Rattle.sse_journal.proofs.Moments.{started, goes_on_to, weakened}
use Rattle.sse_server.specs.declared.open_fault.OpenFault.TheVariants as opens
use Rattle.sse_owners.specs.OwnedRecords.{IsBadOwned, TakesNextOwned}
use Rattle.sse_server.proofs.ReplaySteps.{journal_on}
use Rattle.sse_owners.proofs.OwnedReplay.{bad_here, replayed_none, replayed_next}
use Rattle.sse_owners.proofs.replay.replay.Goals as goal

pub records-init : goal.records-init
records-init g c = record {
  count = omega arith;
  long = refl;
  kept = refl;
  images_kept = λ f left. left;
  quiet = started g.D.Disk.moment g.D.Disk.left_since c.args.disk.now (g.D.Disk.images c.args.disk.now) (g.met.D.Disk.only_now c.args.disk.now);
  steady = refl;
  here = λ payloads is. record { within = omega arith; at_is = c.first-at.ensures.place payloads; replayed = replayed_none c.args.numbers.now payloads (map (λ server. server.state) c.args.servers.now) c.requires.first };
}

pub records-preserved : goal.records-preserved
records-preserved g c =
    let next : c.in-Ok-Some.field-0 ≡ Some c.in-Ok-Some.next = cc in
    let goes : c.records.at + 5 ≤ c.in-Ok-Some.next = subst (λ (o : Option ℕ). IfSome o (λ place. c.records.at + 5 ≤ place)) next c.in-Ok-Some.ensures.goes_on in
    record {
      count = omega (arith, goes, c.records.invariant.count);
      long = c.take_next.ensures.long ∙ c.records.invariant.long;
      kept = c.take_next.ensures.kept ∙ c.records.invariant.kept;
      images_kept = λ f left. c.records.invariant.images_kept f (c.take_next.ensures.images_kept f left);
      quiet = goes_on_to g.D.Disk.moment g.D.Disk.left_since c.args.disk.now c.records.disk c.take_next.new.disk (g.D.Disk.images c.args.disk.now) c.records.invariant.quiet
          (weakened g.D.Disk.moment g.D.Disk.left_since c.records.disk c.take_next.new.disk (g.D.Disk.images c.records.disk) (g.D.Disk.images c.args.disk.now) c.records.invariant.images_kept c.take_next.ensures.quiet);
      steady = c.in-Ok-Some.ensures.steady (λ same. cc) ∙ c.records.invariant.steady;
      here = λ payloads is.
          let here = c.records.invariant.here payloads is in
          let now = journal_on payloads c.args.journal.now (g.D.Disk.content c.args.disk.now) (g.D.Disk.content c.records.disk) (g.D.Disk.images c.args.disk.now) (g.D.Disk.images c.records.disk) is c.records.invariant.kept c.records.invariant.images_kept in
          let one = subst (λ (o : Option ℕ). TakesNextOwned c.args.numbers.now payloads c.records.number o (map (λ server. server.state) c.records.servers) (map (λ server. server.state) c.take_next.new.servers)) next (c.in-Ok-Some.ensures.taken payloads now here.within here.at_is) in
          record { within = omega (arith, one.0); at_is = one.2; replayed = replayed_next c.args.numbers.now payloads c.records.number (map (λ server. server.state) c.records.servers) (map (λ server. server.state) c.take_next.new.servers) c.requires.rising one.0 here.replayed one.1 };
    }

pub returns-in-Err-clause-bad : goal.returns-in-Err-clause-bad
returns-in-Err-clause-bad g c number same payloads is =
    let fault : c.in-Err.fault ≡ opens.BadRecord number = cc in
    let here = c.records.invariant.here payloads is in
    let now = journal_on payloads c.args.journal.now (g.D.Disk.content c.args.disk.now) (g.D.Disk.content c.records.disk) (g.D.Disk.images c.args.disk.now) (g.D.Disk.images c.records.disk) is c.records.invariant.kept c.records.invariant.images_kept in
    let told = c.in-Err.ensures.bad number (ap Err fault) in
    let bad = told.1 payloads now here.within here.at_is in
    subst (λ k. IsBadOwned c.args.numbers.now payloads k) (sym told.0) (bad_here c.args.numbers.now payloads c.records.number (map (λ server. server.state) c.records.servers) bad.0 here.replayed bad.1)

pub returns-in-Err-clause-never : goal.returns-in-Err-clause-never
returns-in-Err-clause-never g c place same payloads is =
    let fault : c.in-Err.fault ≡ opens.NotAJournal place = cc in
    let here = c.records.invariant.here payloads is in
    let now = journal_on payloads c.args.journal.now (g.D.Disk.content c.args.disk.now) (g.D.Disk.content c.records.disk) (g.D.Disk.images c.args.disk.now) (g.D.Disk.images c.records.disk) is c.records.invariant.kept c.records.invariant.images_kept in
    c.in-Err.ensures.never place (ap Err fault) payloads now here.within here.at_is
