use Rattle.std.proofs.Common.{List, ℕ, Ok, refl, sym, ap, ◌∙◌, subst}
use Rattle.client_journal.proofs.Recorded.{journal_on}
use Rattle.sse_journal.specs.JournalView.{IsJournalOf}
use Rattle.vault_client.specs.declared.recovery.Step.{Step}
use Rattle.vault_client.specs.Recoveries.{TakesNext, rebuilt_in}
use Rattle.vault_client.proofs.OnlyReads.{read-both, read-none}
use Rattle.vault_client.proofs.RecordsTaken.{here_first, here_last, here_next, here_refused}
use Rattle.vault_client.proofs.recovery.take_all.Goals as goal

pub records-init : goal.records-init
records-init g c = record {
  mark = refl;
  keys = refl;
  reads = read-none g.D.Disk.content g.D.Disk.images g.D.Disk.moment g.D.Disk.left_since c.args.disk.now (g.met.D.Disk.only_now c.args.disk.now);
  steady = refl;
  here = here_first _ c.first-at.result c.args.rebuilt c.requires.none c.first-at.ensures.place;
}

pub records-preserved : goal.records-preserved
records-preserved g c =
    let told = λ (all : List (List ℕ)). IsJournalOf all c.args.journal.now (g.D.Disk.content c.args.disk.now) (g.D.Disk.images c.args.disk.now) in
    let now = λ (all : List (List ℕ)). IsJournalOf all c.args.journal.now (g.D.Disk.content c.records.disk) (g.D.Disk.images c.records.disk) in
    let here = c.records.invariant.here in
    let reads = c.records.invariant.reads in
    record {
      mark = ap (λ (s : Step). (rebuilt_in s).mark) (sym c.in-Ok-Next.field-0-is) ∙ c.in-Ok-Next.ensures.mark ∙ c.records.invariant.mark;
      keys = ap (λ (s : Step). (rebuilt_in s).shelf.keys) (sym c.in-Ok-Next.field-0-is) ∙ c.in-Ok-Next.ensures.keys ∙ c.records.invariant.keys;
      reads = read-both g.D.Disk.content g.D.Disk.images g.D.Disk.moment g.D.Disk.left_since c.args.disk.now c.records.disk c.take_next.new.disk reads c.take_next.ensures.reads;
      steady = c.in-Ok-Next.ensures.counts.steady (λ same. cc) ∙ c.records.invariant.steady;
      here = here_next told now (λ all is. journal_on all c.args.journal.now (g.D.Disk.content c.args.disk.now) (g.D.Disk.content c.records.disk) (g.D.Disk.images c.args.disk.now) (g.D.Disk.images c.records.disk) is reads.content_is reads.images_are)
          c.args.rebuilt.mark c.records.at c.records.rebuilt here c.in-Ok-Next.taken c.in-Ok-Next.next
          (subst (λ (s : Step). TakesNext now c.records.rebuilt.mark here.payloads c.records.at (Ok s)) c.in-Ok-Next.field-0-is (c.in-Ok-Next.ensures.takes here.payloads here.taken));
    }

pub returns-in-Ok-All-clause-recovers : goal.returns-in-Ok-All-clause-recovers
returns-in-Ok-All-clause-recovers g c =
    let told = λ (all : List (List ℕ)). IsJournalOf all c.args.journal.now (g.D.Disk.content c.args.disk.now) (g.D.Disk.images c.args.disk.now) in
    let now = λ (all : List (List ℕ)). IsJournalOf all c.args.journal.now (g.D.Disk.content c.records.disk) (g.D.Disk.images c.records.disk) in
    let here = c.records.invariant.here in
    let reads = c.records.invariant.reads in
    here_last told now (λ all is. journal_on all c.args.journal.now (g.D.Disk.content c.args.disk.now) (g.D.Disk.content c.records.disk) (g.D.Disk.images c.args.disk.now) (g.D.Disk.images c.records.disk) is reads.content_is reads.images_are)
    c.args.rebuilt.mark c.records.at c.records.rebuilt here c.in-Ok-All.taken
    (subst (λ (s : Step). TakesNext now c.records.rebuilt.mark here.payloads c.records.at (Ok s)) c.in-Ok-All.field-0-is (c.in-Ok-All.ensures.takes here.payloads here.taken))

pub returns-in-Err-clause-recovers : goal.returns-in-Err-clause-recovers
returns-in-Err-clause-recovers g c =
    let told = λ (all : List (List ℕ)). IsJournalOf all c.args.journal.now (g.D.Disk.content c.args.disk.now) (g.D.Disk.images c.args.disk.now) in
    let now = λ (all : List (List ℕ)). IsJournalOf all c.args.journal.now (g.D.Disk.content c.records.disk) (g.D.Disk.images c.records.disk) in
    let here = c.records.invariant.here in
    let reads = c.records.invariant.reads in
    here_refused told now (λ all is. journal_on all c.args.journal.now (g.D.Disk.content c.args.disk.now) (g.D.Disk.content c.records.disk) (g.D.Disk.images c.args.disk.now) (g.D.Disk.images c.records.disk) is reads.content_is reads.images_are)
    c.args.rebuilt.mark c.records.at c.records.rebuilt here c.records.invariant.mark c.in-Err.stop (c.in-Err.ensures.takes here.payloads here.taken)
