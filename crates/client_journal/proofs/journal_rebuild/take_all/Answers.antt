use Rattle.std.proofs.Common.{◌∙◌, ℕ, List, refl, subst}
use Rattle.std.specs.Prelude.{Option, Ok}
use Rattle.sse_journal.proofs.Moments.{started, goes_on_to, weakened}
use Rattle.sse_journal.specs.JournalView.{IsJournalOf}
use Rattle.client_journal.specs.Recordings.{TakesNext}
use Rattle.client_journal.proofs.Recorded.{here_first, here_last, here_next, here_refused, journal_on}
use Rattle.client_journal.proofs.journal_rebuild.take_all.Goals as goal

pub records-init : goal.records-init
records-init g c = record {
  key = refl;
  mark = refl;
  hash_keys = refl;
  kept = refl;
  images_kept = λ f left. left;
  quiet = started g.D.Disk.moment g.D.Disk.left_since c.args.disk.now (g.D.Disk.images c.args.disk.now) (g.met.D.Disk.only_now c.args.disk.now);
  steady = refl;
  here = here_first _ c.first-at.result c.args.rebuilt.now c.requires.none c.first-at.ensures.place;
}

pub records-preserved : goal.records-preserved
records-preserved g c =
    let told = λ (all : List (List ℕ)). IsJournalOf all c.args.journal.now (g.D.Disk.content c.args.disk.now) (g.D.Disk.images c.args.disk.now) in
    let now = λ (all : List (List ℕ)). IsJournalOf all c.args.journal.now (g.D.Disk.content c.records.disk) (g.D.Disk.images c.records.disk) in
    let here = c.records.invariant.here in
    record {
      key = c.take_next.ensures.key ∙ c.records.invariant.key;
      mark = c.take_next.ensures.mark ∙ c.records.invariant.mark;
      hash_keys = c.take_next.ensures.hash_keys ∙ c.records.invariant.hash_keys;
      kept = c.take_next.ensures.kept ∙ c.records.invariant.kept;
      images_kept = λ f left. c.records.invariant.images_kept f (c.take_next.ensures.images_kept f left);
      quiet = goes_on_to g.D.Disk.moment g.D.Disk.left_since c.args.disk.now c.records.disk c.take_next.new.disk (g.D.Disk.images c.args.disk.now) c.records.invariant.quiet
          (weakened g.D.Disk.moment g.D.Disk.left_since c.records.disk c.take_next.new.disk (g.D.Disk.images c.records.disk) (g.D.Disk.images c.args.disk.now) c.records.invariant.images_kept c.take_next.ensures.quiet);
      steady = c.in-Ok-Some.ensures.steady (λ same. cc) ∙ c.records.invariant.steady;
      here = here_next told now (λ all is. journal_on all c.args.journal.now (g.D.Disk.content c.args.disk.now) (g.D.Disk.content c.records.disk) (g.D.Disk.images c.args.disk.now) (g.D.Disk.images c.records.disk) is c.records.invariant.kept c.records.invariant.images_kept)
          c.records.at c.records.rebuilt here c.take_next.new.rebuilt c.in-Ok-Some.next
          (subst (λ (o : Option ℕ). TakesNext now here.payloads c.records.at (Ok o) c.take_next.new.rebuilt) c.in-Ok-Some.field-0-is (c.in-Ok-Some.ensures.takes here.payloads here.taken));
    }

pub returns-in-Ok-None-clause-takes : goal.returns-in-Ok-None-clause-takes
returns-in-Ok-None-clause-takes g c =
    let told = λ (all : List (List ℕ)). IsJournalOf all c.args.journal.now (g.D.Disk.content c.args.disk.now) (g.D.Disk.images c.args.disk.now) in
    let now = λ (all : List (List ℕ)). IsJournalOf all c.args.journal.now (g.D.Disk.content c.records.disk) (g.D.Disk.images c.records.disk) in
    let here = c.records.invariant.here in
    here_last told now (λ all is. journal_on all c.args.journal.now (g.D.Disk.content c.args.disk.now) (g.D.Disk.content c.records.disk) (g.D.Disk.images c.args.disk.now) (g.D.Disk.images c.records.disk) is c.records.invariant.kept c.records.invariant.images_kept)
    c.records.at c.records.rebuilt here c.take_next.new.rebuilt
    (subst (λ (o : Option ℕ). TakesNext now here.payloads c.records.at (Ok o) c.take_next.new.rebuilt) c.in-Ok-None.field-0-is (c.in-Ok-None.ensures.takes here.payloads here.taken))

pub returns-in-Ok-None-clause-quiet : goal.returns-in-Ok-None-clause-quiet
returns-in-Ok-None-clause-quiet g c =
    goes_on_to g.D.Disk.moment g.D.Disk.left_since c.args.disk.now c.records.disk c.take_next.new.disk (g.D.Disk.images c.args.disk.now) c.records.invariant.quiet
    (weakened g.D.Disk.moment g.D.Disk.left_since c.records.disk c.take_next.new.disk (g.D.Disk.images c.records.disk) (g.D.Disk.images c.args.disk.now) c.records.invariant.images_kept c.take_next.ensures.quiet)

pub returns-in-Err-clause-takes : goal.returns-in-Err-clause-takes
returns-in-Err-clause-takes g c =
    let told = λ (all : List (List ℕ)). IsJournalOf all c.args.journal.now (g.D.Disk.content c.args.disk.now) (g.D.Disk.images c.args.disk.now) in
    let now = λ (all : List (List ℕ)). IsJournalOf all c.args.journal.now (g.D.Disk.content c.records.disk) (g.D.Disk.images c.records.disk) in
    let here = c.records.invariant.here in
    here_refused told now (λ all is. journal_on all c.args.journal.now (g.D.Disk.content c.args.disk.now) (g.D.Disk.content c.records.disk) (g.D.Disk.images c.args.disk.now) (g.D.Disk.images c.records.disk) is c.records.invariant.kept c.records.invariant.images_kept)
    c.records.at c.records.rebuilt here c.take_next.new.rebuilt c.in-Err.fault (c.in-Err.ensures.takes here.payloads here.taken)

pub returns-in-Err-clause-quiet : goal.returns-in-Err-clause-quiet
returns-in-Err-clause-quiet g c =
    goes_on_to g.D.Disk.moment g.D.Disk.left_since c.args.disk.now c.records.disk c.take_next.new.disk (g.D.Disk.images c.args.disk.now) c.records.invariant.quiet
    (weakened g.D.Disk.moment g.D.Disk.left_since c.records.disk c.take_next.new.disk (g.D.Disk.images c.records.disk) (g.D.Disk.images c.args.disk.now) c.records.invariant.images_kept c.take_next.ensures.quiet)
