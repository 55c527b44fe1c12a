use Rattle.std.proofs.Common.{◌≡◌, inl, List, ℕ, ◌∙◌, length}
use Rattle.sse_journal.specs.Files.{GivesAs, front, file}
use Rattle.sse_journal.specs.AnyMoment.{LeavesOnly}
use Rattle.sse_journal.proofs.Moments.{started, goes_on}
use Rattle.sse_journal.proofs.StartSteps.{after_sync, ends_within}
use Rattle.std.specs.Prelude.{Err, IsErr, Some}
use Rattle.std.proofs.Common.{rules}
use Rattle.sse_journal.specs.Files.{Gives}
use Rattle.sse_journal.specs.Walks.{IsNoJournalAt}
use Rattle.sse_journal.specs.declared.start_fault.StartFault.TheVariants.{NotAJournal}
use Rattle.sse_journal.proofs.RefusedFiles.{no_journal_gives, no_journal_once}
use Rattle.sse_journal.proofs.journal.Journal.start.Goals as goal

pub returns-in_err-end-clause-any_moment : goal.returns-in_err-end-clause-any_moment
returns-in_err-end-clause-any_moment g c = inl (record {
  synced = c.sync.new.self;
  reads = c.in_ok-sync.ensures.kept;
  durable = c.in_ok-sync.ensures.durable;
  before = goes_on g.D.Disk.moment g.D.Disk.left_since c.args.disk.now c.args.disk.now c.sync.new.self (g.D.Disk.images c.args.disk.now) _ (started g.D.Disk.moment g.D.Disk.left_since c.args.disk.now (g.D.Disk.images c.args.disk.now) (g.met.D.Disk.only_now c.args.disk.now)) c.sync.ensures.time c.sync.ensures.images_kept;
  after = after_sync (g.D.Disk.content c.args.disk.now) (g.D.Disk.content c.sync.new.self) (g.D.Disk.images c.sync.new.self) (λ bytes. LeavesOnly g.D.Disk.moment g.D.Disk.left_since c.sync.new.self c.start_synced.new.disk (GivesAs bytes)) c.in_ok-sync.ensures.kept c.in_ok-sync.ensures.durable c.start_synced.ensures.any_moment;
})

pub returns-clause-any_moment : goal.returns-clause-any_moment
returns-clause-any_moment g c = inl (record {
  synced = c.sync.new.self;
  reads = c.in_ok-sync.ensures.kept;
  durable = c.in_ok-sync.ensures.durable;
  before = goes_on g.D.Disk.moment g.D.Disk.left_since c.args.disk.now c.args.disk.now c.sync.new.self (g.D.Disk.images c.args.disk.now) _ (started g.D.Disk.moment g.D.Disk.left_since c.args.disk.now (g.D.Disk.images c.args.disk.now) (g.met.D.Disk.only_now c.args.disk.now)) c.sync.ensures.time c.sync.ensures.images_kept;
  after = after_sync (g.D.Disk.content c.args.disk.now) (g.D.Disk.content c.sync.new.self) (g.D.Disk.images c.sync.new.self) (λ bytes. LeavesOnly g.D.Disk.moment g.D.Disk.left_since c.sync.new.self c.start_synced.new.disk (GivesAs bytes)) c.in_ok-sync.ensures.kept c.in_ok-sync.ensures.durable c.start_synced.ensures.any_moment;
})

pub returns-in_err-end-clause-accepted : goal.returns-in_err-end-clause-accepted
returns-in_err-end-clause-accepted g c =
    after_sync (g.D.Disk.content c.args.disk.now) (g.D.Disk.content c.sync.new.self) (g.D.Disk.images c.sync.new.self) (λ bytes. (payloads : List (List ℕ)) → Gives payloads bytes → (place : ℕ) → c.from_residual-in_err-end.result ≡ Err (NotAJournal place) → ⊥) c.in_ok-sync.ensures.kept c.in_ok-sync.ensures.durable (λ bytes all payloads gives place same.
    let is : c.start_synced.result ≡ Err (NotAJournal place) = search rules in
    no_journal_gives bytes place (c.start_synced.ensures.no_journal_at place is bytes all) payloads gives)

pub returns-in_err-end-clause-refused : goal.returns-in_err-end-clause-refused
returns-in_err-end-clause-refused g c =
    after_sync (g.D.Disk.content c.args.disk.now) (g.D.Disk.content c.sync.new.self) (g.D.Disk.images c.sync.new.self) (λ bytes. (place : ℕ) → IsNoJournalAt bytes place → (IsErr c.from_residual-in_err-end.result) × ((other : ℕ) → c.from_residual-in_err-end.result ≡ Err (NotAJournal other) → other ≡ place)) c.in_ok-sync.ensures.kept c.in_ok-sync.ensures.durable (λ bytes all place there.
    let err : IsErr c.from_residual-in_err-end.result = search rules in (
      err,
      λ other same.
          let is : c.start_synced.result ≡ Err (NotAJournal other) = search rules in
          no_journal_once bytes place other there (c.start_synced.ensures.no_journal_at other is bytes all),
    ))

pub returns-clause-refused : goal.returns-clause-refused
returns-clause-refused g c =
    after_sync (g.D.Disk.content c.args.disk.now) (g.D.Disk.content c.sync.new.self) (g.D.Disk.images c.sync.new.self) _ c.in_ok-sync.ensures.kept c.in_ok-sync.ensures.durable (λ bytes all place there.
    let begun = c.in_ok-end.ensures.started bytes all in
    absurd (no_journal_gives bytes place there begun.payloads begun.gives))

pub returns-clause-started : goal.returns-clause-started
returns-clause-started g c =
    after_sync (g.D.Disk.content c.args.disk.now) (g.D.Disk.content c.sync.new.self) (g.D.Disk.images c.sync.new.self) _ c.in_ok-sync.ensures.kept c.in_ok-sync.ensures.durable (λ bytes all.
    let begun = c.in_ok-end.ensures.started bytes all in
    record {
      payloads = begun.payloads;
      gives = begun.gives;
      journal = record { payloads_are = begun.payloads_are; end_is = begun.end_is; records_are = begun.records_are; settled = begun.settled };
    })

pub returns-clause-within : goal.returns-clause-within
returns-clause-within g c =
    ends_within (g.D.Disk.content c.args.disk.now) (g.D.Disk.content c.start_synced.new.disk) c.in_ok-end.end (c.start_synced.ensures.told ∙ c.sync.ensures.told)
    (after_sync (g.D.Disk.content c.args.disk.now) (g.D.Disk.content c.sync.new.self) (g.D.Disk.images c.sync.new.self) (λ bytes. (payloads : List (List ℕ)) × (c.in_ok-end.end ≡ length (front payloads)) × (g.D.Disk.content c.start_synced.new.disk ≡ Some (file payloads))) c.in_ok-sync.ensures.kept c.in_ok-sync.ensures.durable (λ bytes all.
    let begun = c.in_ok-end.ensures.started bytes all in
    (begun.payloads, begun.end_is, begun.settled.reads)))
