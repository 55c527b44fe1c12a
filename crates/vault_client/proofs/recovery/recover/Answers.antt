use Rattle.std.proofs.Common.{List, ℕ, sym, ◌∙◌, subst}
use Rattle.vault_shelf.specs.ClientRecords.{VaultOpens}
use Rattle.sse_journal.specs.JournalView.{IsJournalOf}
use Rattle.vault_client.specs.Recoveries.{AreNone}
use Rattle.vault_client.proofs.RecordsOpened.{recovers-opened, recovers-refused}
use Rattle.vault_client.proofs.recovery.recover.Goals as goal

pub returns-clause-accepted : goal.returns-clause-accepted
returns-clause-accepted g c = λ payloads cs is opens.
    recovers-opened (λ (all : List (List ℕ)). IsJournalOf all c.args.journal.now (g.D.Disk.content c.args.disk.now) (g.D.Disk.images c.args.disk.now)) c.new-rebuilt.result.mark payloads is c.take_all.result c.take_all.ensures.recovers cs
    (subst (λ (m : List ℕ). VaultOpens m payloads cs) (sym (c.new-rebuilt.ensures.mark ∙ c.mark.ensures)) opens)

pub returns-clause-refused : goal.returns-clause-refused
returns-clause-refused g c = λ payloads stop is none.
    recovers-refused (λ (all : List (List ℕ)). IsJournalOf all c.args.journal.now (g.D.Disk.content c.args.disk.now) (g.D.Disk.images c.args.disk.now)) c.new-rebuilt.result.mark payloads is c.take_all.result c.take_all.ensures.recovers c.take_all.ensures.mark stop
    (subst (λ (m : List ℕ). AreNone m payloads stop) (sym (c.new-rebuilt.ensures.mark ∙ c.mark.ensures)) none)
