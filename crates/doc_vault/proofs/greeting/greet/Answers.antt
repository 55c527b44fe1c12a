use Rattle.std.proofs.Common.{Err}
use Rattle.doc_vault.specs.Greetings.{NotFirst, elsewhere}
use Rattle.doc_vault.proofs.CountLaws.{counts-stopped, counts-then, shows-other}
use Rattle.doc_vault.proofs.Greeted.{greets-stopped, honest-stopped}
use Rattle.doc_vault.proofs.greeting.greet.Goals as goal

pub returns-in_err-next-clause-greets : goal.returns-in_err-next-clause-greets
returns-in_err-next-clause-greets g c = greets-stopped _ _ c.from_residual.result c.in_err-next.field-0.0 c.from_residual.ensures.1 c.in_err-next.ensures.asks

pub returns-in_err-next-clause-honest : goal.returns-in_err-next-clause-honest
returns-in_err-next-clause-honest g c = honest-stopped _ c.from_residual.result c.in_err-next.field-0.0 c.from_residual.ensures.1 c.in_err-next.ensures.honest

pub returns-in_err-next-clause-counts : goal.returns-in_err-next-clause-counts
returns-in_err-next-clause-counts g c others = counts-stopped _ _ c.from_residual.result c.in_err-next.field-0.0 c.from_residual.ensures.1 (c.in_err-next.ensures.counts others)

pub returns-clause-greets : goal.returns-clause-greets
returns-clause-greets g c = NotFirst c.in_ok-next.next c.in_ok-next.ensures.asks c.if-next-eq0.false c.from.ensures

pub returns-clause-counts : goal.returns-clause-counts
returns-clause-counts g c others =
    counts-then {T = Unit} _ _ _ (Err c.from.result) (c.in_ok-next.ensures.counts others)
    (counts-stopped {T = Unit} _ _ (Err c.from.result) (elsewhere c.in_ok-next.next) c.from.ensures (shows-other _ (elsewhere c.in_ok-next.next) tt (λ e. cc)))
