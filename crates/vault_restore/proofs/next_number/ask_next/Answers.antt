use Rattle.doc_vault.proofs.CountLaws.{counts-judged, counts-stopped}
use Rattle.vault_restore.proofs.Judged.{asked-judged, number_tells}
use Rattle.vault_restore.proofs.next_number.ask_next.Goals as goal

pub returns-in_err-n-clause-counts : goal.returns-in_err-n-clause-counts
returns-in_err-n-clause-counts g c others = counts-stopped _ _ c.from_residual.result c.in_err-n.field-0.0 c.from_residual.ensures.1 (c.in_err-n.ensures.cause others)

pub returns-clause-asks : goal.returns-clause-asks
returns-clause-asks g c = asked-judged _ _ _ c.judge_number.result c.in_ok-n.ensures.asked c.judge_number.ensures

pub returns-clause-counts : goal.returns-clause-counts
returns-clause-counts g c others = counts-judged _ _ others _ c.judge_number.result c.ask.ensures.later c.in_ok-n.ensures.counts (number_tells _ c.judge_number.result c.judge_number.ensures)
