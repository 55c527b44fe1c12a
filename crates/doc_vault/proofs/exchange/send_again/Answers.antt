use Rattle.doc_vault.proofs.Acked.{acknowledges-by, acknowledges-cut}
use Rattle.doc_vault.proofs.CountLaws.{counts-judged, counts-stopped}
use Rattle.doc_vault.proofs.exchange.send_again.Goals as goal

pub returns-in_err-size-clause-acknowledges : goal.returns-in_err-size-clause-acknowledges
returns-in_err-size-clause-acknowledges g c = acknowledges-cut c.args.frame.now c.args.n _ _ c.from_residual.result c.in_err-size.field-0.0 c.from_residual.ensures.1 c.in_err-size.ensures.cut

pub returns-in_err-size-clause-counts : goal.returns-in_err-size-clause-counts
returns-in_err-size-clause-counts g c others = counts-stopped _ _ c.from_residual.result c.in_err-size.field-0.0 c.from_residual.ensures.1 (c.in_err-size.ensures.cause others)

pub returns-clause-acknowledges : goal.returns-clause-acknowledges
returns-clause-acknowledges g c = acknowledges-by c.args.frame.now c.args.n _ _ _ c.judge_update.result c.in_ok-size.ensures.asked c.judge_update.ensures.comes

pub returns-clause-counts : goal.returns-clause-counts
returns-clause-counts g c others = counts-judged _ _ others _ c.judge_update.result c.ask.ensures.later c.in_ok-size.ensures.counts c.judge_update.ensures.fault
