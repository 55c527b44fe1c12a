use Rattle.std.proofs.Common.{refl}
use Rattle.doc_vault.proofs.Asked.{asks-stays, says-honestly}
use Rattle.doc_vault.proofs.CountLaws.{counts-judged, counts-stopped}
use Rattle.doc_vault.proofs.Greeted.{ask_frame, asks-by, asks-cut}
use Rattle.doc_vault.proofs.greeting.ask_next.Goals as goal

pub ask-requires-clause-frame : goal.ask-requires-clause-frame
ask-requires-clause-frame g c = ask_frame

pub returns-in_err-n-clause-asks : goal.returns-in_err-n-clause-asks
returns-in_err-n-clause-asks g c = asks-cut _ _ c.from_residual.result c.in_err-n.field-0.0 c.from_residual.ensures.1 c.in_err-n.ensures.cut

pub returns-in_err-n-clause-stays : goal.returns-in_err-n-clause-stays
returns-in_err-n-clause-stays g c = asks-stays _ _ c.from_residual.result (returns-in_err-n-clause-asks g c)

pub returns-in_err-n-clause-honest : goal.returns-in_err-n-clause-honest
returns-in_err-n-clause-honest g c = says-honestly _ _ _ refl c.from_residual.result (returns-in_err-n-clause-asks g c)

pub returns-in_err-n-clause-counts : goal.returns-in_err-n-clause-counts
returns-in_err-n-clause-counts g c others = counts-stopped _ _ c.from_residual.result c.in_err-n.field-0.0 c.from_residual.ensures.1 (c.in_err-n.ensures.cause others)

pub returns-clause-asks : goal.returns-clause-asks
returns-clause-asks g c = asks-by _ _ _ c.judge_next.result c.in_ok-n.ensures.asked c.judge_next.ensures.judges

pub returns-clause-stays : goal.returns-clause-stays
returns-clause-stays g c = asks-stays _ _ c.judge_next.result (returns-clause-asks g c)

pub returns-clause-honest : goal.returns-clause-honest
returns-clause-honest g c = says-honestly _ _ _ refl c.judge_next.result (returns-clause-asks g c)

pub returns-clause-counts : goal.returns-clause-counts
returns-clause-counts g c others = counts-judged _ _ others _ c.judge_next.result c.ask.ensures.later c.in_ok-n.ensures.counts c.judge_next.ensures.fault
