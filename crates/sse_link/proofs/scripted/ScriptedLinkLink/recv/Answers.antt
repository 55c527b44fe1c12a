use Rattle.std.proofs.Common.{arith}
use Rattle.std.proofs.lemmas.Grind.{common_steps}
use Rattle.sse_link.proofs.scripted.ScriptedLinkLink.recv.Goals as goal

pub returns-clause-reply : goal.returns-clause-reply
returns-clause-reply c = grind (arith, common_steps)

pub returns-clause-rest : goal.returns-clause-rest
returns-clause-rest c = grind (arith, common_steps)

pub returns-clause-told : goal.returns-clause-told
returns-clause-told c = grind (arith, common_steps)

pub returns-clause-due : goal.returns-clause-due
returns-clause-due c = grind (arith, common_steps)

pub returns-clause-one_reply : goal.returns-clause-one_reply
returns-clause-one_reply c = grind (arith, common_steps)

pub returns-clause-store_fault : goal.returns-clause-store_fault
returns-clause-store_fault c = grind (arith, common_steps)
