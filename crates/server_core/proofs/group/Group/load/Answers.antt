use Rattle.std.proofs.Common.{arith}
use Rattle.std.proofs.lemmas.Grind.{common_steps}
use Rattle.server_core.proofs.group.Group.load.Goals as goal

pub returns-in_err-self-clause-no_pointers : goal.returns-in_err-self-clause-no_pointers
returns-in_err-self-clause-no_pointers g c = grind (arith, common_steps)

pub returns-clause-group : goal.returns-clause-group
returns-clause-group g c = grind (arith, common_steps)
