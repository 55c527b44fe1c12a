use Rattle.std.proofs.Common.{arith}
use Rattle.std.proofs.lemmas.Grind.{common_steps}
use Rattle.server_core.proofs.CellLemmas.{IsHeld-no_contents}
use Rattle.server_core.proofs.server.Server.apply.Goals as goal

pub invariant_of-self : goal.invariant_of-self
invariant_of-self g c = IsHeld-no_contents _ c.clear.ensures.contents

pub invariant_of-self-in-SetupArray : goal.invariant_of-self-in-SetupArray
invariant_of-self-in-SetupArray g c = grind (arith, common_steps)

pub returns-in-Add : goal.returns-in-Add
returns-in-Add g c = grind (arith, common_steps)
