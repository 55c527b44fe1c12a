use Rattle.std.proofs.Common.{arith}
use Rattle.client_core.proofs.planned.are_bytes.Goals as goal

pub returns-clause-entries : goal.returns-clause-entries
returns-clause-entries c i = omega (arith, c.type_inv.entries i)

pub returns-clause-array : goal.returns-clause-array
returns-clause-array c i = omega (arith, c.type_inv.array i)
