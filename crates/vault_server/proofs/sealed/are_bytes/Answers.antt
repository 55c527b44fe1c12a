use Rattle.std.proofs.Common.{arith}
use Rattle.vault_server.proofs.sealed.are_bytes.Goals as goal

pub returns-clause-tag : goal.returns-clause-tag
returns-clause-tag c i = omega (arith, c.type_inv.tag i)

pub returns-clause-sealed : goal.returns-clause-sealed
returns-clause-sealed c i = omega (arith, c.type_inv.sealed i)
