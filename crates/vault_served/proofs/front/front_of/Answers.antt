use Rattle.std.proofs.Common.{arith}
use Rattle.vault_served.proofs.FrontLaws.{spelled_front}
use Rattle.vault_served.proofs.front.front_of.Goals as goal

pub returns-clause-spelled : goal.returns-clause-spelled
returns-clause-spelled c = spelled_front c.front_in.result c.args.bytes.now (λ i. omega (arith, c.type_inv.bytes i)) c.front_in.ensures
