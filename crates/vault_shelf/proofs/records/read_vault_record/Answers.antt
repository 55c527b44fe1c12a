use Rattle.std.proofs.Common.{arith}
use Rattle.vault_shelf.proofs.RecordGrammar.{read_found}
use Rattle.vault_shelf.proofs.records.read_vault_record.Goals as goal

pub returns-clause-found : goal.returns-clause-found
returns-clause-found c = read_found c.args.payload.now c.command_of.result (λ i. omega (arith, c.type_inv.payload i)) c.command_of.ensures
