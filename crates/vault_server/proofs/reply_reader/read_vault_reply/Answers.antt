use Rattle.std.proofs.Common.{arith}
use Rattle.vault_server.proofs.ReplyGrammar.{found_reply, no_other_reply}
use Rattle.vault_server.proofs.reply_reader.read_vault_reply.Goals as goal

pub returns-clause-found : goal.returns-clause-found
returns-clause-found c = found_reply c.reply_of.result c.args.body.now (λ i. omega (arith, c.type_inv.body i)) c.reply_of.ensures

pub returns-clause-only : goal.returns-clause-only
returns-clause-only c = no_other_reply c.reply_of.result c.args.body.now c.reply_of.ensures
