use Rattle.std.proofs.Common.{arith}
use Rattle.vault_server.proofs.FrameGrammar.{found_frame, no_other_frame}
use Rattle.vault_server.proofs.frame_reader.read_vault_frame.Goals as goal

pub returns-clause-found : goal.returns-clause-found
returns-clause-found c = found_frame c.frame_of.result c.args.body.now (λ i. omega (arith, c.type_inv.body i)) c.frame_of.ensures

pub returns-clause-only : goal.returns-clause-only
returns-clause-only c = no_other_frame c.frame_of.result c.args.body.now c.frame_of.ensures
