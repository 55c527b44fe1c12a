use Rattle.std.proofs.Common.{length-append, arith}
use Rattle.vault_server.specs.VaultFrames.{BodyReply}
use Rattle.vault_link.proofs.ReplyLaws.{length-reply}
use Rattle.vault_link.proofs.answering.size_of_body.Goals as goal

pub returns : goal.returns
returns c = omega (arith, length-reply (BodyReply c.args.tag.now c.args.sealed.now), length-append c.args.tag.now c.args.sealed.now, c.told-tag)
