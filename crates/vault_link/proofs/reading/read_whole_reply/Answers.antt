use Rattle.std.proofs.Common.{◌∙◌, Some, ap, sym, arith}
use Rattle.vault_server.specs.VaultViews.{reply_view}
use Rattle.vault_link.specs.ReplySizes.{IsVaultReply}
use Rattle.vault_link.proofs.ReplyLaws.{whole_reply, no_other}
use Rattle.vault_link.proofs.reading.read_whole_reply.Goals as goal

found : (c : goal.In-Ok) → IsVaultReply (reply_view c.in-Ok.reply) c.args.bytes.now
found c =
    let parts = c.in_ok-length.ensures.cases in
    whole_reply c.args.bytes.now c.in_ok-length.length.now c.in_ok-length.body.now (λ i. omega (arith, c.type_inv.bytes i)) parts.0 parts.1 (omega (arith, parts.2))
    (sym c.from_be_bytes.ensures ∙ c.if-from_be_bytes-body.false) (reply_view c.in-Ok.reply) c.in-Ok.ensures.found

pub returns-in-Ok-clause-found : goal.returns-in-Ok-clause-found
returns-in-Ok-clause-found c = found c

pub returns-in-Ok-clause-only : goal.returns-in-Ok-clause-only
returns-in-Ok-clause-only c reply is = ap Some (no_other (reply_view c.in-Ok.reply) reply c.args.bytes.now (found c) is)
