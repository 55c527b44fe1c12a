use Rattle.std.proofs.Common.{None}
use Rattle.vault_server.specs.VaultViews.{reply_view}
use Rattle.doc_vault.proofs.FaultLaws.{tells-bytes, tells-none, tells-number}
use Rattle.doc_vault.proofs.Greeted.{judged_read}
use Rattle.doc_vault.proofs.Replies.{none_read}
use Rattle.doc_vault.proofs.greeting.judge_next.Goals as goal

pub returns-in-Some-clause-judges : goal.returns-in-Some-clause-judges
returns-in-Some-clause-judges c = judged_read (reply_view c.in-Some.reply) c.args.bytes.now c.number_in.result c.in-Some.ensures.found c.number_in.ensures

pub returns-in-Some-clause-fault : goal.returns-in-Some-clause-fault
returns-in-Some-clause-fault c =
    tells-bytes (reply_view c.in-Some.reply) c.args.bytes.now c.number_in.result c.in-Some.ensures.found (tells-number (reply_view c.in-Some.reply) c.args.bytes.now c.number_in.result c.number_in.ensures)

pub returns-in-None-clause-judges : goal.returns-in-None-clause-judges
returns-in-None-clause-judges c = (None, none_read _ c.read_whole_reply.result c.in-None.is c.read_whole_reply.ensures.only, tt, c.bad.ensures)

pub returns-in-None-clause-fault : goal.returns-in-None-clause-fault
returns-in-None-clause-fault c = tells-none c.args.bytes.now c.bad.result (none_read _ c.read_whole_reply.result c.in-None.is c.read_whole_reply.ensures.only) c.bad.ensures
