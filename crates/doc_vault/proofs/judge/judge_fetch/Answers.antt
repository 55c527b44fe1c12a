use Rattle.std.proofs.Common.{None, Some, sym, ap}
use Rattle.vault_server.specs.VaultViews.{reply_view}
use Rattle.doc_vault.specs.Outcomes.{Stops}
use Rattle.doc_vault.proofs.FaultLaws.{tells-bytes, tells-none}
use Rattle.doc_vault.proofs.Replies.{none_read}
use Rattle.doc_vault.proofs.judge.judge_fetch.Goals as goal

pub returns-in-Some-clause-comes : goal.returns-in-Some-clause-comes
returns-in-Some-clause-comes g c known = record { read = Some (reply_view c.in-Some.reply); is_read = c.in-Some.ensures.found; comes = c.open_reply.ensures.comes known }

pub returns-in-Some-clause-fault : goal.returns-in-Some-clause-fault
returns-in-Some-clause-fault g c = tells-bytes (reply_view c.in-Some.reply) c.args.bytes.now c.open_reply.result c.in-Some.ensures.found c.open_reply.ensures.fault

pub returns-in-None-clause-comes : goal.returns-in-None-clause-comes
returns-in-None-clause-comes g c known = record { read = None; is_read = none_read _ c.read_whole_reply.result c.in-None.is c.read_whole_reply.ensures.only; comes = ap Stops (sym c.bad.ensures) }

pub returns-in-None-clause-fault : goal.returns-in-None-clause-fault
returns-in-None-clause-fault g c = tells-none c.args.bytes.now c.bad.result (none_read _ c.read_whole_reply.result c.in-None.is c.read_whole_reply.ensures.only) c.bad.ensures
