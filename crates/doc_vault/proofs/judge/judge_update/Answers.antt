use Rattle.std.proofs.Common.{None, Some, sym, ap}
use Rattle.vault_server.specs.VaultViews.{reply_view}
use Rattle.doc_vault.specs.Outcomes.{Stops}
use Rattle.doc_vault.proofs.FaultLaws.{tells-bytes, tells-none}
use Rattle.doc_vault.proofs.Replies.{none_read}
use Rattle.doc_vault.proofs.judge.judge_update.Goals as goal

pub returns-in-Some-clause-comes : goal.returns-in-Some-clause-comes
returns-in-Some-clause-comes c shown = record { read = Some (reply_view c.in-Some.reply); is_read = c.in-Some.ensures.found; comes = c.acknowledged.ensures.outcome shown }

pub returns-in-Some-clause-fault : goal.returns-in-Some-clause-fault
returns-in-Some-clause-fault c = tells-bytes (reply_view c.in-Some.reply) c.args.bytes.now c.acknowledged.result c.in-Some.ensures.found c.acknowledged.ensures.fault

pub returns-in-None-clause-comes : goal.returns-in-None-clause-comes
returns-in-None-clause-comes c shown = record { read = None; is_read = none_read _ c.read_whole_reply.result c.in-None.is c.read_whole_reply.ensures.only; comes = ap Stops (sym c.bad.ensures) }

pub returns-in-None-clause-fault : goal.returns-in-None-clause-fault
returns-in-None-clause-fault c = tells-none c.args.bytes.now c.bad.result (none_read _ c.read_whole_reply.result c.in-None.is c.read_whole_reply.ensures.only) c.bad.ensures
