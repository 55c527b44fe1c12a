use Rattle.std.proofs.Common.{None}
use Rattle.vault_server.specs.VaultViews.{reply_view}
use Rattle.vault_restore.proofs.Judged.{none_read, numbered-read}
use Rattle.vault_restore.proofs.next_number.judge_number.Goals as goal

pub returns-in-Some : goal.returns-in-Some
returns-in-Some c = numbered-read (reply_view c.in-Some.reply) c.args.bytes.now c.number_in.result c.in-Some.ensures.found c.number_in.ensures

pub returns-in-None : goal.returns-in-None
returns-in-None c = record { read = None; is_read = none_read _ c.read_whole_reply.result c.in-None.is c.read_whole_reply.ensures.only; other = tt; stop_is = c.bad.ensures }
