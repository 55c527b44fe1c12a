use Rattle.vault_server.specs.VaultViews.{reply_view}
use Rattle.vault_restore.proofs.Judged.{judged-read}
use Rattle.vault_restore.proofs.judge.judge_slot.Goals as goal

pub returns-in-Some : goal.returns-in-Some
returns-in-Some g c = judged-read _ _ _ _ (reply_view c.in-Some.reply) c.by_reply.result c.in-Some.ensures.found c.by_reply.ensures
