use Rattle.vault_restore.proofs.Judged.{judged-text}
use Rattle.vault_restore.proofs.judge.by_reply.Goals as goal

pub returns-in-Body : goal.returns-in-Body
returns-in-Body g c = rw c.in-Body.is (judged-text _ _ _ c.in-Body.tag.now c.in-Body.sealed.now c.open_text.result c.open_text.ensures)
