use Rattle.std.proofs.Common.{sym}
use Rattle.server_core.proofs.EntryLemmas.{length-items_in}
use Rattle.server_core.proofs.entries.item_count.Goals as goal

pub returns : goal.returns
returns c = rw c.from.ensures (sym (length-items_in c.args.size c.args.bytes.now))
