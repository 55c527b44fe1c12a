use Rattle.std.proofs.Common.{◌+◌, length, sym, arith}
use Rattle.std.proofs.Math.Nat.{div-mul-le_self}
use Rattle.server_core.proofs.EntryLemmas.{length-entries_in}
use Rattle.server_core.proofs.entries.entry_count.Goals as goal

pub returns-clause-count : goal.returns-clause-count
returns-clause-count c = rw c.from.ensures (sym (length-entries_in c.args.width c.args.bytes.now))

-- the cells are no more bytes than the entries
pub returns-clause-cells : goal.returns-clause-cells
returns-clause-cells c = rw c.from.ensures (omega (arith, div-mul-le_self (length c.args.bytes.now) (16 + c.args.width)))
