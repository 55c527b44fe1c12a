use Rattle.std.proofs.Common.{ap, length, arith}
use Rattle.std.proofs.Math.Nat.{div-le_self}
use Rattle.server_core.proofs.EntryLemmas.{length-entries_in}
use Rattle.server_core.proofs.additions.first_added.Goals as goal

-- there are no more additions than bytes
pub overflow_add-place : goal.overflow_add-place
overflow_add-place g c =
    let all = length-entries_in 8 c.args.entries.now in
    let few = div-le_self (length c.args.entries.now) 24 in
    let one = ap length c.in-Some.ensures.entries in
    omega arith
