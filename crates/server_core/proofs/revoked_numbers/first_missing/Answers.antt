use Rattle.std.proofs.Common.{ap, length, arith}
use Rattle.std.proofs.Math.Nat.{div-le_self}
use Rattle.server_core.proofs.EntryLemmas.{length-items_in}
use Rattle.server_core.proofs.revoked_numbers.first_missing.Goals as goal

-- there are no more numbers than bytes
pub overflow_add-place : goal.overflow_add-place
overflow_add-place g c =
    let all = length-items_in 16 c.args.numbers.now in
    let few = div-le_self (length c.args.numbers.now) 16 in
    let one = ap length c.in-Some.ensures.items in
    omega arith
