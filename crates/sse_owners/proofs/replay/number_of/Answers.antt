use Rattle.std.proofs.Common.{arith, rules}
use Rattle.std.proofs.lemmas.Nat.{be_bytes_8}
use Rattle.sse_owners.proofs.replay.number_of.Goals as goal

pub returns-clause-number : goal.returns-clause-number
returns-clause-number c = be_bytes_8 c.args.bytes.now c.from_be_bytes.result (omega (arith, c.told-bytes)) (search rules) c.from_be_bytes.ensures
