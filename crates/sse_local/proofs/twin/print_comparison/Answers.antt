use Rattle.std.proofs.Common.{arith}
use Rattle.sse_local.proofs.twin.print_comparison.Goals as goal

pub compare-requires-clause-numbered : goal.compare-requires-clause-numbered
compare-requires-clause-numbered g c = omega (arith, c.requires.counted.commands)

pub compare-requires-clause-numbered_too : goal.compare-requires-clause-numbered_too
compare-requires-clause-numbered_too g c = omega (arith, c.requires.counted_too.commands)
