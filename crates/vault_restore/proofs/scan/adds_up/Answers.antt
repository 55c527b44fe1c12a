use Rattle.std.proofs.Common.{◌+◌, ◌/◌, arith}
use Rattle.std.proofs.lemmas.Bool.{leb-true}
use Rattle.vault_restore.proofs.scan.adds_up.Goals as goal

pub returns-then-puts-sum-clause-yes : goal.returns-then-puts-sum-clause-yes
returns-then-puts-sum-clause-yes c e = (
  (c.from.result + c.from-2.result) / 2,
  omega (arith, c.if-puts-sum.true, c.from.ensures, c.from-2.ensures),
  omega (arith, leb-true c.from-then-puts-sum.result ((c.from.result + c.from-2.result) / 2) e, c.from-then-puts-sum.ensures),
)
