use Rattle.std.proofs.Common.{◌≡◌, drop}
use Rattle.program_words.specs.Owners as owners
use Rattle.program_words.proofs.owners.rises_above.Given as goal

abbrev pub invariant-loop-number : goal.invariant-loop-number
invariant-loop-number l = owners.rises_above l.fn.first l.numbers ≡ owners.rises_above l.last (drop l.number-index l.numbers)
