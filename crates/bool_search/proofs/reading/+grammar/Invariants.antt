use Rattle.std.specs.Prelude.{◌+◌, ◌*◌, length}
use Rattle.bool_search.proofs.Prints.{Joined}
use Rattle.bool_search.specs.Grammar.{tree_of}
use Rattle.bool_search.specs.Places.{IsOver}
use Rattle.bool_search.proofs.reading.+grammar.Given as goal

abbrev pub decreases-expression : goal.decreases-expression
decreases-expression l = 4 * length l.signs.now + 2

abbrev pub decreases-factor : goal.decreases-factor
decreases-factor l = 4 * length l.signs.now

abbrev pub decreases-term : goal.decreases-term
decreases-term l = 4 * length l.signs.now + 1

abbrev pub decreases-within : goal.decreases-within
decreases-within l = 4 * length l.signs.now + 3

abbrev pub invariant-expression-terms : goal.invariant-expression-terms
invariant-expression-terms l = record {
  joined : Joined 2 l.fn.signs (tree_of l.read.node) l.read.rest.now;
  over : IsOver 1 l.read.rest.now;
}

abbrev pub decreases-expression-terms : goal.decreases-expression-terms
decreases-expression-terms l = length l.read.rest.now

abbrev pub invariant-term-factors : goal.invariant-term-factors
invariant-term-factors l = record {
  joined : Joined 1 l.fn.signs (tree_of l.read.node) l.read.rest.now;
}

abbrev pub decreases-term-factors : goal.decreases-term-factors
decreases-term-factors l = length l.read.rest.now
