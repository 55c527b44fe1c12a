use Rattle.std.proofs.Common.{ap, ◌∙◌}
use Rattle.std.specs.Option.{option_and_then}
use Rattle.program_words.specs.Numbers.{number_within, within}
use Rattle.program_words.proofs.number.number_within.Goals as goal

pub returns-in-Some-clause-number : goal.returns-in-Some-clause-number
unfolding number_within
returns-in-Some-clause-number c = c.within.ensures.number ∙ ap (option_and_then (within c.args.low c.args.high)) c.in-Some.ensures

pub returns-in-None-clause-number : goal.returns-in-None-clause-number
unfolding number_within
returns-in-None-clause-number c = ap (option_and_then (within c.args.low c.args.high)) c.in-None.ensures
