use Rattle.std.proofs.Common.{ap, ◌∙◌}
use Rattle.clap.specs.Words.{found_of}
use Rattle.clap.proofs.WalkLemmas.{first_value-rows}
use Rattle.program_words.specs.Commands.{count_at}
use Rattle.program_words.proofs.count.count_in.Goals as goal

pub returns-in-Some : goal.returns-in-Some
returns-in-Some c = c.number_within.ensures.number ∙ ap count_at (c.in-Some.ensures ∙ first_value-rows (found_of c.args.matches.now) _)

pub returns-in-None : goal.returns-in-None
returns-in-None c = ap count_at (c.in-None.ensures ∙ first_value-rows (found_of c.args.matches.now) _)
