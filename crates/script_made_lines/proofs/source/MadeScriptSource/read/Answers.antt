use Rattle.std.proofs.Common.{◌∙◌}
use Rattle.script_made_lines.proofs.source.MadeScriptSource.read.Goals as goal

pub returns-clause-end : goal.returns-clause-end
returns-clause-end c none = c.hand_over.ensures.none none ∙ c.refill.ensures.at_end (c.hand_over.ensures.some none)
