use Rattle.std.proofs.Common.{true, ap, ◌∙◌}
use Rattle.clap.specs.Words.{Rule, rule_of}
use Rattle.program_words.proofs.local_mode.required.Goals as goal

abbrev wanted : Rule → Rule
wanted r = record r { required = true }

pub returns : goal.returns
returns c = record {
  rule = ap rule_of c.required.ensures ∙ ap wanted c.new.ensures.rule;
  own = ap (λ a. a.global) c.required.ensures ∙ c.new.ensures.optional.1;
}
