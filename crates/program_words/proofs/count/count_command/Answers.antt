use Rattle.std.proofs.Common.{ap₂, ◌∙◌}
use Rattle.std.proofs.lemmas.Result.{IfOk-weaker}
use Rattle.clap.specs.Words.{with_rule}
use Rattle.program_words.proofs.count.count_command.Goals as goal

pub returns : goal.returns
returns c =
    IfOk-weaker c.arg.result _ _ (λ command added. added.shape c.new.ensures.optional.1 ∙ ap₂ with_rule c.own_words.ensures c.new.ensures.rule) c.arg.ensures
