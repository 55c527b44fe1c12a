use Rattle.std.proofs.Common.{ap, ap₂, ◌∙◌}
use Rattle.std.proofs.lemmas.Result.{IfOk-weaker}
use Rattle.clap.specs.Words.{App, Shape, with_subcommand}
use Rattle.program_words.proofs.disk_mode.disk_command.Goals as goal

abbrev top_of : App → Shape
top_of a = a.top

pub returns : goal.returns
returns c =
    let one = c.in_ok-subcommand.ensures.shape c.new.ensures.local ∙ ap₂ with_subcommand c.one_of_several.ensures (ap top_of c.new.ensures.app) in
    IfOk-weaker c.subcommand-2.result _ _ (λ command added. added.shape c.new-2.ensures.local ∙ ap₂ with_subcommand one (ap top_of c.new-2.ensures.app)) c.subcommand-2.ensures
