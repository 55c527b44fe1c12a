use Rattle.std.proofs.Common.{ap₂, ◌∙◌}
use Rattle.std.specs.Prelude.{◌||◌}
use Rattle.std.proofs.lemmas.Result.{IfOk-weaker}
use Rattle.clap.specs.Words.{with_rule}
use Rattle.program_words.proofs.local_mode.made_command.Goals as goal

pub returns : goal.returns
returns c =
    let one = c.in_ok-arg.ensures.shape c.required.ensures.own ∙ ap₂ with_rule c.new.ensures.app c.required.ensures.rule in
    let none = c.in_ok-arg.ensures.globals ∙ ap₂ (λ a b. a || b) c.new.ensures.local c.required.ensures.own in
    record {
      app = IfOk-weaker c.arg-2.result _ _ (λ command added. added.shape c.required-2.ensures.own ∙ ap₂ with_rule one c.required-2.ensures.rule) c.arg-2.ensures;
      own = IfOk-weaker c.arg-2.result _ _ (λ command added. added.globals ∙ ap₂ (λ a b. a || b) none c.required-2.ensures.own) c.arg-2.ensures;
    }
