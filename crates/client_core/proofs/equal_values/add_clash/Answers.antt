use Rattle.std.proofs.Common.{sym, ap, ◌∙◌}
use Rattle.std.specs.Option.{option_or}
use Rattle.client_core.specs.UpdateFaults.{number_fault}
use Rattle.client_core.proofs.equal_values.add_clash.Goals as goal

pub returns-in-Some : goal.returns-in-Some
returns-in-Some c = λ tags values labels numbers. ap (λ o. option_or o (number_fault c.args.listed.now values)) (sym c.in-Some.is ∙ c.label_clash.ensures tags labels)

pub returns-in-None : goal.returns-in-None
returns-in-None c = λ tags values labels numbers.
    c.number_clash.ensures values numbers ∙ ap (λ o. option_or o (number_fault c.args.listed.now values)) (sym c.in-None.is ∙ c.label_clash.ensures tags labels)
