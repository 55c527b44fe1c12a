use Rattle.std.proofs.Common.{sym, ap, ◌∙◌}
use Rattle.std.specs.Prelude.{option_map}
use Rattle.client_core.specs.declared.command_fault.CommandFault.TheVariants.{LabelClash}
use Rattle.client_core.proofs.equal_values.label_clash.Goals as goal

pub returns-in-Some : goal.returns-in-Some
returns-in-Some c = λ labels order. ap (option_map (λ two. LabelClash two.0 two.1)) (sym c.in-Some.is ∙ c.equal_positions.ensures labels order)

pub returns-in-None : goal.returns-in-None
returns-in-None c = λ labels order. ap (option_map (λ two. LabelClash two.0 two.1)) (sym c.in-None.is ∙ c.equal_positions.ensures labels order)
