use Rattle.std.proofs.Common.{sym, ap, ◌∙◌}
use Rattle.std.specs.Prelude.{option_map}
use Rattle.client_core.specs.declared.command_fault.CommandFault.TheVariants.{NumberClash}
use Rattle.client_core.proofs.equal_values.number_clash.Goals as goal

pub returns-in-Some : goal.returns-in-Some
returns-in-Some c = λ numbers order. ap (option_map (λ two. NumberClash two.0 two.1)) (sym c.in-Some.is ∙ c.equal_positions.ensures numbers order)

pub returns-in-None : goal.returns-in-None
returns-in-None c = λ numbers order. ap (option_map (λ two. NumberClash two.0 two.1)) (sym c.in-None.is ∙ c.equal_positions.ensures numbers order)
