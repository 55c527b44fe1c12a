use Rattle.std.proofs.Common.{sym, ap, ◌∙◌}
use Rattle.std.specs.Prelude.{option_map}
use Rattle.index_setup.specs.declared.fault.BuildFault.TheVariants.{LabelClash}
use Rattle.index_setup.proofs.index_build.labels_differ.Goals as goal

pub returns-in-Some : goal.returns-in-Some
returns-in-Some c = λ tags order. ap (option_map (λ entries. LabelClash entries.0 entries.1)) (sym c.in-Some.is ∙ c.first_clash.ensures tags order)

pub returns-in-None : goal.returns-in-None
returns-in-None c = λ tags order. ap (option_map (λ entries. LabelClash entries.0 entries.1)) (sym c.in-None.is ∙ c.first_clash.ensures tags order)
