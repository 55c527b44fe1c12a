use Rattle.std.proofs.Common.{sym, ◌∙◌, ap}
use Rattle.program_words.specs.Owners.{rises}
use Rattle.program_words.proofs.OwnerLaws.{rising_at}
use Rattle.program_words.proofs.owners.owners_of.Goals as goal

pub returns-then-rises-clause-rising : goal.returns-then-rises-clause-rising
returns-then-rises-clause-rising c = rising_at _ (ap rises (sym c.deref.ensures.value) ∙ sym c.rises.ensures ∙ c.if-rises.true)
