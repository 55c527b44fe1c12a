use Rattle.std.proofs.Common.{◌∙◌, sym, arith}
use Rattle.std.proofs.lemmas.Grind.{common_steps}
use Rattle.program_words.specs.Owners.{owner_of}
use Rattle.program_words.proofs.NumberLemmas.{numeral_below-parse}
use Rattle.program_words.proofs.owners.owner_of.Goals as goal

pub returns-then-not-is_numeral-clause-number : goal.returns-then-not-is_numeral-clause-number
unfolding owner_of
returns-then-not-is_numeral-clause-number c = grind (arith, common_steps)

pub returns-clause-number : goal.returns-clause-number
unfolding owner_of
returns-clause-number c = c.ok.ensures.value ∙ numeral_below-parse 64 c.args.word.now c.as_bytes.result.now _ (sym c.if-not-is_numeral.ensures) c.as_bytes.ensures.value c.parse.ensures.value.0
