use Rattle.std.proofs.Common.{◌∙◌, sym}
use Rattle.program_words.proofs.NumberLemmas.{numeral_below-parse}
use Rattle.program_words.proofs.number.number_of.Goals as goal

pub returns : goal.returns
returns c = c.ok.ensures.value ∙ numeral_below-parse 32 c.args.word.now c.as_bytes.result.now _ (sym c.if-not-is_numeral.ensures) c.as_bytes.ensures.value c.parse.ensures.value.0
