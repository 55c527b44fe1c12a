use Rattle.std.proofs.Common.{◌∙◌, sym}
use Rattle.sse_script.proofs.NumberLemmas.{number_of-parse, numeral_is_utf8}
use Rattle.script_made_lines.proofs.number.number_of.Goals as goal

pub returns-in-Ok : goal.returns-in-Ok
returns-in-Ok c = c.ok.ensures.value ∙ number_of-parse c.args.text.now c.in-Ok.text.now _ (sym c.if-not-is_numeral.ensures) c.in-Ok.ensures.cases.0 c.parse.ensures.value.0

pub returns-in-Err : goal.returns-in-Err
returns-in-Err c = absurd (c.in-Err.ensures.cases.0 (numeral_is_utf8 c.args.text.now (sym c.if-not-is_numeral.ensures)))
