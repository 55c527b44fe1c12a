use Rattle.script_run_texts.proofs.LineWords.{words_few}
use Rattle.script_run_texts.proofs.input.Input.line.Goals as goal

pub returns-in-Ok-clause-words : goal.returns-in-Ok-clause-words
returns-in-Ok-clause-words c = words_few _ c.deref.result.now c.in-Ok.ensures.read
