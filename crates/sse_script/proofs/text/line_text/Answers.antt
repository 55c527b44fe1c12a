use Rattle.std.specs.Prelude.{[], ◌∷◌}
use Rattle.std.proofs.lemmas.List.Folds.{concat-append}
use Rattle.sse_script.specs.Texts.{refusal_text}
use Rattle.sse_script.proofs.text.line_text.Goals as goal

pub returns-in-Refused : goal.returns-in-Refused
returns-in-Refused c =
    rw c.in-Refused.is (rw (concat-append (refusal_text c.in-Refused.refusal) ((10 ∷ []) ∷ [])) c.format-in-Refused.ensures.ok)
