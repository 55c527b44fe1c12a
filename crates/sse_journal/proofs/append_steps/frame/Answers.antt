use Rattle.std.proofs.Common.{◌++◌, ◌∷◌, [], List, ℕ, ◌∙◌, ap}
use Rattle.sse_journal.specs.Files.{framed}
use Rattle.sse_journal.proofs.append_steps.frame.Goals as goal

pub returns-clause-bytes : goal.returns-clause-bytes
unfolding framed
returns-clause-bytes c = c.join.ensures.bytes ∙ ap (λ (l : List ℕ). (l ++ c.args.payload.now) ++ 0 ∷ []) c.to_be_bytes-size.ensures
