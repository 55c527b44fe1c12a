use Rattle.std.proofs.Common.{arith}
use Rattle.client_core.proofs.setup_frames.dictionary_part.Goals as goal

pub returns-clause-grammar : goal.returns-clause-grammar
returns-clause-grammar c = c.requires.grammar (λ i. omega (arith, c.type_inv.entries i))
