use Rattle.script_game.proofs.Refusals.{word_refusal-s}
use Rattle.script_game.proofs.game_documents.game_word.Goals as goal

pub unreachable-requires : goal.unreachable-requires
unreachable-requires c = let no = c.in-Err.ensures.accepted word_refusal-s in absurd (cc)
