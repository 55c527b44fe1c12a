use Rattle.std.proofs.Common.{map, ap, ◌∙◌}
use Rattle.client_registry.specs.WordBytes.{word_bytes}
use Rattle.leakage_history.proofs.FirstSeen.{inserted_after}
use Rattle.leakage_history.proofs.run_words.insert_word.Goals as goal

pub returns : goal.returns
returns c = λ ws had. ap (map word_bytes) c.in_ok-insert.ensures.keys ∙ inserted_after c.args.words.now.keys c.args.word.now ws had
