use Rattle.client_registry.proofs.DistinctLaws.{IsDistinct-words}
use Rattle.client_registry.specs.Numbered.{words_by_number}
use Rattle.client_registry.specs.Registered.{known_words}
use Rattle.leakage_model.proofs.trail_table.delete_document.Goals as goal

pub delete_words-requires-clause-differ : goal.delete_words-requires-clause-differ
delete_words-requires-clause-differ c = IsDistinct-words (words_by_number (known_words c.args.registry.now) c.in-Some.doc.numbers.now) c.in-Some.ensures.valid.accepted
