use Rattle.std.proofs.Common.{◌≡◌, take}
use Rattle.indexmap.specs.IndexMap.{hasher_of}
use Rattle.client_registry.specs.Documents.{words_of}
use Rattle.client_registry.specs.IdNumber.{id_number}
use Rattle.client_registry.specs.Numbered.{words_by_number}
use Rattle.leakage_model.specs.TrailFacts.{ChangesEach}
use Rattle.leakage_model.specs.WordFacts.{set_up_with}
use Rattle.leakage_model.proofs.trail_setup.set_up_document.Given as goal

abbrev pub invariant-loop-number : goal.invariant-loop-number
invariant-loop-number l = record {
  held : ChangesEach l.fn.words.entries l.words.entries (words_by_number (words_of l.docs.documents) (take l.number-index l.doc.numbers.now)) (λ _. set_up_with l.command (id_number l.doc.id));
  hasher : hasher_of l.words ≡ hasher_of l.fn.words;
}
