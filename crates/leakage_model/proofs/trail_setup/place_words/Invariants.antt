use Rattle.std.proofs.Common.{◌≡◌, [], take}
use Rattle.std.specs.Prelude.{sum_by}
use Rattle.indexmap.specs.IndexMap.{hasher_of}
use Rattle.client_registry.specs.Documents.{words_of}
use Rattle.client_registry.specs.Setup.{setup_of}
use Rattle.sse_model.specs.Positions.{word_blocks}
use Rattle.leakage_model.proofs.SetupLaws.{home_at}
use Rattle.leakage_model.specs.TrailFacts.{ChangesEach}
use Rattle.leakage_model.specs.WordFacts.{placed_at}
use Rattle.leakage_model.proofs.trail_setup.place_words.Given as goal

abbrev pub invariant-loop-number : goal.invariant-loop-number
invariant-loop-number l = record {
  first : l.first ≡ sum_by (word_blocks (setup_of l.docs.documents l.shape.b l.shape.big)) (take l.number (words_of l.docs.documents));
  words : ChangesEach [] l.words.entries (take l.number (words_of l.docs.documents))
      (λ place. placed_at (home_at (setup_of l.docs.documents l.shape.b l.shape.big) (words_of l.docs.documents) place));
  hasher : hasher_of l.words ≡ hasher_of l.fn.words;
}
