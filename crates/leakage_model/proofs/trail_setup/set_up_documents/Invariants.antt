use Rattle.std.proofs.Common.{◌≡◌, ℕ, List, take}
use Rattle.indexmap.specs.IndexMap.{hasher_of}
use Rattle.client_registry.specs.Setup.{setup_of}
use Rattle.leakage_model.proofs.SetupLaws.{told_of}
use Rattle.leakage_model.specs.TrailFacts.{facts_in}
use Rattle.leakage_model.proofs.trail_setup.set_up_documents.Given as goal

abbrev pub invariant-loop-i : goal.invariant-loop-i
invariant-loop-i l = record {
  told : (word : List ℕ) → facts_in l.words.entries word ≡ told_of l.command (setup_of l.docs.documents l.fn.shape.b l.fn.shape.big) (take l.i l.docs.documents) word;
  hasher : hasher_of l.words ≡ hasher_of l.fn.words;
}
