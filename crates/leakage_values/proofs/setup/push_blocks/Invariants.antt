use Rattle.std.proofs.Common.{◌≡◌, ◌++◌, ℕ, take}
use Rattle.client_registry.specs.Documents.{words_of}
use Rattle.client_registry.specs.Setup.{setup_with}
use Rattle.leakage_values.specs.SetupDrawings.{blocks_by_number}
use Rattle.leakage_values.proofs.setup.push_blocks.Given as goal

abbrev pub invariant-loop-w : goal.invariant-loop-w
invariant-loop-w l = (pad : ℕ) → l.drawings ≡ l.initial.drawings ++ blocks_by_number l.epoch l.words (setup_with l.docs.documents l.shape.b l.shape.big pad) (take l.w (words_of l.docs.documents))
