use Rattle.std.proofs.Common.{◌≡◌, ◌++◌, map, take}
use Rattle.client_registry.specs.Documents.{words_of}
use Rattle.leakage_values.specs.Numbered.{number_of_word}
use Rattle.leakage_values.specs.SetupDrawings.{entry_by_number}
use Rattle.leakage_values.proofs.setup.push_entries.Given as goal

abbrev pub invariant-loop-w : goal.invariant-loop-w
invariant-loop-w l = l.drawings ≡ l.initial.drawings ++ map (λ word. entry_by_number l.epoch (number_of_word l.words word)) (take l.w (words_of l.docs.documents))
