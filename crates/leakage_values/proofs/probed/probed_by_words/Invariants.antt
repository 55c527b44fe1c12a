use Rattle.std.proofs.Common.{◌≡◌, [], ◌∷◌, map, take}
use Rattle.client_registry.specs.Over.{over}
use Rattle.leakage_history.specs.Commands.{command_of}
use Rattle.leakage_values.specs.Listed.{IsListing}
use Rattle.leakage_values.specs.Numbered.{numbered}
use Rattle.sse_model.specs.Drawn.{probed_by}
use Rattle.leakage_values.proofs.probed.probed_by_words.Given as goal

abbrev pub invariant-loop-command : goal.invariant-loop-command
invariant-loop-command l = record {
  follows : IsListing l.listing l.history.setup (map command_of (take l.command-index l.command-items));
  all : l.all ≡ map (map (numbered l.words)) ([] ∷ over (probed_by l.epoch l.history.setup) [] (map command_of (take l.command-index l.command-items)));
}
