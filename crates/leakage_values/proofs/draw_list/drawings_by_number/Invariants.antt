use Rattle.std.proofs.Common.{◌≡◌, [], ◌∷◌, map, take}
use Rattle.client_registry.specs.Over.{over}
use Rattle.leakage_history.specs.Commands.{command_of}
use Rattle.leakage_values.specs.Numbered.{numbered_drawing}
use Rattle.leakage_values.specs.Replayed.{Follows}
use Rattle.def_leakage.specs.DrawnValues.{drawings_of_setup, drawings_by}
use Rattle.leakage_values.proofs.draw_list.drawings_by_number.Given as goal

abbrev pub invariant-loop-command : goal.invariant-loop-command
invariant-loop-command l = record {
  follows : Follows l.replay l.history.setup (map command_of (take l.command-index l.command-items));
  all : l.all ≡ map (map (numbered_drawing l.words)) (drawings_of_setup l.epoch l.history.setup ∷ over (drawings_by l.epoch l.history.setup) [] (map command_of (take l.command-index l.command-items)));
}
