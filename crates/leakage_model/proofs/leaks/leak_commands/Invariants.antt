use Rattle.std.proofs.Common.{◌≡◌, ◌++◌, [], map, take}
use Rattle.client_registry.specs.Over.{over}
use Rattle.client_registry.specs.Run.{Offsets}
use Rattle.leakage_frames.specs.Views.{leak_view}
use Rattle.def_leakage.specs.CommandLeaks.{leak_by}
use Rattle.leakage_model.specs.TrailFacts.{Follows}
use Rattle.leakage_model.proofs.leaks.leak_commands.Given as goal

abbrev pub invariant-loop-command : goal.invariant-loop-command
invariant-loop-command l = record {
  leaks : (o : Offsets) → o.command ≡ l.first → map leak_view l.leaks ≡ map leak_view l.initial.leaks ++ over (leak_by o l.history.setup) [] (take l.command-index l.history.later);
  follows : (o : Offsets) → o.command ≡ l.first → Follows l.trail o l.history.setup (take l.command-index l.history.later);
}
