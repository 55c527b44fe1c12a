use Rattle.std.proofs.Common.{◌≡◌, sym, subst}
use Rattle.std.specs.Prelude.{IfOk}
use Rattle.leakage_frames.specs.Views.{leak_view}
use Rattle.leakage_history.specs.Commands.{command_of}
use Rattle.leakage_history.specs.declared.command.Command.{Command}
use Rattle.def_leakage.specs.CommandLeaks.{leak_by}
use Rattle.leakage_model.proofs.trail.Trail.leak.Goals as goal

pub returns-in-Search : goal.returns-in-Search
returns-in-Search c = λ o s past follows.
    subst (λ (command : Command). IfOk c.search_leak.result (λ leak. leak_view leak ≡ leak_by o s past (command_of command))) (sym c.in-Search.is) (c.search_leak.ensures o s past follows)
