use Rattle.std.proofs.Common.{◌∷◌, [], ◌++◌, Some, sym, ap, ◌∙◌}
use Rattle.client_registry.specs.Epochs.{begins}
use Rattle.client_registry.specs.Run.{last_run}
use Rattle.def_leakage.specs.Histories.{leak_in}
use Rattle.leakage_history.specs.Commands.{command_of}
use Rattle.sse_game.specs.Side.{epochs_at}
use Rattle.sse_game.proofs.Growing.{leaks-does}
use Rattle.sse_game.proofs.side.take_command.Goals as goal

pub returns-in-Ok : goal.returns-in-Ok
returns-in-Ok c =
    let es = epochs_at c.args.side.now in
    record {
      side = c.in-Ok.ensures.side;
      after = ap Some c.in-Ok.ensures.after;
      leaks = leaks-does es (command_of c.args.command) ∙ ap (λ leak. leak_in (Some es) ++ leak ∷ []) (sym (c.in_ok-leak.ensures (begins es) (last_run es).setup (last_run es).later c.requires.side.trail));
    }
