use Rattle.std.proofs.Common.{sym, ap, ◌∙◌}
use Rattle.client_registry.specs.Run.{last_run}
use Rattle.leakage_history.proofs.EpochLaws.{last_run-with}
use Rattle.leakage_history.specs.Commands.{command_of}
use Rattle.leakage_history.specs.HashedEpochs.{epochs_in}
use Rattle.leakage_history.specs.HashedRun.{run_of}
use Rattle.leakage_history.specs.Refusal.{push_refusal}
use Rattle.leakage_history.proofs.epochs.Epochs.refusal.Goals as goal

pub returns-clause-refusal : goal.returns-clause-refusal
returns-clause-refusal c =
    c.refusal.ensures.refusal
    ∙ ap (λ run. push_refusal run (command_of c.args.command.now)) (sym (last_run-with c.self.inside.before.items (run_of c.self.inside.last)) ∙ ap (λ h. last_run (epochs_in h)) c.self.view_is)
