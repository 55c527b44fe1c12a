use Rattle.std.proofs.Common.{sym, subst}
use Rattle.client_registry.specs.Epochs.{AreEpochs}
use Rattle.leakage_history.proofs.Refusals.{IsHistory-accepted}
use Rattle.leakage_history.specs.HashedEpochs.{epochs_with}
use Rattle.leakage_history.specs.HashedRun.{run_of}
use Rattle.leakage_history.proofs.epochs.Epochs.of.Goals as goal

pub invariant_of-result : goal.invariant_of-result
invariant_of-result c =
    subst (λ before. AreEpochs (epochs_with before (run_of c.args.history))) (sym c.new.ensures.items) (IsHistory-accepted (run_of c.args.history) c.len-commands.ensures.valid c.requires)
