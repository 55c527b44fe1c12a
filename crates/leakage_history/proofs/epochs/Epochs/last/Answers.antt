use Rattle.std.proofs.Common.{Some, sym, ap, subst, ◌∙◌}
use Rattle.client_registry.specs.Epochs.{AreEpochs}
use Rattle.client_registry.specs.Histories.{IsWhole}
use Rattle.client_registry.specs.Run.{last_run}
use Rattle.leakage_history.proofs.EpochLaws.{first_begins-with, last_run-with}
use Rattle.leakage_history.specs.HashedEpochs.{epochs_in}
use Rattle.leakage_history.specs.HashedRun.{run_of}
use Rattle.leakage_history.proofs.epochs.Epochs.last.Goals as goal

pub returns-clause-run : goal.returns-clause-run
returns-clause-run c = sym (last_run-with c.self.inside.before.items (run_of c.self.inside.last)) ∙ ap (λ h. last_run (epochs_in h)) c.self.view_is

pub returns-clause-valid : goal.returns-clause-valid
returns-clause-valid c = subst (λ h. AreEpochs (epochs_in h)) c.self.view_is c.self.invariant

pub returns-clause-whole : goal.returns-clause-whole
returns-clause-whole c = subst (λ h. IsWhole (Some (epochs_in h))) c.self.view_is (first_begins-with c.self.inside.before.items (run_of c.self.inside.last))
