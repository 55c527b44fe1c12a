use Rattle.std.proofs.Common.{◌∷◌, [], length, map, Some, sym, ap, subst, ◌∙◌, arith}
use Rattle.std.proofs.lemmas.List.{length-append, length-map}
use Rattle.client_registry.specs.Epochs.{AreEpochs}
use Rattle.client_registry.specs.Histories.{IsWhole}
use Rattle.leakage_history.proofs.EpochLaws.{first_begins-with, renewal_keys-with, run_ended, runs_of-with}
use Rattle.leakage_history.specs.HashedEpochs.{epochs_in, renewal_keys, runs_of}
use Rattle.leakage_history.specs.HashedRun.{run_of}
use Rattle.leakage_history.specs.declared.epochs.Ended.{Ended}
use Rattle.leakage_history.proofs.epochs.Epochs.len.Goals as goal

pub returns-clause-len : goal.returns-clause-len
returns-clause-len c =
    let before = c.self.inside.before.items in
    let run = run_of c.self.inside.last in
    let all = ap (λ h. length (runs_of (epochs_in h))) (sym c.self.view_is) ∙ ap length (runs_of-with before run) in
    omega (arith, all, length-append (map run_ended before) (run ∷ []), length-map before run_ended, c.len.ensures)

pub returns-clause-renewals : goal.returns-clause-renewals
returns-clause-renewals c =
    let before = c.self.inside.before.items in
    let run = run_of c.self.inside.last in
    let all = ap (λ h. length (renewal_keys (epochs_in h))) (sym c.self.view_is) ∙ ap length (renewal_keys-with before run) in
    omega (arith, all, length-map before (λ (e : Ended). e.key), c.len.ensures)

pub returns-clause-valid : goal.returns-clause-valid
returns-clause-valid c = subst (λ h. AreEpochs (epochs_in h)) c.self.view_is c.self.invariant

pub returns-clause-whole : goal.returns-clause-whole
returns-clause-whole c = subst (λ h. IsWhole (Some (epochs_in h))) c.self.view_is (first_begins-with c.self.inside.before.items (run_of c.self.inside.last))
