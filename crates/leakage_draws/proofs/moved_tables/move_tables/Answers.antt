use Rattle.std.proofs.Common.{Some, subst}
use Rattle.std.specs.Prelude.{IfSome}
use Rattle.std.proofs.lemmas.Result.{on_ok_weaker}
use Rattle.def_comparison.specs.FirstDifference.{IsFirstDifference}
use Rattle.def_leakage.specs.Histories.{leak_in}
use Rattle.leakage_history.specs.HashedEpochs.{epochs_in}
use Rattle.leakage_draws.proofs.moved_tables.move_tables.Goals as goal

pub returns-in-Ok-clause-same : goal.returns-in-Ok-clause-same
returns-in-Ok-clause-same c = on_ok_weaker c.moved_unless.result c.in-Ok.ensures.same c.moved_unless.ensures.same

pub returns-in-Ok-clause-differ : goal.returns-in-Ok-clause-differ
returns-in-Ok-clause-differ c = λ k e.
    subst (λ o. IfSome o (λ k. IsFirstDifference k (leak_in (Some (epochs_in c.args.epochs.now))) (leak_in (Some (epochs_in c.args.other.now))))) (c.moved_unless.ensures.differ k e) c.in-Ok.ensures.first
