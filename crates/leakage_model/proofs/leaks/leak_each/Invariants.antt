use Rattle.std.proofs.Common.{◌≡◌, ◌++◌, map, take}
use Rattle.std.specs.Prelude.{flat_map}
use Rattle.client_registry.specs.Run.{Run, Offsets}
use Rattle.leakage_frames.specs.Views.{leak_view}
use Rattle.def_leakage.specs.CommandLeaks.{leak}
use Rattle.leakage_history.specs.HashedEpochs.{epochs_in}
use Rattle.leakage_history.proofs.EpochLists.{begins_at, listed}
use Rattle.leakage_model.proofs.leaks.leak_each.Given as goal

abbrev pub invariant-loop-number : goal.invariant-loop-number
invariant-loop-number l = record {
  leaks : map leak_view l.leaks ≡ map leak_view l.initial.leaks ++ flat_map (λ (e : Offsets × Run). leak e.0 e.1) (take l.number (listed (epochs_in l.epochs)));
  first : l.first ≡ (begins_at (epochs_in l.epochs) l.number).command;
}
