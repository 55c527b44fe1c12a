use Rattle.std.proofs.Common.{arith}
use Rattle.leakage_history.specs.HashedEpochs.{epochs_in}
use Rattle.leakage_history.specs.HashedRun.{run_of}
use Rattle.leakage_history.proofs.EpochLists.{IsHistory-epoch}
use Rattle.tool_leak_bytes.proofs.uses.push_uses.Goals as goal

pub epoch-history-requires : goal.epoch-history-requires
epoch-history-requires c = omega (arith, c.loop-number-test.true, c.len-number-end.ensures.len)

pub push_uses_of-requires : goal.push_uses_of-requires
push_uses_of-requires c =
    (IsHistory-epoch (epochs_in c.args.epochs.now) c.loop-number.number (run_of c.epoch-history.result.now) c.len-number-end.ensures.valid c.epoch-history.ensures).setup
