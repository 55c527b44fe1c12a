use Rattle.std.proofs.Common.{length, ap, ◌∙◌}
use Rattle.std.specs.Prelude.{sum_by}
use Rattle.leakage_history.specs.HashedEpochs.{epochs_in}
use Rattle.leakage_draws.proofs.SumLaws.{counted_are}
use Rattle.leakage_draws.proofs.counted.count.Goals as goal

pub returns : goal.returns
returns c = λ t are.
    counted_are (epochs_in c.args.epochs.now) t c.in_ok-frames.frames (length c.as_slice.result.now) c.in_ok-bytes_of.field-0 c.in_ok-sum_in.field-0
    (c.in_ok-frames.ensures.agreed t are) (ap length c.as_slice.ensures) (c.in_ok-bytes_of.ensures ∙ ap (sum_by length) c.as_slice-2.ensures) (c.in_ok-sum_in.ensures t are)
