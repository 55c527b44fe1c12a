use Rattle.std.proofs.Common.{length, ap}
use Rattle.keyed_fn.specs.KeyedFn.{keyed_fn}
use Rattle.world_run.proofs.Passing.{passes_one}
use Rattle.world_run.proofs.whole_run.happen.Goals as goal

pub returns-clause-passes : goal.returns-clause-passes
returns-clause-passes g c = λ first w stands.
    passes_one (keyed_fn g.K.Keyed.prf g.K.Keyed.pad) first w c.args.event (record { outcome = c.step-outcome.result; reports = length c.done.result.now }) c.step-outcome.new.self (c.step-outcome.ensures.leads first w stands) (ap length c.done.ensures)
