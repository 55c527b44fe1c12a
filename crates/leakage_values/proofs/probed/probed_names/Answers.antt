use Rattle.std.proofs.Common.{◌≡◌, map, subst}
use Rattle.std.specs.Prelude.{IfOk}
use Rattle.client_registry.specs.Run.{Offsets}
use Rattle.leakage_history.specs.HashedRun.{run_of}
use Rattle.leakage_values.specs.Numbered.{numbered}
use Rattle.sse_model.specs.Drawn.{probed}
use Rattle.leakage_values.proofs.probed.probed_names.Goals as goal

pub returns : goal.returns
returns c =
    subst (λ ws. IfOk c.probed_by_words.result (λ all. (o : Offsets) → o.epoch ≡ c.args.epoch → all ≡ map (map (numbered ws)) (probed o (run_of c.args.history.now))))
    c.in_ok-words.ensures c.probed_by_words.ensures
