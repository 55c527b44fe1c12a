use Rattle.std.proofs.Common.{◌∙◌}
use Rattle.client_registry.specs.Sized.{run_words}
use Rattle.leakage_history.specs.HashedRun.{run_of}
use Rattle.leakage_draws.proofs.PlacedLaws.{used_flat}
use Rattle.leakage_draws.proofs.names.names_used.Goals as goal

pub returns : goal.returns
returns c = λ o own.
    used_flat (run_words (run_of c.args.history.now)) o (run_of c.args.history.now) c.args.drawn c.push_lists.new.names c.as_slice.result.now (c.requires o own) (c.as_slice.ensures ∙ c.in_ok-lists.ensures o own) c.in_ok-push_lists.ensures
