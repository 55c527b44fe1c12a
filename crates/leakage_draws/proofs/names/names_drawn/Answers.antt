use Rattle.std.proofs.Common.{◌++◌, ap, ◌∙◌}
use Rattle.std.specs.Prelude.{flat_map}
use Rattle.client_registry.specs.Sized.{run_words}
use Rattle.leakage_history.specs.HashedRun.{run_of}
use Rattle.leakage_draws.proofs.PlacedLaws.{drawn_flat}
use Rattle.leakage_draws.proofs.names.names_drawn.Goals as goal

pub returns : goal.returns
returns c = λ o own.
    c.in_ok-push_lists.ensures
    ∙ ap (λ ns. ns ++ flat_map (λ ns. ns) c.as_slice.result.now) c.new-names.ensures
    ∙ drawn_flat (run_words (run_of c.args.history.now)) o (run_of c.args.history.now) c.as_slice.result.now (c.as_slice.ensures ∙ c.in_ok-lists.ensures o own)
