use Rattle.std.proofs.Common.{Err, ap, ◌∙◌}
use Rattle.def_duel.specs.Choices.{SetsUp, can_take}
use Rattle.std.proofs.Common.{None}
use Rattle.sse_game.specs.Views.{setup_view}
use Rattle.sse_game.specs.declared.game.Game.{Game}
use Rattle.sse_game.specs.declared.fault.DuelFault.TheVariants as faults
use Rattle.sse_game.proofs.Faults.{both_true, not_both, same_error}
use Rattle.sse_game.proofs.begin.begin_setups.Goals as goal

pub returns-in-Err-clause-differ : goal.returns-in-Err-clause-differ
returns-in-Err-clause-differ g c = λ k e.
    let has = c.begin_both.ensures.differ k (c.in-Err.is ∙ ap Err (same_error Game c.in-Err.fault (faults.LeaksDiffer k) e)) in
    record { taken = both_true (can_take None (SetsUp (setup_view c.args.left))) (can_take None (SetsUp (setup_view c.args.right))) has.0.0 has.0.1; first = has.1 }

pub returns-in-Err-clause-no_setup : goal.returns-in-Err-clause-no_setup
returns-in-Err-clause-no_setup g c = λ e.
    not_both (can_take None (SetsUp (setup_view c.args.left))) (can_take None (SetsUp (setup_view c.args.right))) (c.begin_both.ensures.no_setup (c.in-Err.is ∙ ap Err (same_error Game c.in-Err.fault faults.NoSetup e)))
