use Rattle.std.proofs.Common.{Err, ap, ◌∙◌}
use Rattle.leakage_frames.specs.Views.{leak_view}
use Rattle.leakage_frames.specs.declared.leak.Leak.{Leak}
use Rattle.sse_game.specs.Side.{history_at}
use Rattle.sse_game.specs.Views.{choice_view}
use Rattle.sse_game.specs.declared.fault.DuelFault.TheVariants as faults
use Rattle.sse_game.proofs.Faults.{same_error}
use Rattle.sse_game.proofs.Gaming.{unlike}
use Rattle.sse_game.proofs.game.take_both.Goals as goal

pub returns-in-Err-clause-differ : goal.returns-in-Err-clause-differ
returns-in-Err-clause-differ c = λ k e.
    unlike k (history_at c.args.left.now) (history_at c.args.right.now) (choice_view c.args.choice) (choice_view c.args.other) c.take.new.side (leak_view c.in_ok-leak.leak) c.requires.leaks c.in_ok-leak.ensures
    (c.take_alike.ensures.differ k (c.in-Err.is ∙ ap Err (same_error Leak c.in-Err.fault (faults.LeaksDiffer k) e)))
