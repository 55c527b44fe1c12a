use Rattle.std.proofs.Common.{◌≡◌, true, None, Err, refl, sym, ap, subst, ◌∙◌}
use Rattle.std.specs.Prelude.{IfSome, is_some}
use Rattle.def_duel.specs.Choices.{SetsUp, can_take}
use Rattle.leakage_frames.specs.Views.{leak_view}
use Rattle.sse_game.specs.Side.{HasTaken}
use Rattle.sse_game.specs.Views.{setup_view}
use Rattle.sse_game.specs.declared.begin.Both.{Both}
use Rattle.sse_game.specs.declared.fault.DuelFault.TheVariants as faults
use Rattle.sse_game.proofs.Faults.{same_error, untrue}
use Rattle.sse_game.proofs.Gaming.{unlike}
use Rattle.sse_game.proofs.begin.begin_both.Goals as goal

pub returns-in-Err-clause-differ : goal.returns-in-Err-clause-differ
returns-in-Err-clause-differ c = λ k e.
    let left = SetsUp (setup_view c.args.left) in
    let right = SetsUp (setup_view c.args.right) in
    let has = c.begin_alike.ensures.differ k (c.in-Err.is ∙ ap Err (same_error Both c.in-Err.fault (faults.LeaksDiffer k) e)) in
    let one : HasTaken None left c.in-Some.left (leak_view c.in-Some.leak) = subst (λ o. IfSome o (λ x. HasTaken None left x.0 (leak_view x.1))) c.in-Some.is c.in_ok-left.ensures.begun in
    let taken : can_take None left ≡ true = sym c.in_ok-left.ensures.taken ∙ ap is_some c.in-Some.is in
    ((taken, has.0), unlike k None None left right c.in-Some.left (leak_view c.in-Some.leak) refl one has.1)

pub returns-in-Err-clause-no_setup : goal.returns-in-Err-clause-no_setup
returns-in-Err-clause-no_setup c = λ e taken.
    untrue (can_take None (SetsUp (setup_view c.args.right))) taken.1 (c.begin_alike.ensures.no_setup (c.in-Err.is ∙ ap Err (same_error Both c.in-Err.fault faults.NoSetup e)))
