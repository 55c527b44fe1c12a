use Rattle.std.proofs.Common.{None, sym, subst}
use Rattle.def_duel.specs.Choices as choices
use Rattle.keyed_fn.specs.KeyedFn.{keyed_fn}
use Rattle.sse_game.specs.Game.{IsUnequal}
use Rattle.sse_game.specs.Views.{choice_view, setup_view}
use Rattle.sse_game.proofs.Faults.{right_false}
use Rattle.sse_game.proofs.begin.begin_left.Goals as goal

pub returns-in-Some-clause-differ : goal.returns-in-Some-clause-differ
returns-in-Some-clause-differ g c = λ k e.
    subst (λ (r : choices.Choice). IsUnequal (keyed_fn g.K.Keyed.prf g.K.Keyed.pad) c.args.key.now choices.at_start (record { left = choices.SetsUp (setup_view c.args.left); right = r }) k) (sym c.in-Some.ensures.some)
    (c.begin_setups.ensures.differ k e)

pub returns-in-None-clause-no_setup : goal.returns-in-None-clause-no_setup
returns-in-None-clause-no_setup g c = λ e.
    right_false (choices.can_take None (choices.SetsUp (setup_view c.args.left))) (choices.can_take None (choice_view c.args.right)) (choices.has_new_mark (keyed_fn g.K.Keyed.prf g.K.Keyed.pad) c.args.key.now None (choices.SetsUp (setup_view c.args.left)))
    (c.setup_of.ensures.none c.in-None.is)
