use Rattle.std.proofs.Common.{◌&&◌, None, sym, ap, subst}
use Rattle.def_duel.specs.Choices as choices
use Rattle.keyed_fn.specs.KeyedFn.{keyed_fn}
use Rattle.sse_game.specs.Game.{IsUnequal}
use Rattle.sse_game.specs.Views.{choice_view}
use Rattle.sse_game.proofs.begin.begin_with.Goals as goal

pub returns-in-Some-clause-differ : goal.returns-in-Some-clause-differ
returns-in-Some-clause-differ g c = λ k e.
    subst (λ (l : choices.Choice). IsUnequal (keyed_fn g.K.Keyed.prf g.K.Keyed.pad) c.args.key.now choices.at_start (record { left = l; right = choice_view c.args.pair.right }) k) (sym c.in-Some.ensures.some)
    (c.begin_left.ensures.differ k e)

pub returns-in-None-clause-no_setup : goal.returns-in-None-clause-no_setup
returns-in-None-clause-no_setup g c = λ e.
    ap (λ b. (b && choices.can_take None (choice_view c.args.pair.right)) && choices.has_new_mark (keyed_fn g.K.Keyed.prf g.K.Keyed.pad) c.args.key.now None (choice_view c.args.pair.left)) (c.setup_of.ensures.none c.in-None.is)
