use Rattle.std.proofs.Common.{sym, subst}
use Rattle.keyed_fn.specs.KeyedFn.{keyed_fn}
use Rattle.sse_game.specs.Passing.{DrawsLast}
use Rattle.sse_game.specs.Side.{history_at}
use Rattle.sse_game.proofs.game.take_drawn.Goals as goal

pub returns-in-Ok-clause-drawn : goal.returns-in-Ok-clause-drawn
returns-in-Ok-clause-drawn g c =
    let f = keyed_fn g.K.Keyed.prf g.K.Keyed.pad in
    subst (λ after. DrawsLast f c.args.key.now (history_at c.args.left.now) after c.in_ok-drawn.drawn) (sym c.in-Ok.ensures.left.after) c.in_ok-drawn.ensures
