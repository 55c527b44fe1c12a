use Rattle.keyed_fn.specs.KeyedFn.{keyed_fn}
use Rattle.leakage_frames.specs.Views.{leak_view}
use Rattle.sse_game.specs.Game.{sides_at}
use Rattle.sse_game.specs.Side.{epochs_at, history_at}
use Rattle.sse_game.specs.Views.{choice_view, pair_view}
use Rattle.sse_game.proofs.Gaming.{is_next, numbered, on_both, played_game}
use Rattle.sse_game.proofs.game.play_taken.Goals as goal

pub take_drawn-requires-clause-right : goal.take_drawn-requires-clause-right
take_drawn-requires-clause-right g c =
    let f = keyed_fn g.K.Keyed.prf g.K.Keyed.pad in
    let old = c.args.game.now in
    (c.requires.game.right, (on_both f c.args.key.now (sides_at old) (pair_view c.args.pair) c.requires.taken).1)

pub show_next-shown-requires-clause-next : goal.show_next-shown-requires-clause-next
show_next-shown-requires-clause-next g c =
    let f = keyed_fn g.K.Keyed.prf g.K.Keyed.pad in
    let old = c.args.game.now in
    let both = on_both f c.args.key.now (sides_at old) (pair_view c.args.pair) c.requires.taken in
    let has = c.in_ok-taken.ensures.left in (
      history_at old.left,
      is_next f c.args.key.now (history_at old.left) (choice_view c.args.pair.left) c.take_drawn.new.left (leak_view c.in_ok-taken.taken.leak) old.shown c.requires.game.passed both.0 has,
      c.in_ok-taken.ensures.drawn,
    )

pub show_next-shown-requires-clause-numbered : goal.show_next-shown-requires-clause-numbered
show_next-shown-requires-clause-numbered g c =
    let f = keyed_fn g.K.Keyed.prf g.K.Keyed.pad in
    let old = c.args.game.now in
    let both = on_both f c.args.key.now (sides_at old) (pair_view c.args.pair) c.requires.taken in
    numbered (history_at old.left) (choice_view c.args.pair.left) (epochs_at c.take_drawn.new.left) both.0 c.in_ok-taken.ensures.left.after

pub returns-clause-game : goal.returns-clause-game
returns-clause-game g c =
    let f = keyed_fn g.K.Keyed.prf g.K.Keyed.pad in
    let old = c.args.game.now in
    played_game f c.args.key.now old (record { left = c.take_drawn.new.left; right = c.take_drawn.new.right; shown = c.show_next-shown.new.shown; marks = c.add_mark.new.marks; skipped = old.skipped })
    (pair_view c.args.pair) (leak_view c.in_ok-taken.taken.leak) c.requires.game c.requires.taken c.in_ok-taken.ensures.left c.in_ok-taken.ensures.right c.in_ok-add_mark.ensures c.in_ok-shown.ensures
