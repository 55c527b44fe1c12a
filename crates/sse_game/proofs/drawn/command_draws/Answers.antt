use Rattle.std.proofs.Common.{◌++◌, map, ap, ◌∙◌}
use Rattle.def_leakage.specs.DrawnValues.{draw, drawings_by}
use Rattle.keyed_fn.specs.KeyedFn.{keyed_fn}
use Rattle.leakage_frames.specs.Views.{draw_view}
use Rattle.leakage_history.specs.Commands.{command_of}
use Rattle.sse_model.specs.Names.{table}
use Rattle.sse_game.proofs.drawn.command_draws.Goals as goal

pub returns : goal.returns
returns g c = λ o s past ranks follows.
    c.in_ok-push_command.ensures o s past ranks follows
    ∙ ap (λ ds. map draw_view ds ++ map (draw (table (keyed_fn g.K.Keyed.prf g.K.Keyed.pad) s.shape (λ epoch. c.args.master.now)) ranks) (drawings_by o.epoch s past (command_of c.args.command.now))) c.new-drawn.ensures
