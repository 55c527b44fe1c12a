use Rattle.std.proofs.Common.{◌++◌, ◌∷◌, [], map, sym, ap, ◌∙◌}
use Rattle.client_registry.specs.Epochs.{begins, key_now}
use Rattle.client_registry.specs.Run.{last_run}
use Rattle.def_duel.specs.Choices.{grown}
use Rattle.def_leakage.proofs.Draws.{ranks_in}
use Rattle.def_leakage.specs.DrawnValues.{draw, drawings_by}
use Rattle.def_leakage.specs.Histories.{draws_in}
use Rattle.keyed_fn.specs.KeyedFn.{keyed_fn}
use Rattle.leakage_history.specs.Commands.{command_of}
use Rattle.sse_model.specs.Histories.{table_at}
use Rattle.sse_model.specs.Names.{table}
use Rattle.sse_game.specs.Side.{epochs_at, history_at}
use Rattle.sse_game.specs.Views.{choice_view}
use Rattle.sse_game.proofs.Growing.{draws-next}
use Rattle.sse_game.proofs.drawn.next_draws.Goals as goal

pub returns-in_ok-own-in-Do : goal.returns-in_ok-own-in-Do
returns-in_ok-own-in-Do g c =
    let f = keyed_fn g.K.Keyed.prf g.K.Keyed.pad in
    let key = c.args.key.now in
    let side = c.args.side.now in
    let es = epochs_at side in
    let o = begins es in
    let run = last_run es in
    let ranks = ranks_in (table_at f (key_now key es) run) o.epoch run.setup in
    let command = command_of c.in-Do.command in
    ap (λ choice. draws_in f key (grown (history_at side) (choice_view choice))) c.in-Do.is
    ∙ draws-next f key es command
    ∙ ap (λ ds. draws_in f key (history_at side) ++ ds ∷ [])
    (sym (c.in_ok-own-in-Do.ensures o run.setup run.later ranks c.requires.trail
    ∙ ap (λ own. map (draw (table f run.setup.shape (λ epoch. own)) ranks) (drawings_by o.epoch run.setup run.later command)) c.last_key-master.ensures))
