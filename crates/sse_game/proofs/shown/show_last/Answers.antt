use Rattle.std.proofs.Common.{map, ap, ◌∙◌}
use Rattle.std.proofs.lemmas.Result.{on_ok_weaker}
use Rattle.keyed_fn.specs.KeyedFn.{keyed_fn}
use Rattle.leakage_frames.specs.Views.{draw_view, leak_view}
use Rattle.leakage_history.specs.HashedEpochs.{epochs_in}
use Rattle.sse_game.proofs.LastEpoch.{makes_last, shown_last}
use Rattle.sse_game.proofs.shown.show_last.Goals as goal

pub show_draws-ended-requires : goal.show_draws-ended-requires
show_draws-ended-requires g c =
    let next = c.requires.next in
    makes_last (keyed_fn g.K.Keyed.prf g.K.Keyed.pad) c.args.key.now next.0 (epochs_in c.args.epochs.now) (leak_view c.args.leak.now) c.args.shown.now next.1 (map (map draw_view) c.as_slice.result.now)
    (ap (map (map draw_view)) c.as_slice.ensures ∙ c.in_ok-all.ensures) c.requires.kept.0 c.requires.kept.1

pub returns : goal.returns
returns g c =
    let next = c.requires.next in
    on_ok_weaker c.show_draws-ended.result
    (λ has. shown_last (keyed_fn g.K.Keyed.prf g.K.Keyed.pad) c.args.key.now next.0 (epochs_in c.args.epochs.now) (leak_view c.args.leak.now) c.args.shown.now next.1 (map (map draw_view) c.as_slice.result.now)
    (ap (map (map draw_view)) c.as_slice.ensures ∙ c.in_ok-all.ensures) c.show_draws-ended.new.shown has)
    c.show_draws-ended.ensures
