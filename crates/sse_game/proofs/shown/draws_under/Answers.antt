use Rattle.std.proofs.Common.{◌≡◌, map}
use Rattle.std.proofs.lemmas.Result.{IfOk-weaker}
use Rattle.client_registry.specs.Run.{Offsets}
use Rattle.def_leakage.specs.DrawnValues as model
use Rattle.keyed_fn.specs.KeyedFn.{keyed_fn}
use Rattle.leakage_frames.specs.Views.{draw_view}
use Rattle.leakage_history.specs.HashedRun.{run_of}
use Rattle.sse_model.specs.Histories.{table_at}
use Rattle.sse_game.proofs.shown.draws_under.Goals as goal

pub returns : goal.returns
returns g c =
    let run = run_of c.args.history.now in
    let t = table_at (keyed_fn g.K.Keyed.prf g.K.Keyed.pad) c.args.key.now run in
    IfOk-weaker c.draws-drawn.result _ (λ all. (o : Offsets) → o.epoch ≡ c.args.epoch → map (map draw_view) all ≡ model.draws t o run)
    (λ all has o is. has o is t (c.in_ok-sheet.ensures.values o is)) c.draws-drawn.ensures.agreed
