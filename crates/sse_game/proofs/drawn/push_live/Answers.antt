use Rattle.std.proofs.Common.{◌++◌, [], map, ap, ◌∙◌}
use Rattle.std.specs.Prelude.{flat_map, is_some, unwrap_or}
use Rattle.std.proofs.lemmas.Result.{on_ok_weaker}
use Rattle.client_registry.specs.IdNumber.{id_number}
use Rattle.def_leakage.specs.Firsts.{number_origin}
use Rattle.keyed_fn.specs.KeyedFn.{keyed_fn}
use Rattle.leakage_frames.specs.Views.{draw_view}
use Rattle.sse_game.specs.Drawn.{deleted_piece}
use Rattle.sse_game.proofs.drawn.push_live.Goals as goal

pub returns-in-Some : goal.returns-in-Some
returns-in-Some g c =
    let id = id_number c.args.id in
    on_ok_weaker c.push_deletion.result
    (λ is o s past follows.
    is o s past follows
    ∙ ap (λ m. map draw_view c.args.drawn.now ++ flat_map (deleted_piece (keyed_fn g.K.Keyed.prf g.K.Keyed.pad) c.args.master.now (λ w. is_some (number_origin o s past w id)) id) (unwrap_or m [])) c.in-Some.ensures.live)
    c.push_deletion.ensures
