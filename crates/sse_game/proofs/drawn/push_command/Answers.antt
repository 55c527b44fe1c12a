use Rattle.std.proofs.Common.{◌++◌, [], map, sym, ap, ◌∙◌}
use Rattle.std.specs.Prelude.{flat_map, is_some, unwrap_or}
use Rattle.std.proofs.lemmas.Result.{on_ok_weaker}
use Rattle.client_registry.specs.IdNumber.{id_number}
use Rattle.client_registry.specs.WordBytes.{word_bytes}
use Rattle.def_leakage.specs.DrawnValues.{draw, drawings_by}
use Rattle.def_leakage.specs.Firsts.{number_origin}
use Rattle.keyed_fn.specs.KeyedFn.{keyed_fn}
use Rattle.leakage_frames.specs.Views.{draw_view}
use Rattle.leakage_history.specs.Commands.{command_of}
use Rattle.sse_model.specs.Names.{table}
use Rattle.sse_game.proofs.DrawnLaws.{drawn-add, drawn-delete, drawn-search}
use Rattle.sse_game.specs.Drawn.{added_piece, deleted_piece}
use Rattle.sse_game.proofs.drawn.push_command.Goals as goal

pub returns-in-Add : goal.returns-in-Add
returns-in-Add g c =
    let f = keyed_fn g.K.Keyed.prf g.K.Keyed.pad in
    let key = c.args.master.now in
    on_ok_weaker c.push_addition.result
    (λ is o s past ranks follows.
    is
    ∙ ap (λ ds. map draw_view c.args.drawn.now ++ ds)
    ((λ i. flat_map (added_piece f key (c.registry.ensures o s past follows i) (c.id.ensures i)) (c.words.ensures.words i))
    ∙ drawn-add f key o s past ranks c.in-Add.doc
    ∙ ap (λ m. map (draw (table f s.shape (λ epoch. key)) ranks) (drawings_by o.epoch s past m)) (ap command_of (sym c.in-Add.is))))
    c.push_addition.ensures

pub returns-in-Delete : goal.returns-in-Delete
returns-in-Delete g c =
    let f = keyed_fn g.K.Keyed.prf g.K.Keyed.pad in
    let key = c.args.master.now in
    let id = id_number c.in-Delete.id in
    on_ok_weaker c.push_live.result
    (λ is o s past ranks follows.
    is o s past follows
    ∙ ap (λ ds. map draw_view c.args.drawn.now ++ ds)
    ((λ i. flat_map (deleted_piece f key (λ w. is_some (number_origin o s past w id)) id) (unwrap_or ((c.registry-in-Delete.ensures o s past follows i).live id) []))
    ∙ drawn-delete f key o s past ranks id follows.apart
    ∙ ap (λ m. map (draw (table f s.shape (λ epoch. key)) ranks) (drawings_by o.epoch s past m)) (ap command_of (sym c.in-Delete.is))))
    c.push_live.ensures

pub returns-in-Search : goal.returns-in-Search
returns-in-Search g c =
    let f = keyed_fn g.K.Keyed.prf g.K.Keyed.pad in
    let key = c.args.master.now in
    on_ok_weaker c.push_search.result
    (λ is o s past ranks follows.
    is o s past follows
    ∙ ap (λ ds. map draw_view c.args.drawn.now ++ ds)
    (drawn-search f key o s past ranks (word_bytes c.in-Search.word)
    ∙ ap (λ m. map (draw (table f s.shape (λ epoch. key)) ranks) (drawings_by o.epoch s past m)) (ap command_of (sym c.in-Search.is))))
    c.push_search.ensures
