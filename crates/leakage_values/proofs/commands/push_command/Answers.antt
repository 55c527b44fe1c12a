use Rattle.std.proofs.Common.{◌++◌, [], map, sym, ap, ◌∙◌}
use Rattle.std.specs.Prelude.{flat_map, unwrap_or}
use Rattle.std.proofs.lemmas.Result.{on_ok_weaker}
use Rattle.client_registry.specs.IdNumber.{id_number}
use Rattle.client_registry.specs.WordBytes.{word_bytes}
use Rattle.leakage_history.specs.Commands.{command_of}
use Rattle.leakage_values.proofs.CommandLaws.{drawings-add, drawings-delete, drawings-search}
use Rattle.leakage_values.specs.CommandDrawings.{addition_piece, deletion_piece}
use Rattle.leakage_values.specs.Numbered.{numbered_drawing}
use Rattle.def_leakage.specs.DrawnValues.{drawings_by}
use Rattle.leakage_values.proofs.commands.push_command.Goals as goal

pub returns-in-Add : goal.returns-in-Add
returns-in-Add c =
    let words = c.args.words.now in
    on_ok_weaker c.push_addition.result
    (λ is s past follows apart.
    is
    ∙ ap (λ ds. c.args.drawings.now ++ ds)
    ((λ i. flat_map (addition_piece c.args.epoch words (follows.registry i) (c.id.ensures i)) (c.words.ensures.words i))
    ∙ drawings-add c.args.epoch words s past c.in-Add.doc
    ∙ ap (λ m. map (numbered_drawing words) (drawings_by c.args.epoch s past m)) (ap command_of (sym c.in-Add.is))))
    c.push_addition.ensures

pub returns-in-Delete : goal.returns-in-Delete
returns-in-Delete c =
    let words = c.args.words.now in
    on_ok_weaker c.push_live.result
    (λ is s past follows apart.
    is
    ∙ ap (λ ds. c.args.drawings.now ++ ds)
    ((λ i. flat_map (deletion_piece c.args.epoch words c.args.replay.now.sent.keys (id_number c.in-Delete.id)) (unwrap_or ((follows.registry i).live (id_number c.in-Delete.id)) []))
    ∙ drawings-delete c.args.epoch words s past (id_number c.in-Delete.id) c.args.replay.now.sent.keys apart follows.sent
    ∙ ap (λ m. map (numbered_drawing words) (drawings_by c.args.epoch s past m)) (ap command_of (sym c.in-Delete.is))))
    c.push_live.ensures

pub returns-in-Search : goal.returns-in-Search
returns-in-Search c =
    let words = c.args.words.now in
    on_ok_weaker c.push_search.result
    (λ is s past follows apart.
    is
    ∙ ap (λ ds. c.args.drawings.now ++ ds)
    (drawings-search c.args.epoch words s past (word_bytes c.in-Search.word) c.args.replay.now.searched.keys (follows.searched (word_bytes c.in-Search.word))
    ∙ ap (λ m. map (numbered_drawing words) (drawings_by c.args.epoch s past m)) (ap command_of (sym c.in-Search.is))))
    c.push_search.ensures
