use Rattle.std.proofs.Common.{◌++◌, take, ap, ◌∙◌}
use Rattle.std.specs.Prelude.{flat_map}
use Rattle.std.proofs.lemmas.List.{take_all}
use Rattle.client_registry.specs.IdNumber.{id_number}
use Rattle.client_registry.specs.Numbered.{words_by_number}
use Rattle.client_registry.specs.Registered.{known_words}
use Rattle.client_registry.specs.WordBytes.{word_bytes}
use Rattle.leakage_values.proofs.More.{more-front, front_by_number}
use Rattle.leakage_values.specs.CommandDrawings.{deletion_piece}
use Rattle.leakage_values.proofs.commands.push_deletion.Goals as goal

pub loop-number-preserved : goal.loop-number-preserved
loop-number-preserved c =
    let known = known_words c.args.registry.now in
    let numbers = c.args.numbers.now in
    let i = c.loop-number.number-index in
    let word = word_bytes c.word.result.now in
    more-front (deletion_piece c.args.epoch c.args.words.now c.args.sent.now.keys (id_number c.args.id)) (words_by_number known (take i numbers)) _ word c.args.drawings.now c.loop-number.drawings c.push_if_unsent.new.drawings
    (front_by_number known numbers i word c.loop-number-test.true c.word.ensures) c.loop-number.invariant c.in_ok-push_if_unsent.ensures

pub returns : goal.returns
returns c =
    c.loop-number.invariant
    ∙ ap (λ front. c.args.drawings.now ++ flat_map (deletion_piece c.args.epoch c.args.words.now c.args.sent.now.keys (id_number c.args.id)) (words_by_number (known_words c.args.registry.now) front)) (take_all c.loop-number.number-index c.args.numbers.now c.loop-number-test.false)
