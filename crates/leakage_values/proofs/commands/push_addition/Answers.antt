use Rattle.std.proofs.Common.{◌++◌, map, take, refl, ap, ◌∙◌}
use Rattle.std.specs.Prelude.{flat_map}
use Rattle.std.proofs.lemmas.List.{take_all}
use Rattle.client_registry.proofs.SeenWords.{front_more}
use Rattle.client_registry.specs.IdNumber.{id_number}
use Rattle.client_registry.specs.Registered.{facts}
use Rattle.client_registry.specs.WordBytes.{word_bytes}
use Rattle.leakage_values.proofs.More.{more-front}
use Rattle.leakage_values.specs.CommandDrawings.{addition_piece}
use Rattle.leakage_values.proofs.commands.push_addition.Goals as goal

pub loop-word-preserved : goal.loop-word-preserved
loop-word-preserved c =
    let of = c.args.of.now in
    let i = c.loop-word.word-index in
    let word = c.word-item.result in
    more-front (addition_piece c.args.epoch c.args.words.now (facts c.args.registry.now) (id_number c.args.id)) (map word_bytes (take i of)) _ (word_bytes word) c.args.drawings.now c.loop-word.drawings c.push_if_fresh.new.drawings
    (front_more word_bytes of i word (word_bytes word) c.loop-word-test.true c.word-item.is refl) c.loop-word.invariant c.in_ok-push_if_fresh.ensures

pub returns : goal.returns
returns c =
    c.loop-word.invariant
    ∙ ap (λ front. c.args.drawings.now ++ flat_map (addition_piece c.args.epoch c.args.words.now (facts c.args.registry.now) (id_number c.args.id)) (map word_bytes front)) (take_all c.loop-word.word-index c.args.of.now c.loop-word-test.false)
