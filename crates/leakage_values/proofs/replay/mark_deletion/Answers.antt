use Rattle.std.proofs.Common.{◌&&◌, ◌||◌, take, sym, ap, ◌∙◌}
use Rattle.std.specs.Prelude.{bytes_eq, ◌==◌}
use Rattle.std.specs.List.{list_any}
use Rattle.std.proofs.lemmas.List.{take_all}
use Rattle.client_registry.specs.IdNumber.{id_number}
use Rattle.client_registry.specs.Numbered.{words_by_number}
use Rattle.client_registry.specs.Registered.{known_words}
use Rattle.client_registry.specs.WordBytes.{word_bytes}
use Rattle.leakage_values.proofs.More.{more-marks, among-front, front_by_number}
use Rattle.leakage_values.specs.Replayed.{has_pair}
use Rattle.leakage_values.proofs.replay.mark_deletion.Goals as goal

pub loop-number-preserved : goal.loop-number-preserved
loop-number-preserved c w n =
    let known = known_words c.args.registry.now in
    let numbers = c.args.numbers.now in
    let i = c.loop-number.number-index in
    let word = word_bytes c.word.result.now in
    let front = words_by_number known (take i numbers) in
    more-marks (has_pair w n c.args.sent.now.keys) (has_pair w n c.loop-number.sent.keys) (has_pair w n c.mark_pair.new.sent.keys)
    (list_any (bytes_eq w) front) (bytes_eq w word) (n == id_number c.args.id)
    (c.loop-number.invariant w n) (c.in_ok-mark_pair.ensures w n)
    ∙ ap (λ b. has_pair w n c.args.sent.now.keys || b && n == id_number c.args.id) (sym (among-front w front _ word (front_by_number known numbers i word c.loop-number-test.true c.word.ensures)))

pub returns : goal.returns
returns c w n =
    c.loop-number.invariant w n
    ∙ ap (λ front. has_pair w n c.args.sent.now.keys || list_any (bytes_eq w) (words_by_number (known_words c.args.registry.now) front) && n == id_number c.args.id) (take_all c.loop-number.number-index c.args.numbers.now c.loop-number-test.false)
