use Rattle.std.proofs.Common.{◌&&◌, ◌||◌, map, take, refl, sym, ap, ◌∙◌}
use Rattle.std.specs.Prelude.{bytes_eq, ◌==◌}
use Rattle.std.specs.List.{list_any}
use Rattle.std.proofs.lemmas.List.{take_all}
use Rattle.client_registry.proofs.SeenWords.{front_more}
use Rattle.client_registry.specs.IdNumber.{id_number}
use Rattle.client_registry.specs.Registered.{facts}
use Rattle.client_registry.specs.WordBytes.{word_bytes}
use Rattle.leakage_values.proofs.More.{more-listed, among-front}
use Rattle.leakage_values.specs.Replayed.{has_pair}
use Rattle.leakage_values.proofs.replay.mark_addition.Goals as goal

pub loop-word-preserved : goal.loop-word-preserved
loop-word-preserved c w n =
    let words = c.args.words.now in
    let i = c.loop-word.word-index in
    let word = c.word-item.result in
    let front = map word_bytes (take i words) in
    more-listed (has_pair w n c.args.sent.now.keys) (has_pair w n c.loop-word.sent.keys) (has_pair w n c.mark_if_listed.new.sent.keys)
    (list_any (bytes_eq w) front) (bytes_eq w (word_bytes word)) (n == id_number c.args.id) ((facts c.args.registry.now).listed w n)
    (c.loop-word.invariant w n) (c.in_ok-mark_if_listed.ensures w n)
    ∙ ap (λ b. has_pair w n c.args.sent.now.keys || (b && n == id_number c.args.id) && (facts c.args.registry.now).listed w n)
    (sym (among-front w front _ (word_bytes word) (front_more word_bytes words i word (word_bytes word) c.loop-word-test.true c.word-item.is refl)))

pub returns : goal.returns
returns c w n =
    c.loop-word.invariant w n
    ∙ ap (λ front. has_pair w n c.args.sent.now.keys || (list_any (bytes_eq w) (map word_bytes front) && n == id_number c.args.id) && (facts c.args.registry.now).listed w n) (take_all c.loop-word.word-index c.args.words.now c.loop-word-test.false)
