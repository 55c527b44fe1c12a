use Rattle.std.proofs.Common.{◌<◌, ◌++◌, ◌∷◌, [], length, map, take, refl, sym, ap, append_assoc, ◌∙◌}
use Rattle.std.proofs.lemmas.List.{append-nil, take_all}
use Rattle.client_registry.proofs.SeenWords.{front_more}
use Rattle.client_registry.specs.Documents.{first_seen}
use Rattle.client_registry.specs.WordBytes.{word_bytes}
use Rattle.leakage_history.proofs.run_words.insert_all.Goals as goal

pub loop-word-init : goal.loop-word-init
loop-word-init c = λ ws had. had ∙ ap first_seen (sym (append-nil ws))

pub loop-word-preserved : goal.loop-word-preserved
loop-word-preserved c =
    λ ws had.
    let more = c.args.more.now in
    let i = c.loop-word.word-index in
    let word = c.word-item.result in
    let within : i < length more = c.loop-word-test.true in
    c.in_ok-insert_word.ensures (ws ++ map word_bytes (take i more)) (c.loop-word.invariant ws had)
    ∙ ap first_seen (append_assoc ws (map word_bytes (take i more)) (word_bytes word ∷ []) ∙ ap (λ front. ws ++ front) (sym (front_more word_bytes more i word (word_bytes word) within c.word-item.is refl)))

pub returns : goal.returns
returns c =
    λ ws had.
    c.loop-word.invariant ws had
    ∙ ap (λ words. first_seen (ws ++ map word_bytes words)) (take_all c.loop-word.word-index c.args.more.now c.loop-word-test.false)
