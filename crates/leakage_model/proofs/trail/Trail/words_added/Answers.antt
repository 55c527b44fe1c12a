use Rattle.std.proofs.Common.{◌++◌, ◌∷◌, [], map, take, refl, sym, ap, ◌∙◌}
use Rattle.std.proofs.lemmas.List.{map-append}
use Rattle.client_registry.proofs.SeenWords.{front_more}
use Rattle.client_registry.specs.IdNumber.{id_number}
use Rattle.client_registry.specs.WordBytes.{word_bytes}
use Rattle.leakage_frames.specs.Views.{word_view}
use Rattle.def_leakage.specs.CommandLeaks.{word_added}
use Rattle.leakage_model.proofs.trail.Trail.words_added.Goals as goal

pub loop-word-preserved : goal.loop-word-preserved
loop-word-preserved c = λ o s past follows.
    let words = c.args.words.now in
    let i = c.loop-word.word-index in
    let word = c.word-item.result in
    let shown = word_added o s past (id_number c.args.id) in
    let more = front_more word_bytes words i word (word_bytes word) c.loop-word-test.true c.word-item.is refl in
    ap (map word_view) c.in_ok-push.ensures.ok
    ∙ map-append word_view c.loop-word.leaks (c.word_added.result ∷ [])
    ∙ (λ j. c.loop-word.invariant o s past follows j ++ c.word_added.ensures o s past follows j ∷ [])
    ∙ sym (ap (map shown) more ∙ map-append shown (map word_bytes (take i words)) (word_bytes word ∷ []))
