use Rattle.std.proofs.Common.{◌≡◌, ◌++◌, ◌∷◌, [], map, take, get_or, sym, ap, ◌∙◌, arith}
use Rattle.std.specs.Prelude.{slice_index_or}
use Rattle.std.proofs.lemmas.List.{get_or_default, map-append, take_all}
use Rattle.std.proofs.lemmas.Option.{get_or_from_slice_get}
use Rattle.client_registry.proofs.SeenWords.{front_more}
use Rattle.client_registry.specs.IdNumber.{id_number}
use Rattle.client_registry.specs.Numbered.{words_by_number}
use Rattle.client_registry.specs.Registered.{known_words}
use Rattle.client_registry.specs.WordBytes.{word_bytes}
use Rattle.leakage_frames.specs.Views.{word_view}
use Rattle.def_leakage.specs.CommandLeaks.{word_deleted}
use Rattle.leakage_model.proofs.trail.Trail.words_deleted.Goals as goal

pub loop-number-preserved : goal.loop-number-preserved
loop-number-preserved c = λ o s past follows.
    let numbers = c.args.numbers.now in
    let i = c.loop-number.number-index in
    let known = known_words c.args.self.now.registry in
    let number = get_or numbers i 0 in
    let bs = word_bytes c.word-word.result.now in
    let is : bs ≡ slice_index_or known number [] = sym (get_or_from_slice_get known number bs [] c.word-word.ensures) in
    let shown = word_deleted o s past (id_number c.args.id) in
    let more = front_more (λ n. slice_index_or known n []) numbers i number bs c.loop-number-test.true (get_or_default numbers i 0 number c.loop-number-test.true) is in
    ap (map word_view) c.in_ok-push.ensures.ok
    ∙ map-append word_view c.loop-number.leaks (c.word_deleted.result ∷ [])
    ∙ (λ j. c.loop-number.invariant o s past follows j ++ c.word_deleted.ensures o s past follows j ∷ [])
    ∙ sym (ap (map shown) more ∙ map-append shown (words_by_number known (take i numbers)) (bs ∷ []))

pub returns : goal.returns
returns c = λ o s past follows.
    c.loop-number.invariant o s past follows
    ∙ ap (λ ns. map (word_deleted o s past (id_number c.args.id)) (words_by_number (known_words c.args.self.now.registry) ns))
    (take_all c.loop-number.number-index c.args.numbers.now (omega (arith, c.loop-number-test.false)))
