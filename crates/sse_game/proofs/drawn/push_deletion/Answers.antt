use Rattle.std.proofs.Common.{◌++◌, map, take, ap, ◌∙◌}
use Rattle.std.specs.Prelude.{flat_map, is_some}
use Rattle.std.proofs.lemmas.List.{take_all}
use Rattle.client_registry.specs.IdNumber.{id_number}
use Rattle.client_registry.specs.Numbered.{words_by_number}
use Rattle.client_registry.specs.Registered.{known_words}
use Rattle.client_registry.specs.WordBytes.{word_bytes}
use Rattle.def_leakage.specs.Firsts.{number_origin}
use Rattle.keyed_fn.specs.KeyedFn.{keyed_fn}
use Rattle.leakage_frames.specs.Views.{draw_view}
use Rattle.leakage_values.proofs.More.{front_by_number}
use Rattle.sse_game.specs.Drawn.{deleted_piece}
use Rattle.sse_game.proofs.DrawnLaws.{more-front}
use Rattle.sse_game.proofs.drawn.push_deletion.Goals as goal

pub loop-number-preserved : goal.loop-number-preserved
loop-number-preserved g c = λ o s past follows.
    let known = known_words c.args.registry.now in
    let numbers = c.args.numbers.now in
    let i = c.loop-number.number-index in
    let word = word_bytes c.word.result.now in
    more-front (deleted_piece (keyed_fn g.K.Keyed.prf g.K.Keyed.pad) c.args.master.now (λ w. is_some (number_origin o s past w (id_number c.args.id))) (id_number c.args.id)) (words_by_number known (take i numbers)) _ word
    (map draw_view c.args.drawn.now) (map draw_view c.loop-number.drawn) (map draw_view c.push_if_unsent.new.drawn)
    (front_by_number known numbers i word c.loop-number-test.true c.word.ensures) (c.loop-number.invariant o s past follows) (c.in_ok-push_if_unsent.ensures o s past follows)

pub returns : goal.returns
returns g c = λ o s past follows.
    c.loop-number.invariant o s past follows
    ∙ ap (λ front. map draw_view c.args.drawn.now ++ flat_map (deleted_piece (keyed_fn g.K.Keyed.prf g.K.Keyed.pad) c.args.master.now (λ w. is_some (number_origin o s past w (id_number c.args.id))) (id_number c.args.id)) (words_by_number (known_words c.args.registry.now) front)) (take_all c.loop-number.number-index c.args.numbers.now c.loop-number-test.false)
