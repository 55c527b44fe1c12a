use Rattle.std.proofs.Common.{◌++◌, map, take, refl, ap, ◌∙◌}
use Rattle.std.specs.Prelude.{flat_map}
use Rattle.std.proofs.lemmas.List.{take_all}
use Rattle.client_registry.proofs.SeenWords.{front_more}
use Rattle.client_registry.specs.IdNumber.{id_number}
use Rattle.client_registry.specs.Registered.{facts}
use Rattle.client_registry.specs.WordBytes.{word_bytes}
use Rattle.keyed_fn.specs.KeyedFn.{keyed_fn}
use Rattle.leakage_frames.specs.Views.{draw_view}
use Rattle.sse_game.specs.Drawn.{added_piece}
use Rattle.sse_game.proofs.DrawnLaws.{more-front}
use Rattle.sse_game.proofs.drawn.push_addition.Goals as goal

pub loop-word-preserved : goal.loop-word-preserved
loop-word-preserved g c =
    let of = c.args.of.now in
    let i = c.loop-word.word-index in
    let word = c.word-item.result in
    more-front (added_piece (keyed_fn g.K.Keyed.prf g.K.Keyed.pad) c.args.master.now (facts c.args.registry.now) (id_number c.args.id)) (map word_bytes (take i of)) _ (word_bytes word)
    (map draw_view c.args.drawn.now) (map draw_view c.loop-word.drawn) (map draw_view c.push_if_fresh.new.drawn)
    (front_more word_bytes of i word (word_bytes word) c.loop-word-test.true c.word-item.is refl) c.loop-word.invariant c.in_ok-push_if_fresh.ensures

pub returns : goal.returns
returns g c =
    c.loop-word.invariant
    ∙ ap (λ front. map draw_view c.args.drawn.now ++ flat_map (added_piece (keyed_fn g.K.Keyed.prf g.K.Keyed.pad) c.args.master.now (facts c.args.registry.now) (id_number c.args.id)) (map word_bytes front)) (take_all c.loop-word.word-index c.args.of.now c.loop-word-test.false)
