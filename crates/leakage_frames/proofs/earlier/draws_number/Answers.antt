use Rattle.std.proofs.Common.{map, get_or, None, ap, sym, List, ◌∙◌, arith}
use Rattle.std.specs.Prelude.{is_some}
use Rattle.std.proofs.lemmas.List.{take-map}
use Rattle.std.proofs.lemmas.Option.{slice_get-get_or, slice_get_past}
use Rattle.sse_simulator.specs.Leaks.{WordLeak, Draw}
use Rattle.leakage_frames.proofs.AbsentLaws.{number-drawn, number-past, viewed_at, viewed_past}
use Rattle.leakage_frames.specs.MadeFrames.{draws_left, number_drawn}
use Rattle.leakage_frames.specs.Views.{draw_view, word_view}
use Rattle.leakage_frames.specs.declared.leak.Sent.TheVariants.{Entry}
use Rattle.leakage_frames.specs.declared.leak.WordLeak as words
use Rattle.leakage_frames.proofs.earlier.draws_number.Goals as goal

pub returns-then-place-words : goal.returns-then-place-words
returns-then-place-words c =
    let place = c.args.place in
    let draws : List Draw = map draw_view c.args.draws.now in
    let nothing : words.WordLeak = record { sent = Entry; seen = None } in
    let word : WordLeak = word_view (get_or c.args.words.now place nothing) in
    c.is_some.ensures
    ∙ ap is_some
    (c.number_drawn.ensures
    ∙ ap (number_drawn word) (c.behind_words.ensures ∙ ap (λ ws. draws_left (map word_view ws) draws) c.split_at.ensures.front)
    ∙ ap (λ ws. number_drawn word (draws_left ws draws)) (sym (take-map word_view place c.args.words.now))
    ∙ sym (number-drawn (map word_view c.args.words.now) draws place word
    (viewed_at word_view c.args.words.now place (get_or c.args.words.now place nothing) (slice_get-get_or c.args.words.now place nothing c.if-place-words.true))))

pub returns-else-place-words : goal.returns-else-place-words
returns-else-place-words c =
    ap is_some (sym (number-past (map word_view c.args.words.now) (map draw_view c.args.draws.now) c.args.place
    (viewed_past word_view c.args.words.now c.args.place (slice_get_past c.args.words.now c.args.place (omega (arith, c.if-place-words.false))))))
