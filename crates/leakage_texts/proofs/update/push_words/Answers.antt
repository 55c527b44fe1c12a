use Rattle.std.proofs.Common.{◌≤◌, ◌++◌, length, map, ap, string_bytes, ◌∙◌, arith}
use Rattle.std.proofs.lemmas.List.{length-map, take_all}
use Rattle.leakage_frames.specs.Views.{word_view}
use Rattle.leakage_texts.specs.LeakTexts.{word_text, words_text}
use Rattle.leakage_texts.proofs.LineLemmas.{push_placed}
use Rattle.leakage_texts.proofs.update.push_words.Goals as goal

pub loop-place-preserved : goal.loop-place-preserved
loop-place-preserved c =
    push_placed word_view c.args.words.now c.loop-place.place _ c.loop-place-test.true (λ e. word_text e.0 e.1) (string_bytes c.args.line.now) (string_bytes c.loop-place.line) (string_bytes c.push_word.new.line) c.loop-place.invariant
    c.in_ok-push_word.ensures

pub returns : goal.returns
returns c =
    let words = map word_view c.args.words.now in
    let all : length words ≤ c.loop-place.place = omega (arith, length-map c.args.words.now word_view, c.loop-place-test.false) in
    c.loop-place.invariant ∙ ap (λ front. string_bytes c.args.line.now ++ words_text front) (take_all c.loop-place.place words all)
