use Rattle.std.proofs.Common.{◌≡◌, ◌+◌, true, false, filter, length, sym, ap, ◌∙◌, arith}
use Rattle.std.proofs.lemmas.List.{take_all}
use Rattle.leakage_frames.specs.Views.{word_view}
use Rattle.leakage_texts.specs.LeakTexts.{is_new}
use Rattle.leakage_texts.proofs.LineLemmas.{counted_more, length-filter-map}
use Rattle.leakage_texts.proofs.update.count_new.Goals as goal
use Rattle.leakage_texts.proofs.update.count_new.Goals.{then-is_new, else-is_new}

pub loop-word-preserved : goal.loop-word-preserved
loop-word-preserved c =
    let words = c.args.words.now in
    let i = c.loop-word.word-index in
    let n = c.loop-word.count in
    let same : n ≡ n + 0 = omega arith in
    elim c.if-is_new.branch [
      | then-is_new w ↦
          record {
            exact = counted_more (λ w. is_new (word_view w)) words i _ n c.if-is_new.count true c.loop-word-test.true (sym w.if-is_new.true ∙ c.is_new.ensures) c.loop-word.invariant.exact w.count-is;
            within = omega (arith, w.count-is, c.loop-word.invariant.within);
          }
      | else-is_new w ↦
          record {
            exact = counted_more (λ w. is_new (word_view w)) words i _ n c.if-is_new.count false c.loop-word-test.true (sym w.if-is_new.false ∙ c.is_new.ensures) c.loop-word.invariant.exact (w.count-is ∙ same);
            within = omega (arith, w.count-is, c.loop-word.invariant.within);
          }
    ]

pub returns : goal.returns
returns c =
    c.loop-word.invariant.exact
    ∙ ap (λ words. length (filter (λ w. is_new (word_view w)) words)) (take_all c.loop-word.word-index c.args.words.now c.loop-word-test.false)
    ∙ length-filter-map is_new word_view c.args.words.now
