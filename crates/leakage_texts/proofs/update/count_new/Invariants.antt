use Rattle.std.proofs.Common.{◌≡◌, ◌≤◌, filter, length, take}
use Rattle.leakage_frames.specs.Views.{word_view}
use Rattle.leakage_texts.specs.LeakTexts.{is_new}
use Rattle.leakage_texts.proofs.update.count_new.Given as goal

abbrev pub invariant-loop-word : goal.invariant-loop-word
invariant-loop-word l = record {
  exact : l.count ≡ length (filter (λ w. is_new (word_view w)) (take l.word-index l.words));
  within : l.count ≤ l.word-index;
}
