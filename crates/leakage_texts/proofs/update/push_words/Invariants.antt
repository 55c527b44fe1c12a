use Rattle.std.proofs.Common.{◌≡◌, ◌++◌, map, take, string_bytes}
use Rattle.leakage_frames.specs.Views.{word_view}
use Rattle.leakage_texts.specs.LeakTexts.{words_text}
use Rattle.leakage_texts.proofs.update.push_words.Given as goal

abbrev pub invariant-loop-place : goal.invariant-loop-place
invariant-loop-place l = string_bytes l.line ≡ string_bytes l.initial.line ++ words_text (take l.place (map word_view l.words))
