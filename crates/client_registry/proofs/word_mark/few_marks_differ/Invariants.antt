use Rattle.std.proofs.Common.{◌≡◌, length, map, take}
use Rattle.client_registry.specs.WordBytes.{word_bytes}
use Rattle.client_registry.specs.WordMark.{word_mark}
use Rattle.client_registry.proofs.word_mark.few_marks_differ.Given as goal

abbrev pub invariant-loop-word : goal.invariant-loop-word
invariant-loop-word l = record {
  marks : l.marks.items ≡ map word_mark (map word_bytes (take l.word-index l.words));
  count : length l.marks.items ≡ l.word-index;
}
