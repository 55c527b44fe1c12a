use Rattle.std.proofs.Common.{◌≡◌, ◌≤◌, length, map, take, vec_capacity, vec_len}
use Rattle.client_registry.specs.WordBytes.{word_bytes}
use Rattle.client_registry.specs.WordMark.{word_mark}
use Rattle.client_registry.proofs.word_mark.marks_differ.Given as goal

abbrev pub invariant-loop-word : goal.invariant-loop-word
invariant-loop-word l = record {
  marks : l.marks.items ≡ map word_mark (map word_bytes (take l.word-index l.words));
  count : vec_len l.marks ≡ l.word-index;
  capacity : length l.words ≤ vec_capacity l.marks;
}
