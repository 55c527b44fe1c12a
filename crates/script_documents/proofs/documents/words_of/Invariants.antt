use Rattle.std.proofs.Common.{◌≡◌, ◌+◌, ◌++◌, length, map}
use Rattle.client_registry.specs.WordBytes.{word_bytes}
use Rattle.script_documents.specs.Refused.{bad_word}
use Rattle.script_documents.proofs.documents.words_of.Given as goal

abbrev pub invariant-loop-field : goal.invariant-loop-field
invariant-loop-field l = record {
  count : l.position + length l.fields ≡ length l.initial.fields;
  words : map word_bytes l.words.items ++ l.fields ≡ l.initial.fields;
  good : bad_word 0 l.initial.fields ≡ bad_word l.position l.fields;
}

abbrev pub decreases-loop-field : goal.decreases-loop-field
decreases-loop-field l = length l.fields
