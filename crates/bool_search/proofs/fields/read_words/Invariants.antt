use Rattle.std.specs.Prelude.{◌≡◌, ◌≤◌, None, length, map, take}
use Rattle.client_registry.specs.WordBytes.{word_bytes}
use Rattle.bool_search.specs.Fields.{operands, words_of}
use Rattle.bool_search.specs.Refused.{first_bad_word}
use Rattle.bool_search.proofs.fields.read_words.Given as goal

abbrev pub invariant-fields : goal.invariant-fields
invariant-fields l = record {
  words : map word_bytes l.words.items ≡ words_of (map (λ field. field.now) (take l.field-index l.fields));
  good : first_bad_word 0 (operands (map (λ field. field.now) (take l.field-index l.fields))) ≡ None;
  position : l.position ≡ length (operands (map (λ field. field.now) (take l.field-index l.fields)));
  within : l.position ≤ l.field-index;
}
