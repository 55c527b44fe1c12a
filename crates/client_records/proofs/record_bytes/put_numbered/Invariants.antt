use Rattle.std.proofs.Common.{◌≡◌, ◌+◌, ◌≤◌, ◌++◌, length, take, vec_capacity, vec_len}
use Rattle.std.specs.List.{flat_map}
use Rattle.client_registry.specs.Documents.{words_of}
use Rattle.client_registry.specs.Numbered.{words_by_number}
use Rattle.client_records.specs.Records.{word_field}
use Rattle.client_records.proofs.record_bytes.put_numbered.Given as goal

abbrev pub invariant-loop-number : goal.invariant-loop-number
invariant-loop-number l = record {
  items : l.out.items ≡ l.initial.out.items ++ flat_map word_field (take l.number-index (words_by_number (words_of l.docs.documents) l.numbers));
  len : vec_len l.out ≡ vec_len l.initial.out + length (flat_map word_field (take l.number-index (words_by_number (words_of l.docs.documents) l.numbers)));
  room : vec_capacity l.initial.out ≤ vec_capacity l.out;
}
