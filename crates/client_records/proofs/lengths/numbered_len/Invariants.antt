use Rattle.std.proofs.Common.{◌≡◌, ◌*◌, ◌≤◌, length, take}
use Rattle.std.specs.List.{flat_map}
use Rattle.client_registry.specs.Documents.{words_of}
use Rattle.client_registry.specs.Numbered.{words_by_number}
use Rattle.client_records.specs.Records.{word_field}
use Rattle.client_records.proofs.lengths.numbered_len.Given as goal

abbrev pub invariant-loop-number : goal.invariant-loop-number
invariant-loop-number l = record {
  len : l.len ≡ length (flat_map word_field (take l.number-index (words_by_number (words_of l.docs.documents) l.numbers)));
  most : l.len ≤ 65 * l.number-index;
}
