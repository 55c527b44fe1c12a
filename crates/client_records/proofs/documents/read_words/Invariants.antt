use Rattle.std.proofs.Common.{◌≡◌, ◌≤◌, ◌++◌, map, vec_capacity, vec_len}
use Rattle.std.specs.Prelude.{All}
use Rattle.std.specs.List.{flat_map}
use Rattle.client_registry.specs.WordBytes.{word_bytes}
use Rattle.client_records.specs.Records.{word_field}
use Rattle.client_records.specs.ReaderFaults.{IsWord}
use Rattle.client_records.proofs.documents.read_words.Given as goal

abbrev pub invariant-loop : goal.invariant-loop
invariant-loop l = record {
  read : l.initial.unread ≡ flat_map word_field (map word_bytes l.words.items) ++ l.unread;
  count : vec_len l.words ≡ l.counter;
  room : l.count ≤ vec_capacity l.words;
  each : All IsWord (map word_bytes l.words.items);
}
