use Rattle.std.proofs.Common.{◌≡◌, ◌-◌, ◌≤◌, ◌++◌, length}
use Rattle.std.specs.List.{flat_map}
use Rattle.client_registry.specs.HashNumbers.{hash_numbers}
use Rattle.client_records.specs.Records.{document_field}
use Rattle.client_records.proofs.documents.read_documents.Given as goal

abbrev pub invariant-loop-alloc : goal.invariant-loop-alloc
invariant-loop-alloc l = record {
  read : l.initial.unread ≡ flat_map document_field l.docs.documents ++ l.unread;
  count : length l.docs.documents ≤ l.count;
  keys : l.docs.keys ≡ hash_numbers l.fn.keys;
}

abbrev pub decreases-loop-alloc : goal.decreases-loop-alloc
decreases-loop-alloc l = l.count - length l.docs.documents
