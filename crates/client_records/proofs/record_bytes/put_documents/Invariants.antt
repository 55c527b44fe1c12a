use Rattle.std.proofs.Common.{◌≡◌, ◌+◌, ◌≤◌, ◌++◌, length, take, vec_capacity, vec_len}
use Rattle.std.specs.Int.{w32, to_be_bytes}
use Rattle.std.specs.List.{flat_map}
use Rattle.client_records.specs.Records.{document_field}
use Rattle.client_records.proofs.record_bytes.put_documents.Given as goal

abbrev pub invariant-loop-i : goal.invariant-loop-i
invariant-loop-i l = record {
  items : l.out.items ≡ l.fn.out.items ++ (to_be_bytes w32 (length l.docs.documents) ++ flat_map document_field (take l.i l.docs.documents));
  len : vec_len l.out ≡ vec_len l.fn.out + (4 + length (flat_map document_field (take l.i l.docs.documents)));
  room : vec_capacity l.fn.out ≤ vec_capacity l.out;
}
