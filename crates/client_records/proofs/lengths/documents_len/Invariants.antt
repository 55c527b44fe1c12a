use Rattle.std.proofs.Common.{◌≡◌, ◌+◌, ◌*◌, ◌≤◌, length, take}
use Rattle.std.specs.List.{flat_map}
use Rattle.client_records.specs.Records.{document_field}
use Rattle.client_records.proofs.lengths.documents_len.Given as goal

abbrev pub invariant-loop-i : goal.invariant-loop-i
invariant-loop-i l = record {
  len : l.len ≡ 4 + length (flat_map document_field (take l.i l.docs.documents));
  most : l.len ≤ 4 + (10 + 65 * 4096) * l.i;
}
