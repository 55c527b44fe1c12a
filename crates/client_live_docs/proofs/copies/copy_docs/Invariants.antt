use Rattle.std.proofs.Common.{◌≡◌, take}
use Rattle.client_registry.specs.HashNumbers.{hash_numbers}
use Rattle.client_live_docs.proofs.copies.copy_docs.Given as goal

abbrev pub invariant-loop-i : goal.invariant-loop-i
invariant-loop-i l = record {
  documents : l.copy.documents ≡ take l.i l.fn.docs.documents;
  keys : l.copy.keys ≡ hash_numbers l.fn.keys;
}
