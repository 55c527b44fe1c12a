use Rattle.std.proofs.Common.{◌≡◌, take}
use Rattle.client_live_docs.specs.LiveAfter.{documents_after, command_in}
use Rattle.client_live_docs.proofs.collected.push_all.Given as goal

abbrev pub invariant-loop-id : goal.invariant-loop-id
invariant-loop-id l = record {
  documents : l.docs.documents ≡ take l.id-index (documents_after l.fn.registry (command_in l.fn.pending));
  keys : l.docs.keys ≡ l.fn.docs.keys;
}
