use Rattle.std.proofs.Common.{◌≤◌, ◌^◌, length, take}
use Rattle.client_registry.specs.Documents.{list_lengths}
use Rattle.index_setup.specs.Lists.{lists_among, HoldsLists}
use Rattle.index_setup.proofs.lists.lists_of.Given as goal

-- the lists have the identifiers of the first i documents
abbrev pub invariant-loop-i : goal.invariant-loop-i
invariant-loop-i l = record {
  most : length l.ids.items ≤ 2 ^ 20;
  holds : HoldsLists (list_lengths l.docs.documents) (lists_among l.docs.documents (take l.i l.docs.documents)) l.ids.items l.next.items;
}
