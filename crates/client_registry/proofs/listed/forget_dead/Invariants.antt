use Rattle.std.proofs.Common.{◌≡◌, length, map}
use Rattle.indexmap.specs.IndexMap.{hasher_of}
use Rattle.client_registry.specs.RegistryView.{kept_entry}
use Rattle.client_registry.proofs.RestartedEntries.{restarted_to}
use Rattle.client_registry.proofs.listed.forget_dead.Given as goal

abbrev pub invariant-loop-place : goal.invariant-loop-place
invariant-loop-place l = record {
  kept : map kept_entry l.documents.entries ≡ restarted_to l.place (map kept_entry l.initial.documents.entries);
  count : length l.documents.entries ≡ length l.initial.documents.entries;
  hasher : hasher_of l.documents ≡ hasher_of l.initial.documents;
}
