use Rattle.std.proofs.Common.{◌+◌, ◌≤◌, take}
use Rattle.client_registry.proofs.LiveListed.{documents_live}
use Rattle.client_registry.specs.Registered.{facts}
use Rattle.client_live_docs.proofs.KeptIds.{kept_ids}
use Rattle.client_live_docs.specs.Counts.{Counts}
use Rattle.client_live_docs.specs.LiveAfter.{ids_among, live_after, command_in}
use Rattle.client_live_docs.proofs.counted.count_live.Given as goal

abbrev pub invariant-loop-place : goal.invariant-loop-place
invariant-loop-place l = record {
  counts : Counts l.counted (documents_live (live_after (facts l.fn.registry) (command_in l.fn.pending))
      (ids_among (facts l.fn.registry) (command_in l.fn.pending) (take l.place (kept_ids l.fn.registry))));
  few : l.counted.documents ≤ l.place + 1;
}
