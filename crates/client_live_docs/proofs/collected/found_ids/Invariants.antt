use Rattle.std.proofs.Common.{◌≡◌, map, take}
use Rattle.client_registry.specs.IdNumber.{id_number}
use Rattle.client_registry.specs.Registered.{facts}
use Rattle.client_live_docs.proofs.KeptIds.{kept_ids}
use Rattle.client_live_docs.specs.LiveAfter.{ids_among, command_in}
use Rattle.client_live_docs.proofs.collected.found_ids.Given as goal

abbrev pub invariant-loop-place : goal.invariant-loop-place
invariant-loop-place l = map id_number l.ids.items ≡ ids_among (facts l.fn.registry) (command_in l.fn.pending) (take l.place (kept_ids l.fn.registry))
